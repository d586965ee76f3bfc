-- Words of bodies alone: how notifications and filters are read.
use Rattle.std.specs.Prelude.{ℕ, ℤ, List, Option}
use Rattle.ais_values.specs.declared.kind.ClassId.{ClassId}
use Rattle.ntf_types.specs.declared.value.Value.{Value}
use Rattle.ntf_types.specs.declared.value.Pair.{Pair}
use Rattle.ntf_types.specs.declared.value.Change.{Change}
use Rattle.ntf_types.specs.declared.value.StateChange.{StateChange}
use Rattle.ntf_types.specs.declared.notification.Body.{Body}
use Rattle.ntf_types.specs.declared.notification.Notification.{Notification}
use Rattle.ntf_filters.specs.declared.filter.Filter.{Filter}
use Rattle.ntf_filters.specs.declared.filter.FilterSet.{FilterSet}
use Rattle.ntf_types.specs.declared.value.Value.TheVariants as value
use Rattle.ntf_types.specs.declared.notification.Body.TheVariants as body
use Rattle.wire_code.specs.Reading.{At, made, both, number_at, signed_at, list_at, option_at, text_at, name_at, tagged, variant, no_variant}

-- a class
abbrev pub class_of : ℕ × (ℕ × ℕ) → ClassId
class_of p = record { vendor = p.0; major = p.1.0; minor = p.1.1 }

unfoldable pub class_at : At ClassId
class_at bytes = made class_of (both (number_at 4) (both (number_at 2) (number_at 2))) bytes

-- a value
unfoldable pub value_at : At Value
value_at bytes = tagged
    (variant 1 (made (λ (x : ℤ). value.Int x) signed_at)
    (variant 2 (made (λ (x : List ℕ). value.NameOf x) name_at)
    (variant 3 (made (λ (x : List ℕ). value.TextOf x) text_at)
    (variant 4 (made (λ (x : List ℕ). value.Binary x) text_at)
    no_variant)))) bytes

-- a value under a number
abbrev pub pair_of : ℕ × Value → Pair
pair_of p = record { id = p.0; value = p.1 }

unfoldable pub pair_at : At Pair
pair_at bytes = made pair_of (both (number_at 2) value_at) bytes

-- a change of an attribute
abbrev pub change_of : ℕ × (Value × Option Value) → Change
change_of p = record { id = p.0; after = p.1.0; before = p.1.1 }

unfoldable pub change_at : At Change
change_at bytes = made change_of (both (number_at 2) (both value_at (option_at value_at))) bytes

-- a change of a state
abbrev pub state_change_of : ℕ × (ℕ × Option ℕ) → StateChange
state_change_of p = record { id = p.0; after = p.1.0; before = p.1.1 }

unfoldable pub state_change_at : At StateChange
state_change_at bytes = made state_change_of (both (number_at 2) (both (number_at 2) (option_at (number_at 2)))) bytes

-- what a notification of security tells, behind its tag
abbrev pub security_at : At Body
security_at =
    made (λ (p : ℕ × (ℕ × (Value × (Value × Value)))). body.Security p.0 p.1.0 p.1.1.0 p.1.1.1.0 p.1.1.1.1)
    (both (number_at 2) (both (number_at 2) (both value_at (both value_at value_at))))

-- what a notification tells, by its type
unfoldable pub body_at : At Body
body_at bytes = tagged
    (variant 1 (made (λ (p : ℕ × List Pair). body.Objects p.0 p.1) (both (number_at 2) (list_at pair_at)))
    (variant 2 (made (λ (p : ℕ × List Change). body.Attributes p.0 p.1) (both (number_at 2) (list_at change_at)))
    (variant 3 (made (λ (p : ℕ × List StateChange). body.States p.0 p.1) (both (number_at 2) (list_at state_change_at)))
    (variant 4 (made (λ (p : ℕ × ℕ). body.Alarm p.0 p.1) (both (number_at 2) (number_at 2)))
    (variant 5 security_at
    no_variant))))) bytes

-- a notification
abbrev pub notification_of : ℕ × (ℕ × (List ℕ × (List ℕ × (ClassId × (ℤ × (List ℕ × (List ℕ × (List Pair × Body)))))))) → Notification
notification_of p = record {
  id = p.0;
  event_type = p.1.0;
  object = p.1.1.0;
  notifier = p.1.1.1.0;
  class = p.1.1.1.1.0;
  event_time = p.1.1.1.1.1.0;
  correlated = p.1.1.1.1.1.1.0;
  text = p.1.1.1.1.1.1.1.0;
  info = p.1.1.1.1.1.1.1.1.0;
  body = p.1.1.1.1.1.1.1.1.1;
}

unfoldable pub notification_at : At Notification
notification_at bytes =
    made notification_of (both (number_at 8) (both (number_at 2) (both name_at (both name_at (both class_at
    (both signed_at (both (list_at (number_at 8)) (both text_at (both (list_at pair_at) body_at))))))))) bytes

-- a filter
abbrev pub filter_of : List ℕ × (List (List ℕ) × (List (List ℕ) × (List ClassId × (List ℕ × (List ℕ × List ℕ))))) → Filter
filter_of p = record {
  types = p.0;
  objects = p.1.0;
  notifiers = p.1.1.0;
  classes = p.1.1.1.0;
  sources = p.1.1.1.1.0;
  causes = p.1.1.1.1.1.0;
  severities = p.1.1.1.1.1.1;
}

unfoldable pub filter_at : At Filter
filter_at bytes =
    made filter_of (both (list_at (number_at 2)) (both (list_at name_at) (both (list_at name_at)
    (both (list_at class_at) (both (list_at (number_at 2))
    (both (list_at (number_at 2)) (list_at (number_at 2)))))))) bytes

-- at most one filter for each type
abbrev pub filter_set_of : Option Filter × (Option Filter × (Option Filter × (Option Filter × Option Filter))) → FilterSet
filter_set_of p = record { objects = p.0; attributes = p.1.0; states = p.1.1.0; alarms = p.1.1.1.0; security = p.1.1.1.1 }

unfoldable pub filter_set_at : At FilterSet
filter_set_at bytes =
    made filter_set_of (both (option_at filter_at) (both (option_at filter_at) (both (option_at filter_at)
    (both (option_at filter_at) (option_at filter_at))))) bytes

-- Words of definitions above this crate, and of `law_of_tests`, which ties them to `IsSound`: what may be sent, as a test that computes.
use Rattle.std.specs.Prelude.{ℕ, Bool, true, ◌&&◌, nat_eq, nat_le, List, length, Option, Some, None}
use Rattle.std.specs.List.{list_all, list_any}
use Rattle.ais_values.specs.TimeTests.{is_time}
use Rattle.ntf_types.specs.declared.value.Value.{Value}
use Rattle.ntf_types.specs.declared.value.Value.TheVariants.{Int, NameOf, TextOf, Binary}
use Rattle.ntf_types.specs.declared.value.Pair.{Pair}
use Rattle.ntf_types.specs.declared.value.Change.{Change}
use Rattle.ntf_types.specs.declared.notification.Body.{Body}
use Rattle.ntf_types.specs.declared.notification.Body.TheVariants.{Objects, Attributes, States, Alarm, Security}
use Rattle.ntf_types.specs.declared.notification.Notification.{Notification}
use Rattle.ntf_types.specs.Kinds.{event_types_of}

abbrev pub is_source : ℕ → Bool
is_source source = nat_le 1 source && nat_le source 3

abbrev pub is_severity : ℕ → Bool
is_severity severity = nat_le severity 5

abbrev pub is_short : Value → Bool
is_short (Int value) = true
is_short (NameOf name) = true
is_short (TextOf text) = nat_le (length text) 1024
is_short (Binary bytes) = nat_le (length bytes) 1024

abbrev pub has_short : Pair → Bool
has_short pair = is_short pair.value

abbrev pub is_short_before : Option Value → Bool
is_short_before None = true
is_short_before (Some value) = is_short value

abbrev pub is_short_change : Change → Bool
is_short_change change = is_short change.after && is_short_before change.before

-- a list has at most 16 elements, and each passes
abbrev pub are_sound : {T : Type 0} → (T → Bool) → List T → Bool
are_sound test elements = nat_le (length elements) 16 && list_all test elements

abbrev pub is_sound_body : Body → Bool
is_sound_body (Objects source attrs) = is_source source && are_sound has_short attrs
is_sound_body (Attributes source changes) = is_source source && are_sound is_short_change changes
is_sound_body (States source changes) = is_source source && nat_le (length changes) 16
is_sound_body (Alarm cause severity) = is_severity severity
is_sound_body (Security cause severity detector user provider) =
    is_severity severity && (is_short detector && (is_short user && is_short provider))

-- a notification that may be sent
unfoldable pub is_sound : Notification → Bool
is_sound notification =
    list_any (nat_eq notification.event_type) (event_types_of notification.body)
    && (is_time notification.event_time
    && (nat_le (length notification.text) 1024
    && (nat_le (length notification.correlated) 16
    && (are_sound has_short notification.info && is_sound_body notification.body))))

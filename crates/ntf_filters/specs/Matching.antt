-- Words of bodies, of definitions above this crate, and of `law_of_tests`, which ties them to `IsMatch`: what a set asks for, as tests that compute.
use Rattle.std.specs.Prelude.{ℕ, Bool, false, ◌&&◌, ◌||◌, ◌==◌, nat_eq, List, length, Option, Some, None}
use Rattle.std.specs.List.{list_any}
use Rattle.std.specs.Str.{bytes_eq}
use Rattle.ais_values.specs.declared.kind.ClassId.{ClassId}
use Rattle.ntf_types.specs.declared.notification.Body.{Body}
use Rattle.ntf_types.specs.declared.notification.Notification.{Notification}
use Rattle.ntf_filters.specs.declared.filter.Filter.{Filter}
use Rattle.ntf_filters.specs.declared.filter.FilterSet.{FilterSet}
use Rattle.ntf_filters.specs.Meaning.{source_of, cause_of, severity_of, filter_for}

-- a list is empty or holds the value
unfoldable pub admits : {T : Type 0} → (T → T → Bool) → List T → T → Bool
admits eq values value = length values == 0 || list_any (λ other. eq other value) values

-- a list is empty or holds the value that is there
unfoldable pub admits_option : List ℕ → Option ℕ → Bool
admits_option values None = length values == 0
admits_option values (Some value) = admits nat_eq values value

abbrev pub same_class : ClassId → ClassId → Bool
same_class one other = one.vendor == other.vendor && (one.major == other.major && one.minor == other.minor)

-- the lists of what every notification has
unfoldable pub admits_common : Notification → Filter → Bool
admits_common notification filter =
    admits nat_eq filter.types notification.event_type && admits bytes_eq filter.objects notification.object
    && admits bytes_eq filter.notifiers notification.notifier && admits same_class filter.classes notification.class

-- the lists of what only some notifications have
unfoldable pub admits_body : Body → Filter → Bool
admits_body body filter =
    admits_option filter.sources (source_of body) && admits_option filter.causes (cause_of body) && admits_option filter.severities (severity_of body)

-- each list of a filter admits what the notification has
abbrev pub is_admitted : Notification → Filter → Bool
is_admitted notification filter = admits_common notification filter && admits_body notification.body filter

-- a filter that is there admits the notification
abbrev pub admitted_by : Notification → Option Filter → Bool
admitted_by notification None = false
admitted_by notification (Some filter) = is_admitted notification filter

-- the set has a filter of the notification's type, and the filter admits it
abbrev pub matches : FilterSet → Notification → Bool
matches filters notification = admitted_by notification (filter_for filters notification.body)

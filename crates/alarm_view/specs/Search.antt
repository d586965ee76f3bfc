-- Words of bodies, of definitions above this crate, and of `law_of_search`, which ties them to the relations: searches as functions that compute.
use Rattle.std.specs.Prelude.{ℤ, pos, Bool, true, not, ◌&&◌, int_lt, if◌then◌else◌, List, [], ◌∷◌, Option, Some, None}
use Rattle.std.specs.Ordering.{int_eq}
use Rattle.ntf_types.specs.declared.notification.Notification.{Notification}
use Rattle.ntf_filters.specs.declared.filter.FilterSet.{FilterSet}
use Rattle.ntf_filters.specs.Matching.{matches}
use Rattle.alarm_view.specs.declared.mode.SearchMode.{SearchMode}
use Rattle.alarm_view.specs.declared.mode.SearchMode.TheVariants.{BeforeOrAtTime, AtTime, AtOrAfterTime, BeforeTime, AfterTime, NotificationId, OnlyFilter}
use Rattle.alarm_view.specs.declared.mode.Direction.{Direction}
use Rattle.alarm_view.specs.declared.cursor.Cursor.{Cursor}
use Rattle.alarm_view.specs.Modes.{way_of}
use Rattle.alarm_view.specs.Order.{point_of, comes_before}
use Rattle.alarm_view.specs.Nearest.{point_at}

-- the alarm, unless the other is met before it
abbrev pub nearer_of : Direction → Notification → Option Notification → Notification
nearer_of way alarm None = alarm
nearer_of way alarm (Some other) = if comes_before way (point_of other) (point_of alarm) then other else alarm

-- the first on the way of those found so far and one alarm more, if it passes
abbrev pub first_with : Direction → (Notification → Bool) → Notification → Option Notification → Option Notification
first_with way test alarm found = if test alarm then Some (nearer_of way alarm found) else found

-- the first on the way of the alarms that pass
abbrev pub first_in : Direction → (Notification → Bool) → List Notification → Option Notification
first_in way test [] = None
first_in way test (alarm ∷ alarms) = first_with way test alarm (first_in way test alarms)

abbrev pub has_mode : SearchMode → ℤ → Notification → Bool
has_mode BeforeOrAtTime value alarm = not (int_lt value alarm.event_time)
has_mode AtTime value alarm = int_eq alarm.event_time value
has_mode AtOrAfterTime value alarm = not (int_lt alarm.event_time value)
has_mode BeforeTime value alarm = int_lt alarm.event_time value
has_mode AfterTime value alarm = int_lt value alarm.event_time
has_mode NotificationId value alarm = int_eq (pos alarm.id) value
has_mode OnlyFilter value alarm = true

abbrev pub can_start : SearchMode → ℤ → FilterSet → Notification → Bool
can_start mode value filters alarm = has_mode mode value alarm && matches filters alarm

abbrev pub is_beyond : Direction → Cursor → Notification → Bool
is_beyond way cursor alarm =
    if cursor.fresh then not (comes_before way (point_of alarm) (point_at cursor)) else comes_before way (point_at cursor) (point_of alarm)

abbrev pub can_follow : Direction → Cursor → FilterSet → Notification → Bool
can_follow way cursor filters alarm = is_beyond way cursor alarm && matches filters alarm

-- the starting alarm of a mode, if there is one
abbrev pub starting : SearchMode → ℤ → FilterSet → List Notification → Option Notification
starting mode value filters = first_in (way_of mode) (can_start mode value filters)

-- the alarm that is read next, if there is one
abbrev pub next_alarm : Cursor → Direction → FilterSet → List Notification → Option Notification
next_alarm cursor way filters = first_in way (can_follow way cursor filters)

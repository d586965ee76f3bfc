-- Words of public clauses, those of laws: of the alarms that are asked for one at most is the nearest, and the search that computes finds it.
use Rattle.std.specs.Prelude.{◌≡◌, ◌↔◌, ℤ, List, reverse, Option, Some, None}
use Rattle.ntf_types.specs.declared.notification.Notification.{Notification}
use Rattle.ntf_filters.specs.declared.filter.FilterSet.{FilterSet}
use Rattle.alarm_view.specs.declared.alarm.KeptAlarm.{KeptAlarm}
use Rattle.alarm_view.specs.declared.cursor.Cursor.{Cursor}
use Rattle.alarm_view.specs.declared.mode.Direction.{Direction}
use Rattle.alarm_view.specs.declared.mode.SearchMode.{SearchMode}
use Rattle.alarm_view.specs.Alarms.{notifications}
use Rattle.alarm_view.specs.Modes.{way_of}
use Rattle.alarm_view.specs.Nearest.{IsNearest, IsNone, CanStart, CanFollow}
use Rattle.alarm_view.specs.Search.{starting, next_alarm}

-- P holds of one alarm at most
abbrev pub HoldsOnce : (Notification → Type 0) → Type 0
HoldsOnce P = (one other : Notification) → P one → P other → one ≡ other

-- an alarm is found exactly where it is the first on the way of those for which P holds, and none exactly where P holds of none
pub record IsExact (way : Direction) (P : Notification → Type 0) (alarms : List Notification) (found : Option Notification) : Type 0 where
  pub some : (alarm : Notification) → (found ≡ Some alarm) ↔ IsNearest way P alarms alarm
  pub none : (found ≡ None) ↔ IsNone P alarms

-- the search for a starting alarm is exact
abbrev pub StartsExactly : SearchMode → ℤ → FilterSet → List KeptAlarm → Type 0
StartsExactly mode value filters kept =
    let alarms = notifications kept in
    IsExact (way_of mode) (CanStart mode value filters) alarms (starting mode value filters (reverse alarms))

-- the search for the alarm that is read next is exact
abbrev pub FollowsExactly : Cursor → Direction → FilterSet → List KeptAlarm → Type 0
FollowsExactly cursor way filters kept =
    let alarms = notifications kept in
    IsExact way (CanFollow way cursor filters) alarms (next_alarm cursor way filters (reverse alarms))

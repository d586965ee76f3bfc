-- Words of public clauses: which alarm a search starts at, and which one is read next: the first on the way of those that are asked for.
use Rattle.std.specs.Prelude.{◌≡◌, ℤ, pos, ◌≤ℤ◌, ◌<ℤ◌, ⊤, true, false, List}
use Rattle.std.specs.Bool.{MatchBool}
use Rattle.ntf_types.specs.declared.notification.Notification.{Notification}
use Rattle.ntf_filters.specs.declared.filter.FilterSet.{FilterSet}
use Rattle.ntf_filters.specs.Meaning.{IsMatch}
use Rattle.client_set.specs.Members.{Stands}
use Rattle.alarm_view.specs.declared.mode.SearchMode.{SearchMode}
use Rattle.alarm_view.specs.declared.mode.SearchMode.TheVariants.{BeforeOrAtTime, AtTime, AtOrAfterTime, BeforeTime, AfterTime, NotificationId, OnlyFilter}
use Rattle.alarm_view.specs.declared.mode.Direction.{Direction}
use Rattle.alarm_view.specs.declared.cursor.Cursor.{Cursor}
use Rattle.alarm_view.specs.Modes.{way_of}
use Rattle.alarm_view.specs.Order.{Point, point_of, comes_before}

-- of the alarms for which P holds this one is the first on the way
pub record IsNearest (way : Direction) (P : Notification → Type 0) (alarms : List Notification) (alarm : Notification) : Type 0 where
  pub stands : Stands alarm alarms
  pub asked : P alarm
  pub nearest : (other : Notification) → Stands other alarms → P other → comes_before way (point_of other) (point_of alarm) ≡ false

-- P holds of none of the alarms
abbrev pub IsNone : (P : Notification → Type 0) → List Notification → Type 0
IsNone P alarms = (alarm : Notification) → Stands alarm alarms → P alarm → ⊥

-- what a mode asks of the starting alarm
abbrev pub HasMode : SearchMode → ℤ → Notification → Type 0
HasMode BeforeOrAtTime value alarm = alarm.event_time ≤ℤ value
HasMode AtTime value alarm = alarm.event_time ≡ value
HasMode AtOrAfterTime value alarm = value ≤ℤ alarm.event_time
HasMode BeforeTime value alarm = alarm.event_time <ℤ value
HasMode AfterTime value alarm = value <ℤ alarm.event_time
HasMode NotificationId value alarm = pos alarm.id ≡ value
HasMode OnlyFilter value alarm = ⊤

-- a search may start at the alarm
pub record CanStart (mode : SearchMode) (value : ℤ) (filters : FilterSet) (alarm : Notification) : Type 0 where
  pub asked : HasMode mode value alarm
  pub matches : IsMatch filters alarm

abbrev pub point_at : Cursor → Point
point_at cursor = record { time = cursor.time; id = cursor.id }

-- at the cursor or beyond it where nothing was read yet, and else beyond it
abbrev pub IsBeyond : Direction → Cursor → Notification → Type 0
IsBeyond way cursor alarm =
    MatchBool cursor.fresh (comes_before way (point_of alarm) (point_at cursor) ≡ false) (comes_before way (point_at cursor) (point_of alarm) ≡ true)

-- the alarm may be read next
pub record CanFollow (way : Direction) (cursor : Cursor) (filters : FilterSet) (alarm : Notification) : Type 0 where
  pub beyond : IsBeyond way cursor alarm
  pub matches : IsMatch filters alarm

-- the starting alarm of a mode
abbrev pub IsStart : SearchMode → ℤ → FilterSet → List Notification → Notification → Type 0
IsStart mode value filters = IsNearest (way_of mode) (CanStart mode value filters)

-- the alarm that is read next in a direction
abbrev pub IsNext : Cursor → Direction → FilterSet → List Notification → Notification → Type 0
IsNext cursor way filters = IsNearest way (CanFollow way cursor filters)

-- the cursor at an alarm: before it is read, and after
abbrev pub cursor_before : Notification → Cursor
cursor_before alarm = record { time = alarm.event_time; id = alarm.id; fresh = true }

abbrev pub cursor_after : Notification → Cursor
cursor_after alarm = record { time = alarm.event_time; id = alarm.id; fresh = false }

-- a fresh cursor stands at the starting alarm
pub record IsStartAt (mode : SearchMode) (value : ℤ) (filters : FilterSet) (alarms : List Notification) (cursor : Cursor) : Type 0 where
  pub alarm : Notification
  pub is : IsStart mode value filters alarms alarm
  pub at : cursor ≡ cursor_before alarm

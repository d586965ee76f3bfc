-- Words of public clauses: the order of alarms: by event time, and at one time by id. No other file says which of two comes first.
use Rattle.std.specs.Prelude.{ℕ, ℤ, Bool, not, ◌&&◌, ◌||◌, int_lt, nat_lt}
use Rattle.ntf_types.specs.declared.notification.Notification.{Notification}
use Rattle.alarm_view.specs.declared.mode.Direction.{Direction}
use Rattle.alarm_view.specs.declared.mode.Direction.TheVariants.{Older, Younger}

-- a place in the order
pub record Point : Type 0 where
  pub time : ℤ
  pub id : ℕ

abbrev pub point_of : Notification → Point
point_of notification = record { time = notification.event_time; id = notification.id }

-- earlier, or not later and with a lower id
abbrev pub is_older : Point → Point → Bool
is_older one other =
    int_lt one.time other.time || (not (int_lt other.time one.time) && nat_lt one.id other.id)

-- whether one point is met before the other on the way in a direction
abbrev pub comes_before : Direction → Point → Point → Bool
comes_before Younger one other = is_older one other
comes_before Older one other = is_older other one

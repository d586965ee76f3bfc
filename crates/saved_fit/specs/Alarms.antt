-- Words of bodies alone: the notification of a stored alarm.
use Rattle.std.specs.Prelude.{ℕ, pos, ◌≤◌, ◌≤ℤ◌}
use Rattle.ntf_types.specs.Sound.{IsSound}
use Rattle.ntf_types.specs.declared.notification.Notification.{Notification}
use Rattle.alarm_view.specs.Alarms.{IsAlarm}

-- a sound alarm or security alarm, of an id up to the last one and a time that is not negative
pub record IsSoundAlarm (last_id : ℕ) (notification : Notification) : Type 0 where
  pub id : notification.id ≤ last_id
  pub body : IsAlarm notification.body
  pub sound : IsSound notification
  pub time : pos 0 ≤ℤ notification.event_time

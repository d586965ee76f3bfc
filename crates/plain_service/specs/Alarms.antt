-- Words of public clauses: notifications as they are accepted and stored, and which stored alarms stand.
use Rattle.std.specs.Prelude.{ℕ, ◌+◌, ℤ, if◌then◌else◌, List, length}
use Rattle.std.specs.Option.{option_map_or}
use Rattle.stream_config.specs.declared.attrs.StreamName.{StreamName}
use Rattle.stream_config.specs.declared.attrs.StreamName.TheVariants as name
use Rattle.record_print.specs.declared.record.Header.TheVariants.{Ntf}
use Rattle.record_print.specs.declared.record.LogRecord.{LogRecord}
use Rattle.ntf_types.specs.declared.notification.Body.{Body}
use Rattle.ntf_types.specs.declared.notification.Notification.{Notification}
use Rattle.alarm_view.specs.declared.alarm.KeptAlarm.{KeptAlarm}
use Rattle.log_history.specs.Chronicle.{LogSetup, Stream}
use Rattle.log_history.specs.Changes.{LogChange}
use Rattle.log_history.specs.Answers.{living_stream}
use Rattle.log_history.specs.Places.{first_of}
use Rattle.log_history.specs.Times.{filled_time}
use Rattle.ntf_history.specs.Changes.{last_id}
use Rattle.ntf_history.specs.StoredAlarms.{is_alarm, stored_alarms}
use Rattle.plain_service.specs.Setups.{Setup, log_setup}
use Rattle.plain_service.specs.Pasts.{Past}

-- a notification as it is accepted at a moment, with its id; an unknown event time is that moment
abbrev pub accepted_as : (id : ℕ) (now : ℤ) → Notification → Notification
accepted_as id now notification = record {
  id = id;
  event_type = notification.event_type;
  object = notification.object;
  notifier = notification.notifier;
  class = notification.class;
  event_time = filled_time notification.event_time now;
  correlated = notification.correlated;
  text = notification.text;
  info = notification.info;
  body = notification.body;
}

-- the notification of a send that is accepted at a moment: it has the next id
abbrev pub accepted_notification : Past → (now : ℤ) → Notification → Notification
accepted_notification past now notification = accepted_as (last_id past.ntf + 1) now notification

-- alarms and security alarms are stored in the alarm stream, all others in the notification stream
abbrev pub stream_for : Body → StreamName
stream_for body = if is_alarm body then name.Alarm else name.Notification

-- the record of a notification that was accepted at a moment: its text is the record's body
abbrev pub record_for : (now : ℤ) → Notification → LogRecord
record_for now notification = record {
  time = now;
  header = Ntf notification.id notification.event_type notification.object notification.notifier notification.class notification.event_time;
  body = notification.text;
}

-- how many records the living stream of that name has taken
abbrev pub taken_by : LogSetup → List LogChange → StreamName → ℕ
taken_by setup past name = option_map_or (λ (stream : Stream). length stream.records) (living_stream setup past name) 0

-- the number of the first record of the alarm stream that stands
abbrev pub first_standing : Setup → List LogChange → ℕ
first_standing setup past = option_map_or first_of (living_stream (log_setup setup) past name.Alarm) 0

-- the alarms that were sent and whose records stand, in order of their records
abbrev pub alarms_stored : Setup → Past → List KeptAlarm
alarms_stored setup past = stored_alarms (first_standing setup past.log) past.ntf

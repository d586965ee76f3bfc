-- Words of bodies alone: what a notification that is sent makes of a service.
use Rattle.std.specs.Prelude.{◌≡◌, ◌+◌, ℤ, List, [], Some}
use Rattle.std.specs.Option.{option_map_or}
use Rattle.ais_values.specs.declared.status.Status.{Status}
use Rattle.ntf_types.specs.declared.notification.Notification.{Notification}
use Rattle.record_print.specs.declared.record.LogRecord.{LogRecord}
use Rattle.stream_config.specs.declared.event.StreamEvent.{StreamEvent}
use Rattle.alarm_view.specs.Alarms.{from_record}
use Rattle.calls.specs.declared.reply.Reply.TheVariants.{Sent}
use Rattle.log_history.specs.Changes.{LogChange, Stored}
use Rattle.log_history.specs.Deeds.{deeds_of_all}
use Rattle.log_history.specs.KeptAnswers.{store_status}
use Rattle.log_history.specs.Times.{second_of}
use Rattle.log_history.specs.Table.{LogTable, table_after, events_of}
use Rattle.ntf_history.specs.Changes.{NtfChange as ntf}
use Rattle.ntf_history.specs.Tables.{after_send}
use Rattle.plain_service.specs.Alarms.{stream_for, record_for}
use Rattle.plain_service.specs.Changing.{if_ok}
use Rattle.service_table.specs.Tables.{ServiceTable}
use Rattle.service_table.specs.Steps.{standing_from, alarms_with, where_ok}
use Rattle.service_fit.specs.Fit.{alarm_count}
use Rattle.service_parts.specs.Telling.{IsTold}
use Rattle.service_core.specs.declared.parts.Acted.{Acted}

-- the record of a notification was stored in its stream
abbrev pub stored_of : ℤ → LogRecord → Notification → LogChange
stored_of moment rec notification = Stored (stream_for notification.body) rec (second_of moment)

-- a service after a notification was sent, and what is kept of the log then
abbrev pub sent_with : ServiceTable → (later : LogTable) → Notification → ServiceTable
sent_with kept later notification = record {
  number = kept.number;
  log = later;
  ntf = after_send notification kept.ntf;
  alarms = from_record (standing_from later.streams) (alarms_with (Some (ntf.Sent notification (alarm_count kept.log.streams))) kept.alarms);
  readers = kept.readers;
  windows = kept.windows;
}

abbrev pub sent_in : ServiceTable → ℤ → LogRecord → Notification → ServiceTable
sent_in kept moment rec notification =
    sent_with kept (table_after (stored_of moment rec notification) kept.log) notification

-- what is done to streams by a send of this status
abbrev pub sent_events : Status → LogChange → LogTable → List StreamEvent
sent_events answered change kept = option_map_or (λ c. events_of c kept) (if_ok answered (Some change)) []

-- a notification, as it was accepted at a moment, is refused where its record does not fit its stream
abbrev pub sent_status : LogTable → ℤ → Notification → Status
sent_status kept moment notification = store_status kept (stream_for notification.body) (record_for moment notification)

-- what a send came to, of a notification as it was accepted
pub record HasSent (old : ServiceTable) (moment : ℤ) (notification : Notification) (new : ServiceTable) (acted : Acted) : Type 0 where
  pub now : new ≡ where_ok (sent_status old.log moment notification) (sent_in old moment (record_for moment notification) notification) old
  pub told : IsTold (sent_status old.log moment notification) (Sent (old.ntf.last_id + 1)) acted.told
  pub deeds :
      acted.deeds ≡ deeds_of_all (sent_events (sent_status old.log moment notification)
      (stored_of moment (record_for moment notification) notification) old.log)

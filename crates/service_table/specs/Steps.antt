-- Words of bodies, and of public clauses of the crates above: what an entry makes of what is kept, and what it does to streams.
use Rattle.std.specs.Prelude.{ℕ, ◌+◌, ℤ, true, Bool, ◌==◌, if◌then◌else◌, List, [], ◌∷◌, ◌++◌, take, map, Option, Some, find}
use Rattle.std.specs.Option.{option_map_or}
use Rattle.ais_values.specs.declared.status.Status.{Status}
use Rattle.ais_values.specs.declared.status.Status.TheVariants as status
use Rattle.ntf_types.specs.declared.notification.Notification.{Notification}
use Rattle.ntf_filters.specs.declared.filter.FilterSet.{FilterSet}
use Rattle.stream_config.specs.declared.attrs.StreamName.{StreamName}
use Rattle.stream_config.specs.declared.attrs.StreamName.TheVariants as name
use Rattle.stream_config.specs.declared.event.StreamEvent.{StreamEvent}
use Rattle.stream_config.specs.Fit.{first_standing}
use Rattle.client_set.specs.Rising.{put, without}
use Rattle.client_window.specs.Windows.{Kept, window_of}
use Rattle.alarm_view.specs.declared.alarm.KeptAlarm.{KeptAlarm}
use Rattle.alarm_view.specs.Alarms.{kept_alarm, from_record}
use Rattle.alarm_view.specs.Modes.{mode_of}
use Rattle.calls.specs.declared.call.Call.{Call}
use Rattle.calls.specs.declared.call.Call.TheVariants.{ReaderStart, ReaderRead, ReaderEnd, NtfFini}
use Rattle.calls.specs.declared.reply.Reply.{Reply}
use Rattle.calls.specs.declared.saved.SavedReader.{SavedReader}
use Rattle.log_history.specs.Changes.{LogChange}
use Rattle.log_history.specs.Changes.{LogChange as log}
use Rattle.log_history.specs.Table.{OpenStream, LogTable, table_after, events_of}
use Rattle.log_history.specs.KeptAnswers.{kept_stream, kept_mark, making_in}
use Rattle.ntf_history.specs.Changes.{NtfChange}
use Rattle.ntf_history.specs.Changes.{NtfChange as ntf}
use Rattle.ntf_history.specs.StoredAlarms.{is_alarm}
use Rattle.ntf_history.specs.Tables.{NtfTable, after_change, after_receipt}
use Rattle.ntf_history.specs.Rows.{start_by}
use Rattle.plain_service.specs.Changing.{log_change_with, ntf_change_with, if_ok}
use Rattle.service_table.specs.declared.caller.ClientWindow.{ClientWindow}
use Rattle.service_table.specs.Tables.{ServiceTable, client_window, is_reader_for, reader_for, reader_before, is_window_for, window_before}
use Rattle.service_table.specs.Answering.{accepted_in, read_in, status_in, reply_in}

-- how many records the stream of that name has taken
abbrev pub taken_in : List OpenStream → StreamName → ℕ
taken_in streams name = option_map_or (λ (stream : OpenStream). stream.state.taken) (kept_stream streams name) 0

-- what an ok call changes in the Log Service
abbrev pub log_change_in : ServiceTable → (client : ℕ) (now : ℤ) → Call → Option LogChange
log_change_in kept client now call =
    log_change_with (making_in kept.log.streams) (accepted_in kept.ntf) (kept_mark kept.log.streams) client (kept.number + 1) now call

-- what an ok call changes in the Notification Service
abbrev pub ntf_change_in : ServiceTable → (client seq : ℕ) (now : ℤ) → Call → Option NtfChange
ntf_change_in kept client seq now call = ntf_change_with (accepted_in kept.ntf) (taken_in kept.log.streams) client seq now call

-- the tables after a change, if there is one

abbrev pub logged : Option LogChange → LogTable → LogTable
logged change kept = option_map_or (λ c. table_after c kept) change kept

abbrev pub notified : Option NtfChange → NtfTable → NtfTable
notified change kept = option_map_or (λ c. after_change c kept) change kept

-- the number of the first record of the alarm stream that stands
abbrev pub standing_from : List OpenStream → ℕ
standing_from streams =
    option_map_or (λ (stream : OpenStream). first_standing stream.state) (kept_stream streams name.Alarm) 0

-- an alarm that is sent stands behind the others
abbrev pub alarms_with : Option NtfChange → List KeptAlarm → List KeptAlarm
alarms_with (Some (ntf.Sent notification number)) alarms =
    if is_alarm notification.body then alarms ++ kept_alarm number notification ∷ [] else alarms
alarms_with _ alarms = alarms

-- the stored alarms after a change of the log; once a record is stored those go whose records stand no more
abbrev pub alarms_after : Option LogChange → Option NtfChange → List OpenStream → List KeptAlarm → List KeptAlarm
alarms_after (Some (log.Stored name rec second)) change streams alarms =
    from_record (standing_from streams) (alarms_with change alarms)
alarms_after _ change streams alarms = alarms

-- a reader that starts at an alarm, and one that was told an alarm

abbrev pub started_at : (client : ℕ) → FilterSet → Notification → SavedReader
started_at client filters alarm =
    record { client = client; filters = filters; time = alarm.event_time; id = alarm.id; fresh = true }

abbrev pub told_alarm : (client : ℕ) → Notification → SavedReader → SavedReader
told_alarm client alarm reader = record {
  client = reader.client;
  filters = reader.filters;
  time = if reader.client == client then alarm.event_time else reader.time;
  id = if reader.client == client then alarm.id else reader.id;
  fresh = if reader.client == client then Bool.false else reader.fresh;
}

-- the readers after an ok call
abbrev pub readers_after : List KeptAlarm → (client : ℕ) → Call → List SavedReader → List SavedReader
readers_after stored client (ReaderStart mode value filters) readers =
    option_map_or (λ alarm. put reader_before (started_at client filters alarm) readers) (start_by (mode_of mode) value filters stored) readers
readers_after stored client (ReaderRead direction) readers =
    option_map_or (λ alarm. map (told_alarm client alarm) readers) (read_in (reader_for client readers) direction stored) readers
readers_after stored client ReaderEnd readers = without (is_reader_for client) readers
readers_after stored client NtfFini readers = without (is_reader_for client) readers
readers_after stored client _ readers = readers

-- a list, as it is after an ok call, and as it was after another
abbrev pub where_ok : {X : Type 0} → Status → (after before : X) → X
where_ok status.Ok after before = after
where_ok _ after before = before

-- the window of a client, which has made no call if it has none
abbrev pub window_for : (client : ℕ) → List ClientWindow → Kept Reply
window_for client windows = option_map_or (λ (caller : ClientWindow). caller.window) (find (is_window_for client) windows) (window_of [])

-- a window with one reply more
abbrev pub with_reply : Reply → Kept Reply → Kept Reply
with_reply reply window = record { next = window.next + 1; replies = take 32 (reply ∷ window.replies) }

abbrev pub answered : (client : ℕ) → Reply → List ClientWindow → List ClientWindow
answered client reply windows =
    put window_before (client_window client (with_reply reply (window_for client windows))) windows

-- what is kept after a call of this status, its window apart
abbrev pub changed : ServiceTable → (client seq : ℕ) (now : ℤ) → Call → Status → ServiceTable
changed kept client seq now call status =
    let log_change = if_ok status (log_change_in kept client now call) in
    let ntf_change = if_ok status (ntf_change_in kept client seq now call) in
    record {
      number = kept.number;
      log = logged log_change kept.log;
      ntf = notified ntf_change kept.ntf;
      alarms = alarms_after log_change ntf_change (logged log_change kept.log).streams kept.alarms;
      readers = where_ok status (readers_after kept.alarms client call kept.readers) kept.readers;
      windows = kept.windows;
    }

-- one entry more, and its reply
abbrev pub replied : (client : ℕ) → Reply → ServiceTable → ServiceTable
replied client reply kept = record {
  number = kept.number + 1;
  log = kept.log;
  ntf = kept.ntf;
  alarms = kept.alarms;
  readers = kept.readers;
  windows = answered client reply kept.windows;
}

-- what is kept after a call
abbrev pub after_call : ServiceTable → (client seq : ℕ) (now : ℤ) → Call → ServiceTable
after_call kept client seq now call =
    replied client (reply_in kept client now call) (changed kept client seq now call (status_in kept client now call))

-- what is kept after a receipt
abbrev pub after_receipt_in : ServiceTable → (client key through : ℕ) → ServiceTable
after_receipt_in kept client key through = record {
  number = kept.number + 1;
  log = kept.log;
  ntf = after_receipt client key through kept.ntf;
  alarms = kept.alarms;
  readers = kept.readers;
  windows = kept.windows;
}

-- what a call does to streams, in order
abbrev pub events_in : ServiceTable → (client : ℕ) (now : ℤ) → Call → List StreamEvent
events_in kept client now call =
    option_map_or (λ change. events_of change kept.log) (if_ok (status_in kept client now call) (log_change_in kept client now call)) []

-- Words of public clauses: what each entry of a history changes. A history is a list of entries, the newest first.
use Rattle.std.specs.Prelude.{ℕ, ◌+◌, ℤ, if◌then◌else◌, List, [], ◌∷◌, Option, Some, None}
use Rattle.std.specs.List.{cons_option}
use Rattle.std.specs.Prelude.{option_map}
use Rattle.ais_values.specs.declared.status.Status.{Status}
use Rattle.ais_values.specs.declared.status.Status.TheVariants as status
use Rattle.ntf_types.specs.declared.notification.Notification.{Notification}
use Rattle.stream_config.specs.declared.attrs.StreamAttrs.{StreamAttrs}
use Rattle.stream_config.specs.declared.attrs.StreamName.{StreamName}
use Rattle.stream_config.specs.declared.mark.Mark.{Mark}
use Rattle.calls.specs.declared.call.Call.{Call}
use Rattle.calls.specs.declared.call.Call.TheVariants.{LogInit, LogOpen, LogWrite, LogFilter, LogClose, LogFini, NtfInit, NtfSend}
use Rattle.calls.specs.declared.call.Call.TheVariants.{NtfSubscribe, NtfUnsubscribe, ReaderStart, ReaderRead, ReaderEnd, NtfFini}
use Rattle.calls.specs.declared.entry.Entry.{Entry}
use Rattle.calls.specs.declared.entry.Entry.TheVariants.{Called, Receipted}
use Rattle.alarm_view.specs.Modes.{mode_of}
use Rattle.alarm_view.specs.Nearest.{cursor_before, cursor_after}
use Rattle.log_history.specs.Changes.{LogChange}
use Rattle.log_history.specs.Changes.{LogChange as log}
use Rattle.log_history.specs.Answers.{making_of}
use Rattle.log_history.specs.Marks.{is_filtered, mark_after}
use Rattle.log_history.specs.Times.{second_of, record_at}
use Rattle.ntf_history.specs.Changes.{NtfChange}
use Rattle.ntf_history.specs.Changes.{NtfChange as ntf}
use Rattle.ntf_history.specs.Readers.{ReaderChange, reader_of}
use Rattle.ntf_history.specs.Readers.{ReaderChange as reading}
use Rattle.ntf_history.specs.Rows.{start_by, read_by}
use Rattle.plain_service.specs.Setups.{Setup, log_setup}
use Rattle.plain_service.specs.Pasts.{Past, no_past}
use Rattle.plain_service.specs.Alarms.{accepted_notification, stream_for, record_for, taken_by, alarms_stored}
use Rattle.plain_service.specs.Answers.{status_of}

-- what an ok call changes in the Log Service, by what an open makes, how a notification is accepted, the marks of streams, and the
-- number of its entry; a write that is filtered changes nothing, and a send stores its notification's record
abbrev pub log_change_with : (making : StreamName → Option StreamAttrs → Option StreamAttrs) (accepting : ℤ → Notification → Notification)
    (marking : StreamName → Mark) (client number : ℕ) (now : ℤ) → Call → Option LogChange
log_change_with making accepting marking client number now LogInit = Some (log.Began client)
log_change_with making accepting marking client number now (LogOpen name create) =
    Some (log.Opened client name (making name create) (second_of now) number)
log_change_with making accepting marking client number now (LogWrite name invocation flags time header body) =
    if is_filtered (marking name).mask header then None else Some (log.Stored name (record_at time header body now) (second_of now))
log_change_with making accepting marking client number now (LogFilter name mask) = Some (log.Filtered client name mask number)
log_change_with making accepting marking client number now (LogClose name) = Some (log.Closed client name (second_of now))
log_change_with making accepting marking client number now LogFini = Some (log.Ended client (second_of now))
log_change_with making accepting marking client number now (NtfSend notification) =
    Some (log.Stored (stream_for notification.body) (record_for now (accepting now notification)) (second_of now))
log_change_with making accepting marking client number now _ = None

abbrev pub log_change : Setup → Past → (client : ℕ) (now : ℤ) → Call → Option LogChange
log_change setup past client now call =
    log_change_with (making_of (log_setup setup) past.log) (accepted_notification past) (mark_after past.log) client (past.number + 1) now call

-- what an ok call changes in the Notification Service, by how many records a stream has taken; the number of a call that subscribes is the
-- subscription's key
abbrev pub ntf_change_with : (accepting : ℤ → Notification → Notification) (taken : StreamName → ℕ) (client seq : ℕ) (now : ℤ) → Call → Option NtfChange
ntf_change_with accepting taken client seq now NtfInit = Some (ntf.Began client)
ntf_change_with accepting taken client seq now (NtfSend notification) =
    Some (ntf.Sent (accepting now notification) (taken (stream_for notification.body)))
ntf_change_with accepting taken client seq now (NtfSubscribe id filters) =
    Some (ntf.Subscribed (record { client = client; key = seq; id = id; filters = filters }))
ntf_change_with accepting taken client seq now (NtfUnsubscribe id) = Some (ntf.Unsubscribed client id)
ntf_change_with accepting taken client seq now NtfFini = Some (ntf.Ended client)
ntf_change_with accepting taken client seq now _ = None

abbrev pub ntf_change : Setup → Past → (client seq : ℕ) (now : ℤ) → Call → Option NtfChange
ntf_change setup past client seq now call =
    ntf_change_with (accepted_notification past) (taken_by (log_setup setup) past.log) client seq now call

-- what an ok call changes of the client's reader
abbrev pub reader_change : Setup → Past → (client : ℕ) → Call → Option ReaderChange
reader_change setup past client (ReaderStart mode value filters) =
    option_map (λ alarm. reading.Started client filters (cursor_before alarm)) (start_by (mode_of mode) value filters (alarms_stored setup past))
reader_change setup past client (ReaderRead direction) =
    option_map (λ alarm. reading.Told client (cursor_after alarm)) (read_by (reader_of past.readings client) direction (alarms_stored setup past))
reader_change setup past client ReaderEnd = Some (reading.Stopped client)
reader_change setup past client NtfFini = Some (reading.Stopped client)
reader_change setup past client _ = None

-- a change, where the call is answered ok
abbrev pub if_ok : {X : Type 0} → Status → Option X → Option X
if_ok status.Ok change = change
if_ok _ change = None

-- all that happened, with a call of this status
abbrev pub past_after : Setup → Past → (client seq : ℕ) (now : ℤ) → Call → Status → Past
past_after setup past client seq now call answered = record {
  log = cons_option (if_ok answered (log_change setup past client now call)) past.log;
  ntf = cons_option (if_ok answered (ntf_change setup past client seq now call)) past.ntf;
  readings = cons_option (if_ok answered (reader_change setup past client call)) past.readings;
  number = past.number + 1;
}

-- all that happened, with a call
abbrev pub past_with : Setup → Past → (client seq : ℕ) (now : ℤ) → Call → Past
past_with setup past client seq now call =
    past_after setup past client seq now call (status_of setup past client now call)

-- all that happened, with a receipt; one that is not new changes nothing
abbrev pub past_received : Past → (client key through : ℕ) → Past
past_received past client key through = record {
  log = past.log;
  ntf = ntf.Receipted client key through ∷ past.ntf;
  readings = past.readings;
  number = past.number + 1;
}

-- what the entries of a history changed
abbrev pub past_of : Setup → List Entry → Past
past_of setup [] = no_past
past_of setup (Called client seq now call ∷ entries) = past_with setup (past_of setup entries) client seq now call
past_of setup (Receipted client key through now ∷ entries) = past_received (past_of setup entries) client key through

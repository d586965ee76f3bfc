-- Words of public clauses: the answers to all calls, by one table. The first row whose condition holds decides; with none the
-- call is answered ok.
use Rattle.std.specs.Prelude.{ℕ, ℤ, Bool, false, List}
use Rattle.std.specs.Option.{option_map_or}
use Rattle.ais_values.specs.declared.status.Status.{Status}
use Rattle.stream_config.specs.Attributes.{kind_of}
use Rattle.calls.specs.declared.call.Call.{Call}
use Rattle.calls.specs.declared.call.Call.TheVariants.{LogInit, LogOpen, LogWrite, LogFilter, LogClose, LogFini, NtfInit, NtfSend}
use Rattle.calls.specs.declared.call.Call.TheVariants.{NtfSubscribe, NtfUnsubscribe, ReaderStart, ReaderRead, ReaderEnd, NtfFini}
use Rattle.log_history.specs.Handles.{is_using, is_open}
use Rattle.log_history.specs.Answers.{answer, begin_rows, open_rows, write_rows, filter_rows, close_rows, end_rows, living_attrs, is_place_taken}
use Rattle.log_history.specs.Answers.{is_crowded, is_full}
use Rattle.log_history.specs.Marks.{is_filtered, mark_after}
use Rattle.log_history.specs.Times.{record_at}
use Rattle.ntf_history.specs.Rows as ntf
use Rattle.plain_service.specs.Setups.{Setup, log_setup}
use Rattle.plain_service.specs.Pasts.{Past}
use Rattle.plain_service.specs.Alarms.{accepted_notification, stream_for, record_for, alarms_stored}

-- the rows of each call of a client after all that happened; the moment is in the record that would be stored
abbrev pub rows_of : Setup → Past → (client : ℕ) (now : ℤ) → Call → List (Bool × Status)
rows_of setup past client now LogInit = begin_rows (is_using past.log client)
rows_of setup past client now (LogOpen name create) =
    open_rows (is_using past.log client) (living_attrs (log_setup setup) past.log name)
    (option_map_or (is_place_taken (log_setup setup) past.log) create false) (is_crowded (log_setup setup) past.log) name create
rows_of setup past client now (LogWrite name invocation flags time header body) =
    write_rows (is_using past.log client) (is_open past.log name client) (is_filtered (mark_after past.log name).mask header)
    (is_full (log_setup setup) past.log name (record_at time header body now)) (kind_of name) flags time header
rows_of setup past client now (LogFilter name mask) =
    filter_rows (is_using past.log client) (is_open past.log name client) name mask
rows_of setup past client now (LogClose name) = close_rows (is_using past.log client) (is_open past.log name client)
rows_of setup past client now LogFini = end_rows (is_using past.log client)
rows_of setup past client now NtfInit = ntf.begin_rows past.ntf client
rows_of setup past client now (NtfSend notification) =
    ntf.send_rows
    (is_full (log_setup setup) past.log (stream_for notification.body) (record_for now (accepted_notification past now notification)))
    past.ntf client notification
rows_of setup past client now (NtfSubscribe id filters) = ntf.subscribe_rows past.ntf client id filters
rows_of setup past client now (NtfUnsubscribe id) = ntf.unsubscribe_rows past.ntf client id
rows_of setup past client now (ReaderStart mode value filters) =
    ntf.start_rows (alarms_stored setup past) past.readings past.ntf client mode value filters
rows_of setup past client now (ReaderRead direction) =
    ntf.read_rows (alarms_stored setup past) past.readings past.ntf client direction
rows_of setup past client now ReaderEnd = ntf.stop_rows past.readings past.ntf client
rows_of setup past client now NtfFini = ntf.end_rows past.ntf client

-- the status of a client's call, accepted at a moment after all that happened
abbrev pub status_of : Setup → Past → (client : ℕ) (now : ℤ) → Call → Status
status_of setup past client now call = answer (rows_of setup past client now call)

-- Words of bodies, and of public clauses of the crates above: what each call is answered, read of what is kept.
use Rattle.std.specs.Prelude.{ℕ, ◌+◌, ℤ, nat_le, Bool, false, List, length, Option, option_map, is_some, is_none}
use Rattle.ais_values.specs.declared.status.Status.{Status}
use Rattle.ntf_types.specs.declared.notification.Notification.{Notification}
use Rattle.ntf_types.specs.SoundTests.{is_sound}
use Rattle.ntf_filters.specs.declared.filter.FilterSet.{FilterSet}
use Rattle.alarm_view.specs.declared.alarm.KeptAlarm.{KeptAlarm}
use Rattle.alarm_view.specs.Modes.{mode_of}
use Rattle.client_set.specs.Members.{has}
use Rattle.calls.specs.declared.call.Call.{Call}
use Rattle.calls.specs.declared.call.Call.TheVariants.{LogInit, LogOpen, LogWrite, LogFilter, LogClose, LogFini, NtfInit, NtfSend, NtfSubscribe, NtfUnsubscribe}
use Rattle.calls.specs.declared.call.Call.TheVariants.{ReaderStart, ReaderRead, ReaderEnd, NtfFini}
use Rattle.calls.specs.declared.reply.Reply.{Reply}
use Rattle.calls.specs.declared.reply.Reply.TheVariants.{Done, Sent, Marked}
use Rattle.calls.specs.declared.saved.SavedReader.{SavedReader}
use Rattle.log_history.specs.Marks.{is_filtered}
use Rattle.log_history.specs.KeptAnswers.{is_filled, kept_mark, opened_mark, making_in}
use Rattle.log_history.specs.KeptAnswers.{begin_status, open_status, write_status, filter_status, close_status, end_status}
use Rattle.ntf_history.specs.Rows.{answer, send_by, start_rows_by, read_rows_by, stop_rows_by, start_by, read_by}
use Rattle.ntf_service.specs.State.{begin_answer, end_answer, subscribe_answer, unsubscribe_answer}
use Rattle.ntf_history.specs.Tables.{NtfTable}
use Rattle.plain_service.specs.Alarms.{accepted_as, stream_for, record_for}
use Rattle.plain_service.specs.Replies.{found_reply, reply_by}
use Rattle.service_table.specs.Tables.{ServiceTable, kept_reader_of, reader_for}

-- the answers of calls that touch more than one part

-- the notification of a send that is accepted at a moment
abbrev pub accepted_in : NtfTable → (now : ℤ) → Notification → Notification
accepted_in kept now notification = accepted_as (kept.last_id + 1) now notification

abbrev pub send_status : ServiceTable → (client : ℕ) (now : ℤ) → Notification → Status
send_status kept client now notification =
    answer (send_by (has client kept.ntf.users) (is_sound notification)
    (is_filled kept.log.streams (stream_for notification.body) (record_for now (accepted_in kept.ntf now notification))))

-- a start by a client among these readers and stored alarms
abbrev pub start_answer : (is_user : Bool) (client : ℕ) → List SavedReader → List KeptAlarm → (code : ℕ) (value : ℤ) → FilterSet → Status
start_answer is_user client readers alarms code value filters =
    answer (start_rows_by is_user (is_some (reader_for client readers)) (nat_le 16 (length readers))
    (is_none (start_by (mode_of code) value filters alarms)) code value filters)

-- the next alarm of a reader, if there is one
abbrev pub read_in : Option SavedReader → (code : ℕ) → List KeptAlarm → Option Notification
read_in reader code stored = read_by (option_map kept_reader_of reader) code stored

-- a read by a client's reader, if it has one
abbrev pub read_answer : (is_user : Bool) → Option SavedReader → (code : ℕ) → List KeptAlarm → Status
read_answer is_user reader code stored = answer (read_rows_by is_user (is_none reader) (is_none (read_in reader code stored)) code)

-- a stop of a client's reader
abbrev pub stop_answer : (is_user : Bool) (client : ℕ) → List SavedReader → Status
stop_answer is_user client readers = answer (stop_rows_by is_user (is_none (reader_for client readers)))

-- the status of a client's call that is accepted at a moment
abbrev pub status_in : ServiceTable → (client : ℕ) (now : ℤ) → Call → Status
status_in kept client now LogInit = begin_status kept.log client
status_in kept client now (LogOpen name create) = open_status kept.log client name create
status_in kept client now (LogWrite name invocation flags time header body) = write_status kept.log client name flags time header body now
status_in kept client now (LogFilter name mask) = filter_status kept.log client name mask
status_in kept client now (LogClose name) = close_status kept.log client name
status_in kept client now LogFini = end_status kept.log client
status_in kept client now NtfInit = begin_answer client kept.ntf
status_in kept client now (NtfSend notification) = send_status kept client now notification
status_in kept client now (NtfSubscribe id filters) = subscribe_answer client id filters kept.ntf
status_in kept client now (NtfUnsubscribe id) = unsubscribe_answer client id kept.ntf
status_in kept client now (ReaderStart mode value filters) =
    start_answer (has client kept.ntf.users) client kept.readers kept.alarms mode value filters
status_in kept client now (ReaderRead direction) =
    read_answer (has client kept.ntf.users) (reader_for client kept.readers) direction kept.alarms
status_in kept client now ReaderEnd = stop_answer (has client kept.ntf.users) client kept.readers
status_in kept client now NtfFini = end_answer client kept.ntf

-- what an ok call is told
abbrev pub told_in : ServiceTable → (client : ℕ) → Call → Reply
told_in kept client (LogOpen name create) =
    Marked false (opened_mark (making_in kept.log.streams name create) (kept.number + 1) (kept_mark kept.log.streams name))
told_in kept client (LogWrite name invocation flags time header body) =
    Marked (is_filtered (kept_mark kept.log.streams name).mask header) (kept_mark kept.log.streams name)
told_in kept client (LogFilter name mask) = Marked false (record { since = kept.number + 1; mask = mask })
told_in kept client (NtfSend notification) = Sent (kept.ntf.last_id + 1)
told_in kept client (ReaderRead direction) =
    found_reply (read_in (reader_for client kept.readers) direction kept.alarms)
told_in kept client _ = Done

-- the reply to a client's call
abbrev pub reply_in : ServiceTable → (client : ℕ) (now : ℤ) → Call → Reply
reply_in kept client now call = reply_by (status_in kept client now call) (told_in kept client call)

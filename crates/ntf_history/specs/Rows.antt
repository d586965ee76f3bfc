-- Words of public clauses: the answers of the Notification Service: for each call the rows of a condition and a status, in order, of which the first
-- whose condition holds decides; with none the call is answered ok.
use Rattle.std.specs.Prelude.{ℕ, ℤ, pos, ◌==◌, nat_le, int_lt, Bool, not, ◌&&◌, List, [], ◌∷◌, length, reverse, Option, Some, None, is_some, is_none, unwrap_or}
use Rattle.std.specs.List.{list_any}
use Rattle.ais_values.specs.FirstRow.{first_row}
use Rattle.ais_values.specs.declared.status.Status.{Status}
use Rattle.ais_values.specs.declared.status.Status.TheVariants.{Ok, InvalidParam, BadHandle, NotExist, Exist, NoSpace, NoResources}
use Rattle.ntf_types.specs.declared.notification.Notification.{Notification}
use Rattle.ntf_types.specs.SoundTests.{is_sound}
use Rattle.ntf_filters.specs.declared.filter.FilterSet.{FilterSet}
use Rattle.ntf_filters.specs.FitTests.{is_fit}
use Rattle.alarm_view.specs.declared.alarm.KeptAlarm.{KeptAlarm}
use Rattle.alarm_view.specs.declared.cursor.Cursor.{Cursor}
use Rattle.alarm_view.specs.declared.mode.Direction.{Direction}
use Rattle.alarm_view.specs.declared.mode.SearchMode.{SearchMode}
use Rattle.alarm_view.specs.Modes.{mode_of, direction_of}
use Rattle.alarm_view.specs.Alarms.{notifications}
use Rattle.alarm_view.specs.Search.{starting, next_alarm}
use Rattle.ntf_history.specs.Changes.{NtfChange, is_using}
use Rattle.ntf_history.specs.Subscriptions.{has_id, subs}
use Rattle.ntf_history.specs.Readers.{Reader, ReaderChange, reader_of, readers}

abbrev pub AnswerRow : Type 0
AnswerRow = Bool × Status

-- the answer by rows: the status of the first whose condition holds, and else ok
abbrev pub answer : List AnswerRow → Status
answer rows = unwrap_or (first_row rows) Ok

-- filters ask for alarms and security alarms alone
abbrev pub asks_for_alarms : FilterSet → Bool
asks_for_alarms filters = is_none filters.objects && is_none filters.attributes && is_none filters.states

-- the rows of each call by what holds, which a history tells, and a table that is kept of it: whether the client uses the service, 64 subscriptions or
-- 16 readers last, the client has a subscription of the id, or a reader, and the stored alarm is missing

abbrev pub begin_by : (is_user : Bool) → List AnswerRow
begin_by is_user = (is_user, NoResources) ∷ []

abbrev pub end_by : (is_user : Bool) → List AnswerRow
end_by is_user = (not is_user, BadHandle) ∷ []

-- of a notification, which is sound or not, and whose stream is a HALT stream that is full, or not
abbrev pub send_by : (is_user is_right is_full : Bool) → List AnswerRow
send_by is_user is_right is_full =
    (not is_user, BadHandle) ∷ (not is_right, InvalidParam) ∷ (is_full, NoSpace) ∷ []

abbrev pub subscribe_by : (is_user is_usable has_id is_full : Bool) → List AnswerRow
subscribe_by is_user is_usable has_id is_full =
    (not is_user, BadHandle) ∷ (not is_usable, InvalidParam) ∷ (has_id, Exist) ∷ (is_full, NoResources) ∷ []

abbrev pub unsubscribe_by : (is_user has_id : Bool) → List AnswerRow
unsubscribe_by is_user has_id = (not is_user, BadHandle) ∷ (not has_id, NotExist) ∷ []

-- by the code of a mode and a value
abbrev pub start_rows_by : (is_user has_reader is_crowded is_missing : Bool) → (code : ℕ) (value : ℤ) → FilterSet → List AnswerRow
start_rows_by is_user has_reader is_crowded is_missing code value filters =
    (not is_user, BadHandle)
    ∷ (is_none (mode_of code), InvalidParam)
    ∷ (int_lt value (pos 0) && not (code == 7), InvalidParam)
    ∷ (not (is_fit filters), InvalidParam)
    ∷ (not (asks_for_alarms filters), InvalidParam)
    ∷ (has_reader, NoResources)
    ∷ (is_crowded, NoResources)
    ∷ (is_missing, NotExist)
    ∷ []

-- by the code of a direction
abbrev pub read_rows_by : (is_user is_unread is_missing : Bool) → (code : ℕ) → List AnswerRow
read_rows_by is_user is_unread is_missing code =
    (not is_user, BadHandle) ∷ (is_unread, BadHandle) ∷ (is_none (direction_of code), InvalidParam) ∷ (is_missing, NotExist) ∷ []

abbrev pub stop_rows_by : (is_user is_unread : Bool) → List AnswerRow
stop_rows_by is_user is_unread = (not is_user, BadHandle) ∷ (is_unread, BadHandle) ∷ []

-- the rows of each call after all that changed

-- a client begins its use
abbrev pub begin_rows : List NtfChange → ℕ → List AnswerRow
begin_rows past client = begin_by (is_using past client)

-- a client sends a notification, whose stream is a HALT stream that is full, or not
abbrev pub send_rows : Bool → List NtfChange → ℕ → Notification → List AnswerRow
send_rows is_full past client notification = send_by (is_using past client) (is_sound notification) is_full

-- a client subscribes under an id
abbrev pub subscribe_rows : List NtfChange → ℕ → ℕ → FilterSet → List AnswerRow
subscribe_rows past client id filters =
    subscribe_by (is_using past client) (is_fit filters) (list_any (has_id client id) (subs past)) (nat_le 64 (length (subs past)))

-- a client takes the subscription of an id back
abbrev pub unsubscribe_rows : List NtfChange → ℕ → ℕ → List AnswerRow
unsubscribe_rows past client id =
    unsubscribe_by (is_using past client) (list_any (has_id client id) (subs past))

-- the alarm at which a search by the code of a mode starts, if the code has a mode and there is one
abbrev pub start_by : Option SearchMode → ℤ → FilterSet → List KeptAlarm → Option Notification
start_by None value filters stored = None
start_by (Some mode) value filters stored = starting mode value filters (reverse (notifications stored))

-- the alarm that is read next in the direction of a code, if the code has one and there is one
abbrev pub next_by : Option Direction → Cursor → FilterSet → List KeptAlarm → Option Notification
next_by None cursor filters stored = None
next_by (Some way) cursor filters stored = next_alarm cursor way filters (reverse (notifications stored))

-- a client starts a reader among the stored alarms, by the code of a mode and a value
abbrev pub start_rows : List KeptAlarm → List ReaderChange → List NtfChange → ℕ → ℕ → ℤ → FilterSet → List AnswerRow
start_rows stored readings past client code value filters =
    start_rows_by (is_using past client) (is_some (reader_of readings client)) (nat_le 16 (length (readers readings)))
    (is_none (start_by (mode_of code) value filters stored)) code value filters

-- the next alarm of a client's reader, if it has one
abbrev pub read_by : Option Reader → ℕ → List KeptAlarm → Option Notification
read_by None code stored = None
read_by (Some reader) code stored = next_by (direction_of code) reader.cursor reader.filters stored

-- a client's reader reads on in the direction of a code
abbrev pub read_rows : List KeptAlarm → List ReaderChange → List NtfChange → ℕ → ℕ → List AnswerRow
read_rows stored readings past client code =
    read_rows_by (is_using past client) (is_none (reader_of readings client)) (is_none (read_by (reader_of readings client) code stored)) code

-- a client stops its reader
abbrev pub stop_rows : List ReaderChange → List NtfChange → ℕ → List AnswerRow
stop_rows readings past client = stop_rows_by (is_using past client) (is_none (reader_of readings client))

-- a client ends its use
abbrev pub end_rows : List NtfChange → ℕ → List AnswerRow
end_rows past client = end_by (is_using past client)

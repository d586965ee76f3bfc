-- Words of public clauses: the answers of a service, read of what it keeps.
use Rattle.std.specs.Prelude.{ℕ, nat_le, Bool, false, List, Option, Some, None, option_map, ℤ}
use Rattle.std.specs.Option.{option_map_or}
use Rattle.std.specs.List.{find, list_any, count_by}
use Rattle.client_set.specs.Members.{has}
use Rattle.ais_values.specs.declared.status.Status.{Status}
use Rattle.stream_config.specs.declared.attrs.StreamAttrs.{StreamAttrs}
use Rattle.stream_config.specs.declared.attrs.StreamName.{StreamName}
use Rattle.stream_config.specs.Attributes.{kind_of}
use Rattle.stream_config.specs.AttributeTests.{have_one_place}
use Rattle.record_print.specs.declared.record.Header.{Header}
use Rattle.record_print.specs.declared.record.LogRecord.{LogRecord}
use Rattle.stream_config.specs.declared.mark.Mark.{Mark}
use Rattle.stream_config.specs.Marks.{first_mark, made_mark}
use Rattle.stream_config.specs.declared.state.StreamState.{StreamState}
use Rattle.stream_config.specs.Events.{current_file}
use Rattle.log_history.specs.Times.{record_at}
use Rattle.log_history.specs.Marks.{is_filtered}
use Rattle.log_history.specs.Names.{is_application}
use Rattle.log_history.specs.Table.{OpenStream, LogTable, is_named, length_in}
use Rattle.log_history.specs.Answers.{answer, begin_rows, open_rows, write_rows, filter_rows, close_rows, end_rows, store_rows, lacks_room}

-- the living stream of that name
abbrev pub kept_stream : List OpenStream → StreamName → Option OpenStream
kept_stream streams name = find (is_named name) streams

abbrev pub kept_attrs : List OpenStream → StreamName → Option StreamAttrs
kept_attrs streams name = option_map (λ (stream : OpenStream). stream.state.attrs) (kept_stream streams name)

abbrev pub has_place : List OpenStream → StreamAttrs → Bool
has_place streams attrs = list_any (λ (stream : OpenStream). have_one_place stream.state.attrs attrs) streams

abbrev pub is_of_application : OpenStream → Bool
is_of_application stream = is_application stream.state.name

abbrev pub is_crowd : List OpenStream → Bool
is_crowd streams = nat_le 64 (count_by is_of_application streams)

abbrev pub has_opener : List OpenStream → StreamName → (client : ℕ) → Bool
has_opener streams name client =
    option_map_or (λ (stream : OpenStream). has client stream.openers) (kept_stream streams name) false

-- the record does not fit the stream
abbrev pub lacks_room_in : StreamState → LogRecord → Bool
lacks_room_in state rec = lacks_room state.attrs (current_file state.files).bytes (length_in state rec)

abbrev pub is_filled : List OpenStream → StreamName → LogRecord → Bool
is_filled streams name rec =
    option_map_or (λ (stream : OpenStream). lacks_room_in stream.state rec) (kept_stream streams name) false

-- the mark of the stream of that name; where there is none, that of one that was never set
abbrev pub kept_mark : List OpenStream → StreamName → Mark
kept_mark streams name = option_map_or (λ (stream : OpenStream). stream.mark) (kept_stream streams name) first_mark

-- the mark of a stream once it is opened: where it is made, that of the entry of this number
abbrev pub opened_mark : (making : Option StreamAttrs) (number : ℕ) → Mark → Mark
opened_mark None number mark = mark
opened_mark (Some attrs) number mark = made_mark number

abbrev pub begin_status : LogTable → (client : ℕ) → Status
begin_status kept client = answer (begin_rows (has client kept.users))

abbrev pub open_status : LogTable → (client : ℕ) → StreamName → (create : Option StreamAttrs) → Status
open_status kept client name create =
    answer (open_rows (has client kept.users) (kept_attrs kept.streams name)
    (option_map_or (has_place kept.streams) create false) (is_crowd kept.streams) name create)

abbrev pub write_status : LogTable → (client : ℕ) → StreamName → (flags : ℕ) (time : ℤ) → Header → (body : List ℕ) → (now : ℤ) → Status
write_status kept client name flags time header body now =
    answer (write_rows (has client kept.users) (has_opener kept.streams name client) (is_filtered (kept_mark kept.streams name).mask header)
    (is_filled kept.streams name (record_at time header body now)) (kind_of name) flags time header)

abbrev pub filter_status : LogTable → (client : ℕ) → StreamName → (mask : ℕ) → Status
filter_status kept client name mask = answer (filter_rows (has client kept.users) (has_opener kept.streams name client) name mask)

abbrev pub close_status : LogTable → (client : ℕ) → StreamName → Status
close_status kept client name = answer (close_rows (has client kept.users) (has_opener kept.streams name client))

abbrev pub end_status : LogTable → (client : ℕ) → Status
end_status kept client = answer (end_rows (has client kept.users))

abbrev pub store_status : LogTable → StreamName → LogRecord → Status
store_status kept name rec = answer (store_rows (is_filled kept.streams name rec))

-- what an ok open makes: nothing where the stream lives
abbrev pub making_in : List OpenStream → StreamName → (create : Option StreamAttrs) → Option StreamAttrs
making_in streams name create = option_map_or (λ _. None) (kept_stream streams name) create

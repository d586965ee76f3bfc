-- Words of public clauses: what the service keeps of all that happened, and what one more change makes of it.
use Rattle.std.specs.Prelude.{ℕ, ◌+◌, nat_lt, ◌==◌, Bool, not, ◌&&◌, if◌then◌else◌, pos, List, [], ◌∷◌, ◌++◌, length, map, filter, Option, Some, None}
use Rattle.std.specs.Option.{option_map_or}
use Rattle.std.specs.List.{find}
use Rattle.client_set.specs.Rising.{put, without}
use Rattle.format_expr.specs.Reading.{pieces_of}
use Rattle.stream_config.specs.declared.attrs.StreamAttrs.{StreamAttrs}
use Rattle.stream_config.specs.declared.attrs.StreamName.{StreamName}
use Rattle.stream_config.specs.declared.mark.Mark.{Mark}
use Rattle.stream_config.specs.declared.state.StreamState.{StreamState}
use Rattle.stream_config.specs.declared.event.Stamps.{Stamps}
use Rattle.stream_config.specs.declared.event.StreamEvent.{StreamEvent}
use Rattle.stream_config.specs.declared.event.StreamEvent.TheVariants as event
use Rattle.record_print.specs.declared.record.LogRecord.{LogRecord}
use Rattle.record_print.specs.Printing.{printed_record}
use Rattle.stream_config.specs.Equality.{same_name}
use Rattle.stream_config.specs.Events.{open_file, current_file, standing, state_after}
use Rattle.stream_config.specs.Fit.{changes_file}
use Rattle.stream_config.specs.Marks.{made_mark}
use Rattle.stream_config.specs.Stamps.{stamp_after}
use Rattle.log_history.specs.Names.{is_application}
use Rattle.log_history.specs.Firsts.{change_first}
use Rattle.log_history.specs.Changes.{LogChange, Began, Opened, Stored, Filtered, Closed, Ended}
use Rattle.log_history.specs.Handles.{users, openers}
use Rattle.log_history.specs.Marks.{mark_after}
use Rattle.log_history.specs.Lengths.{record_length}
use Rattle.log_history.specs.Chronicle.{LogSetup, Stream, lives, is_empty, chronicle, all_files}

-- a living stream, the clients that have it open, rising, and its mark
pub record OpenStream : Type 0 where
  pub state : StreamState
  pub openers : List ℕ
  pub mark : Mark

-- the last stamp, the clients that use the service, rising, and the living streams in order of creation
pub record LogTable : Type 0 where
  pub last : ℕ
  pub users : List ℕ
  pub streams : List OpenStream

abbrev pub state_of : Stream → StreamState
state_of stream = record {
  name = stream.name;
  attrs = stream.attrs;
  taken = length stream.records;
  opened = length stream.full + 1;
  files = standing stream.attrs (all_files stream);
}

abbrev pub open_stream : List LogChange → Stream → OpenStream
open_stream past stream = record { state = state_of stream; openers = openers past stream.name; mark = mark_after past stream.name }

-- what is kept of changes
abbrev pub table : LogSetup → List LogChange → LogTable
table setup past = record {
  last = (chronicle setup past).last;
  users = users past;
  streams = map (open_stream past) (filter lives (chronicle setup past).streams);
}

-- what one more change makes of it

abbrev pub is_named : StreamName → OpenStream → Bool
is_named name stream = same_name stream.state.name name

abbrev pub with_opener : ℕ → OpenStream → OpenStream
with_opener client stream = record { state = stream.state; openers = put nat_lt client stream.openers; mark = stream.mark }

abbrev pub with_mark : Mark → OpenStream → OpenStream
with_mark mark stream = record { state = stream.state; openers = stream.openers; mark = mark }

abbrev pub without_opener : ℕ → OpenStream → OpenStream
without_opener client stream =
    record { state = stream.state; openers = without (λ other. other == client) stream.openers; mark = stream.mark }

abbrev pub new_state : StreamName → StreamAttrs → (created : ℕ) → StreamState
new_state name attrs created = record {
  name = name;
  attrs = attrs;
  taken = 0;
  opened = 1;
  files = open_file (pos created) ∷ [];
}

-- how many bytes a record takes that is stored next
abbrev pub length_in : StreamState → LogRecord → ℕ
length_in state rec = record_length state.attrs (state.taken + 1) rec

-- the next record changes the file
abbrev pub is_changing : StreamState → LogRecord → Bool
is_changing state rec = changes_file state.attrs (current_file state.files).bytes (length_in state rec)

-- the stamps of a change of file, where the next record is due to change it
abbrev pub due_stamps : (last second : ℕ) → LogRecord → StreamState → Option Stamps
due_stamps last second rec state =
    if is_changing state rec
    then Some (record { closed = pos (stamp_after last second); created = pos (stamp_after (stamp_after last second) second) })
    else None

abbrev pub last_after_due : (last second : ℕ) → LogRecord → StreamState → ℕ
last_after_due last second rec state =
    if is_changing state rec then stamp_after (stamp_after last second) second else last

-- the bytes of a record that is stored in a stream
abbrev pub bytes_in : StreamState → LogRecord → List ℕ
bytes_in state rec = printed_record (pieces_of state.attrs.expr) (state.taken + 1) rec state.attrs.record_size

-- a record stored in a stream
abbrev pub storing : (last second : ℕ) → LogRecord → StreamState → StreamEvent
storing last second rec state = event.Stored state (bytes_in state rec) (due_stamps last second rec state)

abbrev pub with_stored : (last second : ℕ) → LogRecord → OpenStream → OpenStream
with_stored last second rec stream =
    record { state = state_after (storing last second rec stream.state); openers = stream.openers; mark = stream.mark }

abbrev pub has_nobody : OpenStream → Bool
has_nobody stream = is_application stream.state.name && is_empty stream.openers

-- the streams that nobody has open any more end in order of creation, and each takes one stamp
abbrev pub last_after_ends : (last second : ℕ) → List OpenStream → ℕ
last_after_ends last second [] = last
last_after_ends last second (stream ∷ streams) =
    last_after_ends (if has_nobody stream then stamp_after last second else last) second streams

abbrev pub ends_in : (last second : ℕ) → List OpenStream → List StreamEvent
ends_in last second [] = []
ends_in last second (stream ∷ streams) =
    if has_nobody stream
    then event.Ended stream.state (pos (stamp_after last second)) ∷ ends_in (stamp_after last second) second streams
    else ends_in last second streams

abbrev pub kept_streams : List OpenStream → List OpenStream
kept_streams streams = filter (λ stream. not (has_nobody stream)) streams

-- the streams once a client has closed one of them
abbrev pub closed_streams : ℕ → StreamName → List OpenStream → List OpenStream
closed_streams client name streams = change_first (is_named name) (without_opener client) streams

-- the streams once a client has closed all
abbrev pub left_streams : ℕ → List OpenStream → List OpenStream
left_streams client streams = map (without_opener client) streams

abbrev pub opened_stream : ℕ → StreamName → StreamAttrs → (created number : ℕ) → OpenStream
opened_stream client name attrs created number =
    record { state = new_state name attrs created; openers = client ∷ []; mark = made_mark number }

abbrev pub table_after : LogChange → LogTable → LogTable
table_after (Began client) kept =
    record { last = kept.last; users = put nat_lt client kept.users; streams = kept.streams }
table_after (Opened client name None second number) kept =
    record { last = kept.last; users = kept.users; streams = change_first (is_named name) (with_opener client) kept.streams }
table_after (Opened client name (Some attrs) second number) kept = record {
  last = stamp_after kept.last second;
  users = kept.users;
  streams = kept.streams ++ opened_stream client name attrs (stamp_after kept.last second) number ∷ [];
}
table_after (Stored name rec second) kept = record {
  last = option_map_or (λ (stream : OpenStream). last_after_due kept.last second rec stream.state) (find (is_named name) kept.streams) kept.last;
  users = kept.users;
  streams = change_first (is_named name) (with_stored kept.last second rec) kept.streams;
}
table_after (Filtered client name mask number) kept = record {
  last = kept.last;
  users = kept.users;
  streams = change_first (is_named name) (with_mark (record { since = number; mask = mask })) kept.streams;
}
table_after (Closed client name second) kept = record {
  last = last_after_ends kept.last second (closed_streams client name kept.streams);
  users = kept.users;
  streams = kept_streams (closed_streams client name kept.streams);
}
table_after (Ended client second) kept = record {
  last = last_after_ends kept.last second (left_streams client kept.streams);
  users = without (λ other. other == client) kept.users;
  streams = kept_streams (left_streams client kept.streams);
}

-- what a change does to streams, in order
abbrev pub events_of : LogChange → LogTable → List StreamEvent
events_of (Began client) kept = []
events_of (Opened client name None second number) kept = []
events_of (Opened client name (Some attrs) second number) kept =
    event.Made (new_state name attrs (stamp_after kept.last second)) ∷ []
events_of (Stored name rec second) kept =
    option_map_or (λ (stream : OpenStream). storing kept.last second rec stream.state ∷ []) (find (is_named name) kept.streams) []
events_of (Filtered client name mask number) kept = []
events_of (Closed client name second) kept = ends_in kept.last second (closed_streams client name kept.streams)
events_of (Ended client second) kept = ends_in kept.last second (left_streams client kept.streams)

-- Words of public clauses: every stream that was ever made, and the stamps of its files.
use Rattle.std.specs.Prelude.{ℕ, ◌+◌, Bool, true, false, ◌&&◌, if◌then◌else◌, pos, List, [], ◌∷◌, ◌++◌, length, Option, Some, None, is_none, option_map}
use Rattle.std.specs.Option.{option_map_or}
use Rattle.std.specs.List.{find}
use Rattle.stream_config.specs.declared.attrs.StreamAttrs.{StreamAttrs}
use Rattle.stream_config.specs.declared.attrs.StreamName.{StreamName}
use Rattle.stream_config.specs.declared.attrs.StreamName.TheVariants as name
use Rattle.stream_config.specs.declared.state.LogFile.{LogFile}
use Rattle.record_print.specs.declared.record.LogRecord.{LogRecord}
use Rattle.stream_config.specs.Equality.{same_name}
use Rattle.stream_config.specs.Fit.{changes_file}
use Rattle.stream_config.specs.Stamps.{stamp_after}
use Rattle.log_history.specs.Names.{is_application}
use Rattle.log_history.specs.Firsts.{change_first}
use Rattle.log_history.specs.Changes.{LogChange, Began, Opened, Stored, Filtered, Closed, Ended}
use Rattle.log_history.specs.Handles.{openers}
use Rattle.log_history.specs.Lengths.{record_length, lengths_from}
use Rattle.log_history.specs.Rounds.{Round, rounds_of, last_of, front_of}

-- what the service begins with: the second of its start, and the attributes of the well-known streams
pub record LogSetup : Type 0 where
  pub start : ℕ
  pub alarm : StreamAttrs
  pub notification : StreamAttrs
  pub system : StreamAttrs

-- a stream that was made: all its records, in order; the creating and the closing stamp of each of its files that were full, in order;
-- the creating stamp of its last file; and the closing stamp of that one, once the stream has ended
pub record Stream : Type 0 where
  pub name : StreamName
  pub attrs : StreamAttrs
  pub records : List LogRecord
  pub full : List (ℕ × ℕ)
  pub current : ℕ
  pub ended : Option ℕ

-- all streams ever made, in order of creation, and the service's last stamp
pub record Chronicle : Type 0 where
  pub streams : List Stream
  pub last : ℕ

abbrev pub new_stream : StreamName → StreamAttrs → ℕ → Stream
new_stream name attrs created =
    record { name = name; attrs = attrs; records = []; full = []; current = created; ended = None }

abbrev pub lives : Stream → Bool
lives stream = is_none stream.ended

-- the stream lives and has that name
abbrev pub is_living : StreamName → Stream → Bool
is_living name stream = lives stream && same_name stream.name name

-- the lengths of its records, and of the one that comes; the first has number 1
abbrev pub lengths_of : Stream → List ℕ
lengths_of stream = lengths_from stream.attrs 1 stream.records

abbrev pub length_next : Stream → LogRecord → ℕ
length_next stream rec = record_length stream.attrs (length stream.records + 1) rec

-- every file that it had, by the number of the first record and the bytes
abbrev pub files_had : Stream → List Round
files_had stream = rounds_of stream.attrs (lengths_of stream)

-- the next record changes the file, as it has no room in the last one
abbrev pub is_due : Stream → LogRecord → Bool
is_due stream rec = changes_file stream.attrs (last_of (files_had stream)).bytes (length_next stream rec)

-- a stream with one record more; the last stamp before is this one
abbrev pub with_record : (last second : ℕ) → LogRecord → Stream → Stream
with_record last second rec stream = record {
  name = stream.name;
  attrs = stream.attrs;
  records = stream.records ++ rec ∷ [];
  full = if is_due stream rec then stream.full ++ (stream.current, stamp_after last second) ∷ [] else stream.full;
  current = if is_due stream rec then stamp_after (stamp_after last second) second else stream.current;
  ended = stream.ended;
}

-- a change of file takes two stamps, the closing one first
abbrev pub last_with_record : (last second : ℕ) → LogRecord → Stream → ℕ
last_with_record last second rec stream =
    if is_due stream rec then stamp_after (stamp_after last second) second else last

-- a stream that has ended, its last file closed by this stamp
abbrev pub with_end : ℕ → Stream → Stream
with_end closed stream = record {
  name = stream.name;
  attrs = stream.attrs;
  records = stream.records;
  full = stream.full;
  current = stream.current;
  ended = Some closed;
}

-- those of the streams that are to end do so in order of creation, and each takes one stamp
abbrev pub all_ended : (Stream → Bool) → (last second : ℕ) → List Stream → List Stream
all_ended ends last second [] = []
all_ended ends last second (stream ∷ streams) =
    if ends stream then with_end (stamp_after last second) stream ∷ all_ended ends (stamp_after last second) second streams
    else stream ∷ all_ended ends last second streams

abbrev pub last_of_ends : (Stream → Bool) → (last second : ℕ) → List Stream → ℕ
last_of_ends ends last second [] = last
last_of_ends ends last second (stream ∷ streams) =
    last_of_ends ends (if ends stream then stamp_after last second else last) second streams

abbrev pub is_empty : List ℕ → Bool
is_empty [] = true
is_empty (client ∷ clients) = false

-- an application's stream that nobody has open
abbrev pub is_idle : List LogChange → Stream → Bool
is_idle past stream = is_application stream.name && is_empty (openers past stream.name)

-- an application stream ends when no client has it open
abbrev pub is_ending : List LogChange → Stream → Bool
is_ending past stream = lives stream && is_idle past stream

-- the chronicle once the streams that nobody has open any more have ended
abbrev pub after_ends : List LogChange → ℕ → Chronicle → Chronicle
after_ends past second before = record {
  streams = all_ended (is_ending past) before.last second before.streams;
  last = last_of_ends (is_ending past) before.last second before.streams;
}

abbrev pub after_making : StreamName → StreamAttrs → ℕ → Chronicle → Chronicle
after_making name attrs second before = record {
  streams = before.streams ++ new_stream name attrs (stamp_after before.last second) ∷ [];
  last = stamp_after before.last second;
}

abbrev pub after_record : StreamName → LogRecord → ℕ → Chronicle → Chronicle
after_record name rec second before = record {
  streams = change_first (is_living name) (with_record before.last second rec) before.streams;
  last = option_map_or (last_with_record before.last second rec) (find (is_living name) before.streams) before.last;
}

-- the three well-known streams, made at the start
abbrev pub beginning : LogSetup → Chronicle
beginning setup =
    let alarm = setup.start in
    let notification = stamp_after alarm setup.start in
    let system = stamp_after notification setup.start in
    record {
      streams = new_stream name.Alarm setup.alarm alarm ∷ new_stream name.Notification setup.notification notification
          ∷ new_stream name.System setup.system system ∷ [];
      last = system;
    }

-- what the changes made of the streams
abbrev pub chronicle : LogSetup → List LogChange → Chronicle
chronicle setup [] = beginning setup
chronicle setup (Opened client name (Some attrs) second number ∷ past) = after_making name attrs second (chronicle setup past)
chronicle setup (Opened client name None second number ∷ past) = chronicle setup past
chronicle setup (Stored name rec second ∷ past) = after_record name rec second (chronicle setup past)
chronicle setup (Closed client name second ∷ past) =
    after_ends (Closed client name second ∷ past) second (chronicle setup past)
chronicle setup (Ended client second ∷ past) = after_ends (Ended client second ∷ past) second (chronicle setup past)
chronicle setup (Filtered client name mask number ∷ past) = chronicle setup past
chronicle setup (Began client ∷ past) = chronicle setup past

-- the full files with their stamps
abbrev pub stamped_files : List (ℕ × ℕ) → List Round → List LogFile
stamped_files [] rounds = []
stamped_files (stamps ∷ full) [] = []
stamped_files (stamps ∷ full) (round ∷ rounds) =
    record { created = pos stamps.0; closed = Some (pos stamps.1); first = round.first; bytes = round.bytes } ∷ stamped_files full rounds

abbrev pub last_file : (created : ℕ) → Option ℕ → Round → LogFile
last_file created ended round =
    record { created = pos created; closed = option_map pos ended; first = round.first; bytes = round.bytes }

-- every file that a stream had, in order; the last is the current one until the stream ends
abbrev pub all_files : Stream → List LogFile
all_files stream =
    let files = files_had stream in
    stamped_files stream.full (front_of files) ++ last_file stream.current stream.ended (last_of files) ∷ []

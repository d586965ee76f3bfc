-- Words of public clauses of the layers above: what a stream is after something happened to it.
use Rattle.std.specs.Prelude.{ℕ, ◌+◌, ◌-◌, ◌*◌, ◌%◌, max, ℤ, pos, List, [], ◌∷◌, ◌++◌, length, drop, Option, Some, None, is_some, if◌then◌else◌}
use Rattle.stream_config.specs.declared.attrs.FullAction.{FullAction}
use Rattle.stream_config.specs.declared.attrs.FullAction.TheVariants.{Wrap, Halt, Rotate}
use Rattle.stream_config.specs.declared.attrs.StreamAttrs.{StreamAttrs}
use Rattle.stream_config.specs.declared.state.LogFile.{LogFile}
use Rattle.stream_config.specs.declared.state.StreamState.{StreamState}
use Rattle.stream_config.specs.declared.event.Stamps.{Stamps}
use Rattle.stream_config.specs.declared.event.StreamEvent.{StreamEvent}
use Rattle.stream_config.specs.declared.event.StreamEvent.TheVariants.{Made, Stored, Ended}
use Rattle.stream_config.specs.Sizes.{records_per_file}

-- a stream's first file while it is current and empty
abbrev pub open_file : ℤ → LogFile
open_file created = record { created = created; closed = None; first = 0; bytes = 0 }

-- a file that begins with the record of this number, of so many bytes
abbrev pub file_begun : ℤ → (first len : ℕ) → LogFile
file_begun created first len = record { created = created; closed = None; first = first; bytes = len }

abbrev pub file_closed : ℤ → LogFile → LogFile
file_closed closed file = record { created = file.created; closed = Some closed; first = file.first; bytes = file.bytes }

-- a file once so many bytes are written at a place in it, or behind its end
abbrev pub file_with : (at len : ℕ) → LogFile → LogFile
file_with at len file = record { created = file.created; closed = file.closed; first = file.first; bytes = max file.bytes (at + len) }

-- the current file, the last of those that stand; no stream is without one
abbrev pub current_file : List LogFile → LogFile
current_file [] = open_file (pos 0)
current_file (file ∷ []) = file
current_file (file ∷ next ∷ files) = current_file (next ∷ files)

-- files with so many bytes written in the last one
abbrev pub last_with : (at len : ℕ) → List LogFile → List LogFile
last_with at len [] = []
last_with at len (file ∷ []) = file_with at len file ∷ []
last_with at len (file ∷ next ∷ files) = file ∷ last_with at len (next ∷ files)

-- files of which the last one is closed
abbrev pub last_closed : ℤ → List LogFile → List LogFile
last_closed closed [] = []
last_closed closed (file ∷ []) = file_closed closed file ∷ []
last_closed closed (file ∷ next ∷ files) = file ∷ last_closed closed (next ∷ files)

-- how many files of a stream stand at most, the current one among them
abbrev pub most_files : FullAction → ℕ → ℕ
most_files Wrap rotated = 1
most_files Halt rotated = 1
most_files Rotate rotated = rotated

-- of all files that a stream ever had those that stand: the last ones
abbrev pub standing : StreamAttrs → List LogFile → List LogFile
standing attrs files = drop (length files - most_files attrs.action attrs.rotated) files

-- where a record stands in the current file, behind so many bytes; under WRAP by its number
abbrev pub offset_in : FullAction → (n size taken bytes : ℕ) → ℕ
offset_in Wrap n size taken bytes = taken % n * size
offset_in Halt n size taken bytes = bytes
offset_in Rotate n size taken bytes = bytes

abbrev pub next_offset : StreamState → ℕ
next_offset state =
    offset_in state.attrs.action (records_per_file state.attrs) state.attrs.record_size state.taken (current_file state.files).bytes

-- the files that stand once a record of so many bytes is stored, which comes to the current file or begins the next
abbrev pub files_stored : StreamState → (len : ℕ) → Option Stamps → List LogFile
files_stored before len None = last_with (next_offset before) len before.files
files_stored before len (Some stamps) =
    standing before.attrs (last_closed stamps.closed before.files ++ file_begun stamps.created before.taken len ∷ [])

-- the stream after the event
abbrev pub state_after : StreamEvent → StreamState
state_after (Made state) = state
state_after (Stored before bytes stamps) = record {
  name = before.name;
  attrs = before.attrs;
  taken = before.taken + 1;
  opened = if is_some stamps then before.opened + 1 else before.opened;
  files = files_stored before (length bytes) stamps;
}
state_after (Ended before closed) = record {
  name = before.name;
  attrs = before.attrs;
  taken = before.taken;
  opened = before.opened;
  files = last_closed closed before.files;
}

-- Words of public clauses: the records of a history, and where they stand among its files.
use Rattle.std.specs.Prelude.{◌≡◌, ℕ, ◌*◌, ◌%◌, nat_lt, nat_le, Bool, ◌&&◌, if◌then◌else◌, List, [], ◌∷◌, length, take, drop, Option, Some, None, option_map}
use Rattle.std.specs.Prelude.{slice_get}
use Rattle.std.specs.Option.{option_map_or}
use Rattle.std.specs.FinMap.{get}
use Rattle.disk_model.specs.Disk.{File, Files}
use Rattle.stream_config.specs.declared.attrs.FullAction.{FullAction}
use Rattle.stream_config.specs.declared.attrs.FullAction.TheVariants.{Wrap, Halt, Rotate}
use Rattle.stream_config.specs.declared.attrs.StreamName.{StreamName}
use Rattle.stream_config.specs.declared.state.LogFile.{LogFile}
use Rattle.stream_config.specs.Sizes.{records_per_file}
use Rattle.stream_layout.specs.Names.{log_name}
use Rattle.stream_config.specs.Events.{standing}
pub use Rattle.stream_config.specs.Fit.{first_in}
use Rattle.stream_config.specs.Fit.{next_first}
use Rattle.stream_layout.specs.LogFiles.{records_from}
use Rattle.std.specs.List.{concat}
use Rattle.log_history.specs.Firsts.{before_first}
use Rattle.log_history.specs.Changes.{LogChange}
use Rattle.log_history.specs.Chronicle.{LogSetup, Stream, is_living, chronicle, all_files}
use Rattle.log_history.specs.Files.{records_of}

-- the files that stand
abbrev pub files_now : Stream → List LogFile
files_now stream = standing stream.attrs (all_files stream)

abbrev pub first_of : Stream → ℕ
first_of stream =
    first_in stream.attrs.action (records_per_file stream.attrs) (length stream.records)
    (next_first (files_now stream) (length stream.records))

-- a record was taken, and neither was its slot given away nor its file removed
abbrev pub is_standing : Stream → (number : ℕ) → Bool
is_standing stream number = nat_le (first_of stream) number && nat_lt number (length stream.records)

-- of files that end before the record of the number `until`, the one among whose records this one is
abbrev pub file_of : (number until : ℕ) → List LogFile → Option LogFile
file_of number until [] = None
file_of number until (file ∷ files) =
    if nat_le file.first number && nat_lt number (next_first files until) then Some file else file_of number until files

-- a record stands behind those of its file before it; under WRAP in the slot of its number
abbrev pub offset_of : FullAction → (n size first number : ℕ) → List (List ℕ) → ℕ
offset_of Wrap n size first number records = number % n * size
offset_of Halt n size first number records = length (concat (records_from first number records))
offset_of Rotate n size first number records = length (concat (records_from first number records))

abbrev pub spot_in_file : Stream → (number : ℕ) → LogFile → List ℕ × ℕ
spot_in_file stream number file = (
  log_name stream.attrs file,
  offset_of stream.attrs.action (records_per_file stream.attrs) stream.attrs.record_size file.first number (records_of stream),
)

-- the name of the file of a record, and the offset there, while it stands; the first record has number 0
abbrev pub place_of : Stream → (number : ℕ) → Option (List ℕ × ℕ)
place_of stream number =
    if is_standing stream number
    then option_map (spot_in_file stream number) (file_of number (length stream.records) (files_now stream))
    else None

-- the same of a history, its streams numbered from 0 on in order of creation
abbrev pub place_in : LogSetup → List LogChange → (stream number : ℕ) → Option (List ℕ × ℕ)
place_in setup past stream number =
    option_map_or (λ (one : Stream). place_of one number) (slice_get (chronicle setup past).streams stream) None

-- the bytes of a record of a history
abbrev pub record_in : LogSetup → List LogChange → (stream number : ℕ) → Option (List ℕ)
record_in setup past stream number =
    option_map_or (λ (one : Stream). slice_get (records_of one) number) (slice_get (chronicle setup past).streams stream) None

-- the number of the living stream of that name
abbrev pub stream_number : LogSetup → List LogChange → StreamName → ℕ
stream_number setup past name = before_first (is_living name) (chronicle setup past).streams

-- these bytes stand at that place of the files
pub record IsAt (bytes : List ℕ) (place : List ℕ × ℕ) (files : Files) : Type 0 where
  pub file : File
  pub found : get files place.0 ≡ Some file
  pub bytes_are : take (length bytes) (drop place.1 file.bytes) ≡ bytes

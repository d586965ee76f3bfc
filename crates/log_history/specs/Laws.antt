-- Words of public clauses, those of the laws: the files behind a change, and where records are and stand.
use Rattle.std.specs.Prelude.{◌≡◌, ℕ, ◌<◌, slice_get, List, ◌∷◌, length, Some}
use Rattle.disk_model.specs.DeviceCalls.{all_applied}
use Rattle.stream_config.specs.declared.attrs.StreamName.{StreamName}
use Rattle.record_print.specs.declared.record.LogRecord.{LogRecord}
use Rattle.stream_layout.specs.Deeds.{calls_of_all}
use Rattle.log_history.specs.Changes.{LogChange, Stored}
use Rattle.log_history.specs.Chronicle.{LogSetup, Stream, files_had, chronicle}
use Rattle.log_history.specs.Rounds.{front_of}
use Rattle.log_history.specs.Table.{state_of, bytes_in}
use Rattle.log_history.specs.Files.{disk_files}
use Rattle.log_history.specs.Deeds.{deeds_by}
use Rattle.log_history.specs.Places.{place_of, record_in, place_in, stream_number, IsAt}
use Rattle.stream_layout.specs.Spots.{spot_of}

-- the deeds of a change make of the files before it those behind it
abbrev pub DeedsGiveFiles : LogSetup → LogChange → (past : List LogChange) → Type 0
DeedsGiveFiles setup change past =
    all_applied (calls_of_all (deeds_by setup change past)) (disk_files setup past) ≡ disk_files setup (change ∷ past)

-- of each file that a stream had but its last one there are the two stamps
abbrev pub FilesAreStamped : LogSetup → List LogChange → Type 0
FilesAreStamped setup past =
    (stream : ℕ) (one : Stream) → slice_get (chronicle setup past).streams stream ≡ Some one →
    length one.full ≡ length (front_of (files_had one))

-- a record that is stored under the name of this living stream is the stream's last, with its bytes
abbrev pub StandsLast : LogSetup → (past : List LogChange) → StreamName → LogRecord → (second : ℕ) → Stream → Type 0
StandsLast setup past name rec second stream =
    record_in setup (Stored name rec second ∷ past) (stream_number setup past name) (length stream.records)
    ≡ Some (bytes_in (state_of stream) rec)

-- each record that has a place stands there with its bytes
abbrev pub RecordsStand : LogSetup → List LogChange → Type 0
RecordsStand setup past =
    (stream number : ℕ) (bytes : List ℕ) (place : List ℕ × ℕ) → record_in setup past stream number ≡ Some bytes →
    place_in setup past stream number ≡ Some place → IsAt bytes place (disk_files setup past)

-- no two records have one place
abbrev pub PlacesDiffer : LogSetup → List LogChange → Type 0
PlacesDiffer setup past =
    (one other number second : ℕ) (place : List ℕ × ℕ) → place_in setup past one number ≡ Some place →
    place_in setup past other second ≡ Some place → (one ≡ other) × (number ≡ second)

-- of a stream whose records have one size a record that has a place stands at the offset of its number
abbrev pub PlacesBySize : LogSetup → List LogChange → Type 0
PlacesBySize setup past =
    (stream number : ℕ) (one : Stream) (place : List ℕ × ℕ) → slice_get (chronicle setup past).streams stream ≡ Some one →
    0 < one.attrs.record_size → place_of one number ≡ Some place → place.1 ≡ (spot_of one.attrs number).at

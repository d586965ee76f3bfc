-- Words of public clauses: what a disk holds, and what each of its calls makes of it when the call is done.
use Rattle.std.specs.Prelude.{ℕ, ◌+◌, ◌≡◌, List, [], ◌∷◌, ◌++◌, length, take, drop, nat_le, if◌then◌else◌, Option, option_map}
use Rattle.std.specs.Option.{option_map_or}
use Rattle.std.specs.Ordering.{nat_cmp}
use Rattle.std.specs.Cmp.Lexicographic.{slice_cmp}
use Rattle.std.specs.FinMap as map

-- a file: its bytes, the ranges (place, length) that were changed since its last sync, in order,
-- and its length when no range was loose
pub record File : Type 0 where
  pub bytes : List ℕ
  pub loose : List (ℕ × ℕ)
  pub settled : ℕ

-- files by the bytes of their names
abbrev pub Files : Type 0
Files = map.FinMap (slice_cmp nat_cmp) File

-- a disk without a file
abbrev pub no_files : Files
no_files = map.empty

-- an empty file, of which nothing is loose
abbrev pub empty_file : File
empty_file = record { bytes = []; loose = []; settled = 0 }

-- a file with these bytes, of which nothing is loose
abbrev pub settled_file : List ℕ → File
settled_file bytes = record { bytes = bytes; loose = []; settled = length bytes }

-- bytes put over those that stand from a place on; where they go past the end, the list grows
abbrev pub overwritten : List ℕ → ℕ → List ℕ → List ℕ
overwritten old at bytes = take at old ++ bytes ++ drop (at + length bytes) old

-- a file after a write that is done: nothing changes where the place is past the end
abbrev pub file_written : ℕ → List ℕ → File → File
file_written at bytes file = record {
  bytes = if nat_le at (length file.bytes) then overwritten file.bytes at bytes else file.bytes;
  loose = if nat_le at (length file.bytes) then file.loose ++ (at, length bytes) ∷ [] else file.loose;
  settled = file.settled;
}

-- a file after a cut that is done: it has at most so many bytes
abbrev pub file_cut : ℕ → File → File
file_cut len file = record { bytes = take len file.bytes; loose = file.loose; settled = file.settled }

-- a file after a sync that is done: nothing is loose
abbrev pub file_synced : File → File
file_synced file = record { bytes = file.bytes; loose = []; settled = length file.bytes }

-- the file of that name changed; nothing changes where it does not stand
abbrev pub adjusted : (File → File) → Files → List ℕ → Files
adjusted change files name = option_map_or (λ file. map.insert files name (change file)) (map.get files name) files

-- an empty file of that name stands; an old one is replaced
abbrev pub created : Files → List ℕ → Files
created files name = map.insert files name empty_file

-- the bytes stand at that place of the file; nothing changes where it is absent or the place is past its end
abbrev pub written_at : Files → List ℕ → ℕ → List ℕ → Files
written_at files name at bytes = adjusted (file_written at bytes) files name

-- the file has at most so many bytes; nothing changes where it is absent
abbrev pub shortened : Files → List ℕ → ℕ → Files
shortened files name len = adjusted (file_cut len) files name

-- nothing of the file is loose; nothing changes where it is absent
abbrev pub synced : Files → List ℕ → Files
synced files name = adjusted file_synced files name

-- the file has the other name, with its loose ranges, and a file of that name is replaced;
-- nothing changes where it is absent, nor where both names are equal
abbrev pub renamed : Files → List ℕ → List ℕ → Files
renamed files from to = option_map_or (λ file. map.insert (map.remove files from) to file) (map.get files from) files

-- no file of that name stands
abbrev pub removed : Files → List ℕ → Files
removed files name = map.remove files name

-- the length of a file, if it stands
abbrev pub length_of : Files → List ℕ → Option ℕ
length_of files name = option_map (λ (file : File). length file.bytes) (map.get files name)

-- at most so many bytes of a file from a place on; none where the file is absent
abbrev pub bytes_at : Files → List ℕ → ℕ → ℕ → List ℕ
bytes_at files name at size = option_map_or (λ (file : File). take size (drop at file.bytes)) (map.get files name) []

-- a read gave these bytes: their number, and the front of the buffer; the rest of the buffer stays
pub record Gives (count : ℕ) (old new bytes : List ℕ) : Type 0 where
  pub counted : count ≡ length bytes
  pub given : new ≡ bytes ++ drop (length bytes) old

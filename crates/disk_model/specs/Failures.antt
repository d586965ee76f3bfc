-- Words of public clauses: what a changing call that failed may have left, and what a crash of the disk.
use Rattle.std.specs.Prelude.{◌≡◌, ℕ, ◌+◌, ◌-◌, ◌<◌, ◌≤◌, min, max, Bool, false, ◌&&◌, ◌||◌, ◌⊎◌, nat_le, nat_lt, ⊤}
use Rattle.std.specs.Prelude.{List, [], ◌∷◌, length, slice_index, Option, Some, None, MatchOption}
use Rattle.std.specs.FinMap as map
use Rattle.disk_model.specs.Disk.{File, Files, file_written, file_cut, created, renamed, removed}

-- whether a place lies in one of these ranges (place, length)
abbrev pub is_within : List (ℕ × ℕ) → ℕ → Bool
is_within [] place = false
is_within (range ∷ ranges) place = (nat_le range.0 place && nat_lt place (range.0 + range.1)) || is_within ranges place

-- these ranges hold any bytes, and all else stays; the length is any between these two, whichever is greater
pub record Torn (ranges : List (ℕ × ℕ)) (one other : ℕ) (old new : List ℕ) : Type 0 where
  pub no_shorter : min one other ≤ length new
  pub no_longer : length new ≤ max one other
  pub kept : (place : ℕ) → place < length new → is_within ranges place ≡ false → slice_index new place ≡ slice_index old place

-- a file after a write that failed: its range holds any bytes and stays loose,
-- and the length is any between the old one and that of the write done
pub record FileLeftByWrite (at : ℕ) (bytes : List ℕ) (old new : File) : Type 0 where
  pub torn : Torn ((at, length bytes) ∷ []) (length old.bytes) (length (file_written at bytes old).bytes) old.bytes new.bytes
  pub loose : new.loose ≡ (file_written at bytes old).loose
  pub settled : new.settled ≡ old.settled

-- a file after a cut that failed: it lost no more than the cut takes away
pub record FileLeftByCut (len : ℕ) (old new : File) : Type 0 where
  pub torn : Torn [] (length old.bytes) (length (file_cut len old).bytes) old.bytes new.bytes
  pub loose : new.loose ≡ old.loose
  pub settled : new.settled ≡ old.settled

-- the ranges of a file that are not durable: those that were written, and what was cut off
abbrev pub loose_ranges : File → List (ℕ × ℕ)
loose_ranges file = (length file.bytes, file.settled - length file.bytes) ∷ file.loose

-- a file after a sync that failed: its loose ranges hold any bytes and stay loose,
-- and the length is any between the one when nothing was loose and the present one
pub record FileLeftBySync (old new : File) : Type 0 where
  pub torn : Torn (loose_ranges old) old.settled (length old.bytes) old.bytes new.bytes
  pub loose : new.loose ≡ old.loose
  pub settled : new.settled ≡ old.settled

-- a file after a crash of the disk: its loose ranges hold any bytes, the length is any between the one when nothing was loose
-- and the present one, and nothing is loose
pub record FileCrashed (old new : File) : Type 0 where
  pub torn : Torn (loose_ranges old) old.settled (length old.bytes) old.bytes new.bytes
  pub loose : new.loose ≡ []
  pub settled : new.settled ≡ length new.bytes

-- after a crash the same names stand, each with its file as a crash leaves it
abbrev pub Crashed : Files → Files → Type 0
Crashed old new =
    (name : List ℕ)
    → MatchOption (map.get old name) (map.get new name ≡ None) (λ file. (left : File) × FileCrashed file left × (map.get new name ≡ Some left))

-- what the running call left by a relation, and then a crash
abbrev pub ThenCrashed : (Files → Files → Type 0) → Files → Files → Type 0
ThenCrashed Left old new = (running : Files) × Left old running × Crashed running new

-- the file of that name is left by a relation, and the others stay; where it does not stand, nothing changes
abbrev pub LeavesFile : (File → File → Type 0) → List ℕ → Files → Files → Type 0
LeavesFile Left name old new =
    MatchOption (map.get old name) (new ≡ old) (λ file. (left : File) × Left file left × (new ≡ map.insert old name left))

-- a call is done wholly or not at all
abbrev pub WhollyOrNot : Files → Files → Files → Type 0
WhollyOrNot done old new = (new ≡ old) ⊎ (new ≡ done)

abbrev pub LeftByCreate : List ℕ → Files → Files → Type 0
LeftByCreate name old new = WhollyOrNot (created old name) old new

abbrev pub LeftByWrite : List ℕ → ℕ → List ℕ → Files → Files → Type 0
LeftByWrite name at bytes = LeavesFile (FileLeftByWrite at bytes) name

abbrev pub LeftByCut : List ℕ → ℕ → Files → Files → Type 0
LeftByCut name len = LeavesFile (FileLeftByCut len) name

abbrev pub LeftBySync : List ℕ → Files → Files → Type 0
LeftBySync name = LeavesFile FileLeftBySync name

abbrev pub LeftByRename : List ℕ → List ℕ → Files → Files → Type 0
LeftByRename from to old new = WhollyOrNot (renamed old from to) old new

abbrev pub LeftByRemove : List ℕ → Files → Files → Type 0
LeftByRemove name old new = WhollyOrNot (removed old name) old new

-- what is said of the files before and after, where the disk tells them; it tells both or none
abbrev pub WhereTold : (Files → Files → Type 0) → Option Files → Option Files → Type 0
WhereTold P None None = ⊤
WhereTold P (Some old) (Some new) = P old new
WhereTold P _ _ = ⊥

-- Words of public clauses: the records of a file's bytes, and which of them have a text.
use Rattle.std.specs.Prelude.{◌≡◌, ◌≢◌, ℕ, ◌+◌, ◌<◌, ◌-◌, ◌∷◌, [], ◌++◌, List, length, Some, slice_get, slice_index, ◌⊎◌}
use Rattle.std.specs.List.{All, concat}
use Rattle.format_expr.specs.declared.piece.Piece.{Piece}
use Rattle.record_scan.specs.Fits.{Fits}

-- it ends with its first line feed
pub record IsLine (rec : List ℕ) : Type 0 where
  pub some : 0 < length rec
  pub ended : slice_index rec (length rec - 1) ≡ 10
  pub first : (k : ℕ) → k + 1 < length rec → slice_index rec k ≢ 10

-- a record has the size, or with size 0 is a line
pub record IsRecord (size : ℕ) (rec : List ℕ) : Type 0 where
  pub sized : 0 < size → length rec ≡ size
  pub line : size ≡ 0 → IsLine rec

-- with what is left no record begins
pub record IsRest (size : ℕ) (rest : List ℕ) : Type 0 where
  pub short : 0 < size → length rest < size
  pub unended : size ≡ 0 → (k : ℕ) → k < length rest → slice_index rest k ≢ 10

-- the bytes are these records, and what is left
pub record AreRecords (size : ℕ) (bytes : List ℕ) (records : List (List ℕ)) (rest : List ℕ) : Type 0 where
  pub whole : bytes ≡ concat records ++ rest
  pub each : All (IsRecord size) records
  pub over : IsRest size rest

-- the text of this number, counted from 1, is the wanted one
abbrev pub IsTextAt : (token : ℕ) (wanted : List ℕ) → List (List ℕ) → Type 0
IsTextAt token wanted texts = (0 < token) × (slice_get texts (token - 1) ≡ Some wanted)

-- so it is of the texts that fit a record
abbrev pub HasText : List Piece → (size token : ℕ) (wanted : List ℕ) → List ℕ → Type 0
HasText pieces size token wanted rec = (texts : List (List ℕ)) × Fits pieces size rec texts × IsTextAt token wanted texts

-- the numbers, in order and the first being this one, of the records that pass
abbrev pub AreNumbers : (List ℕ → Type 0) → (first : ℕ) → List (List ℕ) → List ℕ → Type 0
AreNumbers Passes first [] numbers = numbers ≡ []
AreNumbers Passes first (rec ∷ records) numbers =
    ((later : List ℕ) × Passes rec × (numbers ≡ first ∷ later) × AreNumbers Passes (first + 1) records later)
    ⊎ ((Passes rec → ⊥) × AreNumbers Passes (first + 1) records numbers)

-- the numbers of the bytes' records with the wanted text
abbrev pub AreFound : List Piece → (size token : ℕ) (wanted bytes : List ℕ) → List ℕ → Type 0
AreFound pieces size token wanted bytes numbers =
    (records : List (List ℕ)) × (rest : List ℕ) × AreRecords size bytes records rest
    × AreNumbers (HasText pieces size token wanted) 1 records numbers

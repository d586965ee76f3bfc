-- Words of public clauses: the files of a stream by the lengths of its records.
use Rattle.std.specs.Prelude.{◌≡◌, ℕ, suc, ◌+◌, ◌-◌, ◌*◌, ◌<◌, ◌≤◌, ⊤, min, nat_le, if◌then◌else◌, List, [], ◌∷◌, length, take, drop, sum}
use Rattle.stream_config.specs.declared.attrs.FullAction.{FullAction}
use Rattle.stream_config.specs.declared.attrs.FullAction.TheVariants.{Wrap, Halt, Rotate}
use Rattle.stream_config.specs.declared.attrs.StreamAttrs.{StreamAttrs}
use Rattle.stream_config.specs.Sizes.{records_per_file}

-- a file by the number of its first record, and its bytes
pub record Round : Type 0 where
  pub first : ℕ
  pub bytes : ℕ

-- the file that begins with record `first` and has so many bytes, and those behind it, for further records of these lengths, numbered
-- on from there: a record begins the next file where it has no room behind the bytes of the one before
abbrev pub rounds_on : (most first bytes number : ℕ) → List ℕ → List Round
rounds_on most first bytes number [] = record { first = first; bytes = bytes } ∷ []
rounds_on most first bytes number (len ∷ lens) =
    if nat_le (bytes + len) most then rounds_on most first (bytes + len) (suc number) lens
    else record { first = first; bytes = bytes } ∷ rounds_on most number len (suc number) lens

-- all files that records of these lengths ever had
abbrev pub rounds : (most : ℕ) → List ℕ → List Round
rounds most lens = rounds_on most 0 0 0 lens

-- files with one record more, of this number and length
abbrev pub round_pushed : (most number len : ℕ) → List Round → List Round
round_pushed most number len [] = []
round_pushed most number len (round ∷ []) =
    if nat_le (round.bytes + len) most then record { first = round.first; bytes = round.bytes + len } ∷ []
    else round ∷ record { first = number; bytes = len } ∷ []
round_pushed most number len (round ∷ next ∷ more) = round ∷ round_pushed most number len (next ∷ more)

-- the lengths of the records from one number to another, that one left out
abbrev pub total : (first until : ℕ) → List ℕ → ℕ
total first until lens = sum (take (until - first) (drop first lens))

-- the next file begins with the least record behind the first of this one through which the bytes are above the most
pub record IsNextFirst (most : ℕ) (lens : List ℕ) (first next : ℕ) : Type 0 where
  pub above : first < next
  pub within : next < length lens
  pub over : most < total first (next + 1) lens
  pub least : (k : ℕ) → first < k → k < next → total first (k + 1) lens ≤ most

-- there is no next file
pub record IsLastFirst (most : ℕ) (lens : List ℕ) (first : ℕ) : Type 0 where
  pub within : first ≤ length lens
  pub none : (k : ℕ) → first < k → k < length lens → total first (k + 1) lens ≤ most

-- the files of records of these lengths: each begins where the one before is over, and has the bytes of its records
abbrev pub AreRounds : (most : ℕ) → List ℕ → List Round → Type 0
AreRounds most lens [] = ⊤
AreRounds most lens (round ∷ []) = IsLastFirst most lens round.first × (round.bytes ≡ total round.first (length lens) lens)
AreRounds most lens (round ∷ next ∷ more) =
    IsNextFirst most lens round.first next.first × (round.bytes ≡ total round.first next.first lens) × AreRounds most lens (next ∷ more)

-- every n records a file begins, the first of these with this one
abbrev pub RoundsBeginEvenly : (n first : ℕ) → List Round → Type 0
RoundsBeginEvenly n first [] = ⊤
RoundsBeginEvenly n first (round ∷ rounds) = (round.first ≡ first) × RoundsBeginEvenly n (first + n) rounds

-- all files that records of these lengths ever had: one, but for a stream that rotates
abbrev pub rounds_by : FullAction → (n size most : ℕ) → List ℕ → List Round
rounds_by Wrap n size most lens = record { first = 0; bytes = min (length lens) n * size } ∷ []
rounds_by Halt n size most lens = record { first = 0; bytes = sum lens } ∷ []
rounds_by Rotate n size most lens = rounds most lens

abbrev pub rounds_of : StreamAttrs → List ℕ → List Round
rounds_of attrs lens = rounds_by attrs.action (records_per_file attrs) attrs.record_size attrs.max_file lens

-- the last file, and those before it
abbrev pub last_of : List Round → Round
last_of [] = record { first = 0; bytes = 0 }
last_of (round ∷ []) = round
last_of (round ∷ next ∷ rounds) = last_of (next ∷ rounds)

abbrev pub front_of : List Round → List Round
front_of [] = []
front_of (round ∷ []) = []
front_of (round ∷ next ∷ rounds) = round ∷ front_of (next ∷ rounds)

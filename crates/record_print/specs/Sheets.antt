-- Words of bodies alone: the sheet on which a record is printed: spaces and a line feed, over which the text so far is laid.
use Rattle.std.specs.Prelude.{◌≡◌, ℕ, ◌+◌, ◌-◌, ◌<◌, min, List, ◌++◌, length, take, slice_index_or}
use Rattle.record_print.specs.declared.sheet.Sheet.{Sheet}

-- bytes show a text up to a limit, and end in a line feed; the count of the bytes used stops at the limit
pub record Shows (bytes : List ℕ) (used limit : ℕ) (text : List ℕ) : Type 0 where
  pub used_is : used ≡ min (length text) limit
  pub shown : (k : ℕ) → k + 1 < length bytes → slice_index_or bytes k 0 ≡ slice_index_or (take limit text) k 32
  pub ended : slice_index_or bytes (length bytes - 1) 0 ≡ 10

-- the text so far is this one
abbrev pub Has : Sheet → List ℕ → Type 0
Has sheet text = Shows sheet.bytes.items sheet.used sheet.limit text

-- a sheet with more text behind whatever it had, of the same size and limit
pub record Adds (old new : Sheet) (more : List ℕ) : Type 0 where
  pub limit : new.limit ≡ old.limit
  pub size : length new.bytes.items ≡ length old.bytes.items
  pub text : (text : List ℕ) → Has old text → Has new (text ++ more)

-- the limit is the size: no window is open
abbrev pub IsOpen : Sheet → Type 0
IsOpen sheet = sheet.limit ≡ length sheet.bytes.items

-- the same size and limit
pub record Keeps (old new : Sheet) : Type 0 where
  pub limit : new.limit ≡ old.limit
  pub size : length new.bytes.items ≡ length old.bytes.items

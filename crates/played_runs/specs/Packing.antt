-- Words of bodies alone: lines that are handed on many at once.
use Rattle.std.specs.Prelude.{◌≡◌, ℕ, List, ◌++◌, Option}
use Rattle.std.specs.Io.KnownBytes.{Appends}

-- a front of a text was appended, and these bytes of it wait behind that
pub record Waits (old new : Option (List ℕ)) (text left : List ℕ) : Type 0 where
  pub front : List ℕ
  pub appended : Appends old new front
  pub whole : text ≡ front ++ left

-- Words of public clauses: what a whole write hands to a sink, by the bytes that it holds, where the sink tells them.
use Rattle.std.specs.Prelude.{ℕ, ◌<◌, List, length, take, Option, Result, Ok, Err}
use Rattle.std.specs.Io.KnownBytes.{Appends}

-- some of these bytes, from the front, were appended, and not all
pub record AppendsFront (old new : Option (List ℕ)) (bytes : List ℕ) : Type 0 where
  pub count : ℕ
  pub bound : count < length bytes
  pub appended : Appends old new (take count bytes)

-- all the bytes were appended, or, on an error, a front of them
abbrev pub WritesAll : {E : Type 0} → Option (List ℕ) → Option (List ℕ) → List ℕ → Result Unit E → Type 0
WritesAll old new bytes (Ok done) = Appends old new bytes
WritesAll old new bytes (Err answer) = AppendsFront old new bytes

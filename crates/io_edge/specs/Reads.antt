-- Words of public clauses: what a whole read takes of a source, by the bytes that are left to read, where the source tells them.
use Rattle.std.specs.Prelude.{◌≡◌, ℕ, ◌+◌, ◌≤◌, List, length, Option, Result, Ok, Err, Vec}
use Rattle.std.specs.declared.alloc.Global.{Global}
use Rattle.std.specs.Io.KnownBytes.{Consumes, IsAtEnd}
use Rattle.io_edge.specs.declared.answers.ReadAnswer.{ReadAnswer}
use Rattle.io_edge.specs.declared.answers.ReadAnswer.TheVariants.{Memory, ReadFault, TooLong}

-- these bytes were taken, at most so many, and then none was left
pub record TakesAll (old new : Option (List ℕ)) (limit : ℕ) (bytes : List ℕ) : Type 0 where
  pub bound : length bytes ≤ limit
  pub taken : Consumes old new bytes
  pub ended : IsAtEnd new

-- some bytes were taken, and P holds of their number
pub record TakesSome (old new : Option (List ℕ)) (P : ℕ → Type 0) : Type 0 where
  pub bytes : List ℕ
  pub count : P (length bytes)
  pub taken : Consumes old new bytes

-- a read to the end with a limit: all was taken; or one byte more than the limit; or, where it broke off, no more than the limit
abbrev pub ReadsAll : Option (List ℕ) → Option (List ℕ) → ℕ → Result (Vec ℕ Global) ReadAnswer → Type 0
ReadsAll old new limit (Ok bytes) = TakesAll old new limit bytes.items
ReadsAll old new limit (Err TooLong) = TakesSome old new (λ count. count ≡ limit + 1)
ReadsAll old new limit (Err ReadFault) = TakesSome old new (λ count. count ≤ limit)
ReadsAll old new limit (Err Memory) = TakesSome old new (λ count. count ≤ limit)

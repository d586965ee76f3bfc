-- Words of public clauses: how a fault that is told and the count of faults of the object that was handed in hang together.
use Rattle.std.specs.Prelude.{◌≡◌, ℕ, ◌+◌, ◌-◌, ◌^◌, ◌≤◌, min, ◌⊎◌, IsErrOf, MatchResult, Result}

-- the next value of a count that stops at its type's end
abbrev pub one_more : ℕ → ℕ
one_more count = min (count + 1) (2 ^ 64 - 1)

-- such a count rose: it is greater, or stands at that end
abbrev pub Rose : ℕ → ℕ → Type 0
Rose before now = one_more before ≤ now

-- the count rose exactly on this error: on every other answer it is what it was
pub record RoseExactlyOn {T E : Type 0} (before now : ℕ) (result : Result T E) (error : E) : Type 0 where
  pub later : before ≤ now
  pub rose : IsErrOf result error → Rose before now
  pub stands : MatchResult result (λ _. now ≡ before) (λ answer. (answer ≡ error) ⊎ (now ≡ before))

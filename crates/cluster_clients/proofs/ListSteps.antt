-- What is so of each element of a list is so of its front.
use Rattle.std.proofs.Common.{ℕ, zero, suc, List, [], ◌∷◌, take}
use Rattle.std.specs.List.{AllByRecursion}

pub All-take : {X : Type 0} (P : X → Type 0) (count : ℕ) (xs : List X) → AllByRecursion P xs → AllByRecursion P (take count xs)
All-take P zero xs all = tt
All-take P (suc count) [] all = tt
All-take P (suc count) (x ∷ xs) all = (all.0, All-take P count xs all.1)

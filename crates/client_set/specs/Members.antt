-- Words of public clauses: membership by recursion on the list, and by a test.
use Rattle.std.specs.Prelude.{◌≡◌, ℕ, ◌==◌, Bool, ◌⊎◌, List, [], ◌∷◌}
use Rattle.std.specs.List.{list_any}

-- the element stands in the list
abbrev pub Stands : {X : Type 0} → X → List X → Type 0
Stands x [] = ⊥
Stands x (y ∷ ys) = (x ≡ y) ⊎ Stands x ys

-- the number stands in the list
abbrev pub has : ℕ → List ℕ → Bool
has number numbers = list_any (λ other. other == number) numbers

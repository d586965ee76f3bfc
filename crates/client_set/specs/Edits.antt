-- Words of public clauses: a list of which one element is changed.
use Rattle.std.specs.Prelude.{ℕ, zero, suc, List, [], ◌∷◌}

-- the list with the element at a place, from 0, changed
abbrev pub change_at : {X : Type 0} → (X → X) → List X → ℕ → List X
change_at change [] place = []
change_at change (x ∷ xs) zero = change x ∷ xs
change_at change (x ∷ xs) (suc place) = x ∷ change_at change xs place

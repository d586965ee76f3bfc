-- Words of public clauses: the first element of a list that passes a test.
use Rattle.std.specs.Prelude.{ℕ, suc, Bool, if◌then◌else◌, List, [], ◌∷◌}

-- the list with its first element that passes the test changed
abbrev pub change_first : {X : Type 0} → (X → Bool) → (X → X) → List X → List X
change_first test change [] = []
change_first test change (x ∷ xs) = if test x then change x ∷ xs else x ∷ change_first test change xs

-- how many elements stand before the first that passes the test
abbrev pub before_first : {X : Type 0} → (X → Bool) → List X → ℕ
before_first test [] = 0
before_first test (x ∷ xs) = if test x then 0 else suc (before_first test xs)

-- Words of public clauses: tables whose first row that applies decides.
use Rattle.std.specs.Prelude.{Bool, cond, Option, Some, None, List, [], ◌∷◌}

-- what stands in the first row whose condition holds
abbrev pub first_row : {X : Type 0} → List (Bool × X) → Option X
first_row [] = None
first_row ((holds, value) ∷ rows) = cond holds (Some value) (first_row rows)

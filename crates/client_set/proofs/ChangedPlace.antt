-- A write at a place is a change there.
use Rattle.std.proofs.Common.{◌≡◌, ℕ, zero, suc, ◌<◌, List, [], ◌∷◌, length, get_or, set, ap, arith}
use Rattle.client_set.specs.Edits.{change_at}

-- what was read written over by what it changes to
pub set-change_at : {X : Type 0} (change : X → X) (xs : List X) (place : ℕ) (read : X) → read ≡ get_or xs place read → place < length xs → set xs place (change read) ≡ change_at change xs place
set-change_at change [] place read is within = absurd (omega arith)
set-change_at change (x ∷ xs) zero read is within = ap (λ y. change y ∷ xs) is
set-change_at change (x ∷ xs) (suc place) read is within =
    ap (λ rest. x ∷ rest) (set-change_at change xs place read is (omega arith))

-- Words one behind another.
use Rattle.std.proofs.Common.{◌≡◌, ℕ, Bool, true, false, cond, ◌==◌, List, [], ◌∷◌, ◌++◌, None, refl}
use Rattle.std.specs.Prelude.{option_and_then}
use Rattle.script_grammar.specs.Reading.{skipped}

pub skipped_both : (first second bytes : List ℕ) → skipped (first ++ second) bytes ≡ option_and_then (skipped second) (skipped first bytes)
skipped_both [] second bytes = refl
skipped_both (w ∷ first) second [] = refl
skipped_both (w ∷ first) second (b ∷ bytes) =
    let at : (t : Bool) → cond t (skipped (first ++ second) bytes) None ≡ option_and_then (skipped second) (cond t (skipped first bytes) None) = elim [
      | true ↦ skipped_both first second bytes
      | false ↦ refl
    ] in
    at (b == w)

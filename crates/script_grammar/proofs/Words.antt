-- What the code's tests say in the words of reading.
use Rattle.std.proofs.Common.{◌≡◌, ℕ, Bool, true, false, cond, ◌&&◌, ◌==◌, List, [], ◌∷◌, length, take, drop, Some, None, refl}
use Rattle.std.specs.Prelude.{nat_eq}
use Rattle.std.specs.Cmp.Lexicographic.{pointwise}
use Rattle.script_grammar.specs.Reading.{skipped}

-- the word is skipped where the bytes begin with it
pub skipped_is : (word bytes : List ℕ) → skipped word bytes ≡ cond (pointwise nat_eq (take (length word) bytes) word) (Some (drop (length word) bytes)) None
skipped_is [] bytes = refl
skipped_is (w ∷ word) [] = refl
skipped_is (w ∷ word) (b ∷ bytes) =
    let at : (t : Bool) → cond t (skipped word bytes) None ≡ cond (t && pointwise nat_eq (take (length word) bytes) word) (Some (drop (length word) bytes)) None = elim [
      | true ↦ skipped_is word bytes
      | false ↦ refl
    ] in
    at (b == w)

-- The turns of the loop that reads a list.
use Rattle.std.proofs.Common.{◌≡◌, ℕ, zero, suc, List, [], ◌∷◌, ◌++◌, Option, Some, None, refl, sym, ap, append_assoc}
use Rattle.std.specs.Prelude.{option_map}
use Rattle.std.proofs.lemmas.List.{append-nil}
use Rattle.script_grammar.specs.Reading.{skipped, with_first, behind_commas}
use Rattle.script.specs.declared.trouble.Trouble.{Trouble}
use Rattle.script.specs.declared.trouble.Trouble.TheVariants.{Memory, Bad}
use Rattle.script.specs.Gives.{Fails}

abbrev pub behind_front : {X : Type 0} → List X → List X × List ℕ → List X × List ℕ
behind_front front found = (front ++ found.0, found.1)

-- what is left to read, behind what was read
abbrev pub left : {X : Type 0} → (List ℕ → Option (X × List ℕ)) → ℕ → List X → List ℕ → Option (List X × List ℕ)
left at n front bytes = option_map (behind_front front) (behind_commas n at bytes)

pub commas_end : {X : Type 0} (at : List ℕ → Option (X × List ℕ)) (n : ℕ) (front : List X) (bytes : List ℕ) → skipped (44 ∷ []) bytes ≡ None → left at n front bytes ≡ Some (front, bytes)
commas_end at zero front bytes no_comma = ap (λ f. Some (f, bytes)) (append-nil front)
commas_end at (suc n) front bytes no_comma = rw no_comma (ap (λ f. Some (f, bytes)) (append-nil front))

pub commas_fail : {X : Type 0} (at : List ℕ → Option (X × List ℕ)) (n m : ℕ) (front : List X) (bytes after : List ℕ) → n ≡ suc m → skipped (44 ∷ []) bytes ≡ Some after → at after ≡ None → left at n front bytes ≡ None
commas_fail at n m front bytes after e comma none = rw (e, comma, none) refl

pub commas_more : {X : Type 0} (at : List ℕ → Option (X × List ℕ)) (n m : ℕ) (front : List X) (bytes after : List ℕ) (x : X) (rest : List ℕ) → n ≡ suc m → skipped (44 ∷ []) bytes ≡ Some after → at after ≡ Some (x, rest)
    → left at n front bytes ≡ left at m (front ++ x ∷ []) rest
commas_more {X} at n m front bytes after x rest e comma found =
    let step : (o : Option (List X × List ℕ)) → option_map (behind_front front) (option_map (with_first x) o) ≡ option_map (behind_front (front ++ x ∷ [])) o = elim [
      | None ↦ refl
      | Some more ↦ ap (λ f. Some (f, more.1)) (sym (append_assoc front (x ∷ []) more.0))
    ] in
    rw (e, comma, found) (step (behind_commas m at rest))

-- what a failure says, carried on
pub fails_on : {X Y : Type 0} (trouble : Trouble) (o : Option X) (p : Option Y) → (o ≡ None → p ≡ None) → Fails trouble o → Fails trouble p
fails_on Memory o p next h = tt
fails_on Bad o p next h = next h

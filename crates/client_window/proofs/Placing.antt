-- The places of a window, one reply after another.
use Rattle.std.proofs.Common.{◌≡◌, ℕ, suc, ◌≤◌, min, List, ◌∷◌, length, take, reverse, ap, sym, subst, ◌∙◌, arith, length-take}
use Rattle.std.proofs.lemmas.List.{length-reverse}
use Rattle.std.proofs.lemmas.Bool.Decides.{nat_tests}
use Rattle.client_window.specs.Windows.{places_for}

-- each reply that is kept has a place
pub enough : (kept : ℕ) → kept ≤ 32 → kept ≤ places_for kept
enough kept few = grind (arith, nat_tests)

-- what has places for the next reply has room for it
pub room-kept : (kept room : ℕ) → places_for (min 32 (suc kept)) ≤ room → min 32 (suc kept) ≤ room
room-kept kept room places = omega (arith, places, enough (min 32 (suc kept)) (omega arith))

-- the places behind the next reply
pub places-kept : {R : Type 0} (reply : R) (old wide new : List R) (room after : ℕ) → reverse new ≡ take 32 (reply ∷ reverse wide) → wide ≡ old → places_for (min 32 (suc (length old))) ≤ room → after ≡ room → places_for (length new) ≤ after
places-kept reply old wide new room after added same places stays =
    let count : length new ≡ min 32 (suc (length old)) = sym (length-reverse new) ∙ ap length added ∙ length-take 32 (reply ∷ reverse wide) ∙ ap (λ n. min 32 (suc n)) (length-reverse wide) ∙ ap (λ xs. min 32 (suc (length xs))) same in
    subst (λ n. places_for n ≤ after) (sym count) (omega (arith, places, stays))

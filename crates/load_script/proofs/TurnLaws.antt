-- The text of turns, one after another.
use Rattle.std.proofs.Common.{◌≡◌, ℕ, zero, suc, ◌<◌, ◌≤◌, List, Option, inl, inr, ap, ◌∙◌, subst, arith}
use Rattle.std.specs.Io.KnownBytes.{Appends}
use Rattle.std.proofs.KnownBytes.{Appends-trans}
use Rattle.std.proofs.Math.Nat.{le-suc_iff}
use Rattle.io_edge.specs.Writes.{AppendsFront}
use Rattle.io_edge.proofs.Fronts.{front-behind, front-more}
use Rattle.load_script.specs.Numbers.{next_state, number_in, state_at}
use Rattle.load_script.specs.Texts.{turn_text, turns_text}

-- the number of the next turn
next-number : (seed done state next number : ℕ) → state ≡ state_at seed done → next ≡ next_state state → number ≡ number_in next → number ≡ number_in (state_at seed (suc done))
next-number seed done state next number before step is = is ∙ ap number_in (step ∙ ap next_state before)

-- a front of the first turns is one of all
turns-front : (old new : Option (List ℕ)) (seed done count : ℕ) → done ≤ count → AppendsFront old new (turns_text seed done) → AppendsFront old new (turns_text seed count)
turns-front old new seed done zero low front =
    let none : done ≡ 0 = omega arith in
    subst (λ n. AppendsFront old new (turns_text seed n)) none front
turns-front old new seed done (suc count) low front = elim (le-suc_iff.0 low) [
  | inl lower ↦ front-more old new (turns_text seed count) (turn_text (suc count) (number_in (state_at seed (suc count)))) (turns-front old new seed done count lower front)
  | inr last ↦ subst (λ n. AppendsFront old new (turns_text seed n)) last front
]

-- a turn behind those that are done, by its number
module _ (old mid new : Option (List ℕ)) (seed done turn state next number : ℕ) (is : turn ≡ suc done) (before : state ≡ state_at seed done) (step : next ≡ next_state state) (drawn : number ≡ number_in next) (first : Appends old mid (turns_text seed done)) where
  as-turn : (P : List ℕ → Type 0) → P (turn_text turn number) → P (turn_text (suc done) (number_in (state_at seed (suc done))))
  as-turn P given =
      let numbered = subst (λ n. P (turn_text turn n)) (next-number seed done state next number before step drawn) given in
      subst (λ n. P (turn_text n (number_in (state_at seed (suc done))))) is numbered

  -- it was written
  pub turn-done : Appends mid new (turn_text turn number) → Appends old new (turns_text seed (suc done))
  turn-done whole =
      Appends-trans old mid new (turns_text seed done) (turn_text (suc done) (number_in (state_at seed (suc done)))) first (as-turn (Appends mid new) whole)

  -- the sink did not take all of it
  pub turn-breaks : (count : ℕ) → done < count → AppendsFront mid new (turn_text turn number) → AppendsFront old new (turns_text seed count)
  turn-breaks count low front =
      turns-front old new seed (suc done) count (omega arith) (front-behind old mid new (turns_text seed done) (turn_text (suc done) (number_in (state_at seed (suc done)))) first (as-turn (AppendsFront mid new) front))

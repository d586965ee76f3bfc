-- The turns of a large run, one after another.
use Rattle.std.proofs.Common.{◌≡◌, ℕ, zero, suc, ◌<◌, List, [], ◌++◌, inl, inr, ap, sym, ◌∙◌, arith, append-nil, append_assoc}
use Rattle.std.proofs.Math.Nat.{le-suc_iff}
use Rattle.script_lines.specs.declared.line.Line.{Line}
use Rattle.load_script.specs.Numbers.{next_state, number_in, state_at}
use Rattle.load_lines.specs.Lines.{turn_lines, turns_lines}

-- the lines of the next turn, by its number
pub as-turn : (seed done turn state next number : ℕ) → turn ≡ suc done → state ≡ state_at seed done → next ≡ next_state state → number ≡ number_in next → turn_lines turn number ≡ turn_lines (suc done) (number_in (state_at seed (suc done)))
as-turn seed done turn state next number is before step drawn =
    let numbered : number ≡ number_in (state_at seed (suc done)) = drawn ∙ ap number_in (step ∙ ap next_state before) in
    ap (λ (n : ℕ). turn_lines n number) is ∙ ap (turn_lines (suc done)) numbered

-- the turns behind the first ones
pub turns-more : (seed done count : ℕ) → done < count → (more : List Line) × (turns_lines seed count ≡ turns_lines seed (suc done) ++ more)
turns-more seed done zero low = absurd (omega arith)
turns-more seed done (suc count) low = elim (le-suc_iff.0 low) [
  | inl lower ↦
      let behind = turns-more seed done count lower in
      let last = turn_lines (suc count) (number_in (state_at seed (suc count))) in
      (behind.0 ++ last, ap (λ (front : List Line). front ++ last) behind.1 ∙ append_assoc (turns_lines seed (suc done)) behind.0 last)
  | inr same ↦ ([], ap (turns_lines seed) (sym same) ∙ sym (append-nil (turns_lines seed (suc done))))
]

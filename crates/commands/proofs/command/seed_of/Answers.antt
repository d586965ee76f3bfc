use Rattle.std.proofs.Common.{ℕ, List, subst, arith}
use Rattle.std.specs.Prelude.{MatchOption}
use Rattle.script_grammar.specs.Values.{IsNumber}
use Rattle.commands.proofs.WordLaws.{number-read}
use Rattle.commands.proofs.command.seed_of.Goals as goal

pub returns : goal.returns
returns c =
    let greatest : ℕ = 18446744073709551615 in
    number-read 0 greatest c.args.word.now c.whole_number.result (omega arith) (subst (λ (word : List ℕ). MatchOption c.whole_number.result ((n : ℕ) → IsNumber 0 greatest n word → ⊥) (λ n. IsNumber 0 greatest n word)) c.as_bytes.ensures.value c.whole_number.ensures)

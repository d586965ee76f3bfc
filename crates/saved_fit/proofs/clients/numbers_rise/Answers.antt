use Rattle.saved_fit.proofs.RisingLaws.{rising-decided, number-onward}
use Rattle.saved_fit.specs.Rising.{by_number}
use Rattle.std.specs.Prelude.{ℕ}
use Rattle.saved_fit.proofs.clients.numbers_rise.Goals as goal

pub returns : goal.returns
returns c = rising-decided (by_number (λ (n : ℕ). n)) (number-onward (λ (n : ℕ). n)) c.args.clients.now c.are_rising.result c.are_rising.ensures

use Rattle.log_history.proofs.RoundLaws.{start-form, closed-form, step-form}
use Rattle.log_history.proofs.EvenLaws.{even-form, count-form}
use Rattle.log_history.proofs.law.law_of_rounds.Goals as goal

pub returns : goal.returns
returns c = record {
  start = λ most lens. start-form most 0 0 0 lens;
  closed = closed-form;
  step = step-form;
  even = even-form;
  count = count-form;
}

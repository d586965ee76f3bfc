use Rattle.alarm_view.proofs.AskedLaws.{starting-exact, next_alarm-exact}
use Rattle.alarm_view.proofs.law.law_of_search.Goals as goal

pub returns : goal.returns
returns c = record {
  start = starting-exact;
  next = next_alarm-exact;
}

use Rattle.ntf_history.proofs.AlarmLaws.{stored-sent, stored-other, stored-later, stored-can_add, stored-order}
use Rattle.ntf_history.proofs.law.law_of_stored.Goals as goal

pub returns : goal.returns
returns c = record {
  sent = stored-sent;
  other = stored-other;
  later = stored-later;
  can_add = λ first number notification past. stored-can_add first past notification number;
  order = stored-order;
}

use Rattle.alarm_view.proofs.OrderLaws.{comes_before-self, comes_before-one_way, comes_before-total, comes_before-onward}
use Rattle.alarm_view.proofs.law.law_of_order.Goals as goal

pub returns : goal.returns
returns c = record {
  self_apart = comes_before-self;
  one_way = comes_before-one_way;
  total = comes_before-total;
  onward = comes_before-onward;
}

use Rattle.alarm_view.proofs.Sorting.{IsIndexed-sorted}
use Rattle.alarm_view.proofs.rebuilding.order_of.Goals as goal

pub returns : goal.returns
returns c =
    IsIndexed-sorted c.args.alarms.now _ _ c.requires c.in_ok-order.ensures c.sort.ensures.same c.sort.ensures.sorted

use Rattle.std.proofs.Common.{arith}
use Rattle.alarm_view.proofs.Keeping.{length-AreInOrder}
use Rattle.alarm_view.proofs.view.AlarmView.count.Goals as goal

pub overflow_cast-result : goal.overflow_cast-result
overflow_cast-result c =
    let few = length-AreInOrder c.self.inside.alarms.items c.self.invariant.in_order in
    let places = c.self.inside.alarms.ok.0 in
    omega (arith, few, places, c.len.ensures)

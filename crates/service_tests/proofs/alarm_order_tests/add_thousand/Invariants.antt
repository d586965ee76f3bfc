use Rattle.std.proofs.Common.{◌<◌}
use Rattle.alarm_view.specs.Alarms.{IsAboveAll}
use Rattle.service_tests.proofs.alarm_order_tests.add_thousand.Given as goal

abbrev pub invariant-loop-id : goal.invariant-loop-id
invariant-loop-id l = (l.number < 2147483648) × IsAboveAll l.id l.id l.view.kept

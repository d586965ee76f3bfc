use Rattle.std.proofs.Common.{◌≤◌, ◌-◌}
use Rattle.alarm_view.specs.Alarms.{notifications}
use Rattle.alarm_view.specs.Nearest.{IsNone}
use Rattle.alarm_view.specs.Inside.{IsAskedWithin}
use Rattle.alarm_view.proofs.search.youngest_within.Given as goal

abbrev pub invariant-loop-left : goal.invariant-loop-left
invariant-loop-left l = (l.left ≤ l.high) × IsNone (IsAskedWithin l.order l.left l.high l.filters) (notifications l.alarms.items)

abbrev pub decreases-loop-left : goal.decreases-loop-left
decreases-loop-left l = l.left - l.low

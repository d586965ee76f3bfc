use Rattle.alarm_view.specs.Alarms.{notifications}
use Rattle.alarm_view.specs.Nearest.{IsNone}
use Rattle.alarm_view.specs.Inside.{IsAskedWithin}
use Rattle.alarm_view.proofs.search.oldest_within.Given as goal

abbrev pub invariant-loop-place : goal.invariant-loop-place
invariant-loop-place l = IsNone (IsAskedWithin l.order l.low l.place l.filters) (notifications l.alarms.items)

use Rattle.std.proofs.Common.{◌≡◌, drop}
use Rattle.std.specs.Prelude.{None, option_copied}
use Rattle.saved_fit.specs.Rising.{rises_behind}
use Rattle.saved_fit.proofs.rising.are_rising.Given as goal

abbrev pub invariant-loop-item : goal.invariant-loop-item
invariant-loop-item g l = rises_behind g.T.Ordered.before (option_copied l.last) (drop l.item-index l.items) ≡ rises_behind g.T.Ordered.before None l.items

use Rattle.std.proofs.Common.{◌≡◌, take}
use Rattle.std.specs.List.{flat_map}
use Rattle.service_core.specs.Holding.{items_by}
use Rattle.service_core.proofs.holding.items_of.Given as goal

abbrev pub invariant-loop-place : goal.invariant-loop-place
invariant-loop-place l = l.held ≡ flat_map items_by (take l.place l.ntf.table.subs)

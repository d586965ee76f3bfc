use Rattle.std.proofs.Common.{◌≡◌, ◌++◌, take, map}
use Rattle.plain_service.specs.Items.{held_for}
use Rattle.service_core.proofs.holding.add_each.Given as goal

abbrev pub invariant-loop-item : goal.invariant-loop-item
invariant-loop-item l =
    l.held ≡ l.initial.held ++ map (held_for l.client l.key) (take l.item-index l.items)

use Rattle.std.proofs.Common.{◌≡◌, ◌++◌, take}
use Rattle.service_core.specs.Holding.{contents_in}
use Rattle.service_core.proofs.saving.add_contents.Given as goal

abbrev pub invariant-loop-item : goal.invariant-loop-item
invariant-loop-item l = l.contents ≡ l.initial.contents ++ contents_in (take l.item-index l.items)

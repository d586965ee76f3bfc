use Rattle.std.proofs.Common.{◌≡◌, ◌++◌, take}
use Rattle.std.specs.List.{All}
use Rattle.wire_code.specs.Spelling.{texts}
use Rattle.wire.proofs.list.spell_all.Given as goal

abbrev pub invariant-loop-item : goal.invariant-loop-item
invariant-loop-item g l = All g.T.Wire.Fits (take l.item-index l.items) × (l.out.items ≡ l.initial.out.items ++ texts g.T.Wire.text (take l.item-index l.items))

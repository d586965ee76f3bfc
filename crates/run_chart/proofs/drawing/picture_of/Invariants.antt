use Rattle.std.proofs.Common.{map, take}
use Rattle.run_chart.specs.Pictures.{Draws, items_of}
use Rattle.run_chart.proofs.drawing.picture_of.Given as goal

abbrev pub invariant-loop-index : goal.invariant-loop-index
invariant-loop-index l = Draws (map items_of (take l.index l.lines)) l.picture.items

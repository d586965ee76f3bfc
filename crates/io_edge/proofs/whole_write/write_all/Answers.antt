use Rattle.std.proofs.Common.{arith}
use Rattle.std.proofs.lemmas.Grind.{common_steps}
use Rattle.io_edge.proofs.Pieces.{Appends-piece}
use Rattle.io_edge.proofs.whole_write.write_all.Goals as goal

pub loop-done-preserved : goal.loop-done-preserved
loop-done-preserved g c =
    (grind (arith, common_steps), grind (arith, common_steps), Appends-piece _ _ _ _ c.loop-done.done c.in-Ok.count (grind (arith, common_steps)) c.loop-done.invariant.2 c.in-Ok.ensures.bytes)

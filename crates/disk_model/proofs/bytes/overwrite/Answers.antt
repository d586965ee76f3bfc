use Rattle.std.proofs.Common.{arith}
use Rattle.disk_model.proofs.Overwriting.{overwrite_more}
use Rattle.disk_model.proofs.bytes.overwrite.Goals as goal

pub loop-i-preserved : goal.loop-i-preserved
loop-i-preserved c = overwrite_more _ _ _ _ _ c.loop-i.invariant (omega arith) (omega arith)

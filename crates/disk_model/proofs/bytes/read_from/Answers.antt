use Rattle.std.proofs.Common.{arith}
use Rattle.disk_model.proofs.Overwriting.{copy_more}
use Rattle.disk_model.proofs.bytes.read_from.Goals as goal

pub loop-i-preserved : goal.loop-i-preserved
loop-i-preserved c = copy_more _ _ _ _ c.loop-i.invariant (omega arith) (omega arith)

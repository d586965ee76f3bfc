use Rattle.std.proofs.Common.{arith}
use Rattle.disk_model.proofs.Overwriting.{tear_more}
use Rattle.disk_model.proofs.bytes.overwrite_torn.Goals as goal

pub loop-i-preserved : goal.loop-i-preserved
loop-i-preserved c = tear_more _ _ _ _ _ _ c.loop-i.invariant (omega arith) c.torn_at.ensures

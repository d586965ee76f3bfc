use Rattle.std.proofs.Common.{vec_len}
use Rattle.callback_dispatch.proofs.workers.+crew.Given as goal

abbrev pub decreases-gather : goal.decreases-gather
decreases-gather g l = vec_len l.buffers

abbrev pub decreases-join+arg3 : goal.decreases-join+arg3
decreases-join+arg3 g l = vec_len l.buffers

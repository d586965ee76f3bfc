use Rattle.callback_dispatch.proofs.Joins.{merges-joined}
use Rattle.callback_dispatch.proofs.queue.CallbackQueue.join_takers.Goals as goal

pub absorb-requires-clause-rule : goal.absorb-requires-clause-rule
absorb-requires-clause-rule g c = merges-joined _ _ _ _

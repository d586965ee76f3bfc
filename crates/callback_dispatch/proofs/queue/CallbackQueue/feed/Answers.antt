use Rattle.std.proofs.Common.{arith}
use Rattle.callback_dispatch.proofs.Steps.{pushes, learns}
use Rattle.callback_dispatch.proofs.queue.CallbackQueue.feed.Goals as goal

pub push_as-requires-clause-rule : goal.push_as-requires-clause-rule
push_as-requires-clause-rule g c =
    let fed = c.feeder.invariant.2 in
    (pushes _ _ _ _ c.feeder.invariant.1 (omega arith), learns _ _)

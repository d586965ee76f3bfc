use Rattle.std.proofs.Common.{rules}
use Rattle.crossbeam_queue.specs.Passes.{view}
use Rattle.callback_dispatch.proofs.Joins.{forks-parts}
use Rattle.callback_dispatch.proofs.queue.CallbackQueue.cut.Goals as goal

pub another-pass-requires-clause-rule : goal.another-pass-requires-clause-rule
another-pass-requires-clause-rule c = forks-parts _ (view c.taker.inside.pass) (search rules)

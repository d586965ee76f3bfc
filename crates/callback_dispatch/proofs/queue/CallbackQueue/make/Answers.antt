use Rattle.std.proofs.Common.{rules}
use Rattle.callback_dispatch.proofs.Steps.{begins}
use Rattle.callback_dispatch.proofs.Joins.{forks-ends}
use Rattle.callback_dispatch.proofs.queue.CallbackQueue.make.Goals as goal

pub ruled-requires-clause-rule : goal.ruled-requires-clause-rule
ruled-requires-clause-rule g c = begins

pub another-taking-requires-clause-rule : goal.another-taking-requires-clause-rule
another-taking-requires-clause-rule g c = forks-ends _ _ (search rules)

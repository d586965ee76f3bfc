use Rattle.std.proofs.Common.{◌≡◌, ◌+◌, ◌≤◌, length, subst}
use Rattle.crossbeam_queue.specs.Passes.{view}
use Rattle.callback_dispatch.specs.Seen.{TakerSeen}
use Rattle.callback_dispatch.proofs.Steps.{learns}
use Rattle.callback_dispatch.proofs.Looks.{enough_waits}
use Rattle.callback_dispatch.proofs.queue.CallbackQueue.waiting.Goals as goal

pub len_as-requires-clause-rule : goal.len_as-requires-clause-rule
len_as-requires-clause-rule g c = learns _ _

pub returns-clause-enough : goal.returns-clause-enough
returns-clause-enough g c =
    let Told : TakerSeen → Type 0 = λ seen. seen.share ≡ 8 → length seen.known ≤ length seen.list + c.len_as.result in
    subst Told c.taker.view_is (enough_waits (view c.taker.inside.pass) c.len_as.result c.len_as.ensures.rule.1)

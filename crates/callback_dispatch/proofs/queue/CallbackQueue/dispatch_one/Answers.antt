use Rattle.std.proofs.Common.{◌≡◌, IfNone, subst}
use mathlib.Core.List.{IsPrefix}
use Rattle.crossbeam_queue.specs.Passes.{view}
use Rattle.callback_dispatch.specs.Seen.{TakerSeen, numbered}
use Rattle.callback_dispatch.proofs.Steps.{pops, learns}
use Rattle.callback_dispatch.proofs.Looks.{nothing_waits}
use Rattle.callback_dispatch.proofs.queue.CallbackQueue.dispatch_one.Goals as goal

pub pop_as-requires-clause-rule : goal.pop_as-requires-clause-rule
pop_as-requires-clause-rule g c = (pops _ _ c.taker.invariant.1, learns _ _)

pub returns-clause-all : goal.returns-clause-all
returns-clause-all g c =
    let Told : TakerSeen → Type 0 = λ seen. seen.share ≡ 8 → IfNone c.pop_as.result (IsPrefix (numbered 1 seen.known) seen.list) in
    subst Told c.taker.view_is (nothing_waits (view c.taker.inside.pass) (view c.pop_as.new.pass) c.pop_as.result c.pop_as.ensures.rule)

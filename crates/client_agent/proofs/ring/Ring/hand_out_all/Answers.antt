use Rattle.std.proofs.Common.{ap, sym, ◌∙◌, reverse}
use Rattle.client_agent.specs.Steps.{numbered}
use Rattle.client_agent.specs.Waiting.{Waiting}
use Rattle.client_agent.proofs.Handing.{only-taker, handed-all}
use Rattle.client_agent.proofs.ring.Ring.hand_out_all.Goals as goal

pub returns-in-Ok-clause-taken : goal.returns-in-Ok-clause-taken
returns-in-Ok-clause-taken g c =
    let inside = c.self.inside in
    let only = only-taker inside c.in-Some.taker c.self.invariant (sym c.in-Some.ensures.value) in
    handed-all inside.given inside.feeder.list c.in-Some.taker.list c.in-Ok.taken c.self.invariant.within only.took c.in-Ok.ensures.given ∙ ap (λ (w : Waiting). reverse (numbered w.given w.queue)) c.self.view_is

use Rattle.std.proofs.Common.{◌≡◌, ◌||◌, true, ◌∙◌, arith}
use Rattle.client_agent.specs.Inside.{seen_inside}
use Rattle.client_agent.proofs.Taking.{dispatched}
use Rattle.client_agent.proofs.library.Library.dispatch.Goals as goal
use Rattle.client_agent.proofs.library.Library.dispatch.Goals.{else-not-self-via-then-not-self+else-not-self-2, else-not-self-via-else-not-self}

pub returns-clause-ok : goal.returns-clause-ok
returns-clause-ok g c =
    let inside = c.self.inside in
    let handle : (inside.log_handle || inside.ntf_handle) ≡ true = elim c.else-not-self.branch [
      | else-not-self-via-then-not-self+else-not-self-2 w ↦ grind arith
      | else-not-self-via-else-not-self w ↦ grind arith
    ] in
    λ client places agent is. dispatched (seen_inside inside) c.args.how c.in_ok-taken.taken c.hand_out.new.self client places agent handle c.in_ok-taken.ensures.taken c.in_ok-taken.ensures.left (c.self.view_is ∙ is)

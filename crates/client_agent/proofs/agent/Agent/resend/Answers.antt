use Rattle.std.proofs.Common.{◌≡◌, ℕ, subst, ◌∙◌}
use Rattle.std.specs.Prelude.{IfOk}
use Rattle.cluster_facts.specs.Agents.{Agent, resent}
use Rattle.client_agent.specs.Seen.{Seen, seen_of}
use Rattle.client_agent.proofs.agent.Agent.resend.Goals as goal

pub returns : goal.returns
returns c =
    let P : Seen → Type 0 = λ seen. IfOk c.resend.result (λ messages. (client places : ℕ) (agent : Agent) → seen ≡ seen_of client places agent → messages ≡ resent client agent) in
    subst P (c.deref.ensures ∙ c.self.view_is) c.resend.ensures

use Rattle.std.proofs.Common.{ℕ, subst, sym}
use Rattle.cluster_facts.specs.Types.{Message}
use Rattle.cluster_facts.specs.Agents.{Agent, kept_call}
use Rattle.client_agent.specs.Steps.{IsReply, IsTaken}
use Rattle.client_agent.proofs.Known.{known}
use Rattle.client_agent.proofs.library.Library.receive.Goals as goal

pub returns-in_ok-taken-in-Reply-clause-ok : goal.returns-in_ok-taken-in-Reply-clause-ok
returns-in_ok-taken-in-Reply-clause-ok g c = λ client places agent is.
    let taken = c.in_ok-taken-in-Reply.taken in
    let after = c.take_reply.new.self in
    let P : ℕ → ℕ → Agent → Type 0 = λ client places agent. IsReply client places c.in-Reply.seq c.in-Reply.reply agent (kept_call c.in-Reply.seq agent.kept) taken after in
    subst (λ (m : Message). IsTaken client places m agent taken after) (sym c.in-Reply.is) (known P c.args.self.now client places agent is c.in_ok-taken-in-Reply.ensures.ok)

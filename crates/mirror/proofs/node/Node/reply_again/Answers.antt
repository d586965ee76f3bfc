use Rattle.std.proofs.Common.{ap, sym, subst, ◌∙◌}
use Rattle.std.specs.Prelude.{IsSome}
use Rattle.std.proofs.lemmas.Option.{IfSome_then}
use Rattle.mirror.specs.Replicas.{ReplicaState}
use Rattle.mirror.specs.Reacting.{AnswersAgain}
use Rattle.mirror.specs.declared.state.NodeState.{NodeState}
use Rattle.mirror.specs.InsideNode.{state_in}
use Rattle.mirror.proofs.AgainLaws.{answers-of, heard-again}
use Rattle.mirror.proofs.ReplicaLaws.{some_same}
use Rattle.mirror.proofs.node.Node.reply_again.Goals as goal

pub returns-in-Fresh-clause-again : goal.returns-in-Fresh-clause-again
returns-in-Fresh-clause-again c =
    let a = c.args in
    let same = sym c.self.view_is ∙ ap state_in c.in-Fresh.is in
    IfSome_then c.kept_reply.result c.kept_reply.ensures.again
    (λ reply is call now. heard-again a.self.now a.client a.seq call now reply.now
    (answers-of a.self.now.replica c.in-Fresh.service a.client a.seq reply.now (ap (λ (node : NodeState). node.replica.owed) same) (ap (λ (node : NodeState). node.replica.service) same) is))

pub returns-in-Fresh-clause-value : goal.returns-in-Fresh-clause-value
returns-in-Fresh-clause-value c = λ saved fit is.
    let same = sym c.self.view_is ∙ ap state_in c.in-Fresh.is in
    let service = c.in-Fresh.service in
    c.kept_reply.ensures.value saved fit (some_same service saved (sym (ap (λ (node : NodeState). node.replica.service) same) ∙ ap (λ (it : ReplicaState). it.service) is))

pub returns-in-Serving-clause-again : goal.returns-in-Serving-clause-again
returns-in-Serving-clause-again c =
    let a = c.args in
    let same = c.deref.ensures ∙ sym (ap state_in c.in-Serving.is) ∙ c.self.view_is in
    IfSome_then c.reply_again.result c.reply_again.ensures.again
    (λ reply is call now. heard-again a.self.now a.client a.seq call now reply.now
    (subst (λ (node : NodeState). AnswersAgain node.replica a.client a.seq reply.now) same is))

pub returns-in-Serving-clause-hand : goal.returns-in-Serving-clause-hand
returns-in-Serving-clause-hand c = λ some.
    let same = c.deref.ensures ∙ sym (ap state_in c.in-Serving.is) ∙ c.self.view_is in
    c.reply_again.ensures.hand (subst (λ (node : NodeState). IsSome node.replica.owed) (sym same) some)

pub returns-in-Serving-clause-value : goal.returns-in-Serving-clause-value
returns-in-Serving-clause-value c = λ saved fit is.
    let same = c.deref.ensures ∙ sym (ap state_in c.in-Serving.is) ∙ c.self.view_is in
    c.reply_again.ensures.value saved fit (ap (λ (node : NodeState). node.replica) same ∙ is)

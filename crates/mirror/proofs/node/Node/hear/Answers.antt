use Rattle.std.proofs.Common.{ℤ, ap, sym, subst, ◌∙◌, w64, to_z, of_z}
use Rattle.std.proofs.lemmas.Int.{to_z-of_z}
use Rattle.std.proofs.lemmas.Result.{IfOk-weaker}
use Rattle.mirror.specs.declared.state.NodeState.{NodeState}
use Rattle.mirror.specs.InsideNode.{state_in}
use Rattle.mirror.specs.Pairing.{IsHeard}
use Rattle.mirror.proofs.node.Node.hear.Goals as goal

pub returns-clause-ok : goal.returns-clause-ok
returns-clause-ok c =
    let a = c.args in
    let same = c.deref_mut.ensures.value ∙ sym (ap state_in c.in-Serving.is) ∙ c.open.ensures.stays ∙ c.self.view_is in
    let moment = to_z w64 (of_z w64 a.now) in
    IfOk-weaker c.hear.result _ _
    (λ heard is. subst (λ (at : ℤ). IsHeard a.message.now at a.self.now heard c.hear.new.self) (to_z-of_z w64 a.now c.ranges.now) (subst (λ (old : NodeState). IsHeard a.message.now moment old heard c.hear.new.self) same is))
    c.hear.ensures.ok

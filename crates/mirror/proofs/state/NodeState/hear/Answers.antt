use Rattle.std.proofs.Common.{ℤ, subst, w64, to_z, of_z}
use Rattle.std.proofs.lemmas.Int.{to_z-of_z}
use Rattle.std.proofs.lemmas.Result.{on_err_weaker}
use Rattle.mirror.specs.Pairing.{IsHeard}
use Rattle.mirror.proofs.HeardLaws.{linked-heard, apart-heard, four-ok}
use Rattle.mirror.proofs.state.NodeState.hear.Goals as goal

pub returns-in-Linked-clause-ok : goal.returns-in-Linked-clause-ok
returns-in-Linked-clause-ok c =
    let a = c.args in
    let it = c.hear_linked in
    let new = record a.self.now { replica = it.new.replica; waits = it.new.waits } in
    four-ok it.result _ _ _ _ (λ heard. IsHeard a.message.now a.now a.self.now heard new)
    (λ heard busy rest held value. subst (λ (at : ℤ). IsHeard a.message.now at a.self.now heard new) (to_z-of_z w64 a.now c.ranges.now) (linked-heard a.message.now (to_z w64 (of_z w64 a.now)) a.self.now heard it.new.replica it.new.waits c.in-Linked.is busy rest held value))
    it.ensures.busy it.ensures.rest it.ensures.held it.ensures.value

pub returns-in_default : goal.returns-in_default
returns-in_default c =
    let a = c.args in
    let it = c.receive in
    let new = record a.self.now { replica = it.new.self } in
    record {
      ok = four-ok it.result _ _ _ _ (λ heard. IsHeard a.message.now a.now a.self.now heard new)
          (λ heard busy rest held value. subst (λ (at : ℤ). IsHeard a.message.now at a.self.now heard new) (to_z-of_z w64 a.now c.ranges.now) (apart-heard a.message.now (to_z w64 (of_z w64 a.now)) a.self.now heard it.new.self c.in_default.not-Linked busy rest held value))
          it.ensures.busy it.ensures.rest it.ensures.held it.ensures.value;
      err = on_err_weaker it.result (λ same. λ i. record a.self.now { replica = same i }) it.ensures.err;
    }

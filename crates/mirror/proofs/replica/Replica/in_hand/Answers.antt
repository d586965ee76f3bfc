use Rattle.std.proofs.Common.{sym, subst, ◌∙◌}
use Rattle.std.specs.Prelude.{IsSome}
use Rattle.mirror.specs.Replicas.{ReplicaState}
use Rattle.mirror.proofs.ReplicaLaws.{none-number}
use Rattle.mirror.proofs.replica.Replica.in_hand.Goals as goal

pub returns-in-Some-clause-none : goal.returns-in-Some-clause-none
returns-in-Some-clause-none c = λ is.
    none-number c.args.self.now (subst (λ (server : ReplicaState). IsSome server.owed → IsSome server.service) c.self.view_is c.self.invariant) (sym c.number.ensures ∙ is)

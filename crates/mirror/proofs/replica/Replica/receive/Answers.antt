use Rattle.std.proofs.Common.{refl, ap, sym, subst, ◌∙◌}
use Rattle.std.specs.Prelude.{IsSome}
use Rattle.calls.specs.declared.saved.Saved.{Saved}
use Rattle.mirror.specs.declared.heard.Why.TheVariants.{Busy}
use Rattle.mirror.specs.Replicas.{ReplicaState}
use Rattle.mirror.specs.Hearing.{ignored}
use Rattle.mirror.proofs.ReplicaLaws.{stays-is, number-found, some_same}
use Rattle.mirror.proofs.replica.Replica.receive.Goals as goal

pub returns-in_ok-heard-in-Some-clause-busy : goal.returns-in_ok-heard-in-Some-clause-busy
returns-in_ok-heard-in-Some-clause-busy c =
    let inside = c.self.inside in
    let saved = c.in-Some.service in
    λ setup past entry is.
    let same = c.self.view_is ∙ is in
    let owed = ap (λ (server : ReplicaState). server.owed) same in
    let found = ap (λ (server : ReplicaState). server.service) same in
    let busy = c.in_ok-heard-in-Some.ensures.busy (subst IsSome (sym owed) refl) in (
      busy.0 ∙ ap (λ number. ignored (Busy number)) (number-found setup past entry inside.service saved c.in-Some.is found),
      stays-is inside.role inside.service inside.owed c.hear_or_ignore.new.owed c.args.self.now saved c.hear_or_ignore.new.service c.self.view_is c.in-Some.is busy.1 busy.2,
    )

pub returns-in_ok-heard-in-Some-clause-held : goal.returns-in_ok-heard-in-Some-clause-held
returns-in_ok-heard-in-Some-clause-held c =
    let inside = c.self.inside in
    let service = c.in-Some.service in
    λ saved held is.
    let same = c.self.view_is ∙ is in
    let owed = ap (λ (server : ReplicaState). server.owed) same in
    let found = ap (λ (server : ReplicaState). server.service) same in
    let value = some_same service saved (sym c.in-Some.is ∙ found) in
    let busy = c.in_ok-heard-in-Some.ensures.busy (subst IsSome (sym owed) refl) in (
      busy.0 ∙ ap (λ (it : Saved). ignored (Busy it.number)) value,
      stays-is inside.role inside.service inside.owed c.hear_or_ignore.new.owed c.args.self.now service c.hear_or_ignore.new.service c.self.view_is c.in-Some.is busy.1 busy.2,
    )

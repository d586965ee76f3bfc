use Rattle.std.proofs.Common.{◌≡◌, List, ◌∷◌, Result, Ok, Err, OnOk, sym, subst}
use Rattle.mirror.specs.declared.heard.Role.TheVariants as role
use Rattle.mirror.specs.Replicas.{started}
use Rattle.mirror.specs.Pairing.{alone}
use Rattle.group_servers.specs.declared.group.Seat.{Seat}
use Rattle.group_servers.specs.Rejoins.{all_rejoin}
use Rattle.group_servers.proofs.rejoining.+rejoin_all.Goals as goal

ok-both : {T E : Type 0} {P Q : Type 0} → (P → Q) → (result : Result T E) → OnOk result P → OnOk result Q
ok-both step (Ok done) p = step p
ok-both step (Err error) p = tt

pub returns-in-Ok : goal.returns-in-Ok
returns-in-Ok t c = λ saved is.
    let node = alone (started role.Standby saved) in
    let R : List Seat → Type 0 = λ old. OnOk c.rejoin_all.result (c.rejoin_one.new.seat ∷ c.rejoin_all.new.seats ≡ all_rejoin node old) in
    subst R (sym c.in-Some.ensures.cases.0) (ok-both (λ rest i. c.in-Ok.ensures saved is i ∷ rest i) c.rejoin_all.result (c.rejoin_all.ensures saved is))

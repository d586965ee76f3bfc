-- What it comes to that servers join the one that took over.
use Rattle.std.proofs.Common.{◌≡◌, Bool, true, false, not, if◌then◌else◌, is_some, Option, Some, None, Result, Ok, Err, List, [], ◌∷◌, refl, ap, sym, ◌∙◌, subst}
use Rattle.std.specs.Prelude.{IfSome, OnOk}
use Rattle.std.specs.List.{list_any}
use Rattle.std.proofs.lemmas.Bool.{or_parts}
use Rattle.calls.specs.declared.saved.Saved.{Saved}
use Rattle.wire.specs.declared.message.Message.{Message}
use Rattle.wire.specs.declared.message.Message.TheVariants.{Snapshot}
use Rattle.plain_service.specs.Fitness.{IsFit}
use Rattle.mirror.specs.declared.heard.Heard.{Heard}
use Rattle.mirror.specs.declared.heard.Role.TheVariants.{Standby}
use Rattle.mirror.specs.declared.state.NodeState.{NodeState as Node}
use Rattle.mirror.specs.Replicas.{started}
use Rattle.mirror.specs.Pairing.{IsJoinBegun, alone, snapshots}
use Rattle.lead_server.specs.Roles.{stays_down}
use Rattle.group_servers.specs.declared.group.Seat.{Seat}
use Rattle.group_servers.specs.Rejoins.{all_rejoin, led_by, Rejoins}
use Rattle.group_servers.specs.Seats.{is_up}
use Rattle.group_servers.proofs.DeliverSteps.{first-of}

-- Nobody joins.

stays-one : (down : Bool) (seat other : Seat) → not down ≡ false → seat ≡ (if down then seat else other)
stays-one true seat other up = refl
stays-one false seat other up = cc

stays-all : (node : Node) (seats : List Seat) → list_any is_up seats ≡ false → seats ≡ all_rejoin node seats
stays-all node [] none = refl
stays-all node (seat ∷ seats) none =
    let parts = or_parts (is_up seat) (list_any is_up seats) none in
    let joined : Seat = record { server = seat.server; node = node; link = []; back = [] } in
    λ i. stays-one (stays_down seat.node.replica.role) seat joined parts.0 i ∷ stays-all node seats parts.1 i

pub nobody-rejoins : (active : Node) (seats : List Seat) → list_any is_up seats ≡ false → Rejoins active active seats seats
nobody-rejoins active seats none = λ saved is. (sym (ap (λ b. led_by b active) none), stays-all (alone (started Standby saved)) seats none)

-- The others do.

-- what the one that took over sends
sends : (old new : Node) (heard : Heard) → old.replica.owed ≡ None → IsJoinBegun (is_some old.replica.owed) old heard new → IsJoinBegun false old heard new
sends old new heard idle begun = subst (λ b. IsJoinBegun b old heard new) (ap is_some idle) begun

none-first : {X : Type 0} {x : X} {xs : List X} → [] ≡ x ∷ xs → ⊥
none-first is = cc

fit-by : (service : Option Saved) (first : Message) (rest : List Message) → IfSome service IsFit → snapshots service ≡ first ∷ rest → (saved : Saved) × (first ≡ Snapshot saved) × IsFit saved
fit-by None first rest fit is = absurd (none-first is)
fit-by (Some saved) first rest fit is = (saved, sym (first-of is), fit)

pub brings-fit : (old new : Node) (heard : Heard) (first : Message) (rest : List Message) → old.replica.owed ≡ None → IfSome old.replica.service IsFit → IsJoinBegun (is_some old.replica.owed) old heard new → heard.to_peer ≡ first ∷ rest → (saved : Saved) × (first ≡ Snapshot saved) × IsFit saved
brings-fit old new heard first rest idle fit begun is =
    let begins = sends old new heard idle begun in
    fit-by old.replica.service first rest fit (sym (ap (λ (h : Heard). h.to_peer) begins.0) ∙ is)

pub others-rejoin : {T E : Type 0} (result : Result T E) (old new : Node) (heard : Heard) (first : Message) (rest : List Message) (seats news : List Seat) → list_any is_up seats ≡ true → old.replica.owed ≡ None → IsJoinBegun (is_some old.replica.owed) old heard new → heard.to_peer ≡ first ∷ rest → ((saved : Saved) → first ≡ Snapshot saved → OnOk result (news ≡ all_rejoin (alone (started Standby saved)) seats)) → OnOk result (Rejoins old new seats news)
others-rejoin (Err error) old new heard first rest seats news up idle begun is joined = tt
others-rejoin (Ok done) old new heard first rest seats news up idle begun is joined = λ saved has.
    let begins = sends old new heard idle begun in
    let message = first-of (sym is ∙ ap (λ (h : Heard). h.to_peer) begins.0 ∙ ap snapshots has) in
    (begins.1 ∙ sym (ap (λ b. led_by b old) up), joined saved message)

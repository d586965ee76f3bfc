-- What the journal's seat is beside an entry in hand, and what is on the way to it and back.
use Rattle.std.proofs.Common.{◌≡◌, Bool, None, List, length, refl, ap, sym, subst, ◌∙◌}
use Rattle.std.specs.List.{AllByRecursion}
use Rattle.cluster_facts.specs.Types.{Entry}
use Rattle.cluster_facts.specs.History.{Hand, Empty, Waiting, Applied, Ready}
use Rattle.cluster_events.specs.Servers.{State}
use Rattle.group_cluster.specs.Seats.{Agree, Clear, Mark, Seat, Sent, Standby, Took, WaitsFor, backs, links}
use Rattle.cold_cluster.specs.Cold.{Alone, IsCold, seats_with}
use Rattle.cold_servers.specs.ColdNodes.{back_by, link_by}

-- its mark is that of what is in hand
abbrev pub mark_by : Hand → Mark
mark_by Empty = Clear
mark_by (Waiting entry) = Sent
mark_by (Applied entry) = Took
mark_by (Ready entry) = Clear

mark-is : (hand : Hand) (mark : Mark) (keeps : Bool) → Agree hand (Standby None mark keeps) → WaitsFor hand (seats_with mark keeps) → mark ≡ mark_by hand
mark-is Empty Clear keeps agree waits = refl
mark-is Empty Sent keeps agree waits = absurd agree
mark-is Empty Took keeps agree waits = absurd agree
mark-is (Waiting entry) Sent keeps agree waits = refl
mark-is (Waiting entry) Clear keeps agree waits = cc
mark-is (Waiting entry) Took keeps agree waits = cc
mark-is (Applied entry) Took keeps agree waits = refl
mark-is (Applied entry) Clear keeps agree waits = cc
mark-is (Applied entry) Sent keeps agree waits = cc
mark-is (Ready entry) Clear keeps agree waits = refl
mark-is (Ready entry) Sent keeps agree waits = absurd agree
mark-is (Ready entry) Took keeps agree waits = absurd agree

-- **the seats of a good state**
pub seats-are : (state : State Alone) → (cold : IsCold state) → seats_with (mark_by state.world.core.hand) cold.1.keeps ≡ state.peers.mirrored.seats
seats-are state cold =
    let hand = state.world.core.hand in
    let beside = cold.1 in
    let A : List Seat → Type 0 = λ seats. AllByRecursion (λ (seat : Seat). Agree hand seat.stance) seats in
    let agree : A (seats_with beside.mark beside.keeps) = subst A beside.seats cold.0.agree in
    let waits : WaitsFor hand (seats_with beside.mark beside.keeps) = subst (λ (seats : List Seat). WaitsFor hand seats) beside.seats cold.0.waits in
    let marked = mark-is hand beside.mark beside.keeps agree.1.0 waits in
    ap (λ (mark : Mark). seats_with mark beside.keeps) (sym marked) ∙ sym beside.seats

-- How many messages are on the way.

link-way : (past : List Entry) (hand : Hand) (keeps : Bool) → links past hand (seats_with (mark_by hand) keeps) ≡ length (link_by past hand)
link-way past Empty keeps = refl
link-way past (Waiting entry) keeps = refl
link-way past (Applied entry) keeps = refl
link-way past (Ready entry) keeps = refl

back-way : (past : List Entry) (hand : Hand) (keeps : Bool) → backs past (seats_with (mark_by hand) keeps) ≡ length (back_by past hand)
back-way past Empty keeps = refl
back-way past (Waiting entry) keeps = refl
back-way past (Applied entry) keeps = refl
back-way past (Ready entry) keeps = refl

pub links-are : (state : State Alone) → IsCold state → length (link_by state.world.core.answered state.world.core.hand) ≡ links state.world.core.answered state.world.core.hand state.peers.mirrored.seats
links-are state cold =
    let core = state.world.core in
    sym (link-way core.answered core.hand cold.1.keeps) ∙ ap (links core.answered core.hand) (seats-are state cold)

pub backs-are : (state : State Alone) → IsCold state → length (back_by state.world.core.answered state.world.core.hand) ≡ backs state.world.core.answered state.peers.mirrored.seats
backs-are state cold =
    let core = state.world.core in
    sym (back-way core.answered core.hand cold.1.keeps) ∙ ap (backs core.answered) (seats-are state cold)

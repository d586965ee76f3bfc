-- An accepted entry goes to the servers to which it goes by the definitions; and once an entry is worked nothing of it is left.
use Rattle.std.proofs.Common.{◌≡◌, suc, true, false, Some, None, List, [], ◌∷◌, length, refl, ap, ◌∙◌}
use Rattle.std.specs.List.{AllByRecursion}
use Rattle.wire.specs.declared.message.Message.TheVariants as wire
use Rattle.plain_service.specs.Setups.{Setup}
use Rattle.cluster_facts.specs.Types.{Entry}
use Rattle.cluster_facts.specs.History.{Empty, Waiting}
use Rattle.group_cluster.specs.Seats.{Clear, Sent, Took, Stance, Out, Owed, Linking, Standby, on_seats, Agree}
use Rattle.group_cluster.specs.Seats as defined
use Rattle.group_cluster.specs.Group as defines
use Rattle.group_servers.specs.declared.group.Seat.{Seat}
use Rattle.group_servers.specs.Spread.{sent_to, all_sent}
use Rattle.group_servers.specs.GroupNodes.{seat_by, seats_by}

spread-one : (setup : Setup) (past : List Entry) (entry : Entry) (seat : defined.Seat) (stance : Stance) → Agree Empty stance → sent_to (wire.Mirror (suc (length past)) entry) (seat_by setup past Empty (record { server = seat.server; stance = stance })) ≡ seat_by setup past (Waiting entry) (record { server = seat.server; stance = defines.sent_to stance })
spread-one setup past entry seat Out agree = refl
spread-one setup past entry seat Owed agree = elim agree [ ]
spread-one setup past entry seat (Linking true) agree = elim agree [ ]
spread-one setup past entry seat (Linking false) agree = refl
spread-one setup past entry seat (Standby None Clear keeps) agree = refl
spread-one setup past entry seat (Standby (Some number) Clear keeps) agree = refl
spread-one setup past entry seat (Standby on_way Sent keeps) agree = elim agree [ ]
spread-one setup past entry seat (Standby on_way Took keeps) agree = elim agree [ ]

pub spread-own : (setup : Setup) (past : List Entry) (entry : Entry) (seats : List defined.Seat) → AllByRecursion (λ (seat : defined.Seat). Agree Empty seat.stance) seats → all_sent (wire.Mirror (suc (length past)) entry) (seats_by setup past Empty seats) ≡ seats_by setup past (Waiting entry) (on_seats defines.sent_to seats)
spread-own setup past entry [] agree = refl
spread-own setup past entry (seat ∷ seats) agree =
    let first = spread-one setup past entry seat seat.stance agree.0 in
    let others = spread-own setup past entry seats agree.1 in
    ap (λ (s : Seat). s ∷ all_sent (wire.Mirror (suc (length past)) entry) (seats_by setup past Empty seats)) first
    ∙ ap (λ (rest : List Seat). seat_by setup past (Waiting entry) (record { server = seat.server; stance = defines.sent_to seat.stance }) ∷ rest) others

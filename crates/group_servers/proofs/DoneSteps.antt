-- What the servers are once the entry in hand is worked.
use Rattle.std.proofs.Common.{◌≡◌, Bool, true, false, ◌||◌, if◌then◌else◌, Some, None, List, [], ◌∷◌, refl, ap, sym, ◌∙◌, subst}
use Rattle.script_lines.specs.declared.line.Server.{Server}
use Rattle.plain_service.specs.Setups.{Setup}
use Rattle.cluster_facts.specs.Types.{Entry}
use Rattle.cluster_facts.specs.History.{Empty, Ready}
use Rattle.mirror.specs.declared.state.NodeState.{NodeState as Node}
use Rattle.mirror.specs.declared.node.Tie.TheVariants.{Apart, Linked}
use Rattle.mirror.specs.Replicas.{at_rest}
use Rattle.mirror.specs.Pairing.{worked_out}
use Rattle.group_cluster.specs.Seats as defined
use Rattle.group_cluster.specs.Seats.{Clear, Sent, Took, Stance, Out, Owed, Linking, Standby, Agree, any_seat, on_seats}
use Rattle.group_cluster.specs.Group.{linked}
use Rattle.group_cluster.proofs.Seating.{AllSeats}
use Rattle.group_servers.specs.declared.group.Seat.{Seat}
use Rattle.group_servers.specs.GroupNodes.{is_linked, active_by, seat_by, seats_by}
use Rattle.group_servers.specs.Owing.{LinksAll}
use Rattle.group_servers.proofs.SeatSteps.{at}

-- a server to which the value of the service is owed
abbrev owes : Stance → Bool
owes Owed = true
owes _ = false

-- the active server with nothing in hand, tied to others or not
abbrev pub rested : Setup → List Entry → Bool → Node
rested setup past tied = record { replica = at_rest setup past; waits = None; tie = if tied then Linked else Apart; promised = []; kept = None }

or-true : (b other : Bool) → (b || (true || other)) ≡ (true || other)
or-true true other = refl
or-true false other = refl

or-mix : (one two others more : Bool) → ((one || two) || (others || more)) ≡ ((one || others) || (two || more))
or-mix true two others more = refl
or-mix false true true more = refl
or-mix false true false more = refl
or-mix false false others more = refl

linked-one : (stance : Stance) → is_linked (linked stance) ≡ (is_linked stance || owes stance)
linked-one Out = refl
linked-one Owed = refl
linked-one (Linking sent) = refl
linked-one (Standby on_way mark keeps) = refl

linked-any : (owns : List defined.Seat) → any_seat is_linked (on_seats linked owns) ≡ (any_seat is_linked owns || any_seat owes owns)
linked-any [] = refl
linked-any (seat ∷ owns) =
    (λ i. linked-one seat.stance i || linked-any owns i) ∙ or-mix (is_linked seat.stance) (owes seat.stance) (any_seat is_linked owns) (any_seat owes owns)

links-all : (setup : Setup) (past : List Entry) (entry : Entry) (owns : List defined.Seat) (news : List Seat) (tied : Bool) (active : Node) → AllSeats (Agree (Ready entry)) owns → LinksAll (seats_by setup past (Ready entry) owns) news (rested setup (entry ∷ past) tied) active → (news ≡ seats_by setup (entry ∷ past) Empty (on_seats linked owns)) × (active ≡ rested setup (entry ∷ past) (tied || any_seat owes owns))
links-all setup past entry [] [] tied active agree links = (refl, links ∙ ap (rested setup (entry ∷ past)) (by tied))
  where
    by : (b : Bool) → b ≡ (b || false)
    by true = refl
    by false = refl
links-all setup past entry [] (new ∷ news) tied active agree links = elim links [ ]
links-all setup past entry (own ∷ owns) [] tied active agree links = elim links [ ]
links-all setup past entry (own ∷ owns) (new ∷ news) tied active agree links =
    by own.stance agree.0 links (λ b rest. links-all setup past entry owns news b active agree.1 rest)
  where
    Deeper : Type 0
    Deeper = (b : Bool) → LinksAll (seats_by setup past (Ready entry) owns) news (rested setup (entry ∷ past) b) active → (news ≡ seats_by setup (entry ∷ past) Empty (on_seats linked owns)) × (active ≡ rested setup (entry ∷ past) (b || any_seat owes owns))

    one : (server : Server) (stance : Stance) (b : Bool) → new ≡ seat_by setup (entry ∷ past) Empty (at server (linked stance)) → (news ≡ seats_by setup (entry ∷ past) Empty (on_seats linked owns)) × (active ≡ rested setup (entry ∷ past) (b || any_seat owes owns)) → b ≡ b → (new ∷ news ≡ seats_by setup (entry ∷ past) Empty (at server (linked stance) ∷ on_seats linked owns)) × (active ≡ rested setup (entry ∷ past) (b || any_seat owes owns))
    one server stance b first rest same = ((λ i. first i ∷ rest.0 i), rest.1)

    by : (stance : Stance) → Agree (Ready entry) stance → LinksAll (seats_by setup past (Ready entry) (at own.server stance ∷ owns)) (new ∷ news) (rested setup (entry ∷ past) tied) active → Deeper → (new ∷ news ≡ seats_by setup (entry ∷ past) Empty (on_seats linked (at own.server stance ∷ owns))) × (active ≡ rested setup (entry ∷ past) (tied || (owes stance || any_seat owes owns)))
    by Out agrees all deeper = one own.server Out tied all.0 (deeper tied all.1) refl
    by Owed agrees all deeper =
        let rest = deeper true all.1 in
        ((λ i. all.0 i ∷ rest.0 i), rest.1 ∙ ap (rested setup (entry ∷ past)) (sym (or-true tied (any_seat owes owns))))
    by (Linking true) agrees all deeper = elim agrees [ ]
    by (Linking false) agrees all deeper = elim agrees [ ]
    by (Standby None Clear true) agrees all deeper = one own.server (Standby None Clear true) tied all.0 (deeper tied all.1) refl
    by (Standby (Some number) Clear true) agrees all deeper = one own.server (Standby (Some number) Clear true) tied all.0 (deeper tied all.1) refl
    by (Standby on_way Clear false) agrees all deeper = elim agrees [ ]
    by (Standby on_way Sent keeps) agrees all deeper = elim agrees [ ]
    by (Standby on_way Took keeps) agrees all deeper = elim agrees [ ]

-- the active server that worked
worked-rests : (setup : Setup) (past : List Entry) (entry : Entry) (owns : List defined.Seat) → worked_out (active_by setup past (Ready entry) owns) ≡ rested setup (entry ∷ past) (any_seat is_linked owns)
worked-rests setup past entry owns = by (any_seat is_linked owns)
  where
    by : (b : Bool) → worked_out (record (active_by setup past (Ready entry) owns) { tie = if b then Linked else Apart }) ≡ rested setup (entry ∷ past) b
    by true = refl
    by false = refl

-- **it is tied to those that were linked and those that it sends the value now**
pub done-by : (setup : Setup) (past : List Entry) (entry : Entry) (owns : List defined.Seat) (news : List Seat) (active : Node) → AllSeats (Agree (Ready entry)) owns → LinksAll (seats_by setup past (Ready entry) owns) news (worked_out (active_by setup past (Ready entry) owns)) active → (news ≡ seats_by setup (entry ∷ past) Empty (on_seats linked owns)) × (active ≡ active_by setup (entry ∷ past) Empty (on_seats linked owns))
done-by setup past entry owns news active agree links =
    let L : Node → Type 0 = λ node. LinksAll (seats_by setup past (Ready entry) owns) news node active in
    let all = links-all setup past entry owns news (any_seat is_linked owns) active agree (subst L (worked-rests setup past entry owns) links) in
    (all.0, all.1 ∙ ap (rested setup (entry ∷ past)) (sym (linked-any owns)))

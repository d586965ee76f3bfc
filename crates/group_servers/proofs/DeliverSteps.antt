-- What a message that reaches a server beside the active one comes to.
use Rattle.std.proofs.Common.{◌≡◌, ℕ, suc, Bool, true, false, if◌then◌else◌, Option, Some, None, List, [], ◌∷◌, ◌++◌, ◌⊎◌, inl, inr, ◌||◌, length, map, refl, ap, sym, ◌∙◌, subst, arith}
use Rattle.std.specs.List.{AllByRecursion}
use Rattle.std.proofs.lemmas.Bool.{or_right}
use Rattle.script_lines.specs.declared.line.Server.{Server}
use Rattle.wire.specs.declared.message.Message.{Message}
use Rattle.wire.specs.declared.message.Message.TheVariants as wire
use Rattle.plain_service.specs.Setups.{Setup}
use Rattle.plain_service.specs.Legal.{IsHistory, CanFollow}
use Rattle.plain_service.specs.Values.{saved_of}
use Rattle.service_fit.proofs.HistoryFit.{history-fit}
use Rattle.service_core.specs.Applying.{CanApply}
use Rattle.service_laws.specs.PlainOf.{plain_of}
use Rattle.cluster_facts.specs.Types.{Entry, Called, Receipted}
use Rattle.cluster_facts.specs.History.{Hand, Empty, Waiting, Applied, Ready, MayFollow}
use Rattle.cluster_events.specs.Lines.{Told, Stood}
use Rattle.cluster_events.specs.declared.lines.ServerRole.TheVariants as role
use Rattle.event_text.specs.Texts.{printed}
use Rattle.mirror.specs.declared.heard.Heard.{Heard}
use Rattle.mirror.specs.declared.heard.Role.TheVariants.{Standby as StandsBy, Joining}
use Rattle.mirror.specs.Pairing.{IsReceived, alone, joining}
use Rattle.mirror.proofs.Judging.{next-number}
use Rattle.mirror.proofs.ReplicaLaws.{count-is, next-of, new-of}
use Rattle.group_cluster.specs.Seats as defined
use Rattle.group_cluster.specs.Seats.{Mark, Clear, Sent, Took, Stance, Out, Owed, Linking, Standby, Agree, is_sent, is_took, any_seat, link_of, back_of, join_ack}
use Rattle.group_cluster.specs.Group.{Turn, mirrored, first_turn, turned_or}
use Rattle.group_cluster.proofs.Seating.{AllSeats, AreRoles, silent, stood, IsTurning, Turns}
use Rattle.group_servers.specs.declared.group.Seat.{Seat}
use Rattle.group_servers.specs.Delivered.{CanTake, CanTakeBy, TellsDelivered, Comes, FirstComes}
use Rattle.group_servers.specs.Delivered.FirstComes.{nowhere, here, there}
use Rattle.group_servers.specs.GroupNodes.{is_linked, history_by, node_by, standby_by, to_server, from_server, seat_by, seats_by}
use Rattle.group_servers.proofs.SeatSteps.{at}

-- The parts of a list that is another.

pub first-of : {X : Type 0} {x y : X} {xs ys : List X} → x ∷ xs ≡ y ∷ ys → x ≡ y
first-of {x = x} {y = y} is = ap (λ list. head_or list x) is
  where
    head_or : {X : Type 0} → List X → X → X
    head_or [] other = other
    head_or (first ∷ rest) other = first

pub rest-of : {X : Type 0} {x y : X} {xs ys : List X} → x ∷ xs ≡ y ∷ ys → xs ≡ ys
rest-of is = ap tail_of is
  where
    tail_of : {X : Type 0} → List X → List X
    tail_of [] = []
    tail_of (first ∷ rest) = rest

-- What a server is sent it can receive.

can-apply : (setup : Setup) (past : List Entry) (entry : Entry) → CanFollow setup entry past → MayFollow (plain_of setup) past entry → CanApply entry (saved_of setup past)
can-apply setup past (Called client seq now call) can may =
    let number = count-is setup past in
    let few = can.0.few in
    (record { caller = can.0.caller; time = can.0.time; few = omega arith }, can.1 ∙ next-number setup client past ∙ sym (next-of setup past client))
can-apply setup past (Receipted client key through now) can may =
    let number = count-is setup past in
    let few = can.0.few in
    (record { caller = can.0.caller; time = can.0.time; few = omega arith }, new-of setup past client key through ∙ may)

-- what an entry that waits may be
abbrev pub MayCome : Setup → List Entry → Hand → Type 0
MayCome setup past (Waiting entry) = CanFollow setup entry past × MayFollow (plain_of setup) past entry
MayCome setup past hand = Unit {0}

can-take : (setup : Setup) (past : List Entry) (hand : Hand) (stance : Stance) → IsHistory setup past → MayCome setup past hand → Agree hand stance → CanTakeBy (map (to_server setup) (link_of past hand stance)) (node_by setup past hand stance)
can-take setup past hand Out history may agree = tt
can-take setup past hand Owed history may agree = tt
can-take setup past hand (Linking true) history may agree = λ moment. history-fit setup past history
can-take setup past hand (Linking false) history may agree = λ moment. history-fit setup past history
can-take setup past (Waiting entry) (Standby on_way Sent keeps) history may agree = λ moment. can-apply setup past entry may.0 may.1
can-take setup past Empty (Standby on_way Sent keeps) history may agree = tt
can-take setup past (Applied entry) (Standby on_way Sent keeps) history may agree = tt
can-take setup past (Ready entry) (Standby on_way Sent keeps) history may agree = tt
can-take setup past hand (Standby on_way Clear keeps) history may agree = tt
can-take setup past hand (Standby on_way Took keeps) history may agree = tt

pub all-take : (setup : Setup) (past : List Entry) (hand : Hand) (owns : List defined.Seat) → IsHistory setup past → MayCome setup past hand → AllSeats (Agree hand) owns → AllByRecursion CanTake (seats_by setup past hand owns)
all-take setup past hand [] history may agree = tt
all-take setup past hand (seat ∷ owns) history may agree =
    (can-take setup past hand seat.stance history may agree.0, all-take setup past hand owns history may agree.1)

-- A message comes to one server.

-- what it applied, and what is told of it, by whether the entry in hand goes on to some server, and whether one took it
abbrev pub CameBy : Hand → Option Entry → List Told → (sent took : Bool) → Type 0
CameBy (Waiting entry) committed told sent took =
    ((committed ≡ Some entry) × (took ≡ true) × (told ≡ [])) ⊎ ((committed ≡ None) × (sent ≡ true))
CameBy Empty committed told sent took = committed ≡ None
CameBy _ committed told sent took = ⊥

or-here : (one other : Bool) → one ≡ true → (one || other) ≡ true
or-here one other is = ap (λ b. b || other) is

came-here : (hand : Hand) (committed : Option Entry) (told : List Told) (sent took others_sent others_took : Bool) → CameBy hand committed told sent took → CameBy hand committed told (sent || others_sent) (took || others_took)
came-here (Waiting entry) committed told sent took others_sent others_took (inl came) = inl (came.0, or-here took others_took came.1, came.2)
came-here (Waiting entry) committed told sent took others_sent others_took (inr came) = inr (came.0, or-here sent others_sent came.1)
came-here Empty committed told sent took others_sent others_took came = came
came-here (Applied entry) committed told sent took others_sent others_took came = elim came [ ]
came-here (Ready entry) committed told sent took others_sent others_took came = elim came [ ]

came-there : (hand : Hand) (committed : Option Entry) (told : List Told) (sent took first_sent first_took : Bool) → CameBy hand committed told sent took → CameBy hand committed told (first_sent || sent) (first_took || took)
came-there (Waiting entry) committed told sent took first_sent first_took (inl came) = inl (came.0, or_right first_took took came.1, came.2)
came-there (Waiting entry) committed told sent took first_sent first_took (inr came) = inr (came.0, or_right first_sent sent came.1)
came-there Empty committed told sent took first_sent first_took came = came
came-there (Applied entry) committed told sent took first_sent first_took came = elim came [ ]
came-there (Ready entry) committed told sent took first_sent first_took came = elim came [ ]

-- what the server becomes, with the line of its role
pub record TurnsOne (setup : Setup) (past : List Entry) (hand : Hand) (server : Server) (stance : Stance) (committed : Option Entry) (new : Seat) (before after : List (List ℕ)) : Type 0 where
  pub now : Stance
  pub told : List Told
  pub is : mirrored past server stance ≡ Some (now, told)
  pub seat : new ≡ seat_by setup past hand (at server now)
  pub lines : after ≡ before ++ printed told
  pub roles : AreRoles told
  pub came : CameBy hand committed told (is_sent now) (is_took now)
  pub linked : is_linked now ≡ is_linked stance

-- a server that joins gets the value of the service: it is standby, with what is on the way behind
snapshot-turn : (setup : Setup) (past : List Entry) (hand : Hand) (server : Server) (mark : Mark) (others : List Message) (committed : Option Entry) (new : Seat) (before after : List (List ℕ)) → history_by past hand mark ≡ past → map (to_server setup) (link_of past hand (Standby (Some (length past)) mark false)) ≡ others → map from_server (back_of past (Standby (Some (length past)) mark false)) ≡ wire.JoinAck (length past) ∷ [] → Comes (Some committed) (record { server = server; node = alone joining; link = wire.Snapshot (saved_of setup past) ∷ others; back = [] }) new before after → (new ≡ seat_by setup past hand (at server (Standby (Some (length past)) mark false))) × (after ≡ before ++ printed (Stood server role.Standby ∷ [])) × (committed ≡ None)
snapshot-turn setup past hand server mark others committed new before after history link back comes =
    let delivers = comes.2 in
    let saved = saved_of setup past in
    let R : Message → Type 0 = λ m. IsReceived Joining m delivers.hears.moment (alone joining) delivers.heard new.node in
    let received = subst R (sym (first-of delivers.first)) delivers.hears.received in
    let T : Heard → Type 0 = λ heard. TellsDelivered server heard committed [] new.back before after in
    let told = subst T received.0 delivers.told in
    let node : new.node ≡ standby_by setup (history_by past hand mark) false = received.1 ∙ ap (λ past. standby_by setup past false) (sym history) in
    let rest : comes.1 ≡ map (to_server setup) (link_of past hand (Standby (Some (length past)) mark false)) = sym (rest-of delivers.first) ∙ sym link in
    let ways : new.back ≡ map from_server (back_of past (Standby (Some (length past)) mark false)) = told.back ∙ ap (λ number. wire.JoinAck number ∷ []) (count-is setup past) ∙ sym back in
    (delivers.is ∙ (λ i. record { server = server; node = node i; link = rest i; back = ways i }), told.lines, told.committed_is)

back-took : (past : List Entry) (on_way : Option ℕ) (keeps : Bool) → map from_server (join_ack on_way) ++ wire.MirrorAck (suc (length past)) ∷ [] ≡ map from_server (back_of past (Standby on_way Took keeps))
back-took past None keeps = refl
back-took past (Some number) keeps = refl

-- a standby applies an entry
entry-turn : (setup : Setup) (past : List Entry) (server : Server) (entry : Entry) (on_way : Option ℕ) (keeps : Bool) (committed : Option Entry) (new : Seat) (before after : List (List ℕ)) → IsHistory setup past → CanFollow setup entry past → Comes (Some committed) (seat_by setup past (Waiting entry) (at server (Standby on_way Sent keeps))) new before after → (new ≡ seat_by setup past (Waiting entry) (at server (Standby on_way Took true))) × (after ≡ before ++ []) × (committed ≡ Some entry)
entry-turn setup past server entry on_way keeps committed new before after history can comes =
    let delivers = comes.2 in
    let number = suc (length past) in
    let start = standby_by setup past keeps in
    let R : Message → Type 0 = λ m. IsReceived StandsBy m delivers.hears.moment start delivers.heard new.node in
    let received = subst R (sym (first-of delivers.first)) delivers.hears.received in
    let T : Heard → Type 0 = λ heard. TellsDelivered server heard committed (map from_server (join_ack on_way)) new.back before after in
    let told = subst T received.0 delivers.told in
    let node : new.node ≡ standby_by setup (entry ∷ past) true = received.1 setup past history can refl in
    let rest : comes.1 ≡ [] = sym (rest-of delivers.first) in
    let ways : new.back ≡ map from_server (back_of past (Standby on_way Took true)) = told.back ∙ back-took past on_way true in
    (delivers.is ∙ (λ i. record { server = server; node = node i; link = rest i; back = ways i }), told.lines, told.committed_is)

turns-at : (setup : Setup) (past : List Entry) (hand : Hand) (server : Server) (stance : Stance) (committed : Option Entry) (new : Seat) (before after : List (List ℕ)) → IsHistory setup past → MayCome setup past hand → Agree hand stance → Comes (Some committed) (seat_by setup past hand (at server stance)) new before after → TurnsOne setup past hand server stance committed new before after
turns-at setup past (Waiting entry) server (Linking true) committed new before after history may agree comes =
    let turn = snapshot-turn setup past (Waiting entry) server Sent (wire.Mirror (suc (length past)) entry ∷ []) committed new before after refl refl refl comes in
    record { now = Standby (Some (length past)) Sent false; told = Stood server role.Standby ∷ []; is = refl; seat = turn.0; lines = turn.1; roles = stood server; came = inr (turn.2, refl); linked = refl }
turns-at setup past Empty server (Linking false) committed new before after history may agree comes =
    let turn = snapshot-turn setup past Empty server Clear [] committed new before after refl refl refl comes in
    record { now = Standby (Some (length past)) Clear false; told = Stood server role.Standby ∷ []; is = refl; seat = turn.0; lines = turn.1; roles = stood server; came = turn.2; linked = refl }
turns-at setup past (Waiting entry) server (Standby on_way Sent keeps) committed new before after history may agree comes =
    let turn = entry-turn setup past server entry on_way keeps committed new before after history may.0 comes in
    record { now = Standby on_way Took true; told = []; is = refl; seat = turn.0; lines = turn.1; roles = silent; came = inl (turn.2, refl, refl); linked = refl }
turns-at setup past Empty server (Linking true) committed new before after history may agree comes = elim agree [ ]
turns-at setup past (Applied entry) server (Linking sent) committed new before after history may agree comes = elim agree [ ]
turns-at setup past (Ready entry) server (Linking sent) committed new before after history may agree comes = elim agree [ ]
turns-at setup past (Waiting entry) server (Linking false) committed new before after history may agree comes = elim agree [ ]
turns-at setup past hand server Out committed new before after history may agree comes = let first = comes.2.first in cc
turns-at setup past hand server Owed committed new before after history may agree comes = let first = comes.2.first in cc
turns-at setup past hand server (Standby on_way Clear keeps) committed new before after history may agree comes = let first = comes.2.first in cc
turns-at setup past hand server (Standby on_way Took keeps) committed new before after history may agree comes = let first = comes.2.first in cc
turns-at setup past Empty server (Standby on_way Sent keeps) committed new before after history may agree comes = elim agree [ ]
turns-at setup past (Applied entry) server (Standby on_way Sent keeps) committed new before after history may agree comes = elim agree [ ]
turns-at setup past (Ready entry) server (Standby on_way Sent keeps) committed new before after history may agree comes = elim agree [ ]

-- to which nothing is on the way it does not turn
none-turns : (setup : Setup) (past : List Entry) (hand : Hand) (server : Server) (stance : Stance) → Agree hand stance → map (to_server setup) (link_of past hand stance) ≡ [] → mirrored past server stance ≡ None
none-turns setup past hand server Out agree none = refl
none-turns setup past hand server Owed agree none = refl
none-turns setup past hand server (Linking true) agree none = cc
none-turns setup past hand server (Linking false) agree none = cc
none-turns setup past hand server (Standby on_way Clear keeps) agree none = refl
none-turns setup past hand server (Standby on_way Took keeps) agree none = refl
none-turns setup past (Waiting entry) server (Standby on_way Sent keeps) agree none = cc
none-turns setup past Empty server (Standby on_way Sent keeps) agree none = elim agree [ ]
none-turns setup past (Applied entry) server (Standby on_way Sent keeps) agree none = elim agree [ ]
none-turns setup past (Ready entry) server (Standby on_way Sent keeps) agree none = elim agree [ ]

-- A turn of these servers alone.

abbrev pub turn_of : (Server → Bool) → Turn → Turn
turn_of these turn server stance = if these server then turn server stance else None

pub of-these : (these : Server → Bool) (turn : Turn) (server : Server) (stance : Stance) (found : Option (Stance × List Told)) → these server ≡ true → turn server stance ≡ found → turn_of these turn server stance ≡ found
of-these these turn server stance found one is = ap (λ b. if b then turn server stance else None) one ∙ is

-- it is none of these, or the turn gives nothing
pub of-none : (these : Server → Bool) (turn : Turn) (server : Server) (stance : Stance) → (these server ≡ true → turn server stance ≡ None) → turn_of these turn server stance ≡ None
of-none these turn server stance none = by (these server) refl
  where
    by : (b : Bool) → these server ≡ b → turn_of these turn server stance ≡ None
    by true is = of-these these turn server stance None is (none is)
    by false is = ap (λ b. if b then turn server stance else None) is

pub these-turns : (these : Server → Bool) (hand : Hand) (turn : Turn) → IsTurning hand turn → IsTurning hand (turn_of these turn)
these-turns these hand turn turns server stance found =
    let S : Bool → Type 0 = λ b. (if b then turn server stance else None) ≡ Some found → Agree hand stance → Turns hand (turn_of these turn) server stance found in
    elim (these server) as S [
      | true ↦ λ is agree.
          let leaves = turns server stance found is agree in
          record { agree = leaves.agree; standby = leaves.standby; shown = leaves.shown; fewer = leaves.fewer; roles = leaves.roles }
      | false ↦ λ is agree. cc
    ]

-- A message comes to the first of these servers to which one is on the way.

pub record TurnsAll (these : Server → Bool) (setup : Setup) (past : List Entry) (hand : Hand) (owns : List defined.Seat) (committed : Option Entry) (news : List Seat) (before after : List (List ℕ)) : Type 0 where
  pub seats : List defined.Seat
  pub told : List Told
  pub is : first_turn (turn_of these (mirrored past)) owns ≡ Some (seats, told)
  pub news_are : news ≡ seats_by setup past hand seats
  pub lines : after ≡ before ++ printed told
  pub roles : AreRoles told
  pub came : CameBy hand committed told (any_seat is_sent seats) (any_seat is_took seats)
  pub linked : any_seat is_linked seats ≡ any_seat is_linked owns

abbrev pub IsDelivered : (Server → Bool) → Setup → List Entry → Hand → List defined.Seat → Option (Option Entry) → List Seat → List (List ℕ) → List (List ℕ) → Type 0
IsDelivered these setup past hand owns None news before after = (first_turn (turn_of these (mirrored past)) owns ≡ None) × (news ≡ seats_by setup past hand owns) × (after ≡ before)
IsDelivered these setup past hand owns (Some committed) news before after = TurnsAll these setup past hand owns committed news before after

turned-here : (these : Server → Bool) (setup : Setup) (past : List Entry) (hand : Hand) (own : defined.Seat) (owns : List defined.Seat) (committed : Option Entry) (new : Seat) (before after : List (List ℕ)) → these own.server ≡ true → TurnsOne setup past hand own.server own.stance committed new before after → TurnsAll these setup past hand (own ∷ owns) committed (new ∷ seats_by setup past hand owns) before after
turned-here these setup past hand own owns committed new before after one_of one = record {
  seats = at own.server one.now ∷ owns;
  told = one.told;
  is = ap (λ found. turned_or own found owns (first_turn (turn_of these (mirrored past)) owns)) (of-these these (mirrored past) own.server own.stance (Some (one.now, one.told)) one_of one.is);
  news_are = ap (λ seat. seat ∷ seats_by setup past hand owns) one.seat;
  lines = one.lines;
  roles = one.roles;
  came = came-here hand committed one.told (is_sent one.now) (is_took one.now) (any_seat is_sent owns) (any_seat is_took owns) one.came;
  linked = ap (λ b. b || any_seat is_linked owns) one.linked;
}

turned-there : (these : Server → Bool) (setup : Setup) (past : List Entry) (hand : Hand) (own : defined.Seat) (owns : List defined.Seat) (found : Option (Option Entry)) (seat : Seat) (news : List Seat) (before after : List (List ℕ)) → seat ≡ seat_by setup past hand own → turn_of these (mirrored past) own.server own.stance ≡ None → IsDelivered these setup past hand owns found news before after → IsDelivered these setup past hand (own ∷ owns) found (seat ∷ news) before after
turned-there these setup past hand own owns None seat news before after is none rest =
    ((λ i. turned_or own (none i) owns (rest.0 i)), (λ i. is i ∷ rest.1 i), rest.2)
turned-there these setup past hand own owns (Some committed) seat news before after is none rest = record {
  seats = own ∷ rest.seats;
  told = rest.told;
  is = λ i. turned_or own (none i) owns (rest.is i);
  news_are = λ i. is i ∷ rest.news_are i;
  lines = rest.lines;
  roles = rest.roles;
  came = came-there hand committed rest.told (any_seat is_sent rest.seats) (any_seat is_took rest.seats) (is_sent own.stance) (is_took own.stance) rest.came;
  linked = ap (λ b. is_linked own.stance || b) rest.linked;
}

-- **what the code delivered**
pub deliver-turns : (these : Server → Bool) (setup : Setup) (past : List Entry) (hand : Hand) (owns : List defined.Seat) (found : Option (Option Entry)) (seats news : List Seat) (before after : List (List ℕ)) → IsHistory setup past → MayCome setup past hand → AllSeats (Agree hand) owns → seats ≡ seats_by setup past hand owns → FirstComes these found seats news before after → IsDelivered these setup past hand owns found news before after
deliver-turns these setup past hand [] found seats news before after history may agree is nowhere = (refl, refl, refl)
deliver-turns these setup past hand (own ∷ owns) found seats news before after history may agree is nowhere = cc
deliver-turns these setup past hand [] found seats news before after history may agree is (here old new one_of comes) = cc
deliver-turns these setup past hand [] found seats news before after history may agree is (there seat none deeper) = cc
deliver-turns these setup past hand (own ∷ owns) found seats news before after history may agree is (here {committed = committed} old new one_of comes) =
    let C : Seat → Type 0 = λ seat. Comes (Some committed) seat new before after in
    let one = turns-at setup past hand own.server own.stance committed new before after history may agree.0 (subst C (first-of is) comes) in
    let own_of : these own.server ≡ true = subst (λ (s : Seat). these s.server ≡ true) (first-of is) one_of in
    subst (λ rest. TurnsAll these setup past hand (own ∷ owns) committed (new ∷ rest) before after) (sym (rest-of is)) (turned-here these setup past hand own owns committed new before after own_of one)
deliver-turns these setup past hand (own ∷ owns) found seats news before after history may agree is (there {seats = others} {news = more} seat none deeper) =
    let rest = deliver-turns these setup past hand owns found others more before after history may agree.1 (rest-of is) deeper in
    let same : these own.server ≡ these seat.server = ap (λ (s : Seat). these s.server) (sym (first-of is)) in
    let empty : these own.server ≡ true → mirrored past own.server own.stance ≡ None = λ one_of.
    none-turns setup past hand own.server own.stance agree.0 (sym (ap (λ (s : Seat). s.link) (first-of is)) ∙ none (sym same ∙ one_of)) in
    turned-there these setup past hand own owns found seat more before after (first-of is) (of-none these (mirrored past) own.server own.stance empty) rest

-- Where nothing was on the way all stays.

abbrev pub StaysBy : Option (Option Entry) → List Seat → List Seat → List (List ℕ) → List (List ℕ) → Type 0
StaysBy None olds news before after = (news ≡ olds) × (after ≡ before)
StaysBy (Some committed) olds news before after = Unit {0}

stays-there : (found : Option (Option Entry)) (seat : Seat) (olds news : List Seat) (before after : List (List ℕ)) → StaysBy found olds news before after → StaysBy found (seat ∷ olds) (seat ∷ news) before after
stays-there None seat olds news before after stays = (ap (λ (rest : List Seat). seat ∷ rest) stays.0, stays.1)
stays-there (Some committed) seat olds news before after stays = tt

pub comes-stays : (these : Server → Bool) (found : Option (Option Entry)) (olds news : List Seat) (before after : List (List ℕ)) → FirstComes these found olds news before after → StaysBy found olds news before after
comes-stays these found olds news before after nowhere = (refl, refl)
comes-stays these found olds news before after (here old new one_of comes) = tt
comes-stays these found olds news before after (there {seats = others} {news = more} seat none deeper) =
    stays-there found seat others more before after (comes-stays these found others more before after deeper)

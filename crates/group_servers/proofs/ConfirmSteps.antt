-- What a message comes to that comes back to the active server.
use Rattle.std.proofs.Common.{◌≡◌, ℕ, suc, ℤ, Bool, true, false, ◌&&◌, ◌||◌, not, ◌⊎◌, inl, inr, if◌then◌else◌, Option, Some, None, List, [], ◌∷◌, ◌++◌, length, map, refl, ap, sym, ◌∙◌, subst, append-nil}
use Rattle.std.proofs.lemmas.Bool.{or_parts}
use Rattle.script_lines.specs.declared.line.Server.{Server}
use Rattle.wire.specs.declared.message.Message.{Message}
use Rattle.wire.specs.declared.message.Message.TheVariants as wire
use Rattle.plain_service.specs.Setups.{Setup}
use Rattle.cluster_facts.specs.Types.{Entry}
use Rattle.cluster_facts.specs.History.{Hand, Empty, Waiting, Applied, Ready, committed_by}
use Rattle.cluster_events.specs.Lines.{Committed}
use Rattle.cluster_events.specs.Servers.{State}
use Rattle.event_text.specs.Texts.{printed}
use Rattle.mirror.specs.declared.heard.Role.{Role}
use Rattle.mirror.specs.declared.heard.Role.TheVariants.{Active}
use Rattle.mirror.specs.declared.heard.Heard.{Heard}
use Rattle.mirror.specs.declared.state.NodeState.{NodeState as Node}
use Rattle.mirror.specs.declared.node.Tie.TheVariants.{Apart, Linked}
use Rattle.mirror.specs.Pairing.{CanReceive, IsReceived}
use Rattle.group_cluster.specs.Seats as defined
use Rattle.group_cluster.specs.Seats.{Clear, Sent, Took, Stance, Out, Owed, Linking, Standby, Peers, Agree, WaitsFor, is_sent, is_took, any_seat, back_of}
use Rattle.group_cluster.specs.Falling.{taken_by, looked_at, commitment, looked}
use Rattle.group_cluster.specs.Group.{confirmed, first_turn, turned_or, step_by}
use Rattle.group_cluster.proofs.Seating.{AllSeats, silent, confirmed-turns}
use Rattle.cluster_rounds.specs.declared.cluster.Cluster.{Cluster}
use Rattle.cluster_rounds.specs.Worlds.{Shows, IsGood, HasState}
use Rattle.group_servers.specs.declared.group.Seat.{Seat}
use Rattle.group_servers.specs.declared.group.Group.{Group}
use Rattle.group_servers.specs.Delivered.{TakesBack, ConfirmsBy, ConfirmsLast}
use Rattle.group_servers.specs.Delivered.TakesBack.{nothing, first, later}
use Rattle.group_servers.specs.Seats.{is_confirmation, still_waits}
use Rattle.group_servers.specs.GroupKit.{group_kit}
use Rattle.lead_rounds.specs.Leading.{waits_by}
use Rattle.group_servers.specs.GroupNodes.{is_linked, from_server, active_by, seat_by, seats_by}
use Rattle.group_servers.proofs.DeliverSteps.{first-of, rest-of, of-these, of-none, these-turns, turn_of}
use Rattle.group_servers.proofs.GoodSteps.{active-by}
use Rattle.group_servers.proofs.GroupSteps.{turn-step}
use Rattle.group_servers.proofs.LookSteps.{LinksAgree, waits_while, looked-seats, looked-active, rest-commits, turned-agrees}
use Rattle.group_servers.proofs.MirrorSteps.{StepHappened, stepped}
use Rattle.group_servers.proofs.SeatSteps.{at, unsent, waits-is}

-- A message comes back from one server.

-- it is the confirmation of an entry, or another one that tells nothing of it
abbrev pub BackBy : Message → (before now : Bool) → Type 0
BackBy message before now = (is_confirmation message ≡ true) ⊎ (now ≡ before)

pub record BackOne (setup : Setup) (past : List Entry) (hand : Hand) (server : Server) (stance : Stance) (message : Message) (new : Seat) : Type 0 where
  pub now : Stance
  pub is : confirmed server stance ≡ Some (now, [])
  pub seat : new ≡ seat_by setup past hand (at server now)
  pub came : BackBy message (is_took stance) (is_took now)
  pub sent : is_sent now ≡ is_sent stance
  pub linked : is_linked now ≡ is_linked stance
  pub confirms : (moment : ℤ) (node : Node) → CanReceive message moment node

back-at : (setup : Setup) (past : List Entry) (hand : Hand) (server : Server) (stance : Stance) (message : Message) (rest : List Message) (new : Seat) → map from_server (back_of past stance) ≡ message ∷ rest → new ≡ record (seat_by setup past hand (at server stance)) { back = rest } → BackOne setup past hand server stance message new
back-at setup past hand server (Standby (Some number) Clear keeps) message rest new front is = record {
  now = Standby None Clear keeps;
  is = refl;
  seat = is ∙ (λ i. record (seat_by setup past hand (at server (Standby (Some number) Clear keeps))) { back = sym (rest-of front) i });
  came = inr refl;
  sent = refl;
  linked = refl;
  confirms = λ moment node. subst (λ m. CanReceive m moment node) (first-of front) tt;
}
back-at setup past hand server (Standby (Some number) Sent keeps) message rest new front is = record {
  now = Standby None Sent keeps;
  is = refl;
  seat = is ∙ (λ i. record (seat_by setup past hand (at server (Standby (Some number) Sent keeps))) { back = sym (rest-of front) i });
  came = inr refl;
  sent = refl;
  linked = refl;
  confirms = λ moment node. subst (λ m. CanReceive m moment node) (first-of front) tt;
}
back-at setup past hand server (Standby (Some number) Took keeps) message rest new front is = record {
  now = Standby None Took keeps;
  is = refl;
  seat = is ∙ (λ i. record (seat_by setup past hand (at server (Standby (Some number) Took keeps))) { back = sym (rest-of front) i });
  came = inr refl;
  sent = refl;
  linked = refl;
  confirms = λ moment node. subst (λ m. CanReceive m moment node) (first-of front) tt;
}
back-at setup past hand server (Standby None Took keeps) message rest new front is = record {
  now = Standby None Clear keeps;
  is = refl;
  seat = is ∙ (λ i. record (seat_by setup past hand (at server (Standby None Took keeps))) { back = sym (rest-of front) i });
  came = inl (ap is_confirmation (sym (first-of front)));
  sent = refl;
  linked = refl;
  confirms = λ moment node. subst (λ m. CanReceive m moment node) (first-of front) tt;
}
back-at setup past hand server (Standby None Clear keeps) message rest new front is = cc
back-at setup past hand server (Standby None Sent keeps) message rest new front is = cc
back-at setup past hand server Out message rest new front is = cc
back-at setup past hand server Owed message rest new front is = cc
back-at setup past hand server (Linking sent) message rest new front is = cc

none-back : (past : List Entry) (server : Server) (stance : Stance) → map from_server (back_of past stance) ≡ [] → confirmed server stance ≡ None
none-back past server Out none = refl
none-back past server Owed none = refl
none-back past server (Linking sent) none = refl
none-back past server (Standby (Some number) Clear keeps) none = cc
none-back past server (Standby (Some number) Sent keeps) none = cc
none-back past server (Standby (Some number) Took keeps) none = cc
none-back past server (Standby None Took keeps) none = cc
none-back past server (Standby None Clear keeps) none = refl
none-back past server (Standby None Sent keeps) none = refl

-- From the first of these servers from which one is on the way.

pub record BackAll (these : Server → Bool) (setup : Setup) (past : List Entry) (hand : Hand) (owns : List defined.Seat) (message : Message) (news : List Seat) : Type 0 where
  pub seats : List defined.Seat
  pub is : first_turn (turn_of these confirmed) owns ≡ Some (seats, [])
  pub news_are : news ≡ seats_by setup past hand seats
  pub came : BackBy message (any_seat is_took owns) (any_seat is_took seats)
  pub sent : any_seat is_sent seats ≡ any_seat is_sent owns
  pub linked : any_seat is_linked seats ≡ any_seat is_linked owns
  pub confirms : (moment : ℤ) (node : Node) → CanReceive message moment node

abbrev pub IsBack : (Server → Bool) → Setup → List Entry → Hand → List defined.Seat → Option Message → List Seat → Type 0
IsBack these setup past hand owns None news = (first_turn (turn_of these confirmed) owns ≡ None) × (news ≡ seats_by setup past hand owns)
IsBack these setup past hand owns (Some message) news = BackAll these setup past hand owns message news

back-here : (message : Message) (one now others : Bool) → BackBy message one now → BackBy message (one || others) (now || others)
back-here message one now others (inl is) = inl is
back-here message one now others (inr is) = inr (ap (λ b. b || others) is)

back-there : (message : Message) (first_one one now : Bool) → BackBy message one now → BackBy message (first_one || one) (first_one || now)
back-there message first_one one now (inl is) = inl is
back-there message first_one one now (inr is) = inr (ap (λ b. first_one || b) is)

turned-back : (these : Server → Bool) (setup : Setup) (past : List Entry) (hand : Hand) (own : defined.Seat) (owns : List defined.Seat) (message : Message) (new : Seat) → these own.server ≡ true → BackOne setup past hand own.server own.stance message new → BackAll these setup past hand (own ∷ owns) message (new ∷ seats_by setup past hand owns)
turned-back these setup past hand own owns message new one_of one = record {
  seats = at own.server one.now ∷ owns;
  is = ap (λ found. turned_or own found owns (first_turn (turn_of these confirmed) owns)) (of-these these confirmed own.server own.stance (Some (one.now, [])) one_of one.is);
  news_are = ap (λ seat. seat ∷ seats_by setup past hand owns) one.seat;
  came = back-here message (is_took own.stance) (is_took one.now) (any_seat is_took owns) one.came;
  sent = ap (λ b. b || any_seat is_sent owns) one.sent;
  linked = ap (λ b. b || any_seat is_linked owns) one.linked;
  confirms = one.confirms;
}

turned-later : (these : Server → Bool) (setup : Setup) (past : List Entry) (hand : Hand) (own : defined.Seat) (owns : List defined.Seat) (found : Option Message) (seat : Seat) (news : List Seat) → seat ≡ seat_by setup past hand own → turn_of these confirmed own.server own.stance ≡ None → IsBack these setup past hand owns found news → IsBack these setup past hand (own ∷ owns) found (seat ∷ news)
turned-later these setup past hand own owns None seat news is none rest =
    ((λ i. turned_or own (none i) owns (rest.0 i)), (λ i. is i ∷ rest.1 i))
turned-later these setup past hand own owns (Some message) seat news is none rest = record {
  seats = own ∷ rest.seats;
  is = λ i. turned_or own (none i) owns (rest.is i);
  news_are = λ i. is i ∷ rest.news_are i;
  came = back-there message (is_took own.stance) (any_seat is_took owns) (any_seat is_took rest.seats) rest.came;
  sent = ap (λ b. is_sent own.stance || b) rest.sent;
  linked = ap (λ b. is_linked own.stance || b) rest.linked;
  confirms = rest.confirms;
}

-- **what the code took**
pub back-turns : (these : Server → Bool) (setup : Setup) (past : List Entry) (hand : Hand) (owns : List defined.Seat) (found : Option Message) (seats news : List Seat) → seats ≡ seats_by setup past hand owns → TakesBack these found seats news → IsBack these setup past hand owns found news
back-turns these setup past hand [] found seats news is nothing = (refl, refl)
back-turns these setup past hand (own ∷ owns) found seats news is nothing = cc
back-turns these setup past hand [] found seats news is (first message rest old new one_of front so) = cc
back-turns these setup past hand [] found seats news is (later seat none deeper) = cc
back-turns these setup past hand (own ∷ owns) found seats news is (first message rest old new one_of front so) =
    let one = back-at setup past hand own.server own.stance message rest new (sym (ap (λ (s : Seat). s.back) (first-of is)) ∙ front) (so ∙ ap (λ (s : Seat). record s { back = rest }) (first-of is)) in
    let own_of : these own.server ≡ true = subst (λ (s : Seat). these s.server ≡ true) (first-of is) one_of in
    subst (λ others. BackAll these setup past hand (own ∷ owns) message (new ∷ others)) (sym (rest-of is)) (turned-back these setup past hand own owns message new own_of one)
back-turns these setup past hand (own ∷ owns) found seats news is (later {seats = others} {news = more} seat none deeper) =
    let rest = back-turns these setup past hand owns found others more (rest-of is) deeper in
    let same : these own.server ≡ these seat.server = ap (λ (s : Seat). these s.server) (sym (first-of is)) in
    let empty : these own.server ≡ true → confirmed own.server own.stance ≡ None = λ one_of.
    none-back past own.server own.stance (sym (ap (λ (s : Seat). s.back) (first-of is)) ∙ none (sym same ∙ one_of)) in
    turned-later these setup past hand own owns found seat more (first-of is) (of-none these confirmed own.server own.stance empty) rest

-- Where nothing was on the way back all stays.

abbrev pub StaysBy : Option Message → List Seat → List Seat → Type 0
StaysBy None olds news = news ≡ olds
StaysBy (Some message) olds news = Unit {0}

stays-later : (found : Option Message) (seat : Seat) (olds news : List Seat) → StaysBy found olds news → StaysBy found (seat ∷ olds) (seat ∷ news)
stays-later None seat olds news stays = ap (λ (rest : List Seat). seat ∷ rest) stays
stays-later (Some message) seat olds news stays = tt

pub back-stays : (these : Server → Bool) (found : Option Message) (olds news : List Seat) → TakesBack these found olds news → StaysBy found olds news
back-stays these found olds news nothing = refl
back-stays these found olds news (first message rest old new one_of front so) = tt
back-stays these found olds news (later {seats = others} {news = more} seat none deeper) =
    stays-later found seat others more (back-stays these found others more deeper)

-- What the active server is then.

-- the last confirmation
confirmed-none : (message : Message) (moment : ℤ) (old : Node) (heard : Heard) (new : Node) → is_confirmation message ≡ true → IsReceived Active message moment old heard new → new ≡ record old { waits = None }
confirmed-none (wire.MirrorAck number) moment old heard new is received = received.1
confirmed-none _ moment old heard new is received = cc

-- another message leaves it so: it waited for nothing, or waits on
unwaited : (hand : Hand) (owns : List defined.Seat) → WaitsFor hand owns → (any_seat is_sent owns || any_seat is_took owns) ≡ false → waits_by hand ≡ None
unwaited Empty owns waits none = refl
unwaited (Waiting entry) owns waits none = let is = sym (ap (λ b. b || any_seat is_took owns) waits) ∙ none in cc
unwaited (Applied entry) owns waits none = let is = sym waits ∙ (or_parts (any_seat is_sent owns) (any_seat is_took owns) none).1 in cc
unwaited (Ready entry) owns waits none = refl

-- by whether the message confirms an entry, and whether one still waits
confirmed-by : (setup : Setup) (past : List Entry) (hand : Hand) (owns : List defined.Seat) (message : Message) (active : Node) (confirms waits : Bool) → is_confirmation message ≡ confirms → (confirms ≡ false → waits ≡ false → waits_by hand ≡ None) → ConfirmsBy (confirms && not waits) message (active_by setup past hand owns) active → active ≡ record (active_by setup past hand owns) { waits = waits_while waits (waits_by hand) }
confirmed-by setup past hand owns message active true false is none confirmed =
    let R : Role → Type 0 = λ r. IsReceived r message confirmed.moment (active_by setup past hand owns) confirmed.heard active in
    confirmed-none message confirmed.moment (active_by setup past hand owns) confirmed.heard active is (subst R (active-by setup past hand (any_seat is_linked owns)) confirmed.received)
confirmed-by setup past hand owns message active true true is none confirmed = confirmed
confirmed-by setup past hand owns message active false true is none confirmed = confirmed
confirmed-by setup past hand owns message active false false is none confirmed =
    confirmed ∙ ap (λ waits. record (active_by setup past hand owns) { waits = waits }) (none refl refl)

-- while an entry goes on nothing is committed
abbrev pub GoesOn : Hand → List defined.Seat → Type 0
GoesOn (Waiting entry) seats = any_seat is_sent seats ≡ true
GoesOn hand seats = Unit {0}

goes-on : (hand : Hand) (owns seats : List defined.Seat) → any_seat is_sent seats ≡ any_seat is_sent owns → WaitsFor hand owns → GoesOn hand seats
goes-on (Waiting entry) owns seats same waits = same ∙ waits
goes-on Empty owns seats same waits = tt
goes-on (Applied entry) owns seats same waits = tt
goes-on (Ready entry) owns seats same waits = tt

waits-commits : (past : List Entry) (seats : List defined.Seat) (hand : Hand) → GoesOn hand seats → (committed_by past hand ≡ committed_by past (looked_at seats hand)) × (commitment seats past hand ≡ [])
waits-commits past seats (Waiting entry) goes =
    (ap (λ b. committed_by past (if b then Waiting entry else taken_by seats entry)) (sym goes), ap (λ b. if b then [] else Committed (suc (length past)) entry ∷ []) goes)
waits-commits past seats Empty goes = rest-commits past seats Empty (λ other is. cc)
waits-commits past seats (Applied entry) goes = rest-commits past seats (Applied entry) (λ other is. cc)
waits-commits past seats (Ready entry) goes = rest-commits past seats (Ready entry) (λ other is. cc)

pub links-agree : (hand : Hand) (seats : List defined.Seat) → AllSeats (Agree hand) seats → LinksAgree hand seats
links-agree (Applied entry) seats agree = unsent (Applied entry) seats (λ other is. cc) agree
links-agree Empty seats agree = tt
links-agree (Waiting entry) seats agree = tt
links-agree (Ready entry) seats agree = tt

module _ (n : ℕ) where
  -- the active server then
  confirmed-active : (these : Server → Bool) (setup : Setup) (state : State Peers) (message : Message) (news : List Seat) (active : Node) (back : BackAll these setup state.world.core.answered state.world.core.hand state.peers.seats message news) → IsGood (group_kit n) setup state → AllSeats (Agree state.world.core.hand) back.seats → ConfirmsLast message news (active_by setup state.world.core.answered state.world.core.hand state.peers.seats) active → active ≡ active_by setup state.world.core.answered (looked_at back.seats state.world.core.hand) back.seats
  confirmed-active these setup state message news active back good agree confirmed =
      let past = state.world.core.answered in
      let hand = state.world.core.hand in
      let owns = state.peers.seats in
      let seats = back.seats in
      let waits = any_seat is_sent seats || any_seat is_took seats in
      let same : still_waits news ≡ waits = ap still_waits back.news_are ∙ waits-is setup past hand seats agree in
      let C : Bool → Type 0 = λ b. ConfirmsBy (is_confirmation message && not b) message (active_by setup past hand owns) active in
      let none : is_confirmation message ≡ false → waits ≡ false → waits_by hand ≡ None = λ other so. unwaited hand owns good.steady.good.waits (still other so) in
      let first : Bool → Option Entry → Node = λ tied w. record (active_by setup past hand owns) { tie = if tied then Linked else Apart; waits = w } in
      confirmed-by setup past hand owns message active (is_confirmation message) waits refl none (subst C same confirmed)
      ∙ (λ i. first (sym back.linked i) (waits_while waits (waits_by hand)))
      ∙ sym (looked-active setup past seats hand (links-agree hand seats agree))
    where
      still : is_confirmation message ≡ false → (any_seat is_sent back.seats || any_seat is_took back.seats) ≡ false → (any_seat is_sent state.peers.seats || any_seat is_took state.peers.seats) ≡ false
      still other so = elim back.came [
        | inl is ↦ let no = sym is ∙ other in cc
        | inr took ↦ (λ i. sym back.sent i || sym took i) ∙ so
      ]

  -- **a message came back**
  pub ack-happens : (these : Server → Bool) (setup : Setup) (state : State Peers) (old : Cluster (Group n)) (active : Node) (news : List Seat) (message : Message) (lines : List (List ℕ)) → IsGood (group_kit n) setup state → Shows (group_kit n) setup state old → TakesBack these (Some message) old.servers.seats news → ConfirmsLast message news old.servers.active active → StepHappened n setup (step_by (first_turn (turn_of these confirmed) state.peers.seats) state) (record old { servers = record old.servers { active = active; seats = news } }) lines lines
  ack-happens these setup state old active news message lines good shows takes last =
      let past = state.world.core.answered in
      let hand = state.world.core.hand in
      let owns = state.peers.seats in
      let turn = turn_of these confirmed in
      let turning = these-turns these hand confirmed (confirmed-turns hand) in
      let back : BackAll these setup past hand owns message news = back-turns these setup past hand owns (Some message) old.servers.seats news (ap (λ (servers : Group n). servers.seats) shows.own) takes in
      let agree = turned-agrees turn hand state.peers.acting turning owns back.seats [] back.is good.steady.good.agree in
      let C : Node → Type 0 = λ node. ConfirmsLast message news node active in
      let node = confirmed-active these setup state message news active back good agree (subst C (ap (λ (servers : Group n). servers.active) shows.own) last) in
      let others : news ≡ seats_by setup past (looked_at back.seats hand) back.seats = back.news_are ∙ looked-seats setup past back.seats hand in
      let done = waits-commits past back.seats hand (goes-on hand owns back.seats back.sent good.steady.good.waits) in
      let outcome = looked back.seats hand [] state in
      let step = turn-step n setup state turn back.seats [] good turning silent back.is in
      let new = record old { servers = record old.servers { active = active; seats = news } } in
      record {
        outcome = outcome;
        is = ap (λ turned. step_by turned state) back.is;
        happened = stepped n setup state outcome old new lines lines shows step.good refl refl refl refl refl refl refl refl refl
            (λ i. record (shows.own i) { active = node i; seats = others i })
            (shows.history ∙ done.0)
            (sym (append-nil lines) ∙ ap (λ told. lines ++ printed told) (sym done.1));
      }

  pub acks-none : (these : Server → Bool) (setup : Setup) (state : State Peers) (old : Cluster (Group n)) (news : List Seat) → Shows (group_kit n) setup state old → TakesBack these None old.servers.seats news → (step_by (first_turn (turn_of these confirmed) state.peers.seats) state ≡ None) × (news ≡ old.servers.seats)
  acks-none these setup state old news shows takes =
      let core = state.world.core in
      let own = ap (λ (servers : Group n). servers.seats) shows.own in
      let none = back-turns these setup core.answered core.hand state.peers.seats None old.servers.seats news own takes in
      (ap (λ turned. step_by turned state) none.0, none.1 ∙ sym own)

  -- **what the active server can be told**
  pub can-confirm : (these : Server → Bool) (old : Cluster (Group n)) (message : Message) (news : List Seat) → HasState (group_kit n) old → TakesBack these (Some message) old.servers.seats news → (moment : ℤ) → CanReceive message moment old.servers.active
  can-confirm these old message news has takes moment =
      let core = has.state.world.core in
      let back : BackAll these has.setup core.answered core.hand has.state.peers.seats message news = back-turns these has.setup core.answered core.hand has.state.peers.seats (Some message) old.servers.seats news (ap (λ (servers : Group n). servers.seats) has.shows.own) takes in
      back.confirms moment old.servers.active

-- What a message comes to that a server beside the active one gets.
use Rattle.std.proofs.Common.{◌≡◌, ℕ, suc, Bool, true, false, ◌||◌, inl, inr, if◌then◌else◌, Option, Some, None, List, [], ◌∷◌, ◌++◌, length, refl, ap, sym, ◌∙◌, subst, append-nil}
use Rattle.std.specs.List.{AllByRecursion, list_any}
use Rattle.calls.specs.History.{Pushed}
use Rattle.plain_service.specs.Setups.{Setup}
use Rattle.script_lines.specs.declared.line.Server.{Server}
use Rattle.service_laws.specs.PlainOf.{plain_of}
use Rattle.cluster_facts.specs.Types.{Entry}
use Rattle.cluster_facts.specs.History.{Hand, Empty, Waiting, Applied, Ready, committed, committed_by}
use Rattle.cluster_events.specs.Lines.{Told, Committed}
use Rattle.cluster_events.specs.Outcomes.{Outcome}
use Rattle.cluster_events.specs.Servers.{State}
use Rattle.event_text.specs.Texts.{printed}
use Rattle.mirror.specs.declared.state.NodeState.{NodeState as Node}
use Rattle.mirror.specs.declared.node.Tie.TheVariants.{Apart, Linked}
use Rattle.lead_server.specs.Told.{Commits}
use Rattle.group_cluster.specs.Seats as defined
use Rattle.group_cluster.specs.Seats.{Peers, is_sent, is_took, any_seat}
use Rattle.group_cluster.specs.Falling.{looked_at, commitment, looked}
use Rattle.group_cluster.specs.Group.{mirrored, first_turn, step_by}
use Rattle.group_cluster.proofs.Saying.{legal-follows}
use Rattle.group_cluster.proofs.Seating.{mirrored-turns}
use Rattle.group_cluster.proofs.Stepping.{group_at}
use Rattle.cluster_clients.specs.Spelled.{AreSpelled}
use Rattle.cluster_clients.specs.Clients.{ShowsAgents}
use Rattle.cluster_clients.proofs.DispatchSteps.{agents-as}
use Rattle.cluster_rounds.specs.declared.cluster.Cluster.{Cluster}
use Rattle.cluster_rounds.specs.Worlds.{Shows, IsGood, HasState, Happened}
use Rattle.lead_rounds.proofs.LeadSteps.{answered-history, accepted-history}
use Rattle.group_servers.specs.declared.group.Seat.{Seat}
use Rattle.group_servers.specs.declared.group.Group.{Group}
use Rattle.group_servers.specs.Delivered.{CanTake, FirstComes, committed_now}
use Rattle.group_servers.specs.Seats.{entry_goes}
use Rattle.group_servers.specs.GroupKit.{group_kit}
use Rattle.lead_rounds.specs.Leading.{waits_by}
use Rattle.group_servers.specs.GroupLaws.{group_laws}
use Rattle.group_servers.specs.GroupNodes.{is_linked, active_by, seats_by, servers_of}
use Rattle.group_servers.proofs.GroupSteps.{turn-step}
use Rattle.group_servers.proofs.LookSteps.{LinksAgree, waits_while, looked-seats, looked-active, waiting-commits, turned-agrees}
use Rattle.group_servers.proofs.SeatSteps.{goes-is}
use Rattle.group_servers.proofs.DeliverSteps.{MayCome, CameBy, TurnsAll, all-take, deliver-turns, these-turns, turn_of}

-- What came tells of the entry in hand.

came-waits : (hand : Hand) (found : Option Entry) (told : List Told) (sent took : Bool) → CameBy hand found told sent took → waits_while (sent || took) (waits_by hand) ≡ waits_by hand
came-waits (Waiting entry) found told sent took (inl came) = ap (λ b. waits_while (sent || b) (Some entry)) came.1 ∙ by sent
  where
    by : (b : Bool) → waits_while (b || true) (Some entry) ≡ Some entry
    by true = refl
    by false = refl
came-waits (Waiting entry) found told sent took (inr came) = ap (λ b. waits_while (b || took) (Some entry)) came.1
came-waits Empty found told sent took came = by (sent || took)
  where
    by : (b : Bool) → waits_while b None ≡ None
    by true = refl
    by false = refl
came-waits (Applied entry) found told sent took came = elim came [ ]
came-waits (Ready entry) found told sent took came = elim came [ ]

came-agrees : (hand : Hand) (found : Option Entry) (told : List Told) (owns : List defined.Seat) → CameBy hand found told (any_seat is_sent owns) (any_seat is_took owns) → LinksAgree hand owns
came-agrees (Waiting entry) found told owns came = tt
came-agrees Empty found told owns came = tt
came-agrees (Applied entry) found told owns came = elim came [ ]
came-agrees (Ready entry) found told owns came = elim came [ ]

-- what is committed then, with its line
pub record CommitsThen (past : List Entry) (owns : List defined.Seat) (hand : Hand) (told : List Told) (new : List Entry) (before after : List (List ℕ)) : Type 0 where
  pub entries : new ≡ committed_by past (looked_at owns hand)
  pub lines : after ≡ before ++ printed (told ++ commitment owns past hand)

came-found : (sent took : Bool) (entry : Entry) (found : Option Entry) (told : List Told) → CameBy (Waiting entry) found told sent took → committed_now sent found ≡ (if sent then None else Some entry)
came-found true took entry found told came = refl
came-found false took entry found told (inl came) = came.0
came-found false took entry found told (inr came) = cc

none-committed : (goes : Bool) → committed_now goes None ≡ None
none-committed true = refl
none-committed false = refl

-- an entry that goes on is not told
came-lines : (past : List Entry) (owns : List defined.Seat) (entry : Entry) (found : Option Entry) (told : List Told) (before mid after : List (List ℕ)) → CameBy (Waiting entry) found told (any_seat is_sent owns) (any_seat is_took owns) → mid ≡ before ++ printed told → after ≡ mid ++ printed (commitment owns past (Waiting entry)) → after ≡ before ++ printed (told ++ commitment owns past (Waiting entry))
came-lines past owns entry found told before mid after (inl came) first second =
    let C : List Told → Type 0 = λ t. after ≡ before ++ printed (t ++ commitment owns past (Waiting entry)) in
    let none : mid ≡ before = first ∙ ap (λ t. before ++ printed t) came.2 ∙ append-nil before in
    subst C (sym came.2) (second ∙ ap (λ lines. lines ++ printed (commitment owns past (Waiting entry))) none)
came-lines past owns entry found told before mid after (inr came) first second =
    let none : commitment owns past (Waiting entry) ≡ [] = ap (λ b. if b then [] else Committed (suc (length past)) entry ∷ []) came.1 in
    second ∙ ap (λ c. mid ++ printed c) none ∙ append-nil mid ∙ first ∙ ap (λ t. before ++ printed t) (sym (append-nil told) ∙ ap (λ c. told ++ c) (sym none))

came-commits : (past : List Entry) (owns : List defined.Seat) (hand : Hand) (found : Option Entry) (told : List Told) (old new : List Entry) (before mid after : List (List ℕ)) → CameBy hand found told (any_seat is_sent owns) (any_seat is_took owns) → old ≡ committed_by past hand → mid ≡ before ++ printed told → Commits (committed_now (any_seat is_sent owns) found) old new mid after → CommitsThen past owns hand told new before after
came-commits past owns (Waiting entry) found told old new before mid after came was first commits =
    let done = waiting-commits past owns entry (committed_now (any_seat is_sent owns) found) old new mid after was (came-found (any_seat is_sent owns) (any_seat is_took owns) entry found told came) commits in
    record { entries = done.0; lines = came-lines past owns entry found told before mid after came first done.1 }
came-commits past owns Empty found told old new before mid after came was first commits =
    let none : committed_now (any_seat is_sent owns) found ≡ None = ap (committed_now (any_seat is_sent owns)) came ∙ none-committed (any_seat is_sent owns) in
    let same : Commits None old new mid after = subst (λ (f : Option Entry). Commits f old new mid after) none commits in
    record { entries = same.0 ∙ was; lines = same.1 ∙ first ∙ ap (λ t. before ++ printed t) (sym (append-nil told)) }
came-commits past owns (Applied entry) found told old new before mid after came was first commits = elim came [ ]
came-commits past owns (Ready entry) found told old new before mid after came was first commits = elim came [ ]

module _ (n : ℕ) where
  may-at : (setup : Setup) (state : State Peers) (hand : Hand) → IsGood (group_kit n) setup (group_at state.peers.seats hand state) → MayCome setup state.world.core.answered hand
  may-at setup state (Waiting entry) good =
      let past = state.world.core.answered in
      ((accepted-history (group_kit n) (group_laws n) setup (group_at state.peers.seats (Waiting entry) state) good).0, legal-follows (plain_of setup) state.world.now past entry good.steady.sound.facts.legal)
  may-at setup state Empty good = tt
  may-at setup state (Applied entry) good = tt
  may-at setup state (Ready entry) good = tt

  pub may-come : (setup : Setup) (state : State Peers) → IsGood (group_kit n) setup state → MayCome setup state.world.core.answered state.world.core.hand
  may-come setup state good = may-at setup state state.world.core.hand good

  -- **each server can be told what is on the way to it**
  pub can-take-all : (old : Cluster (Group n)) → HasState (group_kit n) old → AllByRecursion CanTake old.servers.seats
  can-take-all old has =
      let core = has.state.world.core in
      let T : List Seat → Type 0 = λ seats. AllByRecursion CanTake seats in
      subst T (sym (ap (λ (servers : Group n). servers.seats) has.shows.own)) (all-take has.setup core.answered core.hand has.state.peers.seats (answered-history (group_kit n) (group_laws n) has.setup has.state has.good) (may-come has.setup has.state has.good) has.good.steady.good.agree)

  -- what a step came to
  pub record StepHappened (setup : Setup) (step : Option (Outcome (State Peers))) (new : Cluster (Group n)) (before after : List (List ℕ)) : Type 0 where
    pub outcome : Outcome (State Peers)
    pub is : step ≡ Some outcome
    pub happened : Happened (group_kit n) setup outcome new before after

  -- net, agents and time are as they were
  pub stepped : (setup : Setup) (state : State Peers) (outcome : Outcome (State Peers)) (old new : Cluster (Group n)) (before after : List (List ℕ)) → Shows (group_kit n) setup state old → IsGood (group_kit n) setup outcome.state → outcome.state.world.net ≡ state.world.net → outcome.state.world.agents ≡ state.world.agents → outcome.state.world.clients ≡ state.world.clients → outcome.state.world.places ≡ state.world.places → outcome.state.world.now ≡ state.world.now → new.net ≡ old.net → new.agents ≡ old.agents → new.now ≡ old.now → new.callbacks ≡ old.callbacks → new.servers ≡ servers_of n setup outcome.state → new.history.entries ≡ committed outcome.state.world.core → after ≡ before ++ printed outcome.told → Happened (group_kit n) setup outcome new before after
  stepped setup state outcome old new before after shows good same_net same_agents same_clients same_places same_now net agents now callbacks own entries lines = (
    record {
      own = own;
      net = net_is;
      agents = agents_are;
      history = entries;
      now = now ∙ shows.now ∙ sym same_now;
      callbacks = callbacks ∙ shows.callbacks ∙ sym same_places;
    },
    good,
    lines,
  ) where
    net_is : AreSpelled outcome.state.world.net new.net
    net_is = subst (λ m. AreSpelled m new.net) (sym same_net) (subst (λ m. AreSpelled state.world.net m) (sym net) shows.net)

    agents_are : ShowsAgents outcome.state.world new.agents
    agents_are = subst (λ a. ShowsAgents outcome.state.world a) (sym agents) (agents-as state.world outcome.state.world old.agents same_places same_agents same_clients shows.agents)

  -- the servers, looked at again, of which these changed
  looked-own : (setup : Setup) (state : State Peers) (old : Group n) (seats : List Seat) (owns : List defined.Seat) (roles : List Told) → old ≡ servers_of n setup state → seats ≡ seats_by setup state.world.core.answered state.world.core.hand owns → any_seat is_linked owns ≡ any_seat is_linked state.peers.seats → LinksAgree state.world.core.hand owns → waits_while (any_seat is_sent owns || any_seat is_took owns) (waits_by state.world.core.hand) ≡ waits_by state.world.core.hand → record old { seats = seats } ≡ servers_of n setup (looked owns state.world.core.hand roles state).state
  looked-own setup state old seats owns roles own are linked links waits =
      let past = state.world.core.answered in
      let hand = state.world.core.hand in
      let first : Bool → Option Entry → Node = λ tied w. record (active_by setup past hand state.peers.seats) { tie = if tied then Linked else Apart; waits = w } in
      let node : active_by setup past hand state.peers.seats ≡ active_by setup past (looked_at owns hand) owns = (λ i. first (sym linked i) (sym waits i)) ∙ sym (looked-active setup past owns hand links) in
      (λ i. record (own i) { seats = (are ∙ looked-seats setup past owns hand) i }) ∙ (λ i. record (servers_of n setup state) { active = node i; seats = seats_by setup past (looked_at owns hand) owns })

  -- **a message came to one of these servers**
  pub mirror-happens : (these : Server → Bool) (setup : Setup) (state : State Peers) (old : Cluster (Group n)) (news : List Seat) (history : Pushed) (found : Option Entry) (before mid after : List (List ℕ)) → IsGood (group_kit n) setup state → Shows (group_kit n) setup state old → FirstComes these (Some found) old.servers.seats news before mid → Commits (committed_now (list_any entry_goes news) found) old.history.entries history.entries mid after → StepHappened setup (step_by (first_turn (turn_of these (mirrored state.world.core.answered)) state.peers.seats) state) (record old { servers = record old.servers { seats = news }; history = history }) before after
  mirror-happens these setup state old news history found before mid after good shows comes commits =
      let past = state.world.core.answered in
      let hand = state.world.core.hand in
      let owns = state.peers.seats in
      let turn = turn_of these (mirrored past) in
      let turning = these-turns these hand (mirrored past) (mirrored-turns past hand) in
      let agree = good.steady.good.agree in
      let turns : TurnsAll these setup past hand owns found news before mid = deliver-turns these setup past hand owns (Some found) old.servers.seats news before mid (answered-history (group_kit n) (group_laws n) setup state good) (may-come setup state good) agree (ap (λ (servers : Group n). servers.seats) shows.own) comes in
      let outcome = looked turns.seats hand turns.told state in
      let step = turn-step n setup state turn turns.seats turns.told good turning turns.roles turns.is in
      let goes : list_any entry_goes news ≡ any_seat is_sent turns.seats = ap (list_any entry_goes) turns.news_are ∙ goes-is setup past hand turns.seats (turned-agrees turn hand state.peers.acting turning owns turns.seats turns.told turns.is agree) in
      let C : Bool → Type 0 = λ b. Commits (committed_now b found) old.history.entries history.entries mid after in
      let done = came-commits past turns.seats hand found turns.told old.history.entries history.entries before mid after turns.came shows.history turns.lines (subst C goes commits) in
      let new = record old { servers = record old.servers { seats = news }; history = history } in
      record {
        outcome = outcome;
        is = ap (λ turned. step_by turned state) turns.is;
        happened = stepped setup state outcome old new before after shows step.good refl refl refl refl refl refl refl refl refl
            (looked-own setup state old.servers news turns.seats turns.told shows.own turns.news_are turns.linked (came-agrees hand found turns.told turns.seats turns.came) (came-waits hand found turns.told (any_seat is_sent turns.seats) (any_seat is_took turns.seats) turns.came))
            done.entries done.lines;
      }

  -- where nothing is on the way to any of them there is none
  pub mirrors-none : (these : Server → Bool) (setup : Setup) (state : State Peers) (old : Cluster (Group n)) (news : List Seat) (before after : List (List ℕ)) → IsGood (group_kit n) setup state → Shows (group_kit n) setup state old → FirstComes these None old.servers.seats news before after → (step_by (first_turn (turn_of these (mirrored state.world.core.answered)) state.peers.seats) state ≡ None) × (news ≡ old.servers.seats) × (after ≡ before)
  mirrors-none these setup state old news before after good shows comes =
      let core = state.world.core in
      let own = ap (λ (servers : Group n). servers.seats) shows.own in
      let none = deliver-turns these setup core.answered core.hand state.peers.seats None old.servers.seats news before after (answered-history (group_kit n) (group_laws n) setup state good) (may-come setup state good) good.steady.good.agree own comes in
      (ap (λ turned. step_by turned state) none.0, none.1 ∙ sym own, none.2)

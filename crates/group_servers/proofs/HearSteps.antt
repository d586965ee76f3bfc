-- What a message that the active server hears comes to.
use Rattle.std.proofs.Common.{◌≡◌, ℕ, suc, ◌<◌, Bool, true, false, ◌||◌, if◌then◌else◌, Option, Some, None, List, [], ◌∷◌, ◌++◌, length, refl, ap, sym, ◌∙◌, subst, append-nil}
use Rattle.std.specs.List.{list_any}
use Rattle.calls.specs.History.{Pushed}
use Rattle.wire.specs.MessageSpelling.{MessageInRange}
use Rattle.wire.specs.declared.message.Message.TheVariants as wire
use Rattle.plain_service.specs.Setups.{Setup}
use Rattle.service_laws.specs.PlainOf.{plain_of}
use Rattle.service_laws.proofs.ServiceLaws.{is_plain}
use Rattle.cluster_facts.specs.Types.{Entry, Message}
use Rattle.cluster_facts.specs.Lists.{Stands}
use Rattle.cluster_facts.specs.Messages.{messages_in}
use Rattle.cluster_facts.specs.History.{Hand, Empty, Waiting, Applied, Ready, accepted_by}
use Rattle.cluster_facts.specs.Ranges.{AreInRange, CanCome}
use Rattle.cluster_events.specs.Servers.{State}
use Rattle.cluster_events.specs.Serving.{IsSteady}
use Rattle.mirror.specs.declared.heard.Heard.{Heard}
use Rattle.mirror.specs.declared.state.NodeState.{NodeState as Node}
use Rattle.mirror.specs.declared.node.Tie.TheVariants.{Apart, Linked}
use Rattle.mirror.specs.Replicas.{at_work}
use Rattle.mirror.specs.Hearing.{accepted_alone}
use Rattle.mirror.specs.Pairing.{IsHeard}
use Rattle.lead_server.specs.Told.{Commits, IsTold, outcome_lines}
use Rattle.group_cluster.specs.Seats as defined
use Rattle.group_cluster.specs.Seats.{Stance, Out, Owed, Linking, Standby, Peers, IsGroup, Agree, any_seat, on_seats, is_sent, is_took}
use Rattle.group_cluster.specs.Falling.{looked_at}
use Rattle.group_cluster.specs.Group.{accept_group}
use Rattle.group_cluster.specs.Group as defines
use Rattle.group_cluster.proofs.Seating.{AllSeats}
use Rattle.group_cluster.proofs.Sounding.{looked-accepts}
use Rattle.group_cluster.proofs.Stepping.{group_at}
use Rattle.cluster_clients.specs.Posted.{PostsAll}
use Rattle.cluster_clients.proofs.DispatchSteps.{agents-as}
use Rattle.cluster_rounds.specs.declared.cluster.Cluster.{Cluster}
use Rattle.cluster_rounds.specs.Worlds.{Shows, IsGood, Happened, heard_by}
use Rattle.lead_rounds.proofs.HearSteps.{told_as, waits_as, message-happens}
use Rattle.group_servers.specs.declared.group.Seat.{Seat}
use Rattle.group_servers.specs.declared.group.Group.{Group}
use Rattle.group_servers.specs.Seats.{goes_to}
use Rattle.group_servers.specs.Spread.{all_sent, first_sent}
use Rattle.group_servers.specs.GroupKit.{group_kit}
use Rattle.group_servers.specs.GroupNodes.{is_linked, active_by, seats_by, servers_of}
use Rattle.group_servers.specs.GroupLaws.{group_laws}
use Rattle.group_servers.proofs.GoodSteps.{lead-so}
use Rattle.group_servers.proofs.LookSteps.{waits_while, looked-seats, looked-active, waiting-commits}
use Rattle.group_servers.proofs.SeatSteps.{linked-is}
use Rattle.group_servers.proofs.SpreadSteps.{spread-own}

-- An entry goes to the servers that are linked.

sent-linked : (owns : List defined.Seat) → any_seat is_sent (on_seats defines.sent_to owns) ≡ any_seat is_linked owns
sent-linked [] = refl
sent-linked (seat ∷ owns) = λ i. one seat.stance i || sent-linked owns i
  where
    one : (stance : Stance) → is_sent (defines.sent_to stance) ≡ is_linked stance
    one Out = refl
    one Owed = refl
    one (Linking sent) = refl
    one (Standby on_way mark keeps) = refl

sent-tied : (owns : List defined.Seat) → any_seat is_linked (on_seats defines.sent_to owns) ≡ any_seat is_linked owns
sent-tied [] = refl
sent-tied (seat ∷ owns) = λ i. one seat.stance i || sent-tied owns i
  where
    one : (stance : Stance) → is_linked (defines.sent_to stance) ≡ is_linked stance
    one Out = refl
    one Owed = refl
    one (Linking sent) = refl
    one (Standby on_way mark keeps) = refl

sent-took : (owns : List defined.Seat) → any_seat is_took (on_seats defines.sent_to owns) ≡ false
sent-took [] = refl
sent-took (seat ∷ owns) = ap (λ b. b || any_seat is_took (on_seats defines.sent_to owns)) (one seat.stance) ∙ sent-took owns
  where
    one : (stance : Stance) → is_took (defines.sent_to stance) ≡ false
    one Out = refl
    one Owed = refl
    one (Linking sent) = refl
    one (Standby on_way mark keeps) = refl

-- where nobody is linked it goes to nobody
none-sent : (message : Message) (seats : List Seat) → list_any goes_to seats ≡ false → seats ≡ all_sent message seats
none-sent message [] none = refl
none-sent message (seat ∷ seats) none = by (goes_to seat) none (λ is. none-sent message seats is)
  where
    by : (b : Bool) → (b || list_any goes_to seats) ≡ false → (list_any goes_to seats ≡ false → seats ≡ all_sent message seats) → seat ∷ seats ≡ (if b then record seat { link = seat.link ++ message ∷ [] } else seat) ∷ all_sent message seats
    by true is deeper = cc
    by false is deeper = ap (λ rest. seat ∷ rest) (deeper is)

entry-waits : (linked : Bool) (entry : Entry) → waits_as linked (Some entry) ≡ waits_while (linked || false) (Some entry)
entry-waits true entry = refl
entry-waits false entry = refl

module _ (n : ℕ) where
  -- What the code is left as.

  abbrev pub left_as : Cluster (Group n) → Node → List Seat → List (List ℕ) → Pushed → Cluster (Group n)
  left_as old active seats net history = record old { servers = record old.servers { active = active; seats = seats }; net = net; history = history }

  -- what was told, and went to the other servers
  pub record IsToldAll (place : ℕ) (heard : Heard) (old_net new_net : List (List ℕ)) (old_seats new_seats : List Seat) (old new : List Entry) (before after : List (List ℕ)) : Type 0 where
    pub told : IsTold place heard old_net new_net old new before after
    pub seats : new_seats ≡ first_sent heard.to_peer old_seats

  -- servers of which nothing changed
  same-own : (setup : Setup) (state : State Peers) (old : Cluster (Group n)) (active : Node) (seats : List Seat) → Shows (group_kit n) setup state old → active ≡ old.servers.active → seats ≡ old.servers.seats → record old.servers { active = active; seats = seats } ≡ servers_of n setup state
  same-own setup state old active seats shows same kept = (λ i. record old.servers { active = same i; seats = kept i }) ∙ shows.own

  -- An entry is accepted: it waits for each server that is linked, or is committed at once.

  -- the servers then
  accepted-own : (setup : Setup) (state : State Peers) (old : Group n) (active : Node) (seats : List Seat) (entry : Entry) (owns : List defined.Seat) (linked : Bool) → any_seat is_linked owns ≡ linked → AllSeats (Agree Empty) owns → old ≡ servers_of n setup (group_at owns Empty state) → active ≡ record (active_by setup state.world.core.answered Empty owns) { replica = at_work setup state.world.core.answered entry; waits = waits_as linked (Some entry) } → seats ≡ first_sent (told_as linked (suc (length state.world.core.answered)) (accepted_alone entry)).to_peer old.seats → record old { active = active; seats = seats } ≡ servers_of n setup (accept_group entry (group_at owns Empty state)).state
  accepted-own setup state old active seats entry owns linked is agree own active_is seats_are =
      let past = state.world.core.answered in
      let message = wire.Mirror (suc (length past)) entry in
      let sent = on_seats defines.sent_to owns in
      let hand = looked_at sent (Waiting entry) in
      let first : Bool → Option Entry → Node = λ tied waits. record (active_by setup past (Waiting entry) owns) { tie = if tied then Linked else Apart; waits = waits } in
      let waits : waits_as linked (Some entry) ≡ waits_while (any_seat is_sent sent || any_seat is_took sent) (Some entry) =
      entry-waits linked entry ∙ (λ i. waits_while ((sym is ∙ sym (sent-linked owns)) i || sym (sent-took owns) i) (Some entry))
      in
      let node : active ≡ active_by setup past hand sent = active_is ∙ (λ i. first (sym (sent-tied owns) i) (waits i)) ∙ sym (looked-active setup past sent (Waiting entry) tt) in
      let all : seats ≡ all_sent message (seats_by setup past Empty owns) = seats_are ∙ ap (λ (servers : Group n). first_sent (told_as linked (suc (length past)) (accepted_alone entry)).to_peer servers.seats) own ∙ goes linked is in
      let others : seats ≡ seats_by setup past hand sent = all ∙ spread-own setup past entry owns agree ∙ looked-seats setup past sent (Waiting entry) in
      λ i. record (own i) { active = node i; seats = others i }
    where
      goes : (b : Bool) → any_seat is_linked owns ≡ b → first_sent (told_as b (suc (length state.world.core.answered)) (accepted_alone entry)).to_peer (seats_by setup state.world.core.answered Empty owns) ≡ all_sent (wire.Mirror (suc (length state.world.core.answered)) entry) (seats_by setup state.world.core.answered Empty owns)
      goes true so = refl
      goes false so = none-sent (wire.Mirror (suc (length state.world.core.answered)) entry) (seats_by setup state.world.core.answered Empty owns) (linked-is setup state.world.core.answered Empty owns agree ∙ so)

  -- what is committed of it
  accepted-found : (linked : Bool) (number : ℕ) (entry : Entry) → (told_as linked number (accepted_alone entry)).committed ≡ (if linked then None else Some entry)
  accepted-found true number entry = refl
  accepted-found false number entry = refl

  accepted-net : (linked : Bool) (number : ℕ) (entry : Entry) → (told_as linked number (accepted_alone entry)).to_net ≡ []
  accepted-net true number entry = refl
  accepted-net false number entry = refl

  accepted-became : (linked : Bool) (number place : ℕ) (entry : Entry) (between : List (List ℕ)) → between ++ outcome_lines place (told_as linked number (accepted_alone entry)).outcome ≡ between
  accepted-became true number place entry between = append-nil between
  accepted-became false number place entry between = append-nil between

  accepted-happens : (setup : Setup) (state : State Peers) (old : Cluster (Group n)) (active : Node) (seats : List Seat) (net : List (List ℕ)) (history : Pushed) (entry : Entry) (place : ℕ) (before after : List (List ℕ)) (owns : List defined.Seat) (linked : Bool) → any_seat is_linked owns ≡ linked → IsGood (group_kit n) setup (group_at owns Empty state) → Shows (group_kit n) setup (group_at owns Empty state) old → active ≡ record (active_by setup state.world.core.answered Empty owns) { replica = at_work setup state.world.core.answered entry; waits = waits_as linked (Some entry) } → IsToldAll place (told_as linked (suc (length state.world.core.answered)) (accepted_alone entry)) old.net net old.servers.seats seats old.history.entries history.entries before after → IsSteady (plain_of setup) (IsGroup n) (accept_group entry (group_at owns Empty state)).state → CanCome entry state.world.core.answered → Happened (group_kit n) setup (accept_group entry (group_at owns Empty state)) (left_as old active seats net history) before after
  accepted-happens setup state old active seats net history entry place before after owns linked is good shows active_is tells steady can =
      let past = state.world.core.answered in
      let number = suc (length past) in
      let sent = on_seats defines.sent_to owns in
      let heard = told_as linked number (accepted_alone entry) in
      let P : List Message → Type 0 = λ messages. PostsAll messages old.net net before tells.told.between in
      let posts = (subst P (accepted-net linked number entry) tells.told.posts) (plain_of setup) state.world.net (is_plain setup) shows.net in
      let between : tells.told.between ≡ before = posts.1 ∙ append-nil before in
      let front : tells.told.between ++ outcome_lines place heard.outcome ≡ before = accepted-became linked number place entry tells.told.between ∙ between in
      let C : List (List ℕ) → Type 0 = λ lines. Commits heard.committed old.history.entries history.entries lines after in
      let found : heard.committed ≡ (if any_seat is_sent sent then None else Some entry) = accepted-found linked number entry ∙ ap (λ b. if b then None else Some entry) (sym is ∙ sym (sent-linked owns)) in
      let done = waiting-commits past sent entry heard.committed old.history.entries history.entries before after shows.history found (subst C front tells.told.commits) in
      let outcome = accept_group entry (group_at owns Empty state) in (
        record {
          own = accepted-own setup state old.servers active seats entry owns linked is good.steady.good.agree shows.own active_is tells.seats;
          net = posts.0;
          agents = agents-as (group_at owns Empty state).world outcome.state.world old.agents refl refl refl shows.agents;
          history = done.0;
          now = shows.now;
          callbacks = shows.callbacks;
        },
        record { begins = good.begins; steady = steady; range = accepts-range setup (looked_at sent (Waiting entry)) past entry can good.range (looked-accepted sent); moment = good.moment },
        done.1,
      )
    where
      looked-accepted : (sent : List defined.Seat) → accepted_by state.world.core.answered (looked_at sent (Waiting entry)) ≡ entry ∷ state.world.core.answered
      looked-accepted sent = looked-accepts state.world.core.answered sent (Waiting entry)

      accepts-range : (setup : Setup) (hand : Hand) (past : List Entry) (entry : Entry) → CanCome entry past → AreInRange past → accepted_by past hand ≡ entry ∷ past → AreInRange (accepted_by past hand)
      accepts-range setup hand past entry can range same = subst AreInRange (sym same) (can, range)

  -- by the hand, which is empty
  accepts-by : (setup : Setup) (state : State Peers) (hand : Hand) (old : Cluster (Group n)) (active : Node) (seats : List Seat) (net : List (List ℕ)) (history : Pushed) (heard : Heard) (entry : Entry) (place : ℕ) (before after : List (List ℕ)) → hand ≡ Empty → IsGood (group_kit n) setup (group_at state.peers.seats hand state) → Shows (group_kit n) setup (group_at state.peers.seats hand state) old → heard ≡ told_as (any_seat is_linked state.peers.seats) (suc (length state.world.core.answered)) (accepted_alone entry) → active ≡ record (active_by setup state.world.core.answered Empty state.peers.seats) { replica = at_work setup state.world.core.answered entry; waits = waits_as (any_seat is_linked state.peers.seats) (Some entry) } → IsToldAll place heard old.net net old.servers.seats seats old.history.entries history.entries before after → IsSteady (plain_of setup) (IsGroup n) (accept_group entry (group_at state.peers.seats hand state)).state → CanCome entry state.world.core.answered → Happened (group_kit n) setup (accept_group entry (group_at state.peers.seats hand state)) (left_as old active seats net history) before after
  accepts-by setup state Empty old active seats net history heard entry place before after empty good shows is new tells steady can =
      let T : Heard → Type 0 = λ h. IsToldAll place h old.net net old.servers.seats seats old.history.entries history.entries before after in
      accepted-happens setup state old active seats net history entry place before after state.peers.seats (any_seat is_linked state.peers.seats) refl good shows new (subst T is tells) steady can
  accepts-by setup state (Waiting other) old active seats net history heard entry place before after empty good shows is new tells steady can = cc
  accepts-by setup state (Applied other) old active seats net history heard entry place before after empty good shows is new tells steady can = cc
  accepts-by setup state (Ready other) old active seats net history heard entry place before after empty good shows is new tells steady can = cc

  -- **a message is heard**
  pub heard-happens : (setup : Setup) (state : State Peers) (old : Cluster (Group n)) (active : Node) (seats : List Seat) (net : List (List ℕ)) (history : Pushed) (heard : Heard) (place : ℕ) (message : Message) (before after : List (List ℕ)) → IsGood (group_kit n) setup state → Shows (group_kit n) setup state old → Stands message (messages_in state.world.net) → MessageInRange message → (state.world.core.hand ≡ Empty → length state.world.core.answered < 4000000000) → IsHeard message old.now old.servers.active heard active → IsToldAll place heard old.net net old.servers.seats seats old.history.entries history.entries before after → Happened (group_kit n) setup (heard_by (group_kit n) place message setup state) (left_as old active seats net history) before after
  heard-happens setup state old active seats net history heard place message before after good shows stands range few hears tells =
      message-happens (group_kit n) (group_laws n) setup state (any_seat is_linked state.peers.seats) old old.servers.active active (record old.servers { active = active; seats = seats }) net history heard place before after good shows tells.told
      (λ same none. same-own setup state old active seats shows same (tells.seats ∙ ap (λ messages. first_sent messages old.servers.seats) none))
      message (lead-so n setup state old shows) stands range few hears
      (λ empty entry is new steady can. accepts-by setup state state.world.core.hand old active seats net history heard entry place before after empty good shows is new tells steady can)

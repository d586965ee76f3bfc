-- The events of a round, one after another.
use Rattle.std.proofs.Common.{◌≡◌, ℕ, zero, suc, ◌+◌, ◌<◌, Bool, true, false, ◌||◌, nat_lt, if◌then◌else◌, Option, Some, None, List, [], ◌∷◌, ◌++◌, length, take, get_or, map, slice_get, refl, ap, sym, ◌∙◌, subst, arith, append_assoc, append-nil}
use Rattle.std.specs.List.{AllByRecursion}
use Rattle.std.proofs.lemmas.List.{take_more}
use Rattle.disk_model.specs.Seen.{none_seen}
use Rattle.plain_service.specs.Setups.{Setup}
use Rattle.service_laws.specs.PlainOf.{plain_of}
use Rattle.service_laws.proofs.ServiceLaws.{is_plain}
use Rattle.cluster_facts.specs.Types.{Call, Reply, Entry, Message, Request, Answer, Delivery}
use Rattle.cluster_facts.specs.Lists.{Stands}
use Rattle.cluster_facts.specs.Messages.{answers_to, messages_in}
use Rattle.cluster_facts.specs.Service.{Plain}
use Rattle.cluster_facts.specs.Agents.{Agent, resent}
use Rattle.cluster_facts.specs.History.{committed}
use Rattle.cluster_facts.specs.World.{World, number_of}
use Rattle.cluster_facts.proofs.Words.{All-map}
use Rattle.cluster_facts.proofs.Posting.{answers_to-posted}
use Rattle.cluster_events.specs.Outcomes.{Outcome, quietly, and_then, for_each}
use Rattle.cluster_events.specs.Servers.{State, in_world}
use Rattle.cluster_events.specs.Events.{hear}
use Rattle.cluster_events.specs.Settling.{take_answer_by, turn, take_pushed}
use Rattle.cluster_events.specs.Serving.{IsSteady}
use Rattle.cluster_events.proofs.Looping.{for_each-append}
use Rattle.cluster_events.proofs.Carrying.{Goes, IsAtRest, in_world-goes, held-made, IsMadeItem, reply_at-stands, for_each-goes, hear-goes, turn-goes, all_turns-goes, drain-goes, push-goes, push-stands, take_pushed-rests}
use Rattle.event_text.specs.Texts.{printed}
use Rattle.cluster_rounds.specs.declared.cluster.Cluster.{Cluster}
use Rattle.client_agent.specs.Seen.{Seen, seen_of}
use Rattle.cluster_clients.specs.Clients.{StandsAt, seen_all}
use Rattle.cluster_clients.specs.Replies.{FindsReply}
use Rattle.cluster_clients.specs.Taken.{Takes, kept_lines, taken_as}
use Rattle.cluster_clients.proofs.DispatchSteps.{seen-at}
use Rattle.cluster_clients.proofs.ListSteps.{All-take}
use Rattle.cluster_clients.proofs.PostingSteps.{spelled-length}
use Rattle.cluster_clients.proofs.TakingSteps.{taken-places}
use Rattle.cluster_clients.proofs.ToldLines.{SameButPlace, kept-append, loud-append}
use Rattle.cluster_rounds.specs.Kits.{IsKit, Kit, calm_servers, device_by, servers_at}
use Rattle.cluster_rounds.specs.PartlyDone.{SaysUnasked}
use Rattle.cluster_rounds.specs.Rounds.{IsIdleWithItems, IsItem, Played, Plays, answer_taken, clients_by, drain_by, heard_so, item_taken, items_taken, message_taken, reply_taken, round_pushed, turns_by}
use Rattle.cluster_rounds.specs.Worlds.{DoesIf, Event, Happened, HasState, HasStateOf, HasStateOn, IsGood, IsIdle, Pushes, Shows, StandsIn, any_state, heard_by, pushed}
use Rattle.cluster_rounds.proofs.ArmedSteps.{hear-keeps, hear-told, pushed-told}
use Rattle.cluster_rounds.proofs.HearSteps.{IsQuiet, hear-measured, hear-places, push-quiet}
use Rattle.cluster_rounds.proofs.KitSteps.{at-serves, at-unasked, calm-serves, calm-unasked}
use Rattle.cluster_rounds.proofs.TakenSteps.{good-moved, shows-moved, taken-goes, taken-moved}

module _ {Peers Group : Type 0} (kit : Kit Peers Group) (laws : IsKit kit) where
  -- Events that happened are events that were played.

  pub played-quiet : (setup : Setup) (state : State Peers) (outcome : Outcome (State Peers)) (new : Cluster Group) (before after : List (List ℕ)) (held left : kit.Seen) → (Happened kit) setup outcome new before after → IsQuiet outcome.told → (kit.Tells setup state held → kit.Leaves setup outcome.state held left) → (Played kit) setup state outcome new before after false held left
  played-quiet setup state outcome new before after held left happened quiet files = record {
    shows = happened.0;
    good = happened.1;
    lines = happened.2 ∙ ap (λ l. before ++ l) (sym quiet.lines);
    loudness = sym quiet.quiet;
    files = files;
  }

  pub played-place : (setup : Setup) (state : State Peers) (one other : Outcome (State Peers)) (new : Cluster Group) (before after : List (List ℕ)) (loud : Bool) (held left : kit.Seen) → SameButPlace one other → (Played kit) setup state one new before after loud held left → (Played kit) setup state other new before after loud held left
  played-place setup state one other new before after loud held left same played = record {
    shows = subst (λ (s : State Peers). (Shows kit) setup s new) same.state played.shows;
    good = subst ((IsGood kit) setup) same.state played.good;
    lines = played.lines ∙ ap (λ l. before ++ l) same.lines;
    loudness = played.loudness ∙ same.loud;
    files = λ tells. subst (λ (s : State Peers). kit.Leaves setup s held left) same.state (played.files tells);
  }

  pub played-both : (setup : Setup) (state : State Peers) (first : Outcome (State Peers)) (event : State Peers → Outcome (State Peers)) (middle new : Cluster Group) (before between after : List (List ℕ)) (a b : Bool) (held told left : kit.Seen) → (Played kit) setup state first middle before between a held told → (Played kit) setup first.state (event first.state) new between after b told left → (Played kit) setup state (and_then first event) new before after (a || b) held left
  played-both setup state first event middle new before between after a b held told left one two =
      let second = event first.state in
      record {
        shows = two.shows;
        good = two.good;
        lines =
            two.lines ∙ ap (λ l. l ++ kept_lines second.told) one.lines
            ∙ append_assoc before (kept_lines first.told) (kept_lines second.told)
            ∙ ap (λ l. before ++ l) (sym (kept-append second.told first.told));
        loudness = (λ i. one.loudness i || two.loudness i) ∙ sym (loud-append second.told first.told);
        files = λ tells.
            let leaves = one.files tells in
            laws.left_both setup first.state second.state held told left leaves (two.files (laws.left_told setup first.state held told leaves));
      }

  -- nothing happens
  pub played-nothing : (setup : Setup) (state : State Peers) (world : Cluster Group) (lines : List (List ℕ)) (held : kit.Seen) → (IsGood kit) setup state → (Shows kit) setup state world → (Played kit) setup state (quietly state) world lines lines false held held
  played-nothing setup state world lines held good shows = record {
    shows = shows;
    good = good;
    lines = sym (append-nil lines);
    loudness = refl;
    files = laws.left_same setup state held;
  }

  -- and if P is so of the state after it
  pub state-so : (P Q : State Peers → Type 0) (event : (Event kit)) (old new : Cluster Group) (before after : List (List ℕ)) (loud : Bool) → ((setup : Setup) (state : State Peers) → (IsGood kit) setup state → P state → Q (event setup state).state) → (HasStateOf kit) P old → (Plays kit) P event old new before after loud → (HasStateOf kit) Q new
  state-so P Q event old new before after loud goes has plays =
      let played = plays (kit.see none_seen none_seen) has.setup has.state has.good has.shows has.so in
      record { setup = has.setup; state = (event has.setup has.state).state; good = played.good; shows = played.shows; so = goes has.setup has.state has.good has.so }

  -- A message is heard.

  chosen : (b : Bool) (before part : List (List ℕ)) → (if b then before ++ part else before) ≡ before ++ (if b then part else [])
  chosen true before part = refl
  chosen false before part = sym (append-nil before)

  pub hear-plays : (message : Message) (old new : Cluster Group) (before part after : List (List ℕ)) → (DoesIf kit) (StandsIn message) ((heard_by kit) 0 message) old new [] part → after ≡ (if nat_lt (length old.history.entries) (length new.history.entries) || nat_lt (length old.net) (length new.net) then before ++ part else before) → (Plays kit) (StandsIn message) ((heard_so kit) message) old new before after (nat_lt (length old.history.entries) (length new.history.entries))
  hear-plays message old new before part after does added held setup state good shows stands =
      let plain = plain_of setup in
      let outcome = hear plain (calm_servers kit setup) 0 message state in
      let happened = does setup state good shows stands in
      let servers = calm_servers kit setup in
      let device = device_by setup (λ number. 0) in
      let measured = hear-measured plain servers kit.Good (laws.measured plain device) 0 message state good.steady.good in
      let past : length (committed state.world.core) ≡ length old.history.entries = ap length (sym shows.history) in
      let more : length (committed outcome.state.world.core) ≡ length new.history.entries = ap length (sym happened.0.history) in
      let net = spelled-length state.world.net old.net shows.net in
      let posted = spelled-length outcome.state.world.net new.net happened.0.net in
      let loud : nat_lt (length (committed state.world.core)) (length (committed outcome.state.world.core)) ≡ nat_lt (length old.history.entries) (length new.history.entries) = λ i. nat_lt (past i) (more i) in
      let grew : nat_lt (length state.world.net) (length outcome.state.world.net) ≡ nat_lt (length old.net) (length new.net) = λ i. nat_lt (net i) (posted i) in
      let kept : kept_lines outcome.told ≡ (if nat_lt (length old.history.entries) (length new.history.entries) || nat_lt (length old.net) (length new.net) then printed outcome.told else []) =
      measured.lines ∙ (λ i. if loud i || grew i then printed outcome.told else [])
      in
      let b = nat_lt (length old.history.entries) (length new.history.entries) || nat_lt (length old.net) (length new.net) in
      let lines : after ≡ before ++ kept_lines outcome.told =
      added ∙ chosen b before part ∙ ap (λ l. before ++ (if b then l else [])) happened.2 ∙ ap (λ l. before ++ l) (sym kept)
      in
      let played : (Played kit) setup state outcome new before after (nat_lt (length old.history.entries) (length new.history.entries)) held held = record {
        shows = happened.0;
        good = happened.1;
        lines = lines;
        loudness = sym loud ∙ sym measured.loud;
        files = λ tells. laws.left_same setup outcome.state held ((hear-told kit laws) 0 message setup state held tells);
      }
      in
      played-place setup state outcome ((heard_so kit) message setup state) new before after (nat_lt (length old.history.entries) (length new.history.entries)) held held (hear-places plain servers 0 (number_of plain message state.world.net) message state) played

  -- Loops.

  pub All-at : {X : Type 0} (P : X → Type 0) (index : ℕ) (xs : List X) (x : X) → AllByRecursion P xs → index < length xs → x ≡ get_or xs index x → P x
  All-at P index [] x all below is = absurd (omega arith)
  All-at P zero (first ∷ xs) x all below is = subst P (sym is) all.0
  All-at P (suc index) (first ∷ xs) x all below is = All-at P index xs x all.1 (omega arith) is

  pub for_each-more : {X : Type 0} (event : X → State Peers → Outcome (State Peers)) (xs : List X) (index : ℕ) (x : X) (state : State Peers) → index < length xs → x ≡ get_or xs index x → and_then (for_each event (take index xs) state) (event x) ≡ for_each event (take (index + 1) xs) state
  for_each-more event xs index x state below is =
      let more : take (index + 1) xs ≡ take index xs ++ x ∷ [] = take_more xs index x below ∙ ap (λ y. take index xs ++ y ∷ []) (sym is) in
      sym (ap (λ l. for_each event l state) more ∙ for_each-append event (take index xs) (x ∷ []) state)

  -- a loop over xs has come to its index, and its next turn is played
  pub loop-plays : {X : Type 0} (P : State Peers → Type 0) (Q : X → State Peers → Type 0) (event : X → (Event kit)) (xs : List X) (index : ℕ) (x : X) (old now new : Cluster Group) (before between after : List (List ℕ)) (a b : Bool) → ((setup : Setup) (state : State Peers) → (IsGood kit) setup state → P state → Q x (for_each (λ y. event y setup) (take index xs) state).state) → index < length xs → x ≡ get_or xs index x → (Plays kit) P (λ setup. for_each (λ y. event y setup) (take index xs)) old now before between a → (Plays kit) (Q x) (event x) now new between after b → (Plays kit) P (λ setup. for_each (λ y. event y setup) (take (index + 1) xs)) old new before after (a || b)
  loop-plays P Q event xs index x old now new before between after a b goes below is so_far next held setup state good shows so =
      let done = for_each (λ y. event y setup) (take index xs) state in
      let one = so_far held setup state good shows so in
      let two = next held setup done.state one.good one.shows (goes setup state good so) in
      let both = played-both setup state done (event x setup) now new before between after a b held held held one two in
      subst (λ (o : Outcome (State Peers)). (Played kit) setup state o new before after (a || b) held held) (for_each-more (λ y. event y setup) xs index x state below is) both

  -- what every turn leaves: nothing in hand, and the net has what it had

  abbrev pub AtRest : Setup → State Peers → Type 0
  AtRest setup state = IsAtRest (plain_of setup) kit.Good state

  pub at-rest : (setup : Setup) (state : State Peers) → (IsGood kit) setup state → IsIdle state → AtRest setup state
  at-rest setup state good idle = record { steady = good.steady; empty = idle }

  -- what Carrying says of servers, at a setup
  module _ (setup : Setup) where
    pub turns-go : (fails : ℕ → ℕ) (messages : List Message) (state : State Peers) → AtRest setup state → AllByRecursion (λ message. Stands message (messages_in state.world.net)) messages → Goes (SaysUnasked (plain_of setup)) (AtRest setup) state ((turns_by kit) messages setup fails state)
    turns-go fails messages state rest stands =
        let plain = plain_of setup in
        let servers = servers_at kit setup fails in
        for_each-goes plain (is_plain setup) servers kit.Good ((at-serves kit laws) setup fails) (SaysUnasked plain) ((at-unasked kit laws) setup fails) (IsAtRest plain kit.Good) (λ message world. Stands message (messages_in world.net)) (turn plain servers) (turn-goes plain (is_plain setup) servers kit.Good ((at-serves kit laws) setup fails) (SaysUnasked plain) ((at-unasked kit laws) setup fails)) (λ message old new stays stands. stays.net message stands) messages state rest stands

    pub clients-go : (fails : ℕ → ℕ) (clients : List ℕ) (state : State Peers) → AtRest setup state → Goes (SaysUnasked (plain_of setup)) (AtRest setup) state ((clients_by kit) clients setup fails state)
    clients-go fails clients state rest =
        all_turns-goes (plain_of setup) (is_plain setup) (servers_at kit setup fails) kit.Good ((at-serves kit laws) setup fails) (SaysUnasked (plain_of setup)) ((at-unasked kit laws) setup fails) clients state rest

    pub drain-go : (fails : ℕ → ℕ) (state : State Peers) → IsSteady (plain_of setup) kit.Good state → Goes (SaysUnasked (plain_of setup)) (AtRest setup) state ((drain_by kit) setup fails state)
    drain-go fails state steady =
        drain-goes (plain_of setup) (is_plain setup) (servers_at kit setup fails) kit.Good ((at-serves kit laws) setup fails) (SaysUnasked (plain_of setup)) ((at-unasked kit laws) setup fails) state steady

    pub items-go : (items : List Message) (state : State Peers) → AtRest setup state → AllByRecursion (λ message. Stands message (messages_in state.world.net)) items → Goes (SaysUnasked (plain_of setup)) (AtRest setup) state ((items_taken kit) items setup state)
    items-go items state rest stands =
        let plain = plain_of setup in
        let servers = calm_servers kit setup in
        for_each-goes plain (is_plain setup) servers kit.Good ((calm-serves kit laws) setup) (SaysUnasked plain) ((calm-unasked kit laws) setup) (IsAtRest plain kit.Good) (λ message world. Stands message (messages_in world.net)) (λ item. in_world (take_pushed plain item)) (take_pushed-rests plain (is_plain setup) servers kit.Good ((calm-serves kit laws) setup) (SaysUnasked plain) ((calm-unasked kit laws) setup)) (λ message old new stays stands. stays.net message stands) items state rest stands

    pub hear-go : (message : Message) (state : State Peers) → (IsGood kit) setup state → StandsIn message state → Goes (SaysUnasked (plain_of setup)) (IsSteady (plain_of setup) kit.Good) state ((heard_so kit) message setup state)
    hear-go message state good stands =
        let plain = plain_of setup in
        hear-goes plain (is_plain setup) (calm_servers kit setup) kit.Good ((calm-serves kit laws) setup) (SaysUnasked plain) ((calm-unasked kit laws) setup) (number_of plain message state.world.net) message state stands good.steady

    pub push-go : (state : State Peers) → AtRest setup state → Goes (SaysUnasked (plain_of setup)) (AtRest setup) state ((pushed kit) setup state)
    push-go state rest =
        let plain = plain_of setup in
        push-goes plain (is_plain setup) (calm_servers kit setup) kit.Good ((calm-serves kit laws) setup) (SaysUnasked plain) ((calm-unasked kit laws) setup) state rest

    pushed-stand : (state : State Peers) → AtRest setup state → AllByRecursion (λ message. Stands message (messages_in ((pushed kit) setup state).state.world.net)) ((plain_of setup).held state.world.core.answered)
    pushed-stand state rest =
        let plain = plain_of setup in
        push-stands plain (is_plain setup) (calm_servers kit setup) kit.Good ((calm-serves kit laws) setup) (SaysUnasked plain) ((calm-unasked kit laws) setup) state rest

  -- a message that is heard stands in the net afterwards
  pub heard-ready : (message : Message) (old new : Cluster Group) (before after : List (List ℕ)) (loud : Bool) (disks : kit.Seen) → (HasStateOn kit) (StandsIn message) old disks → (Plays kit) (StandsIn message) ((heard_so kit) message) old new before after loud → (HasStateOn kit) (StandsIn message) new disks
  heard-ready message old new before after loud disks has plays =
      let played = plays (kit.see none_seen none_seen) has.setup has.state has.good has.shows has.so in
      record {
        setup = has.setup;
        state = ((heard_so kit) message has.setup has.state).state;
        good = played.good;
        shows = played.shows;
        count = (hear-keeps kit laws) message has.setup has.state disks has.count;
        so = (hear-go has.setup message has.state has.good has.so).stays.net message has.so;
      }

  pub state-of : (P : State Peers → Type 0) (world : Cluster Group) → (HasStateOf kit) P world → (HasState kit) world
  state-of P world has = record { setup = has.setup; state = has.state; good = has.good; shows = has.shows; so = tt }

  pub state-on : (P : State Peers → Type 0) (world : Cluster Group) (disks : kit.Seen) → (HasStateOn kit) P world disks → (HasStateOn kit) any_state world disks
  state-on P world disks has = record { setup = has.setup; state = has.state; good = has.good; shows = has.shows; count = has.count; so = tt }

  -- Items.

  pub items-reach : (items : List Message) (index : ℕ) (item : Message) → index < length items → item ≡ get_or items index item → (setup : Setup) (state : State Peers) → (IsGood kit) setup state → IsIdleWithItems items state → StandsIn item ((items_taken kit) (take index items) setup state).state × IsItem item
  items-reach items index item below is setup state good so =
      let goes = items-go setup (take index items) state (at-rest setup state good so.0.0) (All-take (λ m. Stands m (messages_in state.world.net)) index items so.0.1) in
      (goes.stays.net item (All-at (λ m. Stands m (messages_in state.world.net)) index items item so.0.1 below is), All-at IsItem index items item so.1 below is)

  -- the items that were pushed stand in the net
  made-item : (plain : Plain) (past : List Entry) (message : Message) → IsMadeItem plain past message → IsItem message
  made-item plain past (Delivery client key item) made = tt
  made-item plain past _ made = elim made [ ]

  held-items : (setup : Setup) (past : List Entry) → AllByRecursion IsItem ((plain_of setup).held past)
  held-items setup past =
      let plain = plain_of setup in
      All-map (IsMadeItem plain past) IsItem (plain.held past) (made-item plain past) (held-made plain (is_plain setup) past)

  pub pushed-plays : (items : List Message) (old new : Cluster Group) (before after : List (List ℕ)) → (Pushes kit) items old new before after → (Plays kit) IsIdle (pushed kit) old new before after false
  pushed-plays items old new before after pushes held setup state good shows idle =
      let plain = plain_of setup in
      let outcome = (pushed kit) setup state in
      let made = held-made plain (is_plain setup) state.world.core.answered in
      played-quiet setup state outcome new before after held held (pushes setup state good shows idle).0 (push-quiet plain (calm_servers kit setup) state idle made) (λ tells. laws.left_same setup outcome.state held ((pushed-told kit laws) setup state held tells))

  pub pushed-items : (items : List Message) (setup : Setup) (state : State Peers) → (IsGood kit) setup state → IsIdle state → items ≡ (plain_of setup).held state.world.core.answered → IsIdleWithItems items ((pushed kit) setup state).state
  pushed-items items setup state good idle is =
      let rest = at-rest setup state good idle in
      let after = ((pushed kit) setup state).state in
      (((push-go setup state rest).holds.empty, subst (λ (l : List Message). AllByRecursion (λ m. Stands m (messages_in after.world.net)) l) (sym is) (pushed-stand setup state rest)), subst (λ (l : List Message). AllByRecursion IsItem l) (sym is) (held-items setup state.world.core.answered))

  pub push-ready : (items : List Message) (old new : Cluster Group) (before after : List (List ℕ)) → (HasStateOf kit) IsIdle old → (Pushes kit) items old new before after → (HasStateOf kit) (IsIdleWithItems items) new
  push-ready items old new before after has pushes =
      let done = pushes has.setup has.state has.good has.shows has.so in
      record {
        setup = has.setup;
        state = ((pushed kit) has.setup has.state).state;
        good = done.0.1;
        shows = done.0.0;
        so = pushed-items items has.setup has.state has.good has.so done.1;
      }

  pub push-plays : (items : List Message) (old middle new : Cluster Group) (before between after : List (List ℕ)) (loud : Bool) → (Pushes kit) items old middle before between → (Plays kit) (IsIdleWithItems items) ((items_taken kit) items) middle new between after loud → (Plays kit) IsIdle (round_pushed kit) old new before after loud
  push-plays items old middle new before between after loud pushes takes held setup state good shows idle =
      let plain = plain_of setup in
      let is = (pushes setup state good shows idle).1 in
      let outcome = (pushed kit) setup state in
      let pushed_so = pushed-plays items old middle before between pushes held setup state good shows idle in
      let T : List Message → Type 0 = λ l. (Played kit) setup outcome.state ((items_taken kit) l setup outcome.state) new between after loud held held in
      let taken = subst T is (takes held setup outcome.state pushed_so.good pushed_so.shows (pushed-items items setup state good idle is)) in
      played-both setup state outcome ((items_taken kit) (plain.held state.world.core.answered) setup) middle new before between after false loud held held held pushed_so taken

  -- A client's messages.

  pub sent-are : (client at : ℕ) (messages : List Message) (world : Cluster Group) → StandsAt client at world.agents → ((receiver places : ℕ) (agent : Agent) → slice_get world.agents at ≡ Some (seen_of receiver places agent) → messages ≡ resent receiver agent) → (setup : Setup) (state : State Peers) → (Shows kit) setup state world → messages ≡ resent client (state.world.agents client)
  sent-are client at messages world found sent setup state shows =
      sent client state.world.places (state.world.agents client) (seen-at client at world.agents state.world shows.agents found).1

  clients-seen : (places : ℕ) (agents : ℕ → Agent) (clients : List ℕ) → map (λ (one : Seen). one.client) (seen_all places agents clients) ≡ clients
  clients-seen places agents [] = refl
  clients-seen places agents (client ∷ clients) = ap (λ l. client ∷ l) (clients-seen places agents clients)

  -- the clients of the agents are those of the state
  pub clients-are : (clients : List ℕ) (world : Cluster Group) → clients ≡ map (λ (one : Seen). one.client) world.agents → (setup : Setup) (state : State Peers) → (Shows kit) setup state world → clients ≡ state.world.clients
  clients-are clients world is setup state shows =
      is ∙ ap (map (λ (one : Seen). one.client)) shows.agents.shown ∙ clients-seen state.world.places state.world.agents state.world.clients

  -- A delivery.

  abbrev outcome_in : State Peers → Outcome World → Outcome (State Peers)
  outcome_in state outcome = record { state = record { world = outcome.state; peers = state.peers }; told = outcome.told }

  in-world-places : (setup : Setup) (state : State Peers) {one other : Outcome World} → SameButPlace one other → SameButPlace (outcome_in state one) (outcome_in state other)
  in-world-places setup state same = record {
    state = ap (λ (w : World). record { world = w; peers = state.peers }) same.state;
    lines = same.lines;
    loud = same.loud;
  }

  -- the reply that is found in the net is delivered
  pub reply-taken : (client number : ℕ) (found : Message) (old new : Cluster Group) (before after : List (List ℕ)) (loud : Bool) → FindsReply client number old.net (Some found) → (Plays kit) (StandsIn found) ((message_taken kit) found) old new before after loud → (Plays kit) any_state ((reply_taken kit) client number) old new before after loud
  reply-taken client number found old new before after loud finds plays held setup state good shows so =
      let plain = plain_of setup in
      let world = state.world in
      let is = finds world.net shows.net in
      let reply = is.0 in
      let answer = Answer client number reply in
      let stands : Stands answer (messages_in world.net) = answers_to-posted client number reply (messages_in world.net) (reply_at-stands number (answers_to client (messages_in world.net)) reply is.2) in
      let P : Message → Type 0 = λ m. Stands m (messages_in world.net) in
      let taken = plays held setup state good shows (subst P (sym is.1) stands) in
      let own : (Played kit) setup state (in_world (taken_as plain 0 answer) state) new before after loud held held = subst (λ (m : Message). (Played kit) setup state (in_world (taken_as plain 0 m) state) new before after loud held held) is.1 taken in
      let place = number_of plain answer world.net in
      let same = taken-places plain 0 place world answer in
      let numbered : (Played kit) setup state (in_world (taken_as plain place answer) state) new before after loud held held = played-place setup state (in_world (taken_as plain 0 answer) state) (in_world (taken_as plain place answer) state) new before after loud held held (in-world-places setup state same) own in
      subst (λ (o : Option Reply). (Played kit) setup state (in_world (take_answer_by plain client number o) state) new before after loud held held) (sym is.2) numbered

  -- the reply that is found stands in the net
  pub reply-stands : (client number : ℕ) (found : Message) (world : Cluster Group) → FindsReply client number world.net (Some found) → (setup : Setup) (state : State Peers) → (Shows kit) setup state world → StandsIn found state
  reply-stands client number found world finds setup state shows =
      let net = messages_in state.world.net in
      let is = finds state.world.net shows.net in
      let stands : Stands (Answer client number is.0) net = answers_to-posted client number is.0 net (reply_at-stands number (answers_to client net) is.0 is.2) in
      subst (λ (m : Message). Stands m net) (sym is.1) stands

  pub reply-ready : (client number : ℕ) (found : Message) (world : Cluster Group) → FindsReply client number world.net (Some found) → (HasState kit) world → (HasStateOf kit) (StandsIn found) world
  reply-ready client number found world finds has =
      record { setup = has.setup; state = has.state; good = has.good; shows = has.shows; so = reply-stands client number found world finds has.setup has.state has.shows }

  -- there is no reply to the call
  pub reply-nothing : (client number : ℕ) (world : Cluster Group) (lines : List (List ℕ)) → FindsReply client number world.net None → (Plays kit) any_state ((reply_taken kit) client number) world world lines lines false
  reply-nothing client number world lines finds held setup state good shows so =
      let P : Option Reply → Type 0 = λ o. (Played kit) setup state (in_world (take_answer_by (plain_of setup) client number o) state) world lines lines false held held in
      subst P (sym (finds state.world.net shows.net)) (played-nothing setup state world lines held good shows)

  -- messages other than requests have no reply
  pub answer-nothing : (message : Message) (world : Cluster Group) (lines : List (List ℕ)) → ((client number : ℕ) (call : Call) → message ≡ Request client number call → ⊥) → (Plays kit) any_state ((answer_taken kit) message) world world lines lines false
  answer-nothing (Request client number call) world lines never held setup state good shows so = absurd (never client number call refl)
  answer-nothing _ world lines never held setup state good shows so = played-nothing setup state world lines held good shows

  -- An agent takes or misses a reply or an item.

  pub take-plays : (message : Message) (old : Cluster Group) (net : List (List ℕ)) (agents : List Seen) (before after : List (List ℕ)) (loud : Bool) → Takes None message old.net net old.agents agents before after loud → (Plays kit) (StandsIn message) ((message_taken kit) message) old (record old { net = net; agents = agents }) before after loud
  take-plays message old net agents before after loud takes held setup state good shows stands =
      let plain = plain_of setup in
      let outcome = taken_as plain 0 message state.world in
      let done = takes plain state.world (is_plain setup) shows.net shows.agents in
      let goes = (taken-goes kit laws) setup 0 message state.world stands good.steady.sound in
      let steady = (in_world-goes plain (is_plain setup) (calm_servers kit setup) kit.Good ((calm-serves kit laws) setup) (SaysUnasked plain) ((calm-unasked kit laws) setup) (λ w. taken_as plain 0 message w) state good.steady goes).holds in
      let moved_so = (taken-moved kit laws) plain 0 message state.world goes in
      record {
        shows = (shows-moved kit laws) setup state outcome.state old net agents shows moved_so done.0 done.1;
        good = (good-moved kit laws) setup state outcome.state good moved_so steady;
        lines = done.2;
        loudness = done.3;
        files = λ tells. let last = (in_world (λ w. taken_as plain 0 message w) state).state in laws.left_same setup last held (laws.moves setup state last held goes.core refl tells);
      }

  -- an item is delivered as a message
  pub item-plays : (item : Message) (old new : Cluster Group) (before after : List (List ℕ)) (loud : Bool) → (Plays kit) (StandsIn item) ((message_taken kit) item) old new before after loud → (Plays kit) (λ state. StandsIn item state × IsItem item) ((item_taken kit) item) old new before after loud
  item-plays (Delivery client key item) old new before after loud plays held setup state good shows so =
      let plain = plain_of setup in
      let message = Delivery client key item in
      let place = number_of plain message state.world.net in
      played-place setup state ((message_taken kit) message setup state) ((item_taken kit) message setup state) new before after loud held held (in-world-places setup state (taken-places plain 0 place state.world message)) (plays held setup state good shows so.0)
  item-plays _ old new before after loud plays held setup state good shows so = elim so.1 [ ]

  pub stands-of : (item : Message) (world : Cluster Group) → (HasStateOf kit) (λ state. StandsIn item state × IsItem item) world → (HasStateOf kit) (StandsIn item) world
  stands-of item world has = record { setup = has.setup; state = has.state; good = has.good; shows = has.shows; so = has.so.0 }

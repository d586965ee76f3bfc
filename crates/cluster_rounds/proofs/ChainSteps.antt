-- Events of the world of the code, one after another.
use Rattle.std.proofs.Common.{◌≡◌, ℕ, ◌+◌, ◌<◌, inl, inr, List, [], ◌∷◌, ◌++◌, length, get_or, take, ap, sym, ◌∙◌, subst, append_assoc}
use Rattle.std.specs.List.{AllByRecursion}
use Rattle.std.proofs.lemmas.List.{take_more}
use Rattle.std.proofs.lemmas.Option.{get_or_from_slice_get}
use Rattle.wire.specs.MessageSpelling.{MessageFits, MessageInRange}
use Rattle.plain_service.specs.Setups.{Setup}
use Rattle.service_laws.specs.PlainOf.{plain_of}
use Rattle.service_laws.proofs.ServiceLaws.{is_plain}
use Rattle.cluster_facts.specs.Types.{Entry, Message, Request, Answer, Delivery, Receipt}
use Rattle.cluster_facts.specs.Lists.{Stands}
use Rattle.cluster_facts.specs.Service.{Plain}
use Rattle.cluster_facts.specs.Agents.{Agent, fresh, resent}
use Rattle.cluster_facts.specs.Messages.{Posting, Spelled, Raw, messages_in}
use Rattle.cluster_facts.specs.World.{number_of}
use Rattle.cluster_facts.specs.Facts.{IsOfRun}
use Rattle.cluster_facts.proofs.Words.{All-map, All-at}
use Rattle.cluster_events.specs.Outcomes.{Outcome, and_then, for_each}
use Rattle.cluster_events.specs.Servers.{State}
use Rattle.cluster_events.specs.Serving.{IsSteady}
use Rattle.cluster_events.proofs.Carrying.{Goes, for_each-goes, hear-goes, resent-posted}
use Rattle.cluster_events.proofs.Looping.{for_each-append}
use Rattle.event_text.specs.Texts.{printed}
use Rattle.cluster_rounds.specs.declared.cluster.Cluster.{Cluster}
use Rattle.client_agent.specs.Seen.{Seen, seen_of}
use Rattle.cluster_clients.specs.Clients.{StandsAt, IsAbsent}
use Rattle.cluster_clients.specs.Spelled.{AreSpelled, IsNumberIn}
use Rattle.cluster_clients.proofs.DispatchSteps.{fresh-agent, seen-at}
use Rattle.cluster_clients.proofs.ListSteps.{All-take}
use Rattle.cluster_clients.proofs.ToldLines.{printed-append}
use Rattle.cluster_rounds.specs.Delivered.{AllStandIn, HearsAll, again, resent_by}
use Rattle.cluster_rounds.specs.Kits.{IsKit, Kit, calm_servers}
use Rattle.cluster_rounds.specs.PartlyDone.{SaysUnasked}
use Rattle.cluster_rounds.specs.Worlds.{Does, DoesIf, Happened, HasState, HasStateOf, IsGood, Shows, StandsIn, heard_by}
use Rattle.cluster_rounds.proofs.KitSteps.{calm-serves, calm-unasked}

module _ {Peers Group : Type 0} (kit : Kit Peers Group) (laws : IsKit kit) where
  -- one event after another
  pub happened-then : (setup : Setup) (first : Outcome (State Peers)) (event : State Peers → Outcome (State Peers)) (middle new : Cluster Group) (before between after : List (List ℕ)) → (Happened kit) setup first middle before between → (Happened kit) setup (event first.state) new between after → (Happened kit) setup (and_then first event) new before after
  happened-then setup first event middle new before between after one two =
      let next = event first.state in (
        two.0,
        two.1,
        two.2 ∙ ap (λ lines. lines ++ printed next.told) one.2
            ∙ append_assoc before (printed first.told) (printed next.told)
            ∙ ap (λ lines. before ++ lines) (sym (printed-append next.told first.told)),
      )

  -- What an agent sends again is heard.

  pub again-goes : (setup : Setup) (messages : List Message) (state : State Peers) → IsSteady (plain_of setup) kit.Good state → AllByRecursion (λ message. Stands message (messages_in state.world.net)) messages → Goes (SaysUnasked (plain_of setup)) (IsSteady (plain_of setup) kit.Good) state (for_each ((again kit) setup) messages state)
  again-goes setup messages state steady stands =
      let plain = plain_of setup in
      for_each-goes plain (is_plain setup) (calm_servers kit setup) kit.Good ((calm-serves kit laws) setup) (SaysUnasked plain) ((calm-unasked kit laws) setup) (IsSteady plain kit.Good) (λ message world. Stands message (messages_in world.net)) ((again kit) setup) (λ message now held there. hear-goes plain (is_plain setup) (calm_servers kit setup) kit.Good ((calm-serves kit laws) setup) (SaysUnasked plain) ((calm-unasked kit laws) setup) (number_of plain message now.world.net) message now there held) (λ message old new stays there. stays.net message there) messages state steady stands

  all-front : {X : Type 0} (P : X → Type 0) (front : List X) (x : X) → AllByRecursion P (front ++ x ∷ []) → AllByRecursion P front
  all-front P [] x all = tt
  all-front P (first ∷ front) x all = (all.0, all-front P front x all.1)

  all-last : {X : Type 0} (P : X → Type 0) (front : List X) (x : X) → AllByRecursion P (front ++ x ∷ []) → P x
  all-last P [] x all = all.0
  all-last P (first ∷ front) x all = all-last P front x all.1

  pub hears-none_yet : (world : Cluster Group) (lines : List (List ℕ)) → (HearsAll kit) [] world world lines lines
  hears-none_yet world lines setup state good shows stands = (shows, good, sym (Rattle.std.proofs.Common.append-nil lines))

  pub hears-one_more : (messages : List Message) (count place : ℕ) (message : Message) (old middle new : Cluster Group) (before between after : List (List ℕ)) → count < length messages → message ≡ get_or messages count message → (HearsAll kit) (take count messages) old middle before between → IsNumberIn message middle.net place → (DoesIf kit) (StandsIn message) ((heard_by kit) place message) middle new between after → (HearsAll kit) (take (count + 1) messages) old new before after
  hears-one_more messages count place message old middle new before between after within is so_far number hears setup state good shows all =
      let plain = plain_of setup in
      let front = take count messages in
      let more : take (count + 1) messages ≡ front ++ message ∷ [] = take_more messages count message within ∙ ap (λ m. front ++ m ∷ []) (sym is) in
      let S : Message → Type 0 = λ m. Stands m (messages_in state.world.net) in
      let split : AllByRecursion S (front ++ message ∷ []) = subst (AllByRecursion S) more all in
      let heard = for_each ((again kit) setup) front state in
      let stands_front = all-front S front message split in
      let first = so_far setup state good shows stands_front in
      let goes = again-goes setup front state good.steady stands_front in
      let stands = goes.stays.net message (all-last S front message split) in
      let second = hears setup heard.state first.1 first.0 stands in
      let same : place ≡ number_of plain message heard.state.world.net = number plain heard.state.world.net (is_plain setup) first.0.net in
      let H : ℕ → Type 0 = λ at. (Happened kit) setup ((heard_by kit) at message setup heard.state) new between after in
      let last : (Happened kit) setup ((again kit) setup message heard.state) new between after = subst H same second in
      let both = happened-then setup heard (for_each ((again kit) setup) (message ∷ [])) middle new before between after first last in
      let W : Outcome (State Peers) → Type 0 = λ outcome. (Happened kit) setup outcome new before after in
      subst (λ ms. W (for_each ((again kit) setup) ms state)) (sym more) (subst W (sym (for_each-append ((again kit) setup) front (message ∷ []) state)) both)

  pub hears-whole : (messages : List Message) (count : ℕ) (old new : Cluster Group) (before after : List (List ℕ)) → take count messages ≡ messages → (HearsAll kit) (take count messages) old new before after → (HearsAll kit) messages old new before after
  hears-whole messages count old new before after whole hears =
      let H : List Message → Type 0 = λ ms. (HearsAll kit) ms old new before after in
      subst H whole hears

  -- the world stands for a state in which these messages stand in the net
  pub still-standing : (messages : List Message) (count : ℕ) (old new : Cluster Group) (before after : List (List ℕ)) → (HasStateOf kit) (AllStandIn messages) old → (HearsAll kit) (take count messages) old new before after → (HasState kit) new
  still-standing messages count old new before after stand hears =
      let all = All-take (λ m. Stands m (messages_in stand.state.world.net)) count messages stand.so in
      let done = hears stand.setup stand.state stand.good stand.shows all in
      record { setup = stand.setup; state = (for_each ((again kit) stand.setup) (take count messages) stand.state).state; good = done.1; shows = done.0; so = tt }

  -- What is sent again.

  stands-fits : (message : Message) (postings : List Posting) (net : List (List ℕ)) → AreSpelled postings net → Stands message (messages_in postings) → MessageFits message
  stands-fits message [] net spelled stands = elim stands [ ]
  stands-fits message (posting ∷ postings) [] spelled stands = elim spelled [ ]
  stands-fits message (Raw bytes front why ∷ postings) (known ∷ net) spelled stands = stands-fits message postings net spelled.1 stands
  stands-fits message (Spelled other ∷ postings) (known ∷ net) spelled (inl same) = subst MessageFits (sym same) spelled.0.fits
  stands-fits message (Spelled other ∷ postings) (known ∷ net) spelled (inr stands) = stands-fits message postings net spelled.1 stands

  fits-run : (plain : Plain) (past : List Entry) (message : Message) → IsOfRun plain past message → MessageFits message → MessageInRange message
  fits-run plain past (Request client number call) is fits = (fits.0, fits.1)
  fits-run plain past (Answer client number reply) is fits = (fits.0, fits.1)
  fits-run plain past (Delivery client key item) is fits = (fits.0, fits.1, record { number = fits.2.number })
  fits-run plain past (Receipt client key through) is fits = (fits.0, fits.1, fits.2)
  fits-run plain past _ is fits = elim is [ ]

  -- a message of the net is in range
  pub standing-range : (setup : Setup) (state : State Peers) (old : Cluster Group) (message : Message) → (IsGood kit) setup state → (Shows kit) setup state old → Stands message (messages_in state.world.net) → MessageInRange message
  standing-range setup state old message good shows stands =
      let plain = plain_of setup in
      fits-run plain state.world.core.answered message (All-at (IsOfRun plain state.world.core.answered) message (messages_in state.world.net) good.steady.sound.facts.run stands) (stands-fits message state.world.net old.net shows.net stands)

  pub all-range : (messages : List Message) (old : Cluster Group) → (HasStateOf kit) (AllStandIn messages) old → AllByRecursion MessageInRange messages
  all-range messages old stand =
      All-map (λ m. Stands m (messages_in stand.state.world.net)) MessageInRange messages (λ message stands. standing-range stand.setup stand.state old message stand.good stand.shows stands) stand.so

  pub resent-stand : (setup : Setup) (client : ℕ) (state : State Peers) → (IsGood kit) setup state → AllByRecursion (λ message. Stands message (messages_in state.world.net)) (resent client (state.world.agents client))
  resent-stand setup client state good = resent-posted (plain_of setup) client state.world good.steady.sound

  -- the messages that the agent of a client sends again
  pub resent-by : (client at : ℕ) (old : Cluster Group) (agent : Seen) (messages : List Message) → StandsAt client at old.agents → agent ≡ get_or old.agents at agent → ((c places : ℕ) (a : Agent) → agent ≡ seen_of c places a → messages ≡ resent c a) → (setup : Setup) (state : State Peers) → (Shows kit) setup state old → messages ≡ resent client (state.world.agents client)
  resent-by client at old agent messages found is are setup state shows =
      let there = seen-at client at old.agents state.world shows.agents found in
      let seen = seen_of client state.world.places (state.world.agents client) in
      are client state.world.places (state.world.agents client) (is ∙ get_or_from_slice_get old.agents at seen agent there.1)

  pub resent-standing : (client at : ℕ) (old : Cluster Group) (agent : Seen) (messages : List Message) → (HasState kit) old → StandsAt client at old.agents → agent ≡ get_or old.agents at agent → ((c places : ℕ) (a : Agent) → agent ≡ seen_of c places a → messages ≡ resent c a) → (HasStateOf kit) (AllStandIn messages) old
  resent-standing client at old agent messages stands found is are =
      let same = resent-by client at old agent messages found is are stands.setup stands.state stands.shows in
      record {
        setup = stands.setup;
        state = stands.state;
        good = stands.good;
        shows = stands.shows;
        so = subst (λ ms. AllByRecursion (λ message. Stands message (messages_in stands.state.world.net)) ms) (sym same) (resent-stand stands.setup client stands.state stands.good);
      }

  pub resends : (client at : ℕ) (old new : Cluster Group) (agent : Seen) (messages : List Message) (before after : List (List ℕ)) → StandsAt client at old.agents → agent ≡ get_or old.agents at agent → ((c places : ℕ) (a : Agent) → agent ≡ seen_of c places a → messages ≡ resent c a) → (HearsAll kit) messages old new before after → (Does kit) ((resent_by kit) client) old new before after
  resends client at old new agent messages before after found is are hears setup state good shows =
      let same = resent-by client at old agent messages found is are setup state shows in
      let H : List Message → Type 0 = λ ms. (HearsAll kit) ms old new before after in
      subst H same hears setup state good shows (resent-stand setup client state good)

  -- a client without an agent sends nothing
  pub resends-nothing : (client : ℕ) (old : Cluster Group) (before : List (List ℕ)) → IsAbsent client old.agents → (Does kit) ((resent_by kit) client) old old before before
  resends-nothing client old before none setup state good shows =
      let is_fresh : state.world.agents client ≡ fresh = (fresh-agent client old.agents state.world shows.agents none).1 in
      let H : Agent → Type 0 = λ agent. (Happened kit) setup (for_each ((again kit) setup) (resent client agent) state) old before before in
      subst H (sym is_fresh) (shows, good, sym (Rattle.std.proofs.Common.append-nil before))

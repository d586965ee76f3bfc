-- Events of agents and net, and messages that are delivered or sent again, that break off.
use Rattle.std.proofs.Common.{◌≡◌, ℕ, ◌<◌, inl, inr, Bool, if◌then◌else◌, Option, Some, None, List, [], ◌∷◌, length, get_or, take, refl, sym, subst}
use Rattle.plain_service.specs.Setups.{Setup}
use Rattle.service_laws.specs.PlainOf.{plain_of}
use Rattle.service_laws.proofs.ServiceLaws.{is_plain}
use Rattle.cluster_facts.specs.Types.{Ask, Call, Status, Message}
use Rattle.cluster_facts.specs.Lists.{Stands}
use Rattle.cluster_facts.specs.Messages.{sent_by, messages_in}
use Rattle.cluster_facts.specs.Service.{Plain}
use Rattle.cluster_facts.specs.Agents.{Agent, refusal, call_of, dispatch_refusal, resent, fed_of, after_call}
use Rattle.cluster_facts.specs.World.{World, number_of}
use Rattle.cluster_facts.specs.Facts.{IsSound}
use Rattle.cluster_facts.proofs.Words.{each_client}
use Rattle.cluster_facts.proofs.Posting.{posting_at-stands}
use Rattle.cluster_events.specs.Outcomes.{for_each}
use Rattle.cluster_events.specs.Servers.{State}
use Rattle.cluster_events.specs.ClientEvents.{inject, ask_by, ask, dispatch_one_by, dispatch_all_by}
use Rattle.client_agent.specs.declared.answers.How.{How}
use Rattle.client_agent.specs.declared.answers.How.TheVariants.{One, All}
use Rattle.client_agent.specs.Seen.{Seen, seen_of}
use Rattle.cluster_rounds.specs.declared.cluster.Cluster.{Cluster}
use Rattle.cluster_clients.specs.Clients.{dispatch_as, StandsAt}
use Rattle.cluster_clients.specs.PartlyDone.{AsksPartly, MayDispatch, TakesPartly}
use Rattle.cluster_clients.specs.declared.fetching.Fetched.TheVariants.{Whole}
use Rattle.cluster_clients.specs.Spelled.{IsFetched, InjectsOrNot}
use Rattle.cluster_clients.specs.Taken.{taken_as}
use Rattle.cluster_clients.proofs.ListSteps.{All-take}
use Rattle.cluster_rounds.specs.Broken.{Broken, BreaksAlone, BreaksAloneIf, IsFedOf}
use Rattle.cluster_rounds.specs.Delivered.{AllStandIn, HearsAll, again}
use Rattle.cluster_rounds.specs.Kits.{IsKit, Kit}
use Rattle.cluster_rounds.specs.Worlds.{StandsIn}
use Rattle.cluster_rounds.proofs.ArmedSteps.{hear-keeps, hear-told}
use Rattle.cluster_rounds.proofs.BrokenSteps.{event-broken, happened-broken, shown-broken, sound-fed, unasked-fed}
use Rattle.cluster_rounds.proofs.ChainSteps.{again-goes, resent-by, resent-stand}
use Rattle.cluster_rounds.proofs.RoundSteps.{All-at}
use Rattle.cluster_rounds.proofs.TakenSteps.{injected-kept, asked-kept, asked-moved, dispatched-moved, given-kept, taken-goes}

module _ {Peers Group : Type 0} (kit : Kit Peers Group) (laws : IsKit kit) where
  -- **a delivery to an agent, done in part**
  pub takes-break : (place : ℕ) (message : Message) (old : Cluster Group) (net : List (List ℕ)) (agents : List Seen) → TakesPartly place message old.net net old.agents agents → (BreaksAloneIf kit) (StandsIn message) old (record old { net = net; agents = agents })
  takes-break place message old net agents partly held setup state good shows stands =
      let plain = plain_of setup in
      let goes = (taken-goes kit laws) setup place message state.world stands good.steady.sound in
      (event-broken kit laws) setup state (taken_as plain place message state.world) old net agents held good shows
      (record {
        sound = goes.sound;
        says = goes.carried.says;
        same = record { core = goes.core; now = goes.stays.now; places = goes.stays.places };
        fed = (unasked-fed kit laws) plain state.world (taken_as plain place message state.world).state goes.sound goes.carried.asks.sent;
      })
      (partly plain state.world (is_plain setup) shows.net shows.agents)

  -- **bytes that were injected without their line, or not**
  pub injects-break : (bytes : List ℕ) (old : Cluster Group) (net : List (List ℕ)) → InjectsOrNot bytes old.net net → (BreaksAlone kit) old (record old { net = net })
  injects-break bytes old net (inl same) held setup state good shows =
      subst (λ n. (Broken kit) setup state held held (record old { net = n })) (sym same) ((shown-broken kit laws) setup state held old good shows)
  injects-break bytes old net (inr injects) held setup state good shows =
      let raw = injects.0 in
      let plain = plain_of setup in
      let kept = (injected-kept kit laws) setup bytes raw.front raw.why state raw.refused good.steady in
      (event-broken kit laws) setup state (inject bytes raw.front raw.why state.world) old net old.agents held good shows
      (record { sound = kept.0.sound; says = kept.1; same = record { core = refl; now = refl; places = refl }; fed = (sound-fed kit laws) plain state.world good.steady.sound })
      (record { net_is = inr (injects.1 raw.front raw.why state.world.net raw.refused shows.net); agents_are = inl shows.agents })

  -- a call leaves what its client was fed
  asked-fed : (plain : Plain) (client : ℕ) (call : Call) (status : Option Status) (world : World) → IsSound plain world → (other : ℕ) → IsFedOf plain (ask_by plain client call status world).state.core.answered (sent_by other (messages_in world.net)) other (fed_of ((ask_by plain client call status world).state.agents other))
  asked-fed plain client call (Some status) world sound other = (sound-fed kit laws) plain world sound other
  asked-fed plain client call None world sound other =
      let Q : ℕ → Bool → Type 0 = λ who own. IsFedOf plain world.core.answered (sent_by who (messages_in world.net)) who (fed_of (if own then after_call call (world.agents client) else world.agents who)) in
      each_client Q client ((sound-fed kit laws) plain world sound client) ((sound-fed kit laws) plain world sound) other

  pub asks-break : (client : ℕ) (asked : Ask) (old : Cluster Group) (net : List (List ℕ)) (agents : List Seen) → AsksPartly old.callbacks client asked old.net net old.agents agents → (BreaksAlone kit) old (record old { net = net; agents = agents })
  asks-break client asked old net agents partly held setup state good shows =
      let plain = plain_of setup in
      let kept = (asked-kept kit laws) setup client asked state good.steady in
      (event-broken kit laws) setup state (ask plain client asked state.world) old net agents held good shows
      (record { sound = kept.0.sound; says = kept.1; same = (asked-moved kit laws) plain client (call_of asked) (refusal asked (state.world.agents client)) state.world; fed = asked-fed plain client (call_of asked) (refusal asked (state.world.agents client)) state.world good.steady.sound })
      (partly plain state.world (is_plain setup) shows.net shows.agents (sym shows.callbacks))

  -- **callbacks that were handed out without their lines, or not**
  given_one-sent : (client : ℕ) (status : Option Status) (world : World) (other : ℕ) → sent_by other (messages_in (dispatch_one_by client status world).state.net) ≡ sent_by other (messages_in world.net)
  given_one-sent client (Some status) world other = refl
  given_one-sent client None world other = refl

  given_all-sent : (client : ℕ) (status : Option Status) (world : World) (other : ℕ) → sent_by other (messages_in (dispatch_all_by client status world).state.net) ≡ sent_by other (messages_in world.net)
  given_all-sent client (Some status) world other = refl
  given_all-sent client None world other = refl

  given-sent : (how : How) (client : ℕ) (world : World) (other : ℕ) → sent_by other (messages_in (dispatch_as how client world).state.net) ≡ sent_by other (messages_in world.net)
  given-sent One client world = given_one-sent client (dispatch_refusal (world.agents client)) world
  given-sent (All workers) client world = given_all-sent client (dispatch_refusal (world.agents client)) world

  pub dispatch-breaks : (how : How) (client : ℕ) (old : Cluster Group) (agents : List Seen) → MayDispatch how client old.agents agents → (BreaksAlone kit) old (record old { agents = agents })
  dispatch-breaks how client old agents may held setup state good shows =
      let kept = (given-kept kit laws) setup how client state good.steady in
      (event-broken kit laws) setup state (dispatch_as how client state.world) old old.net agents held good shows
      (record {
        sound = kept.0.sound;
        says = kept.1;
        same = (dispatched-moved kit laws) how client state.world;
        fed = (unasked-fed kit laws) (plain_of setup) state.world (dispatch_as how client state.world).state kept.0.sound (given-sent how client state.world);
      })
      (record { net_is = inl shows.net; agents_are = may state.world shows.agents })

  -- Nothing was done.
  pub same-breaks : (world : Cluster Group) → (BreaksAlone kit) world world
  same-breaks world held setup state good shows = (shown-broken kit laws) setup state held world good shows

  pub same-breaks-if : (P : State Peers → Type 0) (world : Cluster Group) → (BreaksAloneIf kit) P world world
  same-breaks-if P world held setup state good shows so = (shown-broken kit laws) setup state held world good shows

  -- Messages that are heard one after another.

  -- hearing leaves what the disks hold
  again-tells : (setup : Setup) (messages : List Message) (state : State Peers) (seen : kit.Seen) → kit.Tells setup state seen → kit.Tells setup (for_each ((again kit) setup) messages state).state seen
  again-tells setup [] state seen tells = tells
  again-tells setup (message ∷ messages) state seen tells =
      let place = number_of (plain_of setup) message state.world.net in
      again-tells setup messages ((again kit) setup message state).state seen ((hear-told kit laws) place message setup state seen tells)

  again-files : (setup : Setup) (messages : List Message) (state : State Peers) (seen : kit.Seen) → kit.Tells setup state seen → kit.Leaves setup (for_each ((again kit) setup) messages state).state seen seen
  again-files setup messages state seen tells =
      let last = (for_each ((again kit) setup) messages state).state in
      laws.left_same setup last seen (again-tells setup messages state seen tells)

  -- and what tells of their armed counts
  again-keeps : (setup : Setup) (messages : List Message) (state : State Peers) (seen : kit.Seen) → kit.Armed state.peers seen → kit.Armed (for_each ((again kit) setup) messages state).state.peers seen
  again-keeps setup [] state seen armed = armed
  again-keeps setup (message ∷ messages) state seen armed =
      again-keeps setup messages ((again kit) setup message state).state seen ((hear-keeps kit laws) message setup state seen armed)

  -- between two of them
  pub hears-stop : (messages : List Message) (count : ℕ) (old now : Cluster Group) (before after : List (List ℕ)) → (HearsAll kit) (take count messages) old now before after → (BreaksAloneIf kit) (AllStandIn messages) old now
  hears-stop messages count old now before after hears held setup state good shows stand =
      let front = take count messages in
      let all = All-take (λ m. Stands m (messages_in state.world.net)) count messages stand in
      let first = hears setup state good shows all in
      let goes = (again-goes kit laws) setup front state good.steady all in
      let done = for_each ((again kit) setup) front state in
      (happened-broken kit laws) setup state done.state done.told held held held now goes.carried (again-keeps setup front state held) (again-files setup front state held) ((shown-broken kit laws) setup done.state held now first.1 first.0)

  -- within one
  pub hears-stop-within : (messages : List Message) (count : ℕ) (message : Message) (old now new : Cluster Group) (before after : List (List ℕ)) → count < length messages → message ≡ get_or messages count message → (HearsAll kit) (take count messages) old now before after → (BreaksAloneIf kit) (StandsIn message) now new → (BreaksAloneIf kit) (AllStandIn messages) old new
  hears-stop-within messages count message old now new before after within is hears breaks held setup state good shows stand =
      let front = take count messages in
      let all = All-take (λ m. Stands m (messages_in state.world.net)) count messages stand in
      let first = hears setup state good shows all in
      let goes = (again-goes kit laws) setup front state good.steady all in
      let done = for_each ((again kit) setup) front state in
      let stands = goes.stays.net message ((All-at kit laws) (λ m. Stands m (messages_in state.world.net)) count messages message stand within is) in
      (happened-broken kit laws) setup state done.state done.told held held held new goes.carried (again-keeps setup front state held) (again-files setup front state held) (breaks held setup done.state first.1 first.0 stands)

  -- what a client sends again
  pub resends-break : (client at : ℕ) (old new : Cluster Group) (agent : Seen) (messages : List Message) → StandsAt client at old.agents → agent ≡ get_or old.agents at agent → ((c places : ℕ) (a : Agent) → agent ≡ seen_of c places a → messages ≡ resent c a) → (BreaksAloneIf kit) (AllStandIn messages) old new → (BreaksAlone kit) old new
  resends-break client at old new agent messages found is are breaks held setup state good shows =
      let same = (resent-by kit laws) client at old agent messages found is are setup state shows in
      let B : List Message → Type 0 = λ ms. (BreaksAloneIf kit) (AllStandIn ms) old new in
      subst B same breaks held setup state good shows ((resent-stand kit laws) setup client state good)

  -- a message of the net
  pub delivery-breaks : (place : ℕ) (message : Message) (old new : Cluster Group) → IsFetched place old.net (Some (Whole message)) → (BreaksAloneIf kit) (StandsIn message) old new → (BreaksAlone kit) old new
  delivery-breaks place message old new fetched breaks held setup state good shows =
      breaks held setup state good shows (posting_at-stands place state.world.net message (fetched.1 state.world.net shows.net))

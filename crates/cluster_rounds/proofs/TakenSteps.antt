-- Events of agents and net in the world of the code: the servers stay as they are.
use Rattle.std.proofs.Common.{◌≡◌, ℕ, Bool, zero, suc, ◌≤◌, ◌∷◌, arith, true, false, inr, Option, Some, None, List, [], refl, ap, sym, ◌∙◌, subst}
use Rattle.script_lines.specs.declared.line.Line.TheVariants as line
use Rattle.wire.specs.Messages.{IsRefusedAt}
use Rattle.plain_service.specs.Setups.{Setup, IsMoment}
use Rattle.service_laws.specs.PlainOf.{plain_of}
use Rattle.service_laws.proofs.ServiceLaws.{is_plain}
use Rattle.cluster_facts.specs.Types.{Ask, Call, Status, Message, Answer, Delivery, WireWhy}
use Rattle.cluster_facts.specs.Lists.{Stands}
use Rattle.cluster_facts.specs.Service.{Plain}
use Rattle.cluster_facts.specs.Agents.{Agent, refusal, call_of, dispatch_refusal}
use Rattle.cluster_facts.specs.History.{Core, committed, accepted}
use Rattle.cluster_facts.specs.Ranges.{AreInRange}
use Rattle.cluster_facts.specs.Messages.{messages_in}
use Rattle.cluster_facts.specs.World.{World}
use Rattle.cluster_facts.specs.Facts.{IsSound}
use Rattle.cluster_events.specs.Servers.{State, in_world}
use Rattle.cluster_events.specs.ClientEvents.{inject, ask_by, ask, dispatch_one_by, dispatch_all_by, dispatch_one, dispatch_all}
use Rattle.cluster_events.specs.Running.{Shelf}
use Rattle.cluster_events.specs.Saying.{Says}
use Rattle.cluster_events.specs.Serving.{IsSteady}
use Rattle.cluster_events.proofs.Carrying.{WorldGoes, Stays-same, take_reply-goes, take_item-goes, in_world-goes}
use Rattle.client_agent.specs.declared.answers.How.{How}
use Rattle.client_agent.specs.declared.answers.How.TheVariants.{One, All}
use Rattle.client_agent.specs.Seen.{Seen, seen_of}
use Rattle.cluster_rounds.specs.declared.cluster.Cluster.{Cluster}
use Rattle.cluster_clients.specs.Asked.{AllStarted, Asks}
use Rattle.cluster_clients.specs.Clients.{Dispatches, ShowsAgents, dispatch_as, seen_all}
use Rattle.cluster_clients.specs.Spelled.{AreSpelled, IsRaw, InjectsRaw}
use Rattle.cluster_clients.specs.Spelled as clients
use Rattle.cluster_clients.specs.Taken.{Takes, taken_as}
use Rattle.cluster_rounds.specs.Delivered.{Injects}
use Rattle.cluster_rounds.specs.Kits.{IsKit, Kit, calm_servers}
use Rattle.cluster_rounds.specs.PartlyDone.{SaysUnasked}
use Rattle.cluster_rounds.specs.Worlds.{Happened, HasState, IsGood, Shows}
use Rattle.cluster_rounds.proofs.KitSteps.{calm-serves, calm-unasked, line-kept}

-- history, time and places are the same
pub record IsMoved (old new : World) : Type 0 where
  pub core : new.core ≡ old.core
  pub now : new.now ≡ old.now
  pub places : new.places ≡ old.places

-- each agent numbers its calls from 1
pub started-from : (places : ℕ) (agents : ℕ → Agent) (clients : List ℕ) → ((client : ℕ) → 1 ≤ (agents client).next) → AllStarted (seen_all places agents clients)
started-from places agents [] started place one is = cc
started-from places agents (client ∷ clients) started zero one is =
    let own : seen_of client places (agents client) ≡ one = cc in
    subst (λ (seen : Seen). 1 ≤ seen.next) own (started client)
started-from places agents (client ∷ clients) started (suc place) one is = started-from places agents clients started place one is

-- files that nobody looks at
abbrev any_shelf : Shelf
any_shelf = record { listing = λ past. []; text = λ name past. None }

module _ {Peers Group : Type 0} (kit : Kit Peers Group) (laws : IsKit kit) where
  -- a state with another world, whose history, time and places are the same
  abbrev pub moved : State Peers → World → State Peers
  moved state world = record { world = world; peers = state.peers }

  pub shows-moved : (setup : Setup) (state : State Peers) (world : World) (old : Cluster Group) (net : List (List ℕ)) (agents : List Seen) → (Shows kit) setup state old → IsMoved state.world world → AreSpelled world.net net → ShowsAgents world agents → (Shows kit) setup (moved state world) (record old { net = net; agents = agents })
  shows-moved setup state world old net agents shows same spelled seen =
      let A : Core → Type 0 = λ core. kit.Own setup core.answered core.hand state.peers old.servers in
      record {
        own = subst A (sym same.core) shows.own;
        net = spelled;
        agents = seen;
        history = shows.history ∙ ap committed (sym same.core);
        now = shows.now ∙ sym same.now;
        callbacks = shows.callbacks ∙ sym same.places;
      }

  pub good-moved : (setup : Setup) (state : State Peers) (world : World) → (IsGood kit) setup state → IsMoved state.world world → IsSteady (plain_of setup) kit.Good (moved state world) → (IsGood kit) setup (moved state world)
  good-moved setup state world good same steady = record {
    begins = good.begins;
    steady = steady;
    range = subst (λ (core : Core). AreInRange (accepted core)) (sym same.core) good.range;
    moment = subst IsMoment (sym same.now) good.moment;
  }

  -- what asking and handing out keep, and what they say
  pub asked-kept : (setup : Setup) (client : ℕ) (asked : Ask) (state : State Peers) → IsSteady (plain_of setup) kit.Good state → IsSteady (plain_of setup) kit.Good (in_world (ask (plain_of setup) client asked) state).state × Says (plain_of setup) state.world (ask (plain_of setup) client asked state.world).state (ask (plain_of setup) client asked state.world).told
  asked-kept setup client asked state steady =
      (line-kept kit laws) setup any_shelf (line.Log client asked) state (in_world (ask (plain_of setup) client asked) state) steady refl

  pub given-kept : (setup : Setup) (how : How) (client : ℕ) (state : State Peers) → IsSteady (plain_of setup) kit.Good state → IsSteady (plain_of setup) kit.Good (in_world (dispatch_as how client) state).state × Says (plain_of setup) state.world (dispatch_as how client state.world).state (dispatch_as how client state.world).told
  given-kept setup One client state steady = (line-kept kit laws) setup any_shelf (line.DispatchOne client) state (in_world (dispatch_one client) state) steady refl
  given-kept setup (All workers) client state steady = (line-kept kit laws) setup any_shelf (line.DispatchAll client workers) state (in_world (dispatch_all client) state) steady refl

  -- Bytes are injected.

  pub injected-kept : (setup : Setup) (bytes : List ℕ) (front : ℕ) (why : WireWhy) (state : State Peers) → IsRefusedAt bytes front why → IsSteady (plain_of setup) kit.Good state → IsSteady (plain_of setup) kit.Good (in_world (inject bytes front why) state).state × Says (plain_of setup) state.world (inject bytes front why state.world).state (inject bytes front why state.world).told
  injected-kept setup bytes front why state refused steady =
      (line-kept kit laws) setup any_shelf (line.Inject bytes) state (in_world (inject bytes front why) state) steady (inr (record { front = front; why = why; refused = refused; is = refl }))

  injects-happens : (setup : Setup) (bytes : List ℕ) (state : State Peers) (old : Cluster Group) (net : List (List ℕ)) (before after : List (List ℕ)) → (IsGood kit) setup state → (Shows kit) setup state old → (raw : IsRaw bytes) → InjectsRaw bytes old.net net before after → (Happened kit) setup (in_world (inject bytes raw.front raw.why) state) (record old { net = net }) before after
  injects-happens setup bytes state old net before after good shows raw injects =
      let done = injects raw.front raw.why state.world.net raw.refused shows.net in
      let world = (inject bytes raw.front raw.why state.world).state in
      let same : IsMoved state.world world = record { core = refl; now = refl; places = refl } in
      let seen : ShowsAgents world old.agents = record { shown = shows.agents.shown; rising = shows.agents.rising; listed = shows.agents.listed } in
      let steady = (injected-kept setup bytes raw.front raw.why state raw.refused good.steady).0 in
      (shows-moved setup state world old net old.agents shows same done.0 seen, good-moved setup state world good same steady, done.1)

  pub injects-so : (bytes : List ℕ) (done : Bool) (old : Cluster Group) (net : List (List ℕ)) (before after : List (List ℕ)) → clients.Injects bytes done old.net net before after → (Injects kit) bytes done old (record old { net = net }) before after
  injects-so bytes true old net before after injects =
      (injects.0, λ setup state good shows. injects-happens setup bytes state old net before after good shows injects.0 injects.1)
  injects-so bytes false old net before after injects = (injects.0, ap (λ n. record old { net = n }) injects.1, injects.2)

  -- A message is delivered to an agent.

  pub taken-goes : (setup : Setup) (place : ℕ) (message : Message) (world : World) → Stands message (messages_in world.net) → IsSound (plain_of setup) world → WorldGoes (plain_of setup) (SaysUnasked (plain_of setup)) world (taken_as (plain_of setup) place message world)
  taken-goes setup place (Answer client number reply) world stands sound =
      take_reply-goes (plain_of setup) (is_plain setup) (calm_servers kit setup) kit.Good ((calm-serves kit laws) setup) (SaysUnasked (plain_of setup)) ((calm-unasked kit laws) setup) place client number reply world stands sound
  taken-goes setup place (Delivery client key item) world stands sound =
      take_item-goes (plain_of setup) (is_plain setup) (calm_servers kit setup) kit.Good ((calm-serves kit laws) setup) (SaysUnasked (plain_of setup)) ((calm-unasked kit laws) setup) place client key item world stands sound
  taken-goes setup place message world stands sound = record { sound = sound; carried = ((calm-unasked kit laws) setup).same world; stays = Stays-same world; core = refl }

  pub taken-moved : (plain : Plain) (place : ℕ) (message : Message) (world : World) → WorldGoes plain (SaysUnasked plain) world (taken_as plain place message world) → IsMoved world (taken_as plain place message world).state
  taken-moved plain place message world goes = record { core = goes.core; now = goes.stays.now; places = goes.stays.places }

  pub good-taken : (setup : Setup) (place : ℕ) (message : Message) (state : State Peers) → (IsGood kit) setup state → Stands message (messages_in state.world.net) → (IsGood kit) setup (in_world (taken_as (plain_of setup) place message) state).state
  good-taken setup place message state good stands =
      let plain = plain_of setup in
      let plainly = is_plain setup in
      let goes = taken-goes setup place message state.world stands good.steady.sound in
      let steady = (in_world-goes plain plainly (calm_servers kit setup) kit.Good ((calm-serves kit laws) setup) (SaysUnasked plain) ((calm-unasked kit laws) setup) (taken_as plain place message) state good.steady goes).holds in
      good-moved setup state (taken_as plain place message state.world).state good (taken-moved plain place message state.world goes) steady

  pub shows-taken : (setup : Setup) (place : ℕ) (message : Message) (state : State Peers) (old : Cluster Group) (net : List (List ℕ)) (agents : List Seen) → (IsGood kit) setup state → Stands message (messages_in state.world.net) → (Shows kit) setup state old → AreSpelled (taken_as (plain_of setup) place message state.world).state.net net → ShowsAgents (taken_as (plain_of setup) place message state.world).state agents → (Shows kit) setup (in_world (taken_as (plain_of setup) place message) state).state (record old { net = net; agents = agents })
  shows-taken setup place message state old net agents good stands shows spelled seen =
      let plain = plain_of setup in
      let goes = taken-goes setup place message state.world stands good.steady.sound in
      shows-moved setup state (taken_as plain place message state.world).state old net agents shows (taken-moved plain place message state.world goes) spelled seen

  pub takes-happens : (setup : Setup) (place : ℕ) (message : Message) (state : State Peers) (old : Cluster Group) (net : List (List ℕ)) (agents : List Seen) (before after : List (List ℕ)) (loud : Bool) → (IsGood kit) setup state → (Shows kit) setup state old → Stands message (messages_in state.world.net) → Takes (Some place) message old.net net old.agents agents before after loud → (Happened kit) setup (in_world (taken_as (plain_of setup) place message) state) (record old { net = net; agents = agents }) before after
  takes-happens setup place message state old net agents before after loud good shows stands takes =
      let done = takes (plain_of setup) state.world (is_plain setup) shows.net shows.agents in
      (shows-taken setup place message state old net agents good stands shows done.0 done.1, good-taken setup place message state good stands, done.2)

  -- A client asks.

  pub asked-moved : (plain : Plain) (client : ℕ) (call : Call) (status : Option Status) (world : World) → IsMoved world (ask_by plain client call status world).state
  asked-moved plain client call (Some status) world = record { core = refl; now = refl; places = refl }
  asked-moved plain client call None world = record { core = refl; now = refl; places = refl }

  pub asks-happens : (setup : Setup) (client : ℕ) (asked : Ask) (state : State Peers) (old : Cluster Group) (net : List (List ℕ)) (agents : List Seen) (before after : List (List ℕ)) → (IsGood kit) setup state → (Shows kit) setup state old → Asks old.callbacks client asked old.net net old.agents agents before after → (Happened kit) setup (in_world (ask (plain_of setup) client asked) state) (record old { net = net; agents = agents }) before after
  asks-happens setup client asked state old net agents before after good shows asks =
      let plain = plain_of setup in
      let done = asks plain state.world (is_plain setup) shows.net shows.agents (sym shows.callbacks) in
      let same = asked-moved plain client (call_of asked) (refusal asked (state.world.agents client)) state.world in
      let steady = (asked-kept setup client asked state good.steady).0 in
      (shows-moved setup state (ask plain client asked state.world).state old net agents shows same done.0 done.1, good-moved setup state (ask plain client asked state.world).state good same steady, done.2)

  -- Callbacks are handed out.

  dispatched_one-moved : (client : ℕ) (status : Option Status) (world : World) → IsMoved world (dispatch_one_by client status world).state
  dispatched_one-moved client (Some status) world = record { core = refl; now = refl; places = refl }
  dispatched_one-moved client None world = record { core = refl; now = refl; places = refl }

  dispatched_all-moved : (client : ℕ) (status : Option Status) (world : World) → IsMoved world (dispatch_all_by client status world).state
  dispatched_all-moved client (Some status) world = record { core = refl; now = refl; places = refl }
  dispatched_all-moved client None world = record { core = refl; now = refl; places = refl }

  pub dispatched-moved : (how : How) (client : ℕ) (world : World) → IsMoved world (dispatch_as how client world).state
  dispatched-moved One client world = dispatched_one-moved client (dispatch_refusal (world.agents client)) world
  dispatched-moved (All workers) client world = dispatched_all-moved client (dispatch_refusal (world.agents client)) world

  dispatched-net : (how : How) (client : ℕ) (world : World) → (dispatch_as how client world).state.net ≡ world.net
  dispatched-net how client world = by-how how
    where
      one : (status : Option Status) → (dispatch_one_by client status world).state.net ≡ world.net
      one (Some status) = refl
      one None = refl

      all : (status : Option Status) → (dispatch_all_by client status world).state.net ≡ world.net
      all (Some status) = refl
      all None = refl

      by-how : (h : How) → (dispatch_as h client world).state.net ≡ world.net
      by-how One = one (dispatch_refusal (world.agents client))
      by-how (All workers) = all (dispatch_refusal (world.agents client))

  pub dispatches-happen : (setup : Setup) (how : How) (client : ℕ) (state : State Peers) (old : Cluster Group) (agents : List Seen) (before after : List (List ℕ)) → (IsGood kit) setup state → (Shows kit) setup state old → Dispatches how client old.agents agents before after → (Happened kit) setup (in_world (dispatch_as how client) state) (record old { agents = agents }) before after
  dispatches-happen setup how client state old agents before after good shows dispatches =
      let done = dispatches state.world shows.agents in
      let same = dispatched-moved how client state.world in
      let spelled = subst (λ net. AreSpelled net old.net) (sym (dispatched-net how client state.world)) shows.net in
      let steady = (given-kept setup how client state good.steady).0 in
      (shows-moved setup state (dispatch_as how client state.world).state old old.net agents shows same spelled done.0, good-moved setup state (dispatch_as how client state.world).state good same steady, done.1)

  pub all-started : (old : Cluster Group) → (HasState kit) old → AllStarted old.agents
  all-started old stands =
      let world = stands.state.world in
      let next : (client : ℕ) → 1 ≤ (world.agents client).next = λ client. let is = (stands.good.steady.sound.facts.clients client).sends.next_is in omega arith in
      subst AllStarted (sym stands.shows.agents.shown) (started-from world.places world.agents world.clients next)

-- Words of public clauses: how a cluster of the code is a state of the definitions, and what its events are to it, over any servers.
use Rattle.std.specs.Prelude.{◌≡◌, ℕ, Option, option_map, List, ◌++◌}
use Rattle.disk_model.specs.Disk.{Files}
use Rattle.plain_service.specs.Setups.{Setup, IsMoment, CanBegin}
use Rattle.plain_service.specs.Storing.{files_of}
use Rattle.service_laws.specs.PlainOf.{plain_of}
use Rattle.cluster_facts.specs.Types.{Message}
use Rattle.cluster_facts.specs.Lists.{Stands}
use Rattle.cluster_facts.specs.Messages.{messages_in}
use Rattle.cluster_facts.specs.History.{Empty, committed, accepted}
use Rattle.cluster_facts.specs.Ranges.{AreInRange}
use Rattle.cluster_events.specs.Outcomes.{Outcome}
use Rattle.cluster_events.specs.Servers.{State}
use Rattle.cluster_events.specs.Events.{hear, push}
use Rattle.cluster_events.specs.Serving.{IsSteady}
use Rattle.event_text.specs.Texts.{printed}
use Rattle.cluster_rounds.specs.declared.cluster.Cluster.{Cluster}
use Rattle.cluster_clients.specs.Clients.{ShowsAgents}
use Rattle.cluster_clients.specs.Spelled.{AreSpelled}
use Rattle.cluster_rounds.specs.Kits.{Kit, calm_servers}
pub use Rattle.cluster_rounds.specs.Seen.{TellsFiles}

-- a disk that told its files tells those of this state, and a disk that told nothing tells nothing
abbrev pub LeavesFiles : {P : Type 0} → Setup → State P → Option Files → Option Files → Type 0
LeavesFiles setup state held left = left ≡ option_map (λ files. files_of setup state.world.core.answered) held

-- the message stands in the net
abbrev pub StandsIn : {P : Type 0} → Message → State P → Type 0
StandsIn message state = Stands message (messages_in state.world.net)

-- nothing is in hand
abbrev pub IsIdle : {P : Type 0} → State P → Type 0
IsIdle state = state.world.core.hand ≡ Empty

abbrev pub any_state : {P : Type 0} → State P → Type 0
any_state state = Unit {0}

module _ {Peers Group : Type 0} (kit : Kit Peers Group) where
  -- the cluster of the code stands for a state of the definitions
  pub record Shows (setup : Setup) (state : State Peers) (world : Cluster Group) : Type 0 where
    pub own : kit.Own setup state.world.core.answered state.world.core.hand state.peers world.servers
    pub net : AreSpelled state.world.net world.net
    pub agents : ShowsAgents state.world world.agents
    pub history : world.history.entries ≡ committed state.world.core
    pub now : world.now ≡ state.world.now
    pub callbacks : world.callbacks ≡ state.world.places

  -- what holds of the state at all times: the facts of agents, net and history, and that clients, times and numbers are in range
  pub record IsGood (setup : Setup) (state : State Peers) : Type 0 where
    pub begins : CanBegin setup
    pub steady : IsSteady (plain_of setup) kit.Good state
    pub range : AreInRange (accepted state.world.core)
    pub moment : IsMoment state.world.now

  -- the cluster stands for a good state of which P is so
  pub record HasStateOf (P : State Peers → Type 0) (world : Cluster Group) : Type 0 where
    pub setup : Setup
    pub state : State Peers
    pub good : IsGood setup state
    pub shows : Shows setup state world
    pub so : P state

  -- the same over disks of whose armed counts the state tells
  pub record HasStateOn (P : State Peers → Type 0) (world : Cluster Group) (seen : kit.Seen) : Type 0 where
    pub setup : Setup
    pub state : State Peers
    pub good : IsGood setup state
    pub shows : Shows setup state world
    pub count : kit.Armed state.peers seen
    pub so : P state

  -- for any good state
  abbrev pub HasState : Cluster Group → Type 0
  HasState world = HasStateOf any_state world

  -- an event that works nothing
  abbrev pub Event : Type 0
  Event = Setup → State Peers → Outcome (State Peers)

  -- an event happened: over each good state that the cluster stood for it stands for the one after the event, which is good, and
  -- the lines are those of the event
  abbrev pub Happened : Setup → Outcome (State Peers) → Cluster Group → List (List ℕ) → List (List ℕ) → Type 0
  Happened setup outcome new before after =
      Shows setup outcome.state new × IsGood setup outcome.state × (after ≡ before ++ printed outcome.told)

  -- the same of states of which something more is so
  abbrev pub DoesIf : (State Peers → Type 0) → Event → Cluster Group → Cluster Group → List (List ℕ) → List (List ℕ) → Type 0
  DoesIf P event old new before after =
      (setup : Setup) (state : State Peers) → IsGood setup state → Shows setup state old → P state → Happened setup (event setup state) new before after

  abbrev pub Does : Event → Cluster Group → Cluster Group → List (List ℕ) → List (List ℕ) → Type 0
  Does event old new before after =
      (setup : Setup) (state : State Peers) → IsGood setup state → Shows setup state old → Happened setup (event setup state) new before after

  -- a request or a receipt of this place in the net is delivered to the active server
  abbrev pub heard_by : ℕ → Message → Event
  heard_by place message setup state = hear (plain_of setup) (calm_servers kit setup) place message state

  -- all items without receipt are posted
  abbrev pub pushed : Event
  pushed setup state = push (plain_of setup) (calm_servers kit setup) state

  -- and these are the items, where nothing was in hand
  abbrev pub Pushes : List Message → Cluster Group → Cluster Group → List (List ℕ) → List (List ℕ) → Type 0
  Pushes items old new before after =
      (setup : Setup) (state : State Peers) → IsGood setup state → Shows setup state old → IsIdle state
      → Happened setup (pushed setup state) new before after × (items ≡ (plain_of setup).held state.world.core.answered)

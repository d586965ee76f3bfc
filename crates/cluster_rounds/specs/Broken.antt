-- Words of public clauses: what stands where an event breaks off for want of memory, over any servers.
use Rattle.std.specs.Prelude.{◌≡◌, ℕ, Option, Some, None, List}
use Rattle.std.specs.List.{AllByRecursion}
use Rattle.disk_model.specs.Disk.{Files}
use Rattle.plain_service.specs.Setups.{Setup}
use Rattle.service_laws.specs.PlainOf.{plain_of}
use Rattle.service_laws.specs.Disks.{service_disk}
use Rattle.service_laws.specs.StorageOf.{storage_of}
use Rattle.cluster_facts.specs.Types.{Call, Reply, Callback, Entry}
use Rattle.cluster_facts.specs.Lists.{Stands, EndsIn, IsCounted}
use Rattle.cluster_facts.specs.Service.{Plain}
use Rattle.cluster_facts.specs.Messages.{sent_by, calls_in, messages_in}
use Rattle.cluster_facts.specs.Storage.{Between, dealt_in}
use Rattle.cluster_facts.specs.Agents.{fed_of}
use Rattle.cluster_facts.specs.History.{committed}
use Rattle.cluster_facts.specs.World.{World}
use Rattle.cluster_facts.specs.Facts.{Fits, IsToldItem}
use Rattle.cluster_events.specs.Lines.{Told}
use Rattle.cluster_events.specs.Servers.{State}
use Rattle.cluster_events.specs.Saying.{deals_told}
use Rattle.cluster_events.specs.Breaking.{Tells, Holds}
use Rattle.cluster_rounds.specs.declared.cluster.Cluster.{Cluster}
use Rattle.cluster_clients.specs.Clients.{ShowsAgents}
use Rattle.cluster_clients.specs.Spelled.{AreSpelled}
use Rattle.cluster_rounds.specs.Kits.{Kit}
use Rattle.cluster_rounds.specs.Timely.{AreTimely}
use Rattle.cluster_rounds.specs.Worlds.{IsGood, Shows}

-- a disk that told files tells some between those of the history without its last entry and those of the history: any attempts
-- of the last entry's deeds. A disk that told nothing tells nothing
abbrev pub LeavesBetween : Setup → List Entry → Option Files → Option Files → Type 0
LeavesBetween setup past None left = left ≡ None
LeavesBetween setup past (Some held) left =
    (files : Files) × (left ≡ Some files) × Between service_disk (storage_of setup) past files

-- the callbacks of items that a client got are, in order, those of the items 1, 2, 3 and so on of subscriptions that are asked for
-- among these calls, each with the id that its call gave it
pub record IsFedOf (plain : Plain) (past : List Entry) (sent : List (ℕ × Call)) (client : ℕ) (fed : List Callback) : Type 0 where
  pub marks : List (ℕ × ℕ)
  pub counted : IsCounted marks
  pub items : Fits (IsToldItem plain past sent client) marks fed

module _ {Peers Group : Type 0} (kit : Kit Peers Group) where
  -- An event broke off for want of memory: from this state some of it happened, with lines that nobody sees. The history is legal;
  -- each client's calls in it are the first of those that it had sent before the event, and what came to it is of the time in force, or
  -- waited for the partner before the event; that time stays. Each client was fed the beginning of the items of subscriptions that it had
  -- asked for before the event, each reply that it took is the history's, and the files are between. The servers of the code are armed
  -- as the disks' counts are, where they were before.
  pub record Broken (setup : Setup) (state : State Peers) (held left : kit.Seen) (world : Cluster Group) : Type 0 where
    pub rest : World
    pub unseen : List Told
    pub tells : Tells (plain_of setup) state.world rest unseen
    pub holds : Holds (plain_of setup) rest
    pub deals :
        (client : ℕ)
        → AllByRecursion (λ (deal : ℕ × Call × Reply). Stands deal (dealt_in (plain_of setup) client rest.core.answered)) (deals_told client unseen)
    pub asked : (client : ℕ) → EndsIn (sent_by client (messages_in state.world.net)) (calls_in client (committed rest.core))
    pub fed : (client : ℕ) → IsFedOf (plain_of setup) rest.core.answered (sent_by client (messages_in state.world.net)) client (fed_of (rest.agents client))
    pub times : AreTimely state.world unseen
    pub stays : rest.now ≡ state.world.now
    pub net : AreSpelled rest.net world.net
    pub agents : ShowsAgents rest world.agents
    pub history : world.history.entries ≡ committed rest.core
    pub now : world.now ≡ rest.now
    pub armed : kit.Armed state.peers held → kit.ArmedAs world.servers left
    pub files : kit.Tells setup state held → kit.Between setup (committed rest.core) held left

  -- so it is over each good state that the cluster stood for and of which P is so
  abbrev pub BreaksIf : (State Peers → Type 0) → Cluster Group → Cluster Group → kit.Seen → kit.Seen → Type 0
  BreaksIf P old new held left =
      (setup : Setup) (state : State Peers) → (IsGood kit) setup state → (Shows kit) setup state old → P state
      → Broken setup state held left new

  -- the same of an event that leaves the disk alone
  abbrev pub BreaksAloneIf : (State Peers → Type 0) → Cluster Group → Cluster Group → Type 0
  BreaksAloneIf P old new = (held : kit.Seen) → BreaksIf P old new held held

  abbrev pub BreaksOn : Cluster Group → Cluster Group → kit.Seen → kit.Seen → Type 0
  BreaksOn old new held left =
      (setup : Setup) (state : State Peers) → (IsGood kit) setup state → (Shows kit) setup state old → Broken setup state held left new

  abbrev pub BreaksAlone : Cluster Group → Cluster Group → Type 0
  BreaksAlone old new = (held : kit.Seen) → BreaksOn old new held held

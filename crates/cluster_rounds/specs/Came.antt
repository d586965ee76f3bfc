-- Words of public clauses: what events that may work entries come to, and what they leave where they break off.
use Rattle.std.specs.Prelude.{◌≡◌, ℕ, Bool, true, false, nat_lt, None, List, ◌++◌, length}
use Rattle.disk_model.specs.declared.answers.DiskAnswer.{DiskAnswer}
use Rattle.disk_model.specs.declared.answers.DiskAnswer.TheVariants.{Memory, Failed, Stopped}
use Rattle.plain_service.specs.Setups.{Setup}
use Rattle.service_laws.specs.PlainOf.{plain_of}
use Rattle.cluster_facts.specs.History.{committed}
use Rattle.cluster_events.specs.Lines.{Told}
use Rattle.cluster_events.specs.Outcomes.{Outcome}
use Rattle.cluster_events.specs.Servers.{State, advance}
use Rattle.cluster_events.specs.Saying.{Says}
use Rattle.cluster_events.specs.Devices.{EventBy, EndBy, ComesTo, EndsOver}
use Rattle.cluster_rounds.specs.declared.cluster.Cluster.{Cluster}
use Rattle.cluster_clients.specs.Clients.{ShowsAgents}
use Rattle.cluster_clients.specs.Spelled.{AreSpelled}
use Rattle.cluster_clients.specs.Taken.{kept_lines}
use Rattle.cluster_rounds.specs.Broken.{Broken}
use Rattle.cluster_rounds.specs.Kits.{Kit, servers_at}
use Rattle.cluster_rounds.specs.Rounds.{EndOver, EventOver, Played, advances_by}
use Rattle.cluster_rounds.specs.Worlds.{IsGood, Shows, any_state}

module _ {Peers Group : Type 0} (kit : Kit Peers Group) where
  -- an event came from a state to an outcome, by the works that failed
  pub record Came (setup : Setup) (state : State Peers) (event : EventBy Peers) (new : Cluster Group) (before after : List (List ℕ)) (loud : Bool)
      (held left : kit.Seen) : Type 0 where
    pub happened : ℕ → ℕ
    pub outcome : Outcome (State Peers)
    pub comes : ComesTo event happened state outcome
    pub uses : kit.Uses setup happened state outcome held left
    pub played : Played kit setup state outcome new before after loud held left
    pub count : kit.Armed outcome.state.peers left

  -- so it did over each good state that the cluster stood for, that tells of the disks' armed counts, and of which P is so
  abbrev pub Comes :
      (State Peers → Type 0) → EventOver kit → Cluster Group → Cluster Group → List (List ℕ) → List (List ℕ) → Bool → kit.Seen → kit.Seen → Type 0
  Comes P event old new before after loud held left =
      (setup : Setup) (state : State Peers) → IsGood kit setup state → Shows kit setup state old → kit.Armed state.peers held → P state
      → Came setup state (event setup) new before after loud held left

  -- The disk had a fault as an entry was worked, and an event ended by it, or a line: what the servers are left as, and what holds of the
  -- state in which it ended. What the disks hold is between that of the history committed without its last entry and that of the history.
  -- By the works that failed it ends so, and the disks counted so; its lines are those that are shown of what it told.
  pub record EndedBy (setup : Setup) (state : State Peers) (Ends Faulted : (ℕ → ℕ) → Outcome (State Peers) → Type 0)
      (shown : List Told → List (List ℕ)) (new : Cluster Group) (before after : List (List ℕ)) (held left : kit.Seen) : Type 0 where
    pub happened : ℕ → ℕ
    pub end : Outcome (State Peers)
    pub ends : Ends happened end
    pub faults : Faulted happened end
    pub good : IsGood kit setup end.state
    pub says : Says (plain_of setup) state.world end.state.world end.told
    pub fell : kit.Fell setup end.state new.servers left
    pub net : AreSpelled end.state.world.net new.net
    pub agents : ShowsAgents end.state.world new.agents
    pub history : new.history.entries ≡ committed end.state.world.core
    pub now : new.now ≡ end.state.world.now
    pub callbacks : new.callbacks ≡ end.state.world.places
    pub lines : after ≡ before ++ shown end.told
    pub files : kit.Tells setup state held → kit.Between setup (committed end.state.world.core) held left

  -- an event ended so, over each device that agrees with what happened; lines on messages without effect are left out
  abbrev pub Ended :
      Setup → State Peers → EndBy Peers → Cluster Group → List (List ℕ) → List (List ℕ) → kit.Seen → kit.Seen → Type 0
  Ended setup state Ends new before after held left =
      EndedBy setup state (λ happened end. EndsOver Ends happened state end) (λ happened end. kit.Faults setup happened state end held left)
      kept_lines new before after held left

  -- the disk stopped, and an event ended by it: the cluster goes on from the state in which it ended
  pub record Halted (setup : Setup) (state : State Peers) (Ends : EndBy Peers) (new : Cluster Group) (before after : List (List ℕ))
      (held left : kit.Seen) : Type 0 where
    pub happened : ℕ → ℕ
    pub end : Outcome (State Peers)
    pub ends : EndsOver Ends happened state end
    pub uses : kit.Halts setup happened state end held left
    pub good : IsGood kit setup end.state
    pub says : Says (plain_of setup) state.world end.state.world end.told
    pub shows : Shows kit setup end.state new
    pub count : kit.Armed end.state.peers left
    pub lines : after ≡ before ++ kept_lines end.told
    pub files : kit.Tells setup state held → kit.Leaves setup end.state held left

  -- what an event left of a state, by the answer with which it broke off
  abbrev pub LeavesOff :
      Setup → State Peers → EndBy Peers → DiskAnswer → Cluster Group → List (List ℕ) → List (List ℕ) → kit.Seen → kit.Seen → Type 0
  LeavesOff setup state Ends Memory new before after held left =
      Broken kit setup state held left new × kit.Lacks false setup state new.history.entries new.servers held left
  LeavesOff setup state Ends Failed new before after held left = Ended setup state Ends new before after held left
  LeavesOff setup state Ends Stopped new before after held left = Halted setup state Ends new before after held left

  abbrev pub ComesOff :
      (State Peers → Type 0) → EndOver kit → DiskAnswer → Cluster Group → Cluster Group → List (List ℕ) → List (List ℕ) → kit.Seen → kit.Seen → Type 0
  ComesOff P Ends answer old new before after held left =
      (setup : Setup) (state : State Peers) → IsGood kit setup state → Shows kit setup state old → kit.Armed state.peers held → P state
      → LeavesOff setup state (Ends answer setup) answer new before after held left

  -- the servers made a step, which is loud where the history grew; or they have none to make, and nothing changed
  abbrev pub Advances : Bool → Cluster Group → Cluster Group → List (List ℕ) → List (List ℕ) → kit.Seen → kit.Seen → Type 0
  Advances true old new before after held left =
      Comes any_state (advances_by kit 1) old new before after (nat_lt (length old.history.entries) (length new.history.entries)) held left
  Advances false old new before after held left =
      (new ≡ old) × (after ≡ before) × (left ≡ held)
      × ((setup : Setup) (fails : ℕ → ℕ) (state : State Peers) → IsGood kit setup state → Shows kit setup state old
      → advance (servers_at kit setup fails) state ≡ None)

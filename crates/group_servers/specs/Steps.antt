-- Words of public clauses: what steps of the servers and lines on them come to.
use Rattle.std.specs.Prelude.{◌≡◌, ℕ, Bool, true, false, nat_lt, Option, Some, None, List, length}
use Rattle.disk_model.specs.Seen.{DiskSeen}
use Rattle.script_lines.specs.declared.line.Line.{Line}
use Rattle.script_lines.specs.declared.line.Line.TheVariants as line
use Rattle.script_lines.specs.declared.line.Server.{Server}
use Rattle.disk_model.specs.declared.answers.DiskAnswer.TheVariants.{Failed}
use Rattle.plain_service.specs.Setups.{Setup}
use Rattle.cluster_events.specs.Outcomes.{Outcome}
use Rattle.cluster_events.specs.Servers.{State}
use Rattle.cluster_events.specs.Events.{mirror_next, ack_next, work_next, refuse}
use Rattle.group_cluster.specs.Seats.{Peers}
use Rattle.group_cluster.specs.Falling.{crash, other_down, arm, disarm, restart}
use Rattle.group_cluster.specs.Ended.{EndsGroup}
use Rattle.cluster_rounds.specs.declared.cluster.Cluster.{Cluster}
use Rattle.cluster_rounds.specs.Kits.{calm_servers, device_by, servers_at}
use Rattle.cluster_rounds.specs.Rounds.{EventOver, EndOver}
use Rattle.cluster_rounds.specs.Seen.{TellsFiles, counters_of}
use Rattle.cluster_rounds.specs.Worlds.{Event, Happened, IsGood, LeavesFiles, Shows}
use Rattle.group_servers.specs.declared.group.Group.{Group}
use Rattle.group_servers.specs.GroupCounts.{UsesLine}
use Rattle.group_servers.specs.GroupKit.{group_kit}

-- the history grew
abbrev pub grew : {S : Type 0} → Cluster S → Cluster S → Bool
grew old new = nat_lt (length old.history.entries) (length new.history.entries)

-- net, agents, history and time are as they were, whatever the servers are, and the active one is armed or not as it was
pub record IsUntold {n : ℕ} (old new : Cluster (Group n)) : Type 0 where
  pub net : new.net ≡ old.net
  pub agents : new.agents ≡ old.agents
  pub history : new.history.entries ≡ old.history.entries
  pub now : new.now ≡ old.now
  pub armed : new.servers.armed ≡ old.servers.armed

module _ (n : ℕ) where
  -- the servers make a step, or they have none to make and nothing changes
  abbrev pub StepsBy :
      (State Peers → Option (Outcome (State Peers))) → Bool → Cluster (Group n) → Cluster (Group n) → List (List ℕ) → List (List ℕ) → Type 0
  StepsBy step true old new before after =
      (setup : Setup) (state : State Peers) → IsGood (group_kit n) setup state → Shows (group_kit n) setup state old
      → (outcome : Outcome (State Peers)) × (step state ≡ Some outcome) × Happened (group_kit n) setup outcome new before after
  StepsBy step false old new before after =
      (new ≡ old) × (after ≡ before)
      × ((setup : Setup) (state : State Peers) → IsGood (group_kit n) setup state → Shows (group_kit n) setup state old → step state ≡ None)

  -- Lines that leave the disk alone.

  abbrev pub refused_by : Line → Event (group_kit n)
  refused_by line setup state = refuse (calm_servers (group_kit n) setup) line state

  abbrev pub mirrored_next : Event (group_kit n)
  mirrored_next setup state = mirror_next (calm_servers (group_kit n) setup) state

  abbrev pub acked_next : Event (group_kit n)
  acked_next setup state = ack_next (calm_servers (group_kit n) setup) state

  abbrev pub restarted_by : Server → Event (group_kit n)
  restarted_by server setup state = restart server state

  -- a server goes down that is not active
  abbrev pub parted_by : Server → Event (group_kit n)
  parted_by server setup state = other_down server state

  -- Lines over a disk.

  -- a crash that no standby fails behind
  abbrev pub crashed_by : Server → Event (group_kit n)
  crashed_by server setup state = crash (device_by setup (λ number. 0)) server state

  -- a crash, by the works that failed: standbys may have failed as they took over, and the server that crashed is the first of them
  pub record Crashes (server : Server) (setup : Setup) (state : State Peers) (new : Cluster (Group n)) (before after : List (List ℕ))
      (held left : DiskSeen) : Type 0 where
    pub fails : ℕ → ℕ
    pub is : Happened (group_kit n) setup (crash (device_by setup fails) server state) new before after
    pub count : left.tally.armed ≡ (crash (device_by setup fails) server state).state.peers.armed
    pub files :
        TellsFiles setup state held.files → LeavesFiles setup (crash (device_by setup fails) server state).state held.files left.files
    pub uses :
        UsesLine setup (line.Crash server) fails state (crash (device_by setup fails) server state) held.files (counters_of held)
        (counters_of left)

  -- so it went over each state that tells of the disk's armed count
  abbrev pub CrashesOn :
      Server → Cluster (Group n) → Cluster (Group n) → List (List ℕ) → List (List ℕ) → DiskSeen → DiskSeen → Type 0
  CrashesOn server old new before after held left =
      (setup : Setup) (state : State Peers) → IsGood (group_kit n) setup state → Shows (group_kit n) setup state old
      → held.tally.armed ≡ state.peers.armed → Crashes server setup state new before after held left

  abbrev pub armed_by : Server → ℕ → Event (group_kit n)
  armed_by server count setup state = arm server count state

  abbrev pub disarmed_by : Event (group_kit n)
  disarmed_by setup state = disarm state

  -- the entry in hand is worked: what comes out rests on the works that fail
  abbrev pub worked_by : EventOver (group_kit n)
  worked_by setup fails state = work_next (servers_at (group_kit n) setup fails) state

  -- where they end by a fault of the disk
  abbrev pub EndsWork : EndOver (group_kit n)
  EndsWork Failed setup fails state end = EndsGroup (device_by setup fails) state end
  EndsWork _ setup fails state end = ⊥

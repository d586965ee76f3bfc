-- Words of public clauses: what stands where a fault of the disk ended an event.
use Rattle.std.specs.Prelude.{◌≡◌, ℕ, ◌≤◌, Option, List}
use Rattle.ais_values.specs.Causes.{Rose}
use Rattle.disk_model.specs.Seen.{DiskSeen}
use Rattle.plain_service.specs.Setups.{Setup}
use Rattle.service_laws.specs.PlainOf.{plain_of}
use Rattle.trio_lines.specs.declared.line.TrioLine.{TrioLine}
use Rattle.cluster_facts.specs.History.{committed}
use Rattle.cluster_events.specs.Lines.{Told}
use Rattle.cluster_events.specs.Outcomes.{Outcome}
use Rattle.cluster_events.specs.Servers.{State}
use Rattle.cluster_events.specs.Devices.{IsCaused}
use Rattle.group_cluster.specs.Seats.{Peers}
use Rattle.group_cluster.specs.Ended.{GroupEnds}
use Rattle.cluster_clients.specs.Spelled.{AreSpelled}
use Rattle.cluster_clients.specs.Clients.{ShowsAgents}
use Rattle.cluster_rounds.specs.Kits.{device_by}
use Rattle.cluster_rounds.specs.Broken.{LeavesBetween}
use Rattle.cluster_rounds.specs.Seen.{TellsFiles, counters_of}
use Rattle.group_servers.specs.GroupCounts.{CountsEnd}
use Rattle.group_servers.specs.GroupKit.{FellGroup}
use Rattle.spare_server.specs.declared.world.TrioWorld.{TrioWorld}
use Rattle.spare_server.specs.Happening.{group_line}
use Rattle.spare_server.specs.Worlds.{IsGood, parts_of}

-- what the world is once no server is active: the servers fell, and all else is that of the state
pub record ShowsEnd (setup : Setup) (state : State Peers) (armed : Option ℕ) (world : TrioWorld) : Type 0 where
  pub fell : FellGroup setup state (parts_of state.peers.acting world).servers armed
  pub net : AreSpelled state.world.net world.net
  pub agents : ShowsAgents state.world world.agents
  pub history : world.history.entries ≡ committed state.world.core
  pub now : world.now ≡ state.world.now
  pub callbacks : world.callbacks ≡ state.world.places

-- The disk had a fault that left no server active: the event of the line ended there, and told the lines of all that happened up to it.
-- The works that failed before that fault are those by which the count of faults rose between the event's start and it. The disk counted
-- the calls, faults and stops up to it, and no others. The files are between those of the history without its last entry and those of the
-- history.
pub record TrioEnded (setup : Setup) (state : State Peers) (next : TrioLine) (told : List Told) (held left : DiskSeen) (world : TrioWorld) : Type 0 where
  pub happened : ℕ → ℕ
  pub end : Outcome (State Peers)
  pub ends : GroupEnds (plain_of setup) (device_by setup happened) (group_line next) state end
  pub printed : told ≡ end.told
  pub between : ℕ
  pub before_it : held.faults ≤ between
  pub caused : IsCaused held.faults between happened
  pub behind_it : between ≤ left.faults
  pub rose : Rose between left.faults
  pub ended : CountsEnd (group_line next) (device_by setup happened) state end.state (counters_of held) (counters_of left)
  pub good : IsGood setup end.state
  pub shows : ShowsEnd setup end.state left.tally.armed world
  pub files : TellsFiles setup state held.files → LeavesBetween setup (committed end.state.world.core) held.files left.files

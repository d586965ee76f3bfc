-- Words of public clauses: an active server and others beside it, as the servers of a cluster.
use Rattle.std.specs.Prelude.{◌≡◌, ℕ, ◌≤◌, false, is_some, Option, None}
use Rattle.disk_model.specs.Seen.{DiskSeen}
use Rattle.disk_model.specs.declared.answers.DiskAnswer.{DiskAnswer}
use Rattle.disk_model.specs.declared.answers.DiskAnswer.TheVariants.{Failed}
use Rattle.plain_service.specs.Setups.{Setup}
use Rattle.cluster_facts.specs.Service.{Plain}
use Rattle.cluster_events.specs.Servers.{State}
use Rattle.cluster_events.specs.Devices.{Device}
use Rattle.cluster_events.specs.Ending.{EndAt}
use Rattle.mirror.specs.Replicas.{down}
use Rattle.mirror.specs.Pairing.{alone}
use Rattle.cluster_facts.specs.History.{Empty}
use Rattle.group_cluster.specs.Seats.{Peers, IsGroup}
use Rattle.group_cluster.specs.Group.{group}
use Rattle.group_cluster.specs.Running.{GroupHappens}
use Rattle.group_cluster.specs.Ended.{EndsGroupStep, GroupEnds}
use Rattle.cluster_rounds.specs.Kits.{Kit}
use Rattle.cluster_rounds.specs.Seen.{TellsFiles, counters_of}
use Rattle.cluster_rounds.specs.Worlds.{LeavesFiles}
use Rattle.cluster_rounds.specs.Broken.{LeavesBetween}
use Rattle.cluster_rounds.specs.Scripts.{Script}
use Rattle.group_servers.specs.declared.group.Group.{Group}
use Rattle.group_servers.specs.GroupCounts.{FaultsGroup, FaultsLine, LacksBy, RisesGroup, UsesGroup, UsesLine}
use Rattle.group_servers.specs.GroupNodes.{bare, servers_by}

-- After a fault that no server survives the active one is down, the others are as they are left, and nothing is on the way; no server is
-- armed, and no count is left on the disk.
pub record FellGroup {n : ℕ} (setup : Setup) (state : State Peers) (servers : Group n) (left : Option ℕ) : Type 0 where
  pub active : servers.active ≡ alone down
  pub seats : servers.seats ≡ bare setup state.world.core.answered Empty state.peers.seats
  pub acting : servers.acting ≡ state.peers.acting
  pub armed : servers.armed ≡ false
  pub count : left ≡ None

-- a step ends by a fault alone: behind a stop another server goes on
abbrev pub group_ends : DiskAnswer → Plain → Device → EndAt Peers
group_ends Failed plain device = EndsGroupStep plain device
group_ends _ plain device = λ state end. ⊥

-- A drain is thirteen steps. The disk's count to the call at which it stops is that of the active server. Standbys outlive faults.
abbrev pub group_kit : (n : ℕ) → Kit Peers (Group n)
group_kit n = record {
  servers = group;
  steps = 13;
  Good = IsGroup n;
  Own = λ setup past hand peers servers. servers ≡ servers_by n setup past hand peers;
  Seen = DiskSeen;
  see = λ disk beside. disk;
  files = λ seen. seen.files;
  Armed = λ peers seen. seen.tally.armed ≡ peers.armed;
  ArmedAs = λ servers seen. servers.armed ≡ is_some seen.tally.armed;
  Tells = λ setup state seen. TellsFiles setup state seen.files;
  Leaves = λ setup state held left. LeavesFiles setup state held.files left.files;
  Between = λ setup past held left. LeavesBetween setup past held.files left.files;
  EndsAt = group_ends;
  Fell = λ setup state servers left. FellGroup setup state servers left.tally.armed;
  Uses = λ setup happened state outcome held left.
      UsesGroup setup happened state outcome.state outcome.told (counters_of held) (counters_of left);
  Halts = λ setup happened state outcome held left.
      UsesGroup setup happened state outcome.state outcome.told (counters_of held) (counters_of left);
  Faults = λ setup happened state end held left.
      FaultsGroup setup happened state end.state (counters_of held) (counters_of left);
  Lacks = λ crash setup state entries servers held left.
      LacksBy crash setup state entries servers (counters_of held) (counters_of left);
  Outlives = λ held left. held.faults ≤ left.faults;
  Rises = RisesGroup;
  Wild = λ servers net entries seen. ⊥;
}

-- what a line of a script leads to, and where it ends by a fault: the lines on failing servers are played too
abbrev pub group_script : Script Peers DiskSeen
group_script = record {
  Leads = GroupHappens;
  Shares = λ next state. Unit {0};
  Ends = GroupEnds;
  Allows = λ line. Unit {0};
  Uses = λ next setup happened state outcome held left.
      UsesLine setup next happened state outcome held.files (counters_of held) (counters_of left);
  Faults = λ next setup happened state end held left. FaultsLine setup next happened state end.state (counters_of held) (counters_of left);
}

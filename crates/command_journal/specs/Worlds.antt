-- Words of public clauses: how a world of the code is a state of the definitions, over the record disk and the journal's.
use Rattle.std.specs.Prelude.{◌⊎◌, pos, false, []}
use Rattle.calls.specs.History.{empty_history}
use Rattle.disk_model.specs.Seen.{DiskSeen}
use Rattle.plain_service.specs.Setups.{Setup}
use Rattle.cluster_events.specs.Servers.{State}
use Rattle.mirror.specs.Replicas.{down}
use Rattle.mirror.specs.Pairing.{alone}
use Rattle.cluster_rounds.specs.declared.cluster.Cluster.{Cluster}
use Rattle.cluster_rounds.specs.Worlds as clusters
use Rattle.cluster_rounds.specs.Wild.{HasWild, always}
use Rattle.cold_cluster.specs.Cold.{Alone}
use Rattle.cold_servers.specs.declared.solo.Solo.{Solo}
use Rattle.cold_servers.specs.ColdKit.{cold_kit}
use Rattle.cold_servers.specs.ColdSeen.{ArmsBoth, ColdSeen, TellsBoth}
use Rattle.command_journal.specs.declared.world.ColdWorld.{ColdWorld}

-- a world taken apart: one server and its journal, as the servers of a cluster
abbrev pub parts_of : ColdWorld → Cluster Solo
parts_of world = record {
  servers = record {
    lone = record { node = world.node; journal = world.journal; link = world.link; back = world.back; armed = world.armed };
  };
  net = world.net;
  agents = world.agents;
  history = world.history;
  now = world.now;
  callbacks = world.callbacks;
}

-- what is seen of the record disk and of the journal's
abbrev pub both : DiskSeen → DiskSeen → ColdSeen
both disk journal = record { disk = disk; journal = journal }

-- The world of the code stands for a state of the definitions. While the server is up its service stands for the history and the entry
-- that waits, `journal` is that of what was committed, and link and back have what is on the way; while it is down these are empty. What
-- is in hand of the definitions may then be found in the journal.
abbrev pub Shows : Setup → State Alone → ColdWorld → Type 0
Shows setup state world = (clusters.Shows cold_kit) setup state (parts_of world)

-- what holds of the state at all times: the facts of agents, net and history, those of one server and its journal, and that clients,
-- times and numbers are in range
abbrev pub IsGood : Setup → State Alone → Type 0
IsGood setup state = (clusters.IsGood cold_kit) setup state

-- The facts between events.

-- the parts stand for a good state, of which both disks tell: their armed counts, and what each of them holds, where it tells its files
pub record Stands (parts : Cluster Solo) (seen : ColdSeen) : Type 0 where
  pub setup : Setup
  pub state : State Alone
  pub good : IsGood setup state
  pub shows : (clusters.Shows cold_kit) setup state parts
  pub count : ArmsBoth state.peers seen
  pub tells : TellsBoth setup state seen

-- so it is; or the journal's disk tells no files, so that a cold start may have found any journal, and the parts go on though they may
-- stand for no history
abbrev pub HasParts : Cluster Solo → ColdSeen → Type 0
HasParts parts seen = Stands parts seen ⊎ HasWild cold_kit always parts seen

abbrev pub HasCold : ColdWorld → ColdSeen → Type 0
HasCold world seen = HasParts (parts_of world) seen

-- A world before its first line.
abbrev pub empty_cold : ColdWorld
empty_cold = record {
  node = alone down;
  journal = record { end = 0; number = 0 };
  link = [];
  back = [];
  net = [];
  agents = [];
  history = empty_history;
  now = pos 0;
  armed = false;
  callbacks = 0;
}

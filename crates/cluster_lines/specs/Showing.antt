-- Words of public clauses: what is shown of servers, and refusals.
use Rattle.std.specs.Prelude.{◌≡◌}
use Rattle.script_lines.specs.declared.line.Line.{Line}
use Rattle.plain_service.specs.Setups.{Setup}
use Rattle.cluster_events.specs.declared.lines.Standing.{Standing}
use Rattle.cluster_events.specs.Servers.{State}
use Rattle.cluster_events.specs.Events.{list_servers, refuse}
use Rattle.cluster_rounds.specs.declared.cluster.Cluster.{Cluster}
use Rattle.cluster_rounds.specs.Kits.{Kit, calm_servers}
use Rattle.cluster_rounds.specs.Worlds.{Event, IsGood, Shows}

module _ {Peers Group : Type 0} (kit : Kit Peers Group) where
  -- how the servers of the cluster stand
  abbrev pub StandsAs : Cluster Group → Standing → Type 0
  StandsAs world standing =
      (setup : Setup) (state : State Peers) → IsGood kit setup state → Shows kit setup state world → standing ≡ (calm_servers kit setup).standing state

  -- the line is refused
  abbrev pub refused : Line → Event kit
  refused next setup state = refuse (calm_servers kit setup) next state

  -- all servers with their roles
  abbrev pub servers_listed : Event kit
  servers_listed setup state = list_servers (calm_servers kit setup) state

-- Words of public clauses: how the server and its journal of the code are shown.
use Rattle.std.specs.Prelude.{length}
use Rattle.cluster_events.specs.declared.lines.Standing.{Standing}
use Rattle.cluster_events.specs.declared.lines.ServerRole.TheVariants as role
use Rattle.cluster_events.specs.declared.lines.Roles.TheVariants.{Two}
use Rattle.mirror.specs.Replicas.{number_in_hand}
use Rattle.lead_server.specs.Roles.{role_shown}
use Rattle.cluster_rounds.specs.declared.cluster.Cluster.{Cluster}
use Rattle.cold_servers.specs.declared.solo.Solo.{Solo}

abbrev pub standing_as : Cluster Solo → Standing
standing_as world = record {
  roles = Two (role_shown world.servers.lone.armed world.servers.lone.node.replica.role) role.Journal;
  net = length world.net;
  link = length world.servers.lone.link;
  back = length world.servers.lone.back;
  in_hand = number_in_hand world.servers.lone.node.replica;
}

-- Words of public clauses: how the server and its journal are shown.
use Rattle.std.specs.Prelude.{Bool, true, false, ◌||◌, None, length}
use Rattle.std.specs.Option.{is_some}
use Rattle.cluster_events.specs.declared.lines.Standing.{Standing}
use Rattle.cluster_events.specs.declared.lines.ServerRole.{ServerRole}
use Rattle.cluster_events.specs.declared.lines.ServerRole.TheVariants as role
use Rattle.cluster_events.specs.declared.lines.Roles.TheVariants.{Two}
use Rattle.cluster_events.specs.Servers.{State}
use Rattle.group_cluster.specs.Seats.{standing_group}
use Rattle.cold_cluster.specs.Cold.{Alone, paired}

-- some disk is armed
abbrev pub any_armed : Alone → Bool
any_armed peers = is_some peers.armed || is_some peers.beside

abbrev pub role_up : Bool → ServerRole
role_up true = role.Armed
role_up false = role.Active

-- what is on the way, and in hand, is shown while the server is up
abbrev pub shown_up : Bool → State Alone → Standing
shown_up true state = record (standing_group (paired state)) {
  roles = Two (role_up (any_armed state.peers)) role.Journal;
}
shown_up false state = record {
  roles = Two role.Down role.Journal;
  net = length state.world.net;
  link = 0;
  back = 0;
  in_hand = None;
}

abbrev pub standing_cold : State Alone → Standing
standing_cold state = shown_up state.peers.up state

-- Words of public clauses: what is shown of servers.
use Rattle.std.specs.Prelude.{ℕ, ◌+◌, ◌-◌, ◌^◌, min, nat_le, if◌then◌else◌, List, [], ◌∷◌, length}
use Rattle.script_lines.specs.declared.line.Server.{Server}
use Rattle.script_lines.specs.declared.line.Server.TheVariants as server
use Rattle.mirror.specs.declared.heard.Role.{Role}
use Rattle.mirror.specs.declared.heard.Role.TheVariants as role
use Rattle.mirror.specs.Replicas.{number_in_hand}
use Rattle.cluster_events.specs.declared.lines.ServerRole.{ServerRole}
use Rattle.cluster_events.specs.declared.lines.Roles.{Roles}
use Rattle.cluster_events.specs.declared.lines.Roles.TheVariants.{Two, Three}
use Rattle.cluster_events.specs.declared.lines.Standing.{Standing}
use Rattle.lead_server.specs.Roles.{role_shown}
use Rattle.group_cluster.specs.Seats.{same_server}
use Rattle.cluster_rounds.specs.declared.cluster.Cluster.{Cluster}
use Rattle.group_servers.specs.declared.group.Seat.{Seat}
use Rattle.group_servers.specs.declared.group.Group.{Group}

-- the role of the server of a name beside the active one
abbrev pub role_at : Server → List Seat → Role
role_at one [] = role.Down
role_at one (seat ∷ seats) = if same_server one seat.server then seat.node.replica.role else role_at one seats

abbrev pub role_in : {n : ℕ} → Server → Group n → ServerRole
role_in one servers =
    if same_server one servers.acting then role_shown servers.armed servers.active.replica.role
    else role_shown servers.armed (role_at one servers.seats)

-- the roles of two servers, or of three
abbrev pub roles_in : {n : ℕ} → Group n → Roles
roles_in servers =
    if nat_le 3 (length servers.seats) then Three (role_in server.A servers) (role_in server.B servers) (role_in server.C servers)
    else Two (role_in server.A servers) (role_in server.B servers)

-- a sum that stops at its type's end
abbrev pub saturated : ℕ → ℕ → ℕ
saturated one other = min (one + other) (2 ^ 64 - 1)

-- how many messages are on the way to the servers, and back
abbrev pub links_of : List Seat → ℕ
links_of [] = 0
links_of (seat ∷ seats) = saturated (length seat.link) (links_of seats)

abbrev pub backs_of : List Seat → ℕ
backs_of [] = 0
backs_of (seat ∷ seats) = saturated (length seat.back) (backs_of seats)

-- the servers' roles and the lengths of the lists of messages
abbrev pub standing_as : {n : ℕ} → Cluster (Group n) → Standing
standing_as world = record {
  roles = roles_in world.servers;
  net = length world.net;
  link = links_of world.servers.seats;
  back = backs_of world.servers.seats;
  in_hand = number_in_hand world.servers.active.replica;
}

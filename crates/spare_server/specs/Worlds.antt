-- Words of public clauses: how a world of three servers is a state of the definitions: its parts are a cluster of a group of three.
use Rattle.std.specs.Prelude.{ℕ, ℤ, pos, false, if◌then◌else◌, List, [], ◌∷◌}
use Rattle.calls.specs.History.{empty_history}
use Rattle.script_lines.specs.declared.line.Server.{Server}
use Rattle.script_lines.specs.declared.line.Server.TheVariants.{A, B, C}
use Rattle.plain_service.specs.Setups.{Setup}
use Rattle.cluster_events.specs.Servers.{State}
use Rattle.group_cluster.specs.Seats.{Peers, same_server}
use Rattle.group_cluster.specs.Group.{group_start}
use Rattle.mirror.specs.declared.state.NodeState.{NodeState as Node}
use Rattle.mirror.specs.Replicas.{down}
use Rattle.mirror.specs.Pairing.{alone}
use Rattle.cluster_rounds.specs.declared.cluster.Cluster.{Cluster}
use Rattle.cluster_rounds.specs.Worlds as cluster
use Rattle.group_servers.specs.declared.group.Seat.{Seat}
use Rattle.group_servers.specs.declared.group.Group.{Group}
use Rattle.group_servers.specs.GroupKit.{group_kit}
use Rattle.spare_server.specs.declared.world.TrioWorld.{TrioWorld}

-- the server of a name, and the world with this one under that name
abbrev pub node_of : Server → TrioWorld → Node
node_of A world = world.a
node_of B world = world.b
node_of C world = world.c

abbrev pub with_node : Server → Node → TrioWorld → TrioWorld
with_node server node world = record world {
  a = if same_server server A then node else world.a;
  b = if same_server server B then node else world.b;
  c = if same_server server C then node else world.c;
}

-- the seats of all three, each with what is on the way to it and back
abbrev pub seats_of : TrioWorld → List Seat
seats_of world =
    record { server = A; node = world.a; link = world.link_a; back = world.back_a }
    ∷ record { server = B; node = world.b; link = world.link_b; back = world.back_b }
    ∷ record { server = C; node = world.c; link = world.link_c; back = world.back_c }
    ∷ []

-- a world taken apart, with this server as the active one, in whose own seat one stands that is down
abbrev pub parts_of : Server → TrioWorld → Cluster (Group 3)
parts_of acting world = record {
  servers = record {
    acting = acting;
    active = node_of acting world;
    seats = seats_of (with_node acting (alone down) world);
    armed = world.armed;
  };
  net = world.net;
  agents = world.agents;
  history = world.history;
  now = world.now;
  callbacks = world.callbacks;
}

-- the world of the code stands for a state of the definitions: which server is active, what each other one is, what is on the way to each
-- and back, and that the active one is armed are those of the state
abbrev pub Shows : Setup → State Peers → TrioWorld → Type 0
Shows setup state world = cluster.Shows (group_kit 3) setup state (parts_of state.peers.acting world)

-- what holds of the state at all times: the facts of agents, net and history, those of a group, and that clients, times and numbers
-- are in range
abbrev pub IsGood : Setup → State Peers → Type 0
IsGood setup state = cluster.IsGood (group_kit 3) setup state

-- the start of a run: `a` is active, `b` and `c` are standby
abbrev pub trio_start : ℤ → ℕ → State Peers
trio_start now places = group_start (B ∷ C ∷ []) now places

-- a world before its first line
abbrev pub empty_trio : TrioWorld
empty_trio = record {
  a = alone down;
  b = alone down;
  c = alone down;
  link_a = [];
  link_b = [];
  link_c = [];
  back_a = [];
  back_b = [];
  back_c = [];
  net = [];
  agents = [];
  history = empty_history;
  now = pos 0;
  armed = false;
  callbacks = 0;
}

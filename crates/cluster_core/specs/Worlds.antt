-- Words of public clauses: how a world of the code is a state of the definitions: its parts are a cluster of a group of two.
use Rattle.std.specs.Prelude.{ℕ, ℤ, pos, Bool, true, false, if◌then◌else◌, List, [], ◌∷◌}
use Rattle.calls.specs.History.{empty_history}
use Rattle.script_lines.specs.declared.line.Server.{Server}
use Rattle.script_lines.specs.declared.line.Server.TheVariants.{A, B}
use Rattle.wire.specs.declared.message.Message.{Message}
use Rattle.plain_service.specs.Setups.{Setup}
use Rattle.cluster_events.specs.Servers.{State}
use Rattle.group_cluster.specs.Seats.{Peers}
use Rattle.group_cluster.specs.Group.{group_start}
use Rattle.mirror.specs.declared.state.NodeState.{NodeState as Node}
use Rattle.mirror.specs.Replicas.{down}
use Rattle.mirror.specs.Pairing.{alone}
use Rattle.cluster_rounds.specs.declared.cluster.Cluster.{Cluster}
use Rattle.cluster_rounds.specs.Worlds as cluster
pub use Rattle.cluster_rounds.specs.Worlds.{TellsFiles, LeavesFiles}
use Rattle.group_servers.specs.declared.group.Seat.{Seat}
use Rattle.group_servers.specs.declared.group.Group.{Group}
use Rattle.group_servers.specs.GroupKit.{group_kit}
use Rattle.cluster_core.specs.declared.world.World.{World}

-- whether a server is the first of two
abbrev pub is_first : Server → Bool
is_first A = true
is_first _ = false

-- of the first of two and the second the one with this name, and the other one; every name but the first one's counts as the second's
abbrev pub named : {T : Type 0} → Server → T → T → T
named acting a b = if is_first acting then a else b

abbrev pub unnamed : {T : Type 0} → Server → T → T → T
unnamed acting a b = if is_first acting then b else a

-- the active server's own seat, in which one stands that is down
abbrev pub own_seat : Server → Seat
own_seat acting = record { server = acting; node = alone down; link = []; back = [] }

-- the seats of two servers beside this active one: the other one's, with what is on the way to it and back, and its own
abbrev pub seats_beside : Server → Node → List Message → List Message → List Seat
seats_beside acting other link back =
    if is_first acting
    then own_seat A ∷ record { server = B; node = other; link = link; back = back } ∷ []
    else record { server = A; node = other; link = link; back = back } ∷ own_seat B ∷ []

-- a world taken apart, with this server of the two as the active one
abbrev pub parts_of : Server → World → Cluster (Group 2)
parts_of acting world = record {
  servers = record {
    acting = named acting A B;
    active = named acting world.a world.b;
    seats = seats_beside acting (unnamed acting world.a world.b) world.link world.back;
    armed = world.armed;
  };
  net = world.net;
  agents = world.agents;
  history = world.history;
  now = world.now;
  callbacks = world.callbacks;
}

-- the world of the code stands for a state of the definitions: which server is active, what the other one is, what is on the way between
-- them, and that the active one is armed are those of the state
abbrev pub Shows : Setup → State Peers → World → Type 0
Shows setup state world = cluster.Shows (group_kit 2) setup state (parts_of state.peers.acting world)

-- what holds of the state at all times: the facts of agents, net and history, those of a group, and that clients, times and numbers
-- are in range
abbrev pub IsGood : Setup → State Peers → Type 0
IsGood setup state = cluster.IsGood (group_kit 2) setup state

-- the start of a run: `a` is active, `b` standby
abbrev pub pair_start : ℤ → ℕ → State Peers
pair_start now places = group_start (B ∷ []) now places

-- A world before its first line.
abbrev pub empty_world : World
empty_world = record {
  a = alone down;
  b = alone down;
  link = [];
  back = [];
  net = [];
  agents = [];
  history = empty_history;
  now = pos 0;
  armed = false;
  callbacks = 0;
}

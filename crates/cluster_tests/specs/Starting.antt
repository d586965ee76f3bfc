-- The start of a cluster of two servers of which one is down.
use Rattle.std.specs.Prelude.{ℕ, ℤ, false, None, List, [], ◌∷◌}
use Rattle.calls.specs.History.{empty_history}
use Rattle.script_lines.specs.declared.line.Server.{Server}
use Rattle.script_lines.specs.declared.line.Server.TheVariants.{A, B}
use Rattle.cluster_facts.specs.World.{empty_world}
use Rattle.cluster_events.specs.Servers.{State}
use Rattle.group_cluster.specs.Seats as defined
use Rattle.group_cluster.specs.Seats.{Out, Peers}
use Rattle.mirror.specs.declared.state.NodeState.{NodeState as Node}
use Rattle.mirror.specs.Replicas.{down}
use Rattle.mirror.specs.Pairing.{alone}
use Rattle.cluster_rounds.specs.declared.cluster.Cluster.{Cluster}
use Rattle.group_servers.specs.declared.group.Seat.{Seat}
use Rattle.group_servers.specs.declared.group.Group.{Group}

-- a server that is down
abbrev pub seat_of : Server → Seat
seat_of server = record { server = server; node = alone down; link = []; back = [] }

-- a cluster in which nothing was posted: `a` is this server, and `b` is down
abbrev pub cluster_of : Node → ℤ → ℕ → Cluster (Group 2)
cluster_of active start callbacks = record {
  servers = record { acting = A; active = active; seats = seat_of A ∷ seat_of B ∷ []; armed = false };
  net = [];
  agents = [];
  history = empty_history;
  now = start;
  callbacks = callbacks;
}

-- its state, where `a` is active
abbrev pub seats_out : List defined.Seat
seats_out = record { server = A; stance = Out } ∷ record { server = B; stance = Out } ∷ []

abbrev pub state_of : ℤ → ℕ → State Peers
state_of start callbacks =
    record { world = empty_world start callbacks; peers = record { acting = A; seats = seats_out; armed = None } }

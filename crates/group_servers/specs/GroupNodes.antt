-- Words of public clauses: which servers the code has, and which messages on the way between them, at a state of the definitions.
use Rattle.std.specs.Prelude.{ℕ, is_some, List, [], ◌∷◌, map}
use Rattle.wire.specs.declared.message.Message.{Message}
use Rattle.wire.specs.declared.message.Message.TheVariants as wire
use Rattle.plain_service.specs.Setups.{Setup}
use Rattle.plain_service.specs.Values.{saved_of}
use Rattle.cluster_facts.specs.Types.{Entry}
use Rattle.cluster_facts.specs.History.{Hand, accepted_by}
use Rattle.cluster_events.specs.Servers.{State}
use Rattle.mirror.specs.declared.state.NodeState.{NodeState as Node}
use Rattle.mirror.specs.Replicas.{down}
use Rattle.mirror.specs.Pairing.{alone, joining}
pub use Rattle.lead_rounds.specs.Nodes.{is_linked, active_by, last_deeds, standby_by}
use Rattle.group_cluster.specs.Seats.{Mark, Sent, Stance, Out, Owed, Linking, Standby, Peers}
use Rattle.group_cluster.specs.Seats as defined
use Rattle.group_cluster.specs.Seats.{ToServer, Snapshot, Mirror, FromServer, JoinAck, MirrorAck, link_of, back_of}
use Rattle.group_servers.specs.declared.group.Seat.{Seat}
use Rattle.group_servers.specs.declared.group.Group.{Group}

-- a server to which an entry goes has not applied it
abbrev pub history_by : List Entry → Hand → Mark → List Entry
history_by past hand Sent = past
history_by past hand mark = accepted_by past hand

abbrev pub node_by : Setup → List Entry → Hand → Stance → Node
node_by setup past hand Out = alone down
node_by setup past hand Owed = alone joining
node_by setup past hand (Linking sent) = alone joining
node_by setup past hand (Standby on_way mark keeps) = standby_by setup (history_by past hand mark) keeps

abbrev pub to_server : Setup → ToServer → Message
to_server setup (Snapshot past) = wire.Snapshot (saved_of setup past)
to_server setup (Mirror number entry) = wire.Mirror number entry

abbrev pub from_server : FromServer → Message
from_server (JoinAck number) = wire.JoinAck number
from_server (MirrorAck number) = wire.MirrorAck number

abbrev pub seat_by : Setup → List Entry → Hand → defined.Seat → Seat
seat_by setup past hand seat = record {
  server = seat.server;
  node = node_by setup past hand seat.stance;
  link = map (to_server setup) (link_of past hand seat.stance);
  back = map from_server (back_of past seat.stance);
}

abbrev pub seats_by : Setup → List Entry → Hand → List defined.Seat → List Seat
seats_by setup past hand seats = map (seat_by setup past hand) seats

-- a server whose link and way back are lost
abbrev pub bare_by : Setup → List Entry → Hand → defined.Seat → Seat
bare_by setup past hand seat =
    record { server = seat.server; node = node_by setup past hand seat.stance; link = []; back = [] }

abbrev pub bare : Setup → List Entry → Hand → List defined.Seat → List Seat
bare setup past hand [] = []
bare setup past hand (seat ∷ seats) = bare_by setup past hand seat ∷ bare setup past hand seats

-- the servers of the code at what is kept
abbrev pub servers_by : (n : ℕ) → Setup → List Entry → Hand → Peers → Group n
servers_by n setup past hand peers = record {
  acting = peers.acting;
  active = active_by setup past hand peers.seats;
  seats = seats_by setup past hand peers.seats;
  armed = is_some peers.armed;
}

-- the servers of the code at a state
abbrev pub servers_of : (n : ℕ) → Setup → State Peers → Group n
servers_of n setup state = servers_by n setup state.world.core.answered state.world.core.hand state.peers

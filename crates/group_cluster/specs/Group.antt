-- Words of public clauses: an active server and others beside it, as servers of a cluster.
use Rattle.std.specs.Prelude.{ℕ, ℤ, suc, Bool, true, false, ◌&&◌, ◌||◌, nat_le, if◌then◌else◌, Option, Some, None, List, [], ◌∷◌, length}
use Rattle.disk_model.specs.Counts.{reaches, lowered}
use Rattle.script_lines.specs.declared.line.Server.{Server}
use Rattle.script_lines.specs.declared.line.Server.TheVariants.{A}
use Rattle.cluster_facts.specs.Types.{Entry}
use Rattle.cluster_facts.specs.Service.{Plain}
use Rattle.cluster_facts.specs.History.{Hand, Empty, Waiting, Ready}
use Rattle.cluster_facts.specs.World.{empty_world}
use Rattle.cluster_events.specs.Lines.{Told, Stood}
use Rattle.cluster_events.specs.declared.lines.ServerRole.TheVariants as role
use Rattle.cluster_events.specs.Outcomes.{Outcome}
use Rattle.cluster_events.specs.Servers.{State, Servers}
use Rattle.cluster_events.specs.Devices.{Device}
use Rattle.group_cluster.specs.Answering.{net_answering, lines_answering}
use Rattle.group_cluster.specs.Seats.{Clear, Sent, Took, Stance, Out, Owed, Linking, Standby, Seat, Peers, AreNames}
use Rattle.group_cluster.specs.Seats.{is_standby, any_seat, on_seats, same_server, standing_group}
use Rattle.group_cluster.specs.Falling.{looked, taken_over}

-- an entry is accepted: it goes to each server that is linked
abbrev pub sent_to : Stance → Stance
sent_to (Linking sent) = Linking true
sent_to (Standby on_way mark keeps) = Standby on_way Sent keeps
sent_to stance = stance

abbrev pub accept_group : Entry → State Peers → Outcome (State Peers)
accept_group entry state = looked (on_seats sent_to state.peers.seats) (Waiting entry) [] state

-- what a server becomes as the first message comes that is on the way to it, or from it, and the lines of its role
abbrev pub Turn : Type 0
Turn = Server → Stance → Option (Stance × List Told)

-- a snapshot makes it standby, an entry is applied
abbrev pub mirrored : List Entry → Turn
mirrored past server (Linking true) = Some (Standby (Some (length past)) Sent false, Stood server role.Standby ∷ [])
mirrored past server (Linking false) = Some (Standby (Some (length past)) Clear false, Stood server role.Standby ∷ [])
mirrored past server (Standby on_way Sent keeps) = Some (Standby on_way Took true, [])
mirrored past server _ = None

-- it is known to have joined, or to have applied the entry
abbrev pub confirmed : Turn
confirmed server (Standby (Some number) mark keeps) = Some (Standby None mark keeps, [])
confirmed server (Standby None Took keeps) = Some (Standby None Clear keeps, [])
confirmed server _ = None

-- the first server to which something comes
abbrev pub turned_or : Seat → Option (Stance × List Told) → List Seat → Option (List Seat × List Told)
    → Option (List Seat × List Told)
turned_or seat (Some found) seats rest = Some (record { server = seat.server; stance = found.0 } ∷ seats, found.1)
turned_or seat None seats None = None
turned_or seat None seats (Some later) = Some (seat ∷ later.0, later.1)

abbrev pub first_turn : Turn → List Seat → Option (List Seat × List Told)
first_turn turn [] = None
first_turn turn (seat ∷ seats) = turned_or seat (turn seat.server seat.stance) seats (first_turn turn seats)

-- one server alone
abbrev pub only : Server → Turn → Turn
only one turn server stance = if same_server one server then turn server stance else None

abbrev pub step_by : Option (List Seat × List Told) → State Peers → Option (Outcome (State Peers))
step_by None state = None
step_by (Some turned) state = Some (looked turned.0 state.world.core.hand turned.1 state)

abbrev pub mirror_group : State Peers → Option (Outcome (State Peers))
mirror_group state = step_by (first_turn (mirrored state.world.core.answered) state.peers.seats) state

abbrev pub ack_group : State Peers → Option (Outcome (State Peers))
ack_group state = step_by (first_turn confirmed state.peers.seats) state

-- the first message on the way to one server, or from it
abbrev pub mirror_at : Server → State Peers → Option (Outcome (State Peers))
mirror_at server state = step_by (first_turn (only server (mirrored state.world.core.answered)) state.peers.seats) state

abbrev pub ack_at : Server → State Peers → Option (Outcome (State Peers))
ack_at server state = step_by (first_turn (only server confirmed) state.peers.seats) state

-- whether the disk fails in one of so many changing calls, where so many servers fall
abbrev pub fails_in : ℕ → ℕ → Bool
fails_in calls fails = nat_le 1 calls && nat_le 1 fails

-- the work of an entry takes the active server down, and a standby takes over: the disk fails in a call of the entry's deeds, or they
-- come to the end of the count that is armed
abbrev pub falls : Device → List Entry → Entry → Peers → Bool
falls device past entry peers =
    let calls = device.calls past entry in
    any_seat is_standby peers.seats && (fails_in calls (device.fails (suc (length past))) || reaches calls peers.armed)

-- the snapshots that are owed go out
abbrev pub linked : Stance → Stance
linked Owed = Linking false
linked stance = stance

-- the deeds of the entry in hand are done, its reply is posted, and the hand is empty
abbrev pub work_done : Plain → ℕ → Entry → State Peers → Outcome (State Peers)
work_done plain calls entry state =
    let past = state.world.core.answered in
    record {
      state = record {
        world = record state.world {
          core = record { answered = entry ∷ past; hand = Empty };
          net = net_answering plain past entry state.world.net;
        };
        peers = record state.peers { seats = on_seats linked state.peers.seats; armed = lowered calls state.peers.armed };
      };
      told = lines_answering plain past entry state.world.net;
    }

abbrev pub work_as : Plain → Device → Entry → Bool → State Peers → Outcome (State Peers)
work_as plain device entry true state = taken_over device state
work_as plain device entry false state = work_done plain (device.calls state.world.core.answered entry) entry state

abbrev pub work_by : Plain → Device → Hand → State Peers → Option (Outcome (State Peers))
work_by plain device (Ready entry) state =
    Some (work_as plain device entry (falls device state.world.core.answered entry state.peers) state)
work_by plain device _ state = None

abbrev pub work_group : Plain → Device → State Peers → Option (Outcome (State Peers))
work_group plain device state = work_by plain device state.world.core.hand state

-- thirteen steps leave none of up to three servers: of each a snapshot, an entry, and the two confirmations; and the work
abbrev pub group : Plain → Device → Servers Peers
group plain device = record {
  accept = accept_group;
  mirror = mirror_group;
  ack = ack_group;
  work = work_group plain device;
  steps = 13;
  standing = standing_group;
}

-- the start of a run: `a` is active, and these others are standby
abbrev pub others_at : List Server → List Seat
others_at [] = []
others_at (server ∷ servers) = record { server = server; stance = Standby None Clear false } ∷ others_at servers

abbrev pub group_start : List Server → ℤ → ℕ → State Peers
group_start others now places = record {
  world = empty_world now places;
  peers = record { acting = A; seats = record { server = A; stance = Out } ∷ others_at others; armed = None };
}

-- these are the others of so many servers
abbrev pub CanStart : ℕ → List Server → Type 0
CanStart size others = AreNames size (A ∷ others)

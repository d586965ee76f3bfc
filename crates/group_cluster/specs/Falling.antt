-- Words of public clauses: servers that go down, are armed and come back.
use Rattle.std.specs.Prelude.{ℕ, zero, suc, ◌-◌, Bool, true, false, ◌&&◌, not, nat_le, nat_lt, if◌then◌else◌, Option, Some, None, List, [], ◌∷◌, ◌++◌, length}
use Rattle.script_lines.specs.declared.line.Line.{Line}
use Rattle.script_lines.specs.declared.line.Line.TheVariants as line
use Rattle.script_lines.specs.declared.line.Server.{Server}
use Rattle.script_language.specs.Printing.{line_text}
use Rattle.cluster_facts.specs.Types.{Entry}
use Rattle.cluster_facts.specs.History.{Hand, Empty, Waiting, Applied, Ready, committed_by}
use Rattle.cluster_events.specs.Lines.{Told, Committed, Refused, Stood}
use Rattle.cluster_events.specs.declared.lines.ServerRole.{ServerRole}
use Rattle.cluster_events.specs.declared.lines.ServerRole.TheVariants as role
use Rattle.cluster_events.specs.Outcomes.{Outcome, quietly, telling}
use Rattle.cluster_events.specs.Cores.{with_core}
use Rattle.cluster_events.specs.Servers.{State}
use Rattle.cluster_events.specs.Devices.{Device}
use Rattle.group_cluster.specs.Seats.{Clear, Sent, Took, Stance, Out, Owed, Linking, Standby, Seat, Peers, is_standby, is_sent, is_took}
use Rattle.group_cluster.specs.Seats.{any_seat, count_seats, on_seats, same_server, stance_of, is_out_at, standing_group}

-- the event of a line is refused
abbrev pub refused : Line → State Peers → Outcome (State Peers)
refused line state = telling state (Refused (line_text line) (standing_group state))

-- The entry in hand is looked at again: it waits while it goes to some server; once all applied it, it is committed; and it is ready once
-- all of them confirmed it.

abbrev pub taken_by : List Seat → Entry → Hand
taken_by seats entry = if any_seat is_took seats then Applied entry else Ready entry

abbrev pub looked_at : List Seat → Hand → Hand
looked_at seats Empty = Empty
looked_at seats (Waiting entry) = if any_seat is_sent seats then Waiting entry else taken_by seats entry
looked_at seats (Applied entry) = taken_by seats entry
looked_at seats (Ready entry) = Ready entry

-- the line of an entry that waited, and is committed
abbrev pub commitment : List Seat → List Entry → Hand → List Told
commitment seats past (Waiting entry) = if any_seat is_sent seats then [] else Committed (suc (length past)) entry ∷ []
commitment seats past _ = []

-- the servers became these, with this entry in hand, and lines told their roles
abbrev pub looked : List Seat → Hand → List Told → State Peers → Outcome (State Peers)
looked seats hand roles state =
    let past = state.world.core.answered in
    record {
      state = record {
        world = with_core past (looked_at seats hand) state.world;
        peers = record state.peers { seats = seats };
      };
      told = roles ++ commitment seats past hand;
    }

-- One server alone.

abbrev pub set_at : Server → (Stance → Stance) → List Seat → List Seat
set_at server change [] = []
set_at server change (seat ∷ seats) =
    record { server = seat.server; stance = if same_server server seat.server then change seat.stance else seat.stance }
    ∷ set_at server change seats

abbrev pub out_at : Server → List Seat → List Seat
out_at server seats = set_at server (λ stance. Out) seats

-- a server that is not active goes down
abbrev pub other_down : Server → State Peers → Outcome (State Peers)
other_down server state =
    looked (out_at server state.peers.seats) state.world.core.hand (Stood server role.Down ∷ []) state

-- The active server goes down.

-- a standby applied the entry in hand
abbrev pub has_applied : Stance → Bool
has_applied (Standby on_way Sent keeps) = false
has_applied (Standby on_way mark keeps) = true
has_applied _ = false

-- where one did, every other one applies it, and it is committed
abbrev pub caught : Stance → Stance
caught (Standby on_way Sent keeps) = Standby on_way Took true
caught stance = stance

abbrev pub catches : List Seat → Hand → Bool
catches seats (Waiting entry) = any_seat has_applied seats
catches seats _ = false

abbrev pub caught_seats : Bool → List Seat → List Seat
caught_seats catching seats = if catching then on_seats caught seats else seats

abbrev pub caught_hand : Bool → Hand → Hand
caught_hand true (Waiting entry) = Applied entry
caught_hand catching hand = hand

abbrev pub caught_lines : Bool → List Entry → Hand → List Told
caught_lines true past (Waiting entry) = Committed (suc (length past)) entry ∷ []
caught_lines catching past hand = []

-- a standby that keeps no deeds
abbrev pub is_fresh : Stance → Bool
is_fresh (Standby on_way mark keeps) = not keeps
is_fresh _ = false

-- the standbys by which one takes over: those that keep no deeds, or all where there is none
abbrev pub takes : Bool → Stance → Bool
takes fresh stance = if fresh then is_fresh stance else is_standby stance

-- the first so many of them fail as they take over
abbrev pub felled : (Stance → Bool) → ℕ → List Seat → List Seat
felled test zero seats = seats
felled test (suc count) [] = []
felled test (suc count) (seat ∷ seats) =
    if test seat.stance
    then record { server = seat.server; stance = Out } ∷ felled test count seats
    else seat ∷ felled test (suc count) seats

-- their names
abbrev pub named : (Stance → Bool) → List Seat → List Server
named test [] = []
named test (seat ∷ seats) = if test seat.stance then seat.server ∷ named test seats else named test seats

-- so many names from the front, and the next one, or this one where there is none
abbrev pub front_of : ℕ → List Server → List Server
front_of zero servers = []
front_of (suc count) [] = []
front_of (suc count) (server ∷ servers) = server ∷ front_of count servers

abbrev pub next_of : Server → ℕ → List Server → Server
next_of last count [] = last
next_of last zero (server ∷ servers) = server
next_of last (suc count) (server ∷ servers) = next_of last count servers

-- each server that is not down gets the new active one's snapshot at once, and is standby
abbrev pub rejoined : Stance → Stance
rejoined Out = Out
rejoined _ = Standby None Clear false

abbrev pub is_joining : Stance → Bool
is_joining Owed = true
is_joining (Linking sent) = true
is_joining _ = false

-- a line for each server, the last in front
abbrev pub all_stood : ServerRole → List Server → List Told → List Told
all_stood stands_as [] told = told
all_stood stands_as (server ∷ servers) told = all_stood stands_as servers (Stood server stands_as ∷ told)

-- how many standbys fail as they take over, in a call of the deeds of the last entry: the active server is the first of those that fall,
-- whether it failed in the entry's work, or was stopped or crashed
abbrev pub failing : Device → List Entry → ℕ
failing device [] = 0
failing device (entry ∷ past) = if nat_le 1 (device.calls past entry) then device.fails (suc (length past)) - 1 else 0

-- one that keeps no deeds cannot fail; and of so many that keep some the last does not: a fault that leaves nobody ends the run
abbrev pub capped : ℕ → ℕ → ℕ
capped count standbys = if nat_lt count standbys then count else standbys - 1

abbrev pub count_fallen : Device → (fresh : Bool) → List Entry → List Seat → ℕ
count_fallen device fresh history seats =
    if fresh then 0 else capped (failing device history) (count_seats is_standby seats)

-- what follows once every standby has the entry in hand, or none
abbrev pub taken_over_by : Device → (fresh : Bool) → List Seat → Hand → List Told → State Peers → Outcome (State Peers)
taken_over_by device fresh seats hand told state =
    let history = committed_by state.world.core.answered hand in
    let test = takes fresh in
    let count = count_fallen device fresh history seats in
    let names = named test seats in
    let acting = next_of state.peers.acting count names in
    let fallen = all_stood role.Down (front_of count names) (Stood state.peers.acting role.Down ∷ told) in
    record {
      state = record {
        world = with_core history Empty state.world;
        peers = record { acting = acting; seats = out_at acting (on_seats rejoined (felled test count seats)); armed = None };
      };
      told = all_stood role.Standby (named is_joining seats) (Stood acting role.Active ∷ fallen);
    }

abbrev pub caught_over : Device → Bool → State Peers → Outcome (State Peers)
caught_over device catching state =
    let seats = caught_seats catching state.peers.seats in
    let hand = caught_hand catching state.world.core.hand in
    taken_over_by device (any_seat is_fresh seats) seats hand (caught_lines catching state.world.core.answered state.world.core.hand) state

abbrev pub taken_over : Device → State Peers → Outcome (State Peers)
taken_over device state = caught_over device (catches state.peers.seats state.world.core.hand) state

-- `crash S`: refused where S is down or no other server is in service, which is active and not armed, or standby
abbrev pub crash_active : Device → Server → Bool → State Peers → Outcome (State Peers)
crash_active device server true state = taken_over device state
crash_active device server false state = refused (line.Crash server) state

-- whether a server is active and not armed, or some standby is left
abbrev pub is_served : Option ℕ → List Seat → Bool
is_served None seats = true
is_served (Some left) seats = any_seat is_standby seats

abbrev pub crash_other : Server → Bool → Stance → State Peers → Outcome (State Peers)
crash_other server served Out state = refused (line.Crash server) state
crash_other server true stance state = other_down server state
crash_other server false stance state = refused (line.Crash server) state

abbrev pub crash_by : Device → Server → Bool → State Peers → Outcome (State Peers)
crash_by device server true state = crash_active device server (any_seat is_standby state.peers.seats) state
crash_by device server false state =
    crash_other server (is_served state.peers.armed (out_at server state.peers.seats)) (stance_of server state.peers.seats) state

abbrev pub crash : Device → Server → State Peers → Outcome (State Peers)
crash device server state = crash_by device server (same_server server state.peers.acting) state

-- another count is in force
abbrev pub armed_with : Option ℕ → State Peers → State Peers
armed_with armed state = record { world = state.world; peers = record state.peers { armed = armed } }

-- `arm S K`: refused where S is not active or no other server is in service
abbrev pub arm_by : Server → ℕ → Bool → State Peers → Outcome (State Peers)
arm_by server count true state = quietly (armed_with (Some count) state)
arm_by server count false state = refused (line.Arm server count) state

abbrev pub arm : Server → ℕ → State Peers → Outcome (State Peers)
arm server count state =
    arm_by server count (same_server server state.peers.acting && any_seat is_standby state.peers.seats) state

-- `disarm`
abbrev pub disarm : State Peers → Outcome (State Peers)
disarm state = quietly (armed_with None state)

-- a snapshot goes to a server that comes back where no entry is in hand, and is owed to it otherwise
abbrev pub joining_by : Hand → Stance
joining_by Empty = Linking false
joining_by _ = Owed

abbrev pub back_by : Hand → Stance → Stance
back_by hand Out = joining_by hand
back_by hand stance = stance

abbrev pub joined : Server → State Peers → State Peers
joined server state = record {
  world = state.world;
  peers = record state.peers { seats = set_at server (back_by state.world.core.hand) state.peers.seats };
}

-- `restart S`: refused where S is active or not down, and where it is none of the servers
abbrev pub can_join : Server → Peers → Bool
can_join server peers = not (same_server server peers.acting) && is_out_at server peers.seats

abbrev pub restart_by : Server → Bool → State Peers → Outcome (State Peers)
restart_by server true state = telling (joined server state) (Stood server role.Joining)
restart_by server false state = refused (line.Restart server) state

abbrev pub restart : Server → State Peers → Outcome (State Peers)
restart server state = restart_by server (can_join server state.peers) state

-- Words of public clauses: servers of which one is active, and what is on the way between it and the others.
use Rattle.std.specs.Prelude.{◌≡◌, ℕ, zero, suc, ◌+◌, ◌≤◌, Bool, true, false, ◌||◌, not, nat_le, if◌then◌else◌, Option, Some, None, List, [], ◌∷◌, ◌++◌, length}
use Rattle.std.specs.List.{AllByRecursion, list_any}
use Rattle.script_lines.specs.declared.line.Server.{Server}
use Rattle.script_lines.specs.declared.line.Server.TheVariants.{A, B, C}
use Rattle.cluster_facts.specs.Types.{Entry}
use Rattle.cluster_facts.specs.History.{Hand, Empty, Waiting, Applied, Ready}
use Rattle.cluster_events.specs.declared.lines.ServerRole.{ServerRole}
use Rattle.cluster_events.specs.declared.lines.ServerRole.TheVariants as role
use Rattle.cluster_events.specs.declared.lines.Roles.{Roles}
use Rattle.cluster_events.specs.declared.lines.Roles.TheVariants.{Two, Three}
use Rattle.cluster_events.specs.declared.lines.Standing.{Standing}
use Rattle.cluster_events.specs.Servers.{State}

-- what of the entry in hand is on the way between the active server and another one
pub data Mark : Type 0 where
  Clear : Mark
  -- the entry goes to it
  Sent : Mark
  -- it applied the entry, and its confirmation comes back
  Took : Mark

-- what a server is beside the active one
pub data Stance : Type 0 where
  -- it is down, or it is the active one itself
  Out : Stance
  -- it is joining, and a snapshot is owed to it
  Owed : Stance
  -- it is joining, and the snapshot is on the way to it, with the entry in hand behind it or not
  Linking : (sent : Bool) → Stance
  -- it is standby: the number in the confirmation of its joining, while that is on the way; what of the entry in hand is on the way;
  -- and whether it keeps the deeds of the last entry that it applied, which is so once it applied one since it started or joined
  Standby : (on_way : Option ℕ) (mark : Mark) (keeps : Bool) → Stance

pub record Seat : Type 0 where
  pub server : Server
  pub stance : Stance

pub record Peers : Type 0 where
  -- the active server
  pub acting : Server
  -- all servers, in order
  pub seats : List Seat
  -- how many changing device calls are left until the active server stops, if it is armed
  pub armed : Option ℕ

-- Tests.

abbrev pub is_up : Stance → Bool
is_up Out = false
is_up _ = true

abbrev pub is_standby : Stance → Bool
is_standby (Standby on_way mark keeps) = true
is_standby _ = false

-- the entry in hand goes to it
abbrev pub is_sent : Stance → Bool
is_sent (Linking sent) = sent
is_sent (Standby on_way Sent keeps) = true
is_sent _ = false

-- it applied the entry, and the confirmation comes back
abbrev pub is_took : Stance → Bool
is_took (Standby on_way Took keeps) = true
is_took _ = false

-- some server is so
abbrev pub any_seat : (Stance → Bool) → List Seat → Bool
any_seat test [] = false
any_seat test (seat ∷ seats) = test seat.stance || any_seat test seats

abbrev pub count_seats : (Stance → Bool) → List Seat → ℕ
count_seats test [] = 0
count_seats test (seat ∷ seats) = (if test seat.stance then 1 else 0) + count_seats test seats

-- each server becomes this
abbrev pub on_seats : (Stance → Stance) → List Seat → List Seat
on_seats change [] = []
on_seats change (seat ∷ seats) = record { server = seat.server; stance = change seat.stance } ∷ on_seats change seats

-- What is on the way.

-- what goes to a server: the service after a history, and the entry of a number
pub data ToServer : Type 0 where
  Snapshot : (past : List Entry) → ToServer
  Mirror : (number : ℕ) (entry : Entry) → ToServer

-- what comes back: it joined after so many entries, and it applied the entry of a number
pub data FromServer : Type 0 where
  JoinAck : (number : ℕ) → FromServer
  MirrorAck : (number : ℕ) → FromServer

abbrev pub mirror_of : List Entry → Hand → List ToServer
mirror_of past (Waiting entry) = Mirror (suc (length past)) entry ∷ []
mirror_of past _ = []

-- the link of a server, first message first
abbrev pub link_of : List Entry → Hand → Stance → List ToServer
link_of past hand (Linking true) = Snapshot past ∷ mirror_of past hand
link_of past hand (Linking false) = Snapshot past ∷ []
link_of past hand (Standby on_way Sent keeps) = mirror_of past hand
link_of past hand _ = []

abbrev pub join_ack : Option ℕ → List FromServer
join_ack None = []
join_ack (Some number) = JoinAck number ∷ []

-- its way back
abbrev pub back_of : List Entry → Stance → List FromServer
back_of past (Standby on_way Took keeps) = join_ack on_way ++ MirrorAck (suc (length past)) ∷ []
back_of past (Standby on_way mark keeps) = join_ack on_way
back_of past _ = []

-- What holds at all times.

-- what a server may be beside an entry in hand
abbrev pub Agree : Hand → Stance → Type 0
Agree hand Out = Unit {0}
Agree Empty Owed = ⊥
Agree hand Owed = Unit {0}
Agree Empty (Linking false) = Unit {0}
Agree (Waiting entry) (Linking true) = Unit {0}
Agree hand (Linking sent) = ⊥
Agree Empty (Standby on_way Clear keeps) = Unit {0}
Agree Empty (Standby on_way mark keeps) = ⊥
Agree (Waiting entry) (Standby on_way Sent keeps) = Unit {0}
Agree (Waiting entry) (Standby on_way mark true) = Unit {0}
Agree (Applied entry) (Standby on_way Sent keeps) = ⊥
Agree (Applied entry) (Standby on_way mark true) = Unit {0}
Agree (Ready entry) (Standby on_way Clear true) = Unit {0}
Agree hand (Standby on_way mark keeps) = ⊥

-- an entry waits for some server, and one that all applied for some confirmation
abbrev pub WaitsFor : Hand → List Seat → Type 0
WaitsFor (Waiting entry) seats = any_seat is_sent seats ≡ true
WaitsFor (Applied entry) seats = any_seat is_took seats ≡ true
WaitsFor _ seats = Unit {0}

-- the active server is armed beside a standby alone, and has a call left
abbrev pub IsArmed : Option ℕ → List Seat → Type 0
IsArmed None seats = Unit {0}
IsArmed (Some left) seats = (1 ≤ left) × (any_seat is_standby seats ≡ true)

abbrev pub same_server : Server → Server → Bool
same_server A A = true
same_server B B = true
same_server C C = true
same_server _ _ = false

-- the active server is nothing else beside
abbrev pub IsApart : Server → List Seat → Type 0
IsApart acting seats = AllByRecursion (λ (seat : Seat). same_server seat.server acting ≡ true → seat.stance ≡ Out) seats

-- the servers' names, in order
abbrev pub names_of : List Seat → List Server
names_of [] = []
names_of (seat ∷ seats) = seat.server ∷ names_of seats

-- whether a server is one of these
abbrev pub is_named : Server → List Server → Bool
is_named server names = list_any (same_server server) names

-- two servers or three, each once, in order
abbrev pub AreNames : ℕ → List Server → Type 0
AreNames (suc (suc zero)) names = names ≡ A ∷ B ∷ []
AreNames (suc (suc (suc zero))) names = names ≡ A ∷ B ∷ C ∷ []
AreNames size names = ⊥

-- what holds of so many servers at all times
pub record IsGroup (size : ℕ) (state : State Peers) : Type 0 where
  pub agree : AllByRecursion (λ (seat : Seat). Agree state.world.core.hand seat.stance) state.peers.seats
  pub waits : WaitsFor state.world.core.hand state.peers.seats
  pub armed : IsArmed state.peers.armed state.peers.seats
  pub apart : IsApart state.peers.acting state.peers.seats
  pub names : AreNames size (names_of state.peers.seats)
  -- the active server is one of them
  pub acts : is_named state.peers.acting (names_of state.peers.seats) ≡ true

-- Names and roles.

-- what the server of a name is; one that is not there is out
abbrev pub stance_of : Server → List Seat → Stance
stance_of server [] = Out
stance_of server (seat ∷ seats) = if same_server server seat.server then seat.stance else stance_of server seats

-- whether a server of this name is there, and out
abbrev pub is_out_at : Server → List Seat → Bool
is_out_at server [] = false
is_out_at server (seat ∷ seats) = if same_server server seat.server then not (is_up seat.stance) else is_out_at server seats

abbrev pub role_of_active : Option ℕ → ServerRole
role_of_active None = role.Active
role_of_active (Some left) = role.Armed

abbrev pub role_by : Stance → ServerRole
role_by Out = role.Down
role_by Owed = role.Joining
role_by (Linking sent) = role.Joining
role_by (Standby on_way mark keeps) = role.Standby

abbrev pub role_of : Server → Peers → ServerRole
role_of server peers =
    if same_server server peers.acting then role_of_active peers.armed else role_by (stance_of server peers.seats)

-- the number of the entry in hand
abbrev pub hand_number : ℕ → Hand → Option ℕ
hand_number answered Empty = None
hand_number answered _ = Some (suc answered)

-- how many messages are on the links, and on the ways back
abbrev pub links : List Entry → Hand → List Seat → ℕ
links past hand [] = 0
links past hand (seat ∷ seats) = length (link_of past hand seat.stance) + links past hand seats

abbrev pub backs : List Entry → List Seat → ℕ
backs past [] = 0
backs past (seat ∷ seats) = length (back_of past seat.stance) + backs past seats

-- the roles of two servers, or of three
abbrev pub roles_of : Peers → Roles
roles_of peers =
    if nat_le 3 (length peers.seats) then Three (role_of A peers) (role_of B peers) (role_of C peers)
    else Two (role_of A peers) (role_of B peers)

abbrev pub standing_group : State Peers → Standing
standing_group state =
    let past = state.world.core.answered in
    let hand = state.world.core.hand in
    record {
      roles = roles_of state.peers;
      net = length state.world.net;
      link = links past hand state.peers.seats;
      back = backs past state.peers.seats;
      in_hand = hand_number (length past) hand;
    }

-- Words of bodies alone: servers beside the active one that go down, or come back.
use Rattle.std.specs.Prelude.{◌≡◌, ℕ, Bool, true, false, ◌&&◌, ◌||◌, not, is_some, if◌then◌else◌, Option, Some, None, List, [], ◌∷◌, ◌++◌}
use Rattle.std.specs.List.{list_any}
use Rattle.script_lines.specs.declared.line.Server.{Server}
use Rattle.wire.specs.declared.message.Message.{Message}
use Rattle.wire.specs.Mirrored.{entry_brought}
use Rattle.cluster_facts.specs.Types.{Entry}
use Rattle.cluster_events.specs.declared.lines.ServerRole.TheVariants as role
use Rattle.event_text.specs.Texts.{entry_line, server_line}
use Rattle.mirror.specs.declared.heard.Heard.{Heard}
use Rattle.mirror.specs.declared.state.NodeState.{NodeState as Node}
use Rattle.mirror.specs.Replicas.{down, number_in_hand}
use Rattle.mirror.specs.Pairing.{IsJoinBegun, alone, joining, parted}
use Rattle.group_cluster.specs.Seats.{same_server}
use Rattle.group_servers.specs.declared.group.Seat.{Seat}
use Rattle.group_servers.specs.declared.group.Group.{Group}
use Rattle.group_servers.specs.Seats.{is_up, stands_by}

-- Tests of the servers, by the names of lines.

abbrev pub is_up_one : Server → Seat → Bool
is_up_one server seat = same_server server seat.server && is_up seat

-- the server of this name is there, and down
abbrev pub is_down_at : Server → List Seat → Bool
is_down_at server [] = false
is_down_at server (seat ∷ seats) = if same_server server seat.server then not (is_up seat) else is_down_at server seats

abbrev pub is_standby_other : Server → Seat → Bool
is_standby_other server seat = stands_by seat && not (same_server server seat.server)

-- it is the active one, and some other one is standby
abbrev pub leads : {n : ℕ} → Server → Group n → Bool
leads server servers = same_server server servers.acting && list_any stands_by servers.seats

-- it is not the active one, and not down; and another one is standby, or the active one is not armed
abbrev pub follows : {n : ℕ} → Server → Group n → Bool
follows server servers =
    (not (same_server server servers.acting) && list_any (is_up_one server) servers.seats)
    && (not servers.armed || list_any (is_standby_other server) servers.seats)

-- it is another one than the active one, and is down
abbrev pub rests : {n : ℕ} → Server → Group n → Bool
rests server servers = not (same_server server servers.acting) && is_down_at server servers.seats

-- A server goes down.

-- the last message of a list, if there is one
abbrev pub TakesLast : Option Message → List Message → Type 0
TakesLast None list = list ≡ []
TakesLast (Some message) list = (front : List Message) × (list ≡ front ++ message ∷ [])

-- one server is down, and this is the last message that was on the way to it; or another one is
abbrev pub DropsBy : (here : Bool) → Option Message → Seat → Seat → List Seat → List Seat → (others : Type 0) → Type 0
DropsBy true lost seat new seats news others =
    TakesLast lost seat.link × (new ≡ record { server = seat.server; node = alone down; link = []; back = [] }) × (news ≡ seats)
DropsBy false lost seat new seats news others = (new ≡ seat) × others

-- the one of this name
abbrev pub DropsAt : Server → Option Message → List Seat → List Seat → Type 0
DropsAt server lost [] [] = lost ≡ None
DropsAt server lost (seat ∷ seats) (new ∷ news) =
    DropsBy (same_server server seat.server) lost seat new seats news (DropsAt server lost seats news)
DropsAt server lost _ _ = ⊥

-- the entry that it brings, if it goes to no other server
abbrev pub lost_entry : (goes : Bool) → Option Message → Option (ℕ × Entry)
lost_entry true lost = None
lost_entry false lost = entry_brought lost

abbrev pub lost_lines : Option (ℕ × Entry) → Server → List (List ℕ)
lost_lines None server = server_line server role.Down ∷ []
lost_lines (Some found) server = entry_line found.0 found.1 ∷ server_line server role.Down ∷ []

-- the active server beside servers of which some are linked, and for some of which an entry waits
abbrev pub settled_by : (linked waits : Bool) → Node → Node
settled_by false waits active = parted active
settled_by true true active = active
settled_by true false active = record active { waits = None }

-- A server comes back.

-- the value of the service is sent at once where nothing is in hand
abbrev pub BeginsBy : Bool → Node → Node → List Message → Type 0
BeginsBy true old new messages = (messages ≡ []) × (new ≡ old)
BeginsBy false old new messages = (heard : Heard) × IsJoinBegun (is_some old.replica.owed) old heard new × (messages ≡ heard.to_peer)

abbrev pub Begins : Node → Node → List Message → Type 0
Begins old new messages = BeginsBy (is_some (number_in_hand old.replica)) old new messages

-- the server of this name joins, and these messages are on the way to it
abbrev pub joined_at : Server → List Message → List Seat → List Seat
joined_at server messages [] = []
joined_at server messages (seat ∷ seats) =
    if same_server server seat.server
    then record seat { node = alone joining; link = messages } ∷ seats
    else seat ∷ joined_at server messages seats

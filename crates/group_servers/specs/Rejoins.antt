-- Words of bodies alone: servers that join one that took over.
use Rattle.std.specs.Prelude.{◌≡◌, ℕ, zero, suc, Bool, true, false, if◌then◌else◌, Some, List, [], ◌∷◌, map}
use Rattle.std.specs.List.{list_any}
use Rattle.calls.specs.declared.saved.Saved.{Saved}
use Rattle.mirror.specs.declared.node.Tie.TheVariants.{Linked}
use Rattle.mirror.specs.declared.heard.Role.TheVariants.{Standby}
use Rattle.mirror.specs.declared.state.NodeState.{NodeState as Node}
use Rattle.mirror.specs.Replicas.{down, started}
use Rattle.mirror.specs.Pairing.{alone}
use Rattle.script_lines.specs.declared.line.Server.{Server}
use Rattle.group_servers.specs.declared.group.Seat.{Seat}
use Rattle.group_servers.specs.declared.group.Group.{Group}
use Rattle.lead_server.specs.Roles.{stays_down}
use Rattle.group_servers.specs.Seats.{is_up}

-- one that is not down is a standby that has the service's value and nothing on the way
abbrev pub rejoins : Node → Seat → Seat
rejoins standby seat =
    if stays_down seat.node.replica.role then seat else record { server = seat.server; node = standby; link = []; back = [] }

abbrev pub all_rejoin : Node → List Seat → List Seat
all_rejoin standby seats = map (rejoins standby) seats

-- the server at a place left its seat: it is the active one
abbrev pub left_at : ℕ → List Seat → List Seat
left_at place [] = []
left_at zero (seat ∷ seats) = record seat { node = alone down } ∷ seats
left_at (suc place) (seat ∷ seats) = seat ∷ left_at place seats

-- some server is not down
abbrev pub any_up : List Seat → Bool
any_up seats = list_any is_up seats

-- the one that took over is tied to those that join it, if any do
abbrev pub led_by : Bool → Node → Node
led_by true node = record node { tie = Linked; promised = [] }
led_by false node = node

-- the one that took over, with this service, and the others joined
abbrev pub Rejoins : Node → Node → List Seat → List Seat → Type 0
Rejoins old new seats news =
    (saved : Saved) → old.replica.service ≡ Some saved
    → (new ≡ led_by (any_up seats) old) × (news ≡ all_rejoin (alone (started Standby saved)) seats)

-- servers by their parts
abbrev pub made_of : (n : ℕ) → Server → Node → List Seat → Bool → Group n
made_of n acting active seats armed = record { acting = acting; active = active; seats = seats; armed = armed }

-- Words of public clauses: servers that stay up.
use Rattle.std.specs.Prelude.{◌≡◌, ℕ, Bool, true, false, ◌&&◌, ◌||◌, ◌⊎◌, Option, IsSome, List, [], ◌∷◌}
use Rattle.script_lines.specs.declared.line.Line.{Line}
use Rattle.script_lines.specs.declared.line.Line.TheVariants as line
use Rattle.script_lines.specs.declared.line.Server.{Server}
use Rattle.cluster_facts.specs.Service.{Plain, IsPlain}
use Rattle.cluster_events.specs.Outcomes.{Outcome}
use Rattle.cluster_events.specs.Servers.{State}
use Rattle.cluster_events.specs.Serving.{IsSteady}
use Rattle.cluster_events.specs.Devices.{Device}
use Rattle.cluster_events.specs.Ending.{is_crash}
use Rattle.cluster_events.specs.Running.{Shelf}
use Rattle.group_cluster.specs.Seats.{Seat, Peers, IsGroup, is_up, is_standby, any_seat, same_server, stance_of}
use Rattle.group_cluster.specs.Falling.{crash, taken_over}
use Rattle.group_cluster.specs.Running.{GroupHappens}

-- a server is active, or not down
abbrev pub is_up_in : Peers → Server → Bool
is_up_in peers server = same_server server peers.acting || is_up (stance_of server peers.seats)

-- the active server stays active, and every other one up where it is up
pub record StayUp (old new : Peers) : Type 0 where
  pub active : new.acting ≡ old.acting
  pub others : (server : Server) → is_up (stance_of server old.seats) ≡ true → is_up (stance_of server new.seats) ≡ true

-- the count that was armed before a line does not come to its end in it; in `disarm` it is given up
abbrev pub IsShort : Line → (before after : Option ℕ) → Type 0
IsShort line.Disarm before after = Unit {0}
IsShort next before after = IsSome before → IsSome after

-- where no work fails and the armed count does not come to its end, only `crash` takes a server down
abbrev pub ServersStayUp : Type 0
ServersStayUp =
    (size : ℕ) (plain : Plain) → IsPlain plain → (shelf : Shelf) (device : Device) → ((number : ℕ) → device.fails number ≡ 0)
    → (next : Line) (state : State Peers) (outcome : Outcome (State Peers)) → IsSteady plain (IsGroup size) state → is_crash next ≡ false
    → GroupHappens plain shelf device next state outcome → IsShort next state.peers.armed outcome.state.peers.armed
    → StayUp state.peers outcome.state.peers

-- and where it does, it takes down its own server and no other one
pub record CrashesOne (server : Server) (old new : Peers) : Type 0 where
  pub down : is_up_in new server ≡ false
  pub others : (other : Server) → same_server other server ≡ false → is_up_in old other ≡ true → is_up_in new other ≡ true

abbrev pub CrashTakesOne : Type 0
CrashTakesOne =
    (size : ℕ) (device : Device) → ((number : ℕ) → device.fails number ≡ 0) → (server : Server) (state : State Peers) → IsGroup size state
    → ((crash device server state).state ≡ state) ⊎ CrashesOne server state.peers (crash device server state).state.peers

-- a server of this name is standby
abbrev pub is_standby_at : Server → List Seat → Bool
is_standby_at server [] = false
is_standby_at server (seat ∷ seats) = (same_server seat.server server && is_standby seat.stance) || is_standby_at server seats

-- whatever the disk fails in: one that was standby takes over, where there is one
abbrev pub StandbyTakesOver : Type 0
StandbyTakesOver =
    (device : Device) (state : State Peers) → any_seat is_standby state.peers.seats ≡ true
    → is_standby_at (taken_over device state).state.peers.acting state.peers.seats ≡ true

-- Words of bodies alone: what standbys that tried to take over are by the definitions.
use Rattle.std.specs.Prelude.{◌≡◌, ℕ, zero, suc, ◌+◌, ◌≤◌, ◌<◌, Bool, true, if◌then◌else◌, is_some, Option, Some, None, List, [], ◌∷◌, length}
use Rattle.std.specs.List.{AllByRecursion}
use Rattle.disk_model.specs.DeviceCalls.{DeviceCall}
use Rattle.stream_layout.specs.Deeds.{calls_of_all}
use Rattle.ais_values.specs.Causes.{Rose}
use Rattle.disk_model.specs.Seen.{DiskSeen}
use Rattle.script_lines.specs.declared.line.Server.{Server}
use Rattle.plain_service.specs.Setups.{Setup}
use Rattle.cluster_facts.specs.Types.{Entry}
use Rattle.cluster_facts.specs.History.{Hand}
use Rattle.mirror.specs.Pairing.{deeds_kept, taken_over}
use Rattle.group_cluster.specs.Seats as defined
use Rattle.group_cluster.specs.Falling.{takes, felled, named, next_of}
use Rattle.cluster_rounds.specs.Seen.{counters_of}
use Rattle.group_servers.specs.declared.group.Seat.{Seat}
use Rattle.group_servers.specs.Deals.{AreSome, Spent, total}
use Rattle.group_servers.specs.GroupNodes.{bare}
use Rattle.group_servers.specs.Lines.{takers}
use Rattle.group_servers.specs.Tries.{takes as takes_over}

-- the server at a place took over
abbrev pub won_at : ℕ → List Seat → List Seat
won_at place [] = []
won_at zero (seat ∷ seats) = record seat { node = taken_over seat.node } ∷ seats
won_at (suc place) (seat ∷ seats) = seat ∷ won_at place seats

abbrev pub won : Option ℕ → List Seat → List Seat
won None seats = seats
won (Some place) seats = won_at place seats

-- the server at a place has this name, and is so
abbrev pub IsAtPlace : (defined.Stance → Bool) → Server → ℕ → List defined.Seat → Type 0
IsAtPlace test server place [] = ⊥
IsAtPlace test server zero (seat ∷ seats) = (server ≡ seat.server) × (test seat.stance ≡ true)
IsAtPlace test server (suc place) (seat ∷ seats) = IsAtPlace test server place seats

-- it is the next one behind those that failed; or all of them failed
abbrev pub IsNext : (defined.Stance → Bool) → ℕ → List defined.Seat → Option ℕ → Type 0
IsNext test count seats None = count ≡ defined.count_seats test seats
IsNext test count seats (Some place) =
    (count < defined.count_seats test seats)
    × ((last : Server) → IsAtPlace test (next_of last count (named test seats)) place (felled test count seats))

-- these are the calls of those that may take over
abbrev pub Makes : List DeviceCall → Bool → Seat → Type 0
Makes calls fresh seat = takes_over fresh seat ≡ true → calls_of_all (deeds_kept seat.node.kept) ≡ calls

-- where one took over, so many are left that did not try
abbrev pub HasLeft : Bool → ℕ → (olds news : List Seat) → Option ℕ → Type 0
HasLeft fresh count olds news None = Unit {0}
HasLeft fresh count olds news (Some place) = count + 1 + length (takers fresh news) ≡ length (takers fresh olds)

-- what the disk counted of so many calls as they tried: each of those that failed made some, and the one that took over all
pub record Row (calls count : ℕ) (took : Bool) (held left : DiskSeen) : Type 0 where
  pub made : List ℕ
  pub long : length made ≡ count
  pub some : AllByRecursion (AreSome calls) made
  pub spent : Spent (total made + (if took then calls else 0)) (length made) 0 (counters_of held) (counters_of left)

-- so many of them failed before one took over, and none failed without a fault of the disk
pub record Tried (setup : Setup) (past : List Entry) (hand : Hand) (fresh : Bool) (seats : List defined.Seat) (new : List Seat)
    (found : Option ℕ) (held left : DiskSeen) : Type 0 where
  pub count : ℕ
  pub is : new ≡ won found (bare setup past hand (felled (takes fresh) count seats))
  pub next : IsNext (takes fresh) count seats found
  pub rest : HasLeft fresh count (bare setup past hand seats) new found
  pub later : held.faults ≤ left.faults
  pub caused : 1 ≤ count → Rose held.faults left.faults
  pub calls : (calls : List DeviceCall) → AllByRecursion (Makes calls fresh) (bare setup past hand seats) → 1 ≤ count → 1 ≤ length calls
  pub row : (calls : List DeviceCall) → AllByRecursion (Makes calls fresh) (bare setup past hand seats)
      → Row (length calls) count (is_some found) held left

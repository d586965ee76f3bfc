-- Words of public clauses: which servers go down.
use Rattle.std.specs.Prelude.{◌≡◌, ◌≤◌, ◌⊎◌, false}
use Rattle.ais_values.specs.Causes.{Rose}
use Rattle.script_lines.specs.declared.line.Line.{Line}
use Rattle.script_lines.specs.declared.line.Line.TheVariants as line
use Rattle.script_lines.specs.declared.line.Server.{Server}
use Rattle.script_lines.specs.declared.line.Server.TheVariants.{A, B, C}
use Rattle.cluster_events.specs.declared.lines.ServerRole.TheVariants as role
use Rattle.cluster_events.specs.Ending.{is_crash}
use Rattle.group_cluster.specs.Seats.{Peers, role_of}
use Rattle.group_cluster.specs.Standing.{StayUp, IsShort}
use Rattle.group_servers.specs.GroupCounts.{FellIn}
use Rattle.played_runs.specs.Promises.{LineSentence}

-- this one of two servers is down, and the other one is active
abbrev pub HasFallen : Server → Peers → Type 0
HasFallen A new = (role_of A new ≡ role.Down) × (role_of B new ≡ role.Active)
HasFallen B new = (role_of B new ≡ role.Down) × (role_of A new ≡ role.Active)
HasFallen C new = ⊥

-- `crash` leaves both servers as they are, where it is refused, or it takes its own server down and no other one: that is active then
abbrev pub CrashesOne : Line → (old new : Peers) → Type 0
CrashesOne (line.Crash server) old new = (new ≡ old) ⊎ HasFallen server new
CrashesOne _ old new = Unit {0}

-- a server goes down only by its own `crash`, where the count that was armed came to its end, or where the disk's count of faults rose
abbrev pub FallsByCause : LineSentence Line Peers
FallsByCause before next told state outcome after =
    (is_crash next ≡ false → IsShort next state.peers.armed outcome.state.peers.armed → ¬ Rose before.faults after.faults
    → StayUp state.peers outcome.state.peers)
    × CrashesOne next state.peers outcome.state.peers

-- and where the count rose in a line that was done, it is one that works entries, and tells that a server is down
abbrev pub FaultsFell : LineSentence Line Peers
FaultsFell before next told state outcome after =
    (before.faults ≤ after.faults) × FellIn 1 next before.faults after.faults outcome.told

-- Words of public clauses: which servers go down.
use Rattle.std.specs.Prelude.{◌≡◌, ◌≤◌, ◌⊎◌, false}
use Rattle.ais_values.specs.Causes.{Rose}
use Rattle.script_lines.specs.declared.line.Line.{Line}
use Rattle.script_lines.specs.declared.line.Line.TheVariants as line
use Rattle.trio_lines.specs.declared.line.TrioLine.{TrioLine}
use Rattle.cluster_events.specs.Ending.{is_crash}
use Rattle.group_cluster.specs.Seats.{Peers}
use Rattle.group_cluster.specs.Standing.{CrashesOne, StayUp, IsShort}
use Rattle.group_servers.specs.GroupCounts.{FellIn}
use Rattle.played_runs.specs.Promises.{LineSentence}
use Rattle.spare_server.specs.Happening.{group_line}

-- `crash` leaves the servers as they are, where it is refused, or it takes its own server down and no other one
abbrev pub CrashesOwn : Line → (old new : Peers) → Type 0
CrashesOwn (line.Crash server) old new = (new ≡ old) ⊎ CrashesOne server old new
CrashesOwn _ old new = Unit {0}

-- Where the disk's count of faults did not rise in a line, a server goes down only by its own `crash`, or where the count that was armed
-- came to its end.
abbrev pub FallsByCause : LineSentence TrioLine Peers
FallsByCause before next told state outcome after =
    ¬ Rose before.faults after.faults
    → (is_crash (group_line next) ≡ false → IsShort (group_line next) state.peers.armed outcome.state.peers.armed
    → StayUp state.peers outcome.state.peers)
    × CrashesOwn (group_line next) state.peers outcome.state.peers

-- and where the count rose in a line that was done, it is one that works entries, or a crash, and tells that a server is down
abbrev pub FaultsFell : LineSentence TrioLine Peers
FaultsFell before next told state outcome after =
    (before.faults ≤ after.faults) × FellIn 2 (group_line next) before.faults after.faults outcome.told

-- Words of public clauses: what each line of a script of three servers leads to, and where it ends.
use Rattle.std.specs.Prelude.{◌≡◌, ℕ, Option, Some, None, List}
use Rattle.script_lines.specs.declared.line.Line.{Line}
use Rattle.script_lines.specs.declared.line.Line.TheVariants as line
use Rattle.script_lines.specs.declared.line.Server.{Server}
use Rattle.script_lines.specs.declared.line.Server.TheVariants as server
use Rattle.trio_lines.specs.declared.line.TrioLine.{TrioLine}
use Rattle.trio_lines.specs.declared.line.TrioLine.TheVariants.{Plain, Crash, Arm, Restart, Mirror, Ack}
use Rattle.trio_lines.specs.declared.line.TrioServer.{TrioServer}
use Rattle.trio_lines.specs.declared.line.TrioServer.TheVariants.{A, B, C}
use Rattle.trio_lines.specs.Printing.{trio_line_text}
use Rattle.cluster_facts.specs.Types.{Entry}
use Rattle.cluster_facts.specs.Service.{Plain as PlainService}
use Rattle.cluster_events.specs.Lines.{Refused}
use Rattle.cluster_events.specs.Outcomes.{Outcome, telling}
use Rattle.cluster_events.specs.Servers.{State}
use Rattle.cluster_events.specs.Devices.{Device, IsCaused}
use Rattle.cluster_events.specs.Running.{Shelf}
use Rattle.group_cluster.specs.Seats.{Peers, standing_group}
use Rattle.group_cluster.specs.Group.{mirror_at, ack_at}
use Rattle.group_cluster.specs.Running.{GroupHappens}

-- a server's name in a group
abbrev pub name_of : TrioServer → Server
name_of A = server.A
name_of B = server.B
name_of C = server.C

-- The line of any group that does the same: lines on `c` are those with its name. `mirror S` and `ack S` do what `mirror` and `ack` do, of
-- one server alone.
abbrev pub group_line : TrioLine → Line
group_line (Plain next) = next
group_line Crash = line.Crash server.C
group_line (Arm k) = line.Arm server.C k
group_line Restart = line.Restart server.C
group_line (Mirror one) = line.Mirror
group_line (Ack one) = line.Ack

-- a message is delivered, or the line is refused where none is there
abbrev pub or_refused : TrioLine → Option (Outcome (State Peers)) → State Peers → Outcome (State Peers)
or_refused next None state = telling state (Refused (trio_line_text next) (standing_group state))
or_refused next (Some outcome) state = outcome

-- what a line leads to and prints
abbrev pub TrioHappens : PlainService → Shelf → Device → TrioLine → State Peers → Outcome (State Peers) → Type 0
TrioHappens plain shelf device (Mirror one) state outcome = outcome ≡ or_refused (Mirror one) (mirror_at (name_of one) state) state
TrioHappens plain shelf device (Ack one) state outcome = outcome ≡ or_refused (Ack one) (ack_at (name_of one) state) state
TrioHappens plain shelf device next state outcome = GroupHappens plain shelf device (group_line next) state outcome

-- a line with the disk's count of faults before and after it: works fail in it only where that rose. Calls are counted by the deeds
-- of an entry behind a history
pub record TrioStep (plain : PlainService) (shelf : Shelf) (calls : List Entry → Entry → ℕ) (before : ℕ) (next : TrioLine) (state : State Peers)
    (outcome : Outcome (State Peers)) (after : ℕ) : Type 0 where
  pub fails : ℕ → ℕ
  pub happens : TrioHappens plain shelf (record { calls = calls; fails = fails }) next state outcome
  pub caused : IsCaused before after fails

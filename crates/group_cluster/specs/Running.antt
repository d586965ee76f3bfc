-- Words of public clauses: what the lines of a script do where servers may fail, and whole runs. The disk's count of faults goes along.
use Rattle.std.specs.Prelude.{◌≡◌, ℕ, ◌≤◌, List}
use Rattle.script_lines.specs.declared.line.Line.{Line}
use Rattle.script_lines.specs.declared.line.Line.TheVariants as line
use Rattle.cluster_facts.specs.Types.{Entry}
use Rattle.cluster_facts.specs.Service.{Plain}
use Rattle.cluster_events.specs.Outcomes.{Outcome}
use Rattle.cluster_events.specs.Servers.{State}
use Rattle.cluster_events.specs.Devices.{Device, IsCaused}
use Rattle.cluster_events.specs.Running.{Shelf, Happens}
use Rattle.cluster_events.specs.Runs.{StepBy}
use Rattle.group_cluster.specs.Seats.{Peers}
use Rattle.group_cluster.specs.Falling.{crash, arm, disarm, restart}
use Rattle.group_cluster.specs.Group.{group}

-- what a line leads to and prints
abbrev pub GroupHappens : Plain → Shelf → Device → Line → State Peers → Outcome (State Peers) → Type 0
GroupHappens plain shelf device (line.Crash server) state outcome = outcome ≡ crash device server state
GroupHappens plain shelf device (line.Arm server count) state outcome = (1 ≤ count) × (outcome ≡ arm server count state)
GroupHappens plain shelf device line.Disarm state outcome = outcome ≡ disarm state
GroupHappens plain shelf device (line.Restart server) state outcome = outcome ≡ restart server state
GroupHappens plain shelf device next state outcome = Happens plain shelf (group plain device) next state outcome

-- a line with the disk's count of faults before and after it: works fail in it only where that rose. Calls are counted by the deeds
-- of an entry behind a history
pub record GroupStep (plain : Plain) (shelf : Shelf) (calls : List Entry → Entry → ℕ) (before : ℕ) (next : Line) (state : State Peers)
    (outcome : Outcome (State Peers)) (after : ℕ) : Type 0 where
  pub fails : ℕ → ℕ
  pub happens : GroupHappens plain shelf (record { calls = calls; fails = fails }) next state outcome
  pub caused : IsCaused before after fails

abbrev pub GroupStepBy : Plain → Shelf → (List Entry → Entry → ℕ) → StepBy ℕ Line Peers
GroupStepBy plain shelf calls before next state outcome after = GroupStep plain shelf calls before next state outcome after

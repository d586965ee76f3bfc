-- Words of public clauses: what the cluster's code is told of the lines of a script over servers that may fail.
use Rattle.std.specs.Prelude.{ℕ}
use Rattle.plain_service.specs.Setups.{Setup}
use Rattle.script_lines.specs.declared.line.Line.{Line}
use Rattle.cluster_facts.specs.Service.{Plain}
use Rattle.cluster_events.specs.Outcomes.{Outcome}
use Rattle.cluster_events.specs.Servers.{State}
use Rattle.cluster_events.specs.Devices.{Device}
use Rattle.cluster_events.specs.Ending.{EndAt}
use Rattle.cluster_events.specs.Running.{Shelf}

-- lines over servers that keep P beside the world of the definitions, and over disks of which V is seen
pub record Script (P V : Type 0) : Type 1 where
  -- what a line leads to and prints, over files that are shown so, by the device
  pub Leads : Plain → Shelf → Device → Line → State P → Outcome (State P) → Type 0
  -- in which states a line is played as over any servers
  pub Shares : Line → State P → Type 0
  -- where the event of a line ends by a fault of the disk, by the device
  pub Ends : Plain → Device → Line → EndAt P
  -- which lines on failing servers can be played
  pub Allows : Line → Type 0
  -- what the disks counted as a line came from a state to an outcome, by the works that failed; and as it ended there by a fault
  pub Uses : Line → Setup → (ℕ → ℕ) → State P → Outcome (State P) → V → V → Type 0
  pub Faults : Line → Setup → (ℕ → ℕ) → State P → Outcome (State P) → V → V → Type 0

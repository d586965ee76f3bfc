-- Words of public clauses: what the disk counts of a line.
use Rattle.std.specs.Prelude.{ℕ, List, Option, option_map}
use Rattle.disk_model.specs.Counts.{Counters}
use Rattle.disk_model.specs.Disk.{Files}
use Rattle.trio_lines.specs.declared.line.TrioLine.{TrioLine}
use Rattle.plain_service.specs.Setups.{Setup}
use Rattle.plain_service.specs.Storing.{files_of}
use Rattle.service_laws.specs.PlainOf.{plain_of}
use Rattle.cluster_events.specs.Devices.{IsCaused}
use Rattle.cluster_events.specs.Lines.{Told}
use Rattle.cluster_events.specs.Outcomes.{Outcome}
use Rattle.cluster_events.specs.Running.{Shelf}
use Rattle.cluster_events.specs.Servers.{State}
use Rattle.group_cluster.specs.Seats.{Peers}
use Rattle.cluster_rounds.specs.Kits.{device_by}
use Rattle.group_servers.specs.GroupCounts.{CountsLine}
use Rattle.spare_server.specs.Happening.{TrioHappens, group_line}

-- The works that failed in a line, by which it led where it did; they fail only where the count of faults rose. By these the disk counted
-- the calls, faults and stops of the entries that the line works, of the takeovers behind those that fail, and the calls by which files are
-- shown, and no others.
pub record CallsCounted (held : Option Files) (setup : Setup) (before : Counters) (next : TrioLine) (told : List Told) (state : State Peers)
    (outcome : Outcome (State Peers)) (after : Counters) : Type 0 where
  pub fails : ℕ → ℕ
  pub caused : IsCaused before.faults after.faults fails
  pub shelf : Shelf
  pub happens : TrioHappens (plain_of setup) shelf (device_by setup fails) next state outcome
  pub counts : CountsLine (group_line next) (device_by setup fails) (option_map (λ _. files_of setup state.world.core.answered) held)
      state outcome.state before after

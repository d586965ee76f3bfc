-- Words of public clauses: what each line of a script does to the world of the code.
use Rattle.std.specs.Prelude.{◌≡◌, ◌≤◌, Option, IfSome, option_map}
use Rattle.disk_model.specs.Counts.{Counters}
use Rattle.disk_model.specs.Disk.{Files}
use Rattle.script_lines.specs.declared.line.Line.{Line}
use Rattle.plain_service.specs.Setups.{Setup}
use Rattle.plain_service.specs.Storing.{files_of}
use Rattle.service_laws.specs.PlainOf.{plain_of}
use Rattle.cluster_events.specs.Outcomes.{Outcome}
use Rattle.cluster_events.specs.Servers.{State}
use Rattle.cluster_events.specs.Running.{Shelf}
use Rattle.group_cluster.specs.Seats.{Peers}
use Rattle.group_cluster.specs.Running.{GroupStep}
use Rattle.cluster_rounds.specs.Kits.{device_by}
use Rattle.group_servers.specs.GroupCounts.{CountsLine, FellIn}
use Rattle.group_begin.specs.Lines.{calls_by}
use Rattle.cluster_lines.specs.Shelves.{shelf_of}

-- A line was done: what it led to and printed, by the works that failed in it, with what the disk counted before and after it. A work
-- fails only where the count of faults rose; and where it rose the line is one that works entries, and tells that a server is down. The
-- disk counted the calls, faults and stops of the line, and no others. `files` and `cat` show what stands in the files of the history,
-- where the disk tells its files.
pub record LineDone (setup : Setup) (held : Option Files) (before : Counters) (next : Line) (state : State Peers) (outcome : Outcome (State Peers))
    (after : Counters) : Type 0 where
  pub shelf : Shelf
  pub shown : IfSome held (λ _. shelf ≡ shelf_of setup)
  pub step : GroupStep (plain_of setup) shelf (calls_by setup) before.faults next state outcome after.faults
  pub later : before.faults ≤ after.faults
  pub felled : FellIn 1 next before.faults after.faults outcome.told
  pub counts : CountsLine next (device_by setup step.fails) (option_map (λ _. files_of setup state.world.core.answered) held)
      state outcome.state before after

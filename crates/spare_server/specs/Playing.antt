-- Words of public clauses: what each line of a script does to the world of the code.
use Rattle.std.specs.Prelude.{◌≡◌, ℕ, ◌≤◌, ℤ, Option, IfSome, option_map}
use Rattle.disk_model.specs.Counts.{Counters}
use Rattle.disk_model.specs.Disk.{Files}
use Rattle.trio_lines.specs.declared.line.TrioLine.{TrioLine}
use Rattle.trio_lines.specs.declared.line.TrioLine.TheVariants.{Plain}
use Rattle.plain_service.specs.Setups.{Setup}
use Rattle.plain_service.specs.Storing.{files_of}
use Rattle.service_laws.specs.PlainOf.{plain_of}
use Rattle.cluster_events.specs.Outcomes.{Outcome}
use Rattle.cluster_events.specs.Servers.{State}
use Rattle.cluster_events.specs.Running.{Shelf}
use Rattle.group_cluster.specs.Seats.{Peers}
use Rattle.cluster_rounds.specs.Kits.{device_by}
use Rattle.group_servers.specs.GroupCounts.{CountsLine, FellIn}
use Rattle.cluster_lines.specs.Shelves.{shelf_of}
use Rattle.cluster_lines.specs.Beginning.{Begins}
use Rattle.group_begin.specs.Lines.{IsEventLine, calls_by}
use Rattle.spare_server.specs.Happening.{TrioStep, group_line}

-- a cluster line tells this setup, and how many callbacks each agent's queue holds; no other line tells one
abbrev pub BeginsTrio : TrioLine → Setup → ℕ → Type 0
BeginsTrio (Plain next) setup places = Begins next setup places
BeginsTrio own setup places = ⊥

-- a line that can be played behind the first one: no cluster line, and no time below that in force
abbrev pub IsTrioEvent : ℤ → TrioLine → Type 0
IsTrioEvent now next = IsEventLine now (group_line next)

-- A line was done: what it led to and printed, by the works that failed in it, with what the disk counted before and after it. A work
-- fails only where the count of faults rose; and where it rose the line is one that works entries or a crash behind which a standby may
-- fail and another take over, and tells that a server is down. The disk counted the calls, faults and stops of the line, and no others.
-- `files` and `cat` show what stands in the files of the history, where the disk tells its files.
pub record TrioDone (setup : Setup) (held : Option Files) (before : Counters) (next : TrioLine) (state : State Peers) (outcome : Outcome (State Peers))
    (after : Counters) : Type 0 where
  pub shelf : Shelf
  pub shown : IfSome held (λ _. shelf ≡ shelf_of setup)
  pub step : TrioStep (plain_of setup) shelf (calls_by setup) before.faults next state outcome after.faults
  pub later : before.faults ≤ after.faults
  pub felled : FellIn 2 (group_line next) before.faults after.faults outcome.told
  pub counts : CountsLine (group_line next) (device_by setup step.fails) (option_map (λ _. files_of setup state.world.core.answered) held)
      state outcome.state before after

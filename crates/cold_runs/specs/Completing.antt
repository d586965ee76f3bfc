-- Words of public clauses: what a run takes to its end where nothing fails and memory is there.
use Rattle.std.specs.Prelude.{◌≡◌, ◌⊎◌, ℕ, ◌≤◌, List, length, Option, Some}
use Rattle.disk_model.specs.Disk.{Files, no_files}
use Rattle.script_lines.specs.declared.line.Line.{Line}
use Rattle.script_language.specs.Scripts.{IsScriptOf}
use Rattle.played_runs.specs.Counts.{HasRisen}
use Rattle.played_runs.specs.Edges.{before, fault_count}
use Rattle.played_runs.specs.declared.ending.Status8.{Status8}
use Rattle.played_runs.specs.declared.ending.Status8.TheVariants.{Done, Memory}
use Rattle.cold_runs.specs.Stages.{both_held, journal_faults, record_faults}
use Rattle.cold_runs.specs.Endings.{ColdRun}

-- a source that has a script to give, which is not longer than 16 MiB, and two disks without files
pub record CanStart (left : Option (List ℕ)) (held beside : Option Files) : Type 0 where
  pub lines : List Line
  pub bytes : List ℕ
  pub told : left ≡ Some bytes
  pub short : length bytes ≤ 16777216
  pub script : IsScriptOf lines bytes
  pub empty : held ≡ Some no_files
  pub empty_too : beside ≡ Some no_files

-- no count rose
abbrev pub NoneRises : {S K : Type 0} → ColdRun S K → Type 0
NoneRises run =
    ¬ HasRisen (fault_count run.source) × ¬ HasRisen (fault_count run.stage.sink) × ¬ HasRisen (record_faults run.stage.scene)
    × ¬ HasRisen (journal_faults run.stage.scene)

-- all was done, or memory ran out
abbrev pub IsStartedOrMemory : Status8 → Type 0
IsStartedOrMemory status = (status ≡ Done) ⊎ (status ≡ Memory)

-- so it is of a run that can start, where no count rose
abbrev pub Completes : {S K : Type 0} → Status8 → ColdRun S K → Type 0
Completes status run =
    CanStart (before run.source) (both_held run.stage).disk.files (both_held run.stage).journal.files → NoneRises run → IsStartedOrMemory status

-- Words of public clauses: what a run takes to its end where nothing fails and memory is there.
use Rattle.std.specs.Prelude.{◌≡◌, ℕ, ◌≤◌, ◌⊎◌, List, length, Option, Some}
use Rattle.disk_model.specs.Disk.{Files, no_files}
use Rattle.trio_lines.specs.declared.line.TrioLine.{TrioLine}
use Rattle.trio_lines.specs.Scripts.{IsTrioOf}
use Rattle.played_runs.specs.declared.ending.Status8.{Status8}
use Rattle.played_runs.specs.declared.ending.Status8.TheVariants.{Done, Memory}

-- a source that has a script for three servers to give, which is not longer than 16 MiB, and a disk without files
pub record CanServe (left : Option (List ℕ)) (held : Option Files) : Type 0 where
  pub lines : List TrioLine
  pub bytes : List ℕ
  pub told : left ≡ Some bytes
  pub short : length bytes ≤ 16777216
  pub script : IsTrioOf lines bytes
  pub empty : held ≡ Some no_files

-- all was done, or memory ran out
abbrev pub IsServedOrMemory : Status8 → Type 0
IsServedOrMemory status = (status ≡ Done) ⊎ (status ≡ Memory)

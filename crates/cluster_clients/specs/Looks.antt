-- Words of public clauses: how many calls of a disk it takes to show its files.
use Rattle.std.specs.Prelude.{◌≡◌, ◌⊎◌, ℕ, suc, ◌≤◌, List, length, Bool, true, Option, Some, None}
use Rattle.std.specs.FinMap as files
use Rattle.disk_model.specs.Counts.{read_more}
use Rattle.disk_model.specs.Disk.{Files, length_of}
use Rattle.disk_model.specs.declared.tally.Tally.{Tally}

-- listing the files: a call for their names, and one for the length of each; some, where the disk does not tell its files
abbrev pub ListCalls : Option Files → ℕ → Type 0
ListCalls (Some held) count = count ≡ suc (length (files.keys held))
ListCalls None count = 1 ≤ count

-- reading a file of this length: a call for the length, and one for the bytes where it has any
abbrev pub calls_for : Option ℕ → ℕ
calls_for (Some (suc size)) = 2
calls_for _ = 1

-- reading the file of a name
abbrev pub FileCalls : List ℕ → Option Files → ℕ → Type 0
FileCalls name (Some held) count = count ≡ calls_for (length_of held name)
FileCalls name None count = (count ≡ 1) ⊎ (count ≡ 2)

-- all of the reading calls that were due were made, or some where it was not done, and no others
pub record Looks (Due : ℕ → Type 0) (done : Bool) (old new : Tally) : Type 0 where
  pub due : ℕ
  pub is_due : Due due
  pub made : ℕ
  pub within : made ≤ due
  pub whole : done ≡ true → made ≡ due
  pub counted : new ≡ read_more made old

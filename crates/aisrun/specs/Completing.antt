-- Words of public clauses: what a run takes to its end where nothing fails and memory is there.
use Rattle.std.specs.Prelude.{◌≡◌, ℕ, ◌≤◌, ◌⊎◌, List, [], ◌∷◌, length, Option, Some, codes}
use Rattle.ais_values.specs.declared.kind.StreamKind.{StreamKind}
use Rattle.disk_model.specs.Disk.{Files, no_files}
use Rattle.format_expr.specs.declared.fault.ExprFault.{ExprFault}
use Rattle.format_expr.specs.Faults.{IsFault}
use Rattle.script_lines.specs.declared.line.Line.{Line}
use Rattle.script_language.specs.Scripts.{IsScriptOf}
use Rattle.commands.specs.declared.command.Command.TheVariants.{Expr, Gen, Load}
use Rattle.played_runs.specs.declared.ending.Status8.{Status8}
use Rattle.played_runs.specs.declared.ending.Status8.TheVariants.{Done, Memory}
use Rattle.commands.specs.Commands.{command_of, text_of}
use Rattle.aisrun.specs.Scanning.{CanScan}

-- a source has the script of these lines to give, which is not longer than 16 MiB
pub record HoldsScript (left : Option (List ℕ)) (lines : List Line) : Type 0 where
  pub bytes : List ℕ
  pub told : left ≡ Some bytes
  pub short : length bytes ≤ 16777216
  pub script : IsScriptOf lines bytes

-- the words `run`, a script, and a disk without files
pub record CanRun (words : List (List ℕ)) (left : Option (List ℕ)) (held : Option Files) : Type 0 where
  pub asked : words ≡ codes "run" ∷ []
  pub lines : List Line
  pub script : HoldsScript left lines
  pub empty : held ≡ Some no_files

-- the words `check`, and a script
pub record CanCheck (words : List (List ℕ)) (left : Option (List ℕ)) : Type 0 where
  pub asked : words ≡ codes "check" ∷ []
  pub lines : List Line
  pub script : HoldsScript left lines

-- words that are the command `expr`, and a text without a fault
pub record CanParse (words : List (List ℕ)) : Type 0 where
  pub kind : StreamKind
  pub asked : command_of words ≡ Some (Expr kind)
  pub faultless : (fault : ExprFault) → IsFault kind (text_of words) fault → ⊥

-- words that are the command `gen`
pub record CanGenerate (words : List (List ℕ)) : Type 0 where
  pub count : ℕ
  pub seed : ℕ
  pub asked : command_of words ≡ Some (Gen count seed)

-- words that are the command `load`, and a disk without files
pub record CanLoad (words : List (List ℕ)) (held : Option Files) : Type 0 where
  pub count : ℕ
  pub seed : ℕ
  pub asked : command_of words ≡ Some (Load count seed)
  pub empty : held ≡ Some no_files

-- words that ask for records by a text that serves, and a source that has at most 16 MiB to give
pub record HoldsRecords (words : List (List ℕ)) (left : Option (List ℕ)) : Type 0 where
  pub can : CanScan words
  pub bytes : List ℕ
  pub told : left ≡ Some bytes
  pub short : length bytes ≤ 16777216

-- all was done, or memory ran out
abbrev pub IsDoneOrMemory : Status8 → Type 0
IsDoneOrMemory status = (status ≡ Done) ⊎ (status ≡ Memory)

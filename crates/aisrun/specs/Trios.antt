-- Words of public clauses: the words that ask for three servers.
use Rattle.std.specs.Prelude.{◌≡◌, ℕ, List, Option, Some}
use Rattle.disk_model.specs.Disk.{Files}
use Rattle.commands.specs.declared.command.Command.TheVariants.{Trio}
use Rattle.commands.specs.Commands.{command_of}
use Rattle.trio_runs.specs.Completing.{CanServe}

abbrev pub AsksTrio : List (List ℕ) → Type 0
AsksTrio words = command_of words ≡ Some Trio

-- they ask for it over a source that has a script for three servers to give, and a disk without files
abbrev pub CanServeBy : List (List ℕ) → Option (List ℕ) → Option Files → Type 0
CanServeBy words left held = AsksTrio words × CanServe left held

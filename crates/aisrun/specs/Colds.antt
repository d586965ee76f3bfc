-- Words of public clauses: the words that ask for a server and its journal, and those that ask for no world but that of two servers.
use Rattle.std.specs.Prelude.{◌≡◌, ◌⊎◌, ℕ, List, Some}
use Rattle.commands.specs.Commands.{command_of}
use Rattle.commands.specs.declared.command.Command.TheVariants.{Cold, Recover}
use Rattle.aisrun.specs.Trios.{AsksTrio}

-- a script is played on a server and its journal
abbrev pub AsksCold : List (List ℕ) → Type 0
AsksCold words = command_of words ≡ Some Cold

-- a server is started from the journal that stands
abbrev pub AsksRecover : List (List ℕ) → Type 0
AsksRecover words = command_of words ≡ Some Recover

-- one of both
abbrev pub AsksJournal : List (List ℕ) → Type 0
AsksJournal words = AsksCold words ⊎ AsksRecover words

-- one of both, or three servers
abbrev pub AsksApart : List (List ℕ) → Type 0
AsksApart words = AsksTrio words ⊎ AsksJournal words

-- another command, or none
abbrev pub AsksOther : List (List ℕ) → Type 0
AsksOther words = ¬ AsksApart words

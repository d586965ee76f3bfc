-- Words of public clauses: what the commands `scan` and `find` do with a text and the bytes of a file.
use Rattle.std.specs.Prelude.{◌≡◌, ℕ, List, ◌⊎◌, Some}
use Rattle.ais_values.specs.declared.kind.StreamKind.{StreamKind}
use Rattle.format_expr.specs.declared.piece.Piece.{Piece}
use Rattle.scan_lines.specs.Telling.{TellsAll, TellsFront}
use Rattle.commands.specs.declared.command.RecordQuery.{RecordQuery}
use Rattle.commands.specs.declared.command.Command.TheVariants.{Expr, Scan}
use Rattle.commands.specs.Commands.{command_of, text_of, wanted_of}
use Rattle.text_commands.specs.Scanning.{IsParted, CannotPart}

-- the words ask for records by a text that serves, and by one that does not
pub record CanScan (words : List (List ℕ)) : Type 0 where
  pub query : RecordQuery
  pub asked : command_of words ≡ Some (Scan query)
  pub pieces : List Piece
  pub parted : IsParted query (text_of words) pieces

pub record CannotScan (words : List (List ℕ)) (printed : List ℕ) : Type 0 where
  pub query : RecordQuery
  pub asked : command_of words ≡ Some (Scan query)
  pub why : CannotPart query (text_of words) printed

-- what is printed of the first records of bytes, and of all of them and what is left
abbrev pub ScansFront : {words : List (List ℕ)} → CanScan words → (bytes text : List ℕ) → Type 0
ScansFront {words} can bytes text = TellsFront can.query.shown can.pieces can.query.size (wanted_of words) bytes text

abbrev pub ScansAll : {words : List (List ℕ)} → CanScan words → (bytes text : List ℕ) → Type 0
ScansAll {words} can bytes text = TellsAll can.query.shown can.pieces can.query.size (wanted_of words) bytes text

-- the words ask for records of streams of the kind
abbrev pub AsksRecords : List (List ℕ) → StreamKind → Type 0
AsksRecords words kind = (query : RecordQuery) × (command_of words ≡ Some (Scan query)) × (query.kind ≡ kind)

-- the words are those of a command that takes a text as an expression for streams of the kind
abbrev pub TakesText : List (List ℕ) → StreamKind → Type 0
TakesText words kind = (command_of words ≡ Some (Expr kind)) ⊎ AsksRecords words kind

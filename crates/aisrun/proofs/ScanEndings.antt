-- Ends of the commands `scan` and `find` are ends of a run.
use Rattle.std.proofs.Common.{◌≡◌, ℕ, inl, inr, List, Option, Some, None, refl, sym, subst}
use Rattle.format_expr.specs.declared.piece.Piece.{Piece}
use Rattle.played_runs.specs.Edges.{LeavesAll}
use Rattle.aisrun.specs.Edges.{Around}
use Rattle.commands.specs.declared.command.Command.{Command}
use Rattle.commands.specs.declared.command.Command.TheVariants.{Scan}
use Rattle.commands.specs.declared.command.RecordQuery.{RecordQuery}
use Rattle.played_runs.specs.declared.ending.Status8.{Status8}
use Rattle.played_runs.specs.declared.ending.Status8.TheVariants.{Done, ScriptRefused, Usage, Memory, ReadFault, WriteFault, DiskFault, RootNotEmpty, TooLong, JournalRefused, Inseparable}
use Rattle.commands.specs.Commands.{command_of, text_of, wanted_of}
use Rattle.aisrun.specs.Endings.{Ends, LacksBy, NoExpression, RecordsLack, Scanned, Unheld, Unjudged, Untold}
use Rattle.text_commands.specs.Scanning.{IsParted}
use Rattle.text_commands.specs.ScanSteps.{ScanEnds, ScanLacks, SourceLacks}
use Rattle.aisrun.specs.Scanning.{CanScan}

module _ {S K D : Type 0} (run : Around S K D) (query : RecordQuery) (asked : command_of run.words ≡ Some (Scan query)) (all : LeavesAll run.stage) where
  -- a text that serves
  abbrev can-by : (pieces : List Piece) → IsParted query (text_of run.words) pieces → CanScan run.words
  can-by pieces parted = record { query = query; asked = asked; pieces = pieces; parted = parted }

  pub scan-run : (reached : Option Status8) (text : List ℕ) → ScanEnds query (text_of run.words) (wanted_of run.words) run.source reached text → Ends run reached text
  scan-run None text ends =
      inr (record { can = can-by ends.0 ends.1; all = all; bytes = ends.2.0; read = ends.2.1; told = ends.2.2 })
  scan-run (Some Done) text ends = Scanned (can-by ends.0 ends.1) all ends.2.0 ends.2.1 ends.2.2
  scan-run (Some ScriptRefused) text ends = NoExpression query.kind (inr (query, asked, refl)) all ends.0 ends.1
  scan-run (Some ReadFault) text ends = record { words = inr (can-by ends.0 ends.1); all = all; why = ends.2 }
  scan-run (Some TooLong) text ends = record { words = inr (can-by ends.0 ends.1); all = all; why = ends.2 }
  scan-run (Some JournalRefused) text ends = absurd ends.2.2
  scan-run (Some Inseparable) text ends =
      record { cannot = record { query = query; asked = asked; why = ends.1 }; all = all; source = ends.0 }
  scan-run (Some Usage) text ends = absurd ends.2.2
  scan-run (Some Memory) text ends = absurd ends.2.2
  scan-run (Some WriteFault) text ends = absurd ends.2.2
  scan-run (Some DiskFault) text ends = absurd ends.2.2
  scan-run (Some RootNotEmpty) text ends = absurd ends.2.2

  parted-lacks : (pieces : List Piece) → IsParted query (text_of run.words) pieces → (text : List ℕ) → SourceLacks query pieces (wanted_of run.words) run.source text → RecordsLack run text
  parted-lacks pieces parted text (inl none) = Unheld (can-by pieces parted) none all
  parted-lacks pieces parted text (inr ends) =
      Untold (record { can = can-by pieces parted; all = all; bytes = ends.0; read = ends.1; told = ends.2 })

  scan-lacks : (text : List ℕ) → ScanLacks query (text_of run.words) (wanted_of run.words) run.source text → RecordsLack run text
  scan-lacks text (inl early) = Unjudged early.0 all early.1
  scan-lacks text (inr later) = parted-lacks later.0 later.1 text later.2

  pub scan-lack : (text : List ℕ) → ScanLacks query (text_of run.words) (wanted_of run.words) run.source text → LacksBy (command_of run.words) run text
  scan-lack text lacks =
      let L : Option Command → Type 0 = λ one. LacksBy one run text in
      subst L (sym asked) (scan-lacks text lacks)

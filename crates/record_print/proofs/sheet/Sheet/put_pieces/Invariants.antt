use Rattle.std.proofs.Common.{Bool, take}
use Rattle.format_expr.specs.declared.token.Moment.{Moment}
use Rattle.record_print.specs.Figures.{AreFigures}
use Rattle.record_print.specs.Printing.{pieces_text}
use Rattle.record_print.specs.Sheets.{Adds, Keeps}
use Rattle.record_print.proofs.sheet.Sheet.put_pieces.Given as goal

abbrev pub invariant-loop-piece : goal.invariant-loop-piece
invariant-loop-piece l = record {
  kept : Keeps l.fn.self l.self;
  text : (half : Moment → Bool) → AreFigures l.figures half l.rec → Adds l.fn.self l.self (pieces_text half l.figures.number l.figures.mark l.rec (take l.piece-index l.pieces));
}

use Rattle.std.proofs.Common.{◌≡◌, drop}
use Rattle.std.specs.List.{list_any}
use Rattle.record_print.specs.Printing.{has_part, is_mark}
use Rattle.record_print.proofs.print.tells_cut.Given as goal

abbrev pub invariant-loop-piece : goal.invariant-loop-piece
invariant-loop-piece l = list_any (has_part is_mark) (drop l.piece-index l.pieces) ≡ list_any (has_part is_mark) l.pieces

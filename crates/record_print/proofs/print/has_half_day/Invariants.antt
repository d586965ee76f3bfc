use Rattle.std.proofs.Common.{◌≡◌, drop}
use Rattle.record_print.specs.Printing.{has_half}
use Rattle.record_print.proofs.print.has_half_day.Given as goal

abbrev pub invariant-loop-piece : goal.invariant-loop-piece
invariant-loop-piece l = has_half (drop l.piece-index l.pieces) l.moment ≡ has_half l.pieces l.moment

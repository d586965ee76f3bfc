use Rattle.std.proofs.Common.{◌≡◌, ◌++◌, drop}
use Rattle.format_expr.specs.Language.{spelling}
use Rattle.format_expr.proofs.print.print_expr.Given as goal

abbrev pub invariant-loop-piece : goal.invariant-loop-piece
invariant-loop-piece l = l.bytes.items ++ spelling (drop l.piece-index l.piece-items) ≡ spelling l.piece-items

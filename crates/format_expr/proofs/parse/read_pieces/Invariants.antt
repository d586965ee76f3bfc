use Rattle.std.proofs.Common.{◌≡◌, ◌++◌, ◌≤◌, length}
use Rattle.format_expr.specs.Reading.{pieces_of}
use Rattle.format_expr.proofs.parse.read_pieces.Given as goal

abbrev pub invariant-loop-rest : goal.invariant-loop-rest
invariant-loop-rest l = record {
  read : l.pieces.items ++ pieces_of l.rest ≡ pieces_of l.text;
  bound : length l.rest ≤ 1024;
}

abbrev pub decreases-loop-rest : goal.decreases-loop-rest
decreases-loop-rest l = length l.rest

use Rattle.std.proofs.Common.{◌≡◌, min, take}
use Rattle.record_print.specs.Lengths.{pieces_length}
use Rattle.record_print.proofs.length.text_length.Given as goal

abbrev pub invariant-loop-piece : goal.invariant-loop-piece
invariant-loop-piece l = l.total ≡ min (pieces_length l.names l.body (take l.piece-index l.pieces)) 16383

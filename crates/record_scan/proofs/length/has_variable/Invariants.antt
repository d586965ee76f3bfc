use Rattle.std.proofs.Common.{◌≡◌, take}
use Rattle.record_scan.specs.Fits.{variables}
use Rattle.record_scan.proofs.length.has_variable.Given as goal

abbrev pub invariant-loop-piece : goal.invariant-loop-piece
invariant-loop-piece l = variables (take l.piece-index l.pieces) ≡ 0

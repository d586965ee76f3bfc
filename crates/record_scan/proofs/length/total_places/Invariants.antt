use Rattle.std.proofs.Common.{◌≡◌, take}
use Rattle.record_scan.specs.Reading.{least_total}
use Rattle.record_scan.proofs.length.total_places.Given as goal

abbrev pub invariant-loop-piece : goal.invariant-loop-piece
invariant-loop-piece l = l.total ≡ least_total (take l.piece-index l.pieces)

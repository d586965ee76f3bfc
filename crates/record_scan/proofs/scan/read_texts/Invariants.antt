use Rattle.std.proofs.Common.{◌≡◌, [], drop}
use Rattle.record_scan.specs.Reading.{texts_from}
use Rattle.record_scan.proofs.scan.read_texts.Given as goal

abbrev pub invariant-loop-piece : goal.invariant-loop-piece
invariant-loop-piece l = texts_from l.variable l.pieces l.content [] ≡ texts_from l.variable (drop l.piece-index l.pieces) l.rest l.texts

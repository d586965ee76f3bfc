use Rattle.record_scan.proofs.NumberLaws.{line_at}
use Rattle.record_scan.proofs.find.line_length.Goals as goal

pub returns-then-byte-eq10-clause-line : goal.returns-then-byte-eq10-clause-line
returns-then-byte-eq10-clause-line c = line_at c.args.bytes.now c.loop-place.place c.loop-place-test.true c.if-byte-eq10.true c.loop-place.invariant

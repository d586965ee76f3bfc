use Rattle.std.proofs.Common.{◌+◌, ◌≤◌, length}
use Rattle.record_scan.specs.Numbers.{HasText, AreNumbers}
use Rattle.record_scan.proofs.NumberLaws.{IsPassed}
use Rattle.record_scan.proofs.find.find_records.Given as goal

abbrev pub invariant-loop-length : goal.invariant-loop-length
invariant-loop-length l = record {
  passed : IsPassed (AreNumbers (HasText l.expr.pieces l.size l.token l.wanted)) l.size l.bytes l.rest l.found.items l.number;
  counted : l.number + length l.rest ≤ length l.bytes;
}

abbrev pub decreases-loop-length : goal.decreases-loop-length
decreases-loop-length l = length l.rest

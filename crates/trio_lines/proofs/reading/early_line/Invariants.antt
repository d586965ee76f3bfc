use Rattle.std.proofs.Common.{ℕ, ◌+◌, ◌≤◌, length}
use Rattle.script_language.specs.Scripts.{raw_lines}
use Rattle.trio_lines.specs.Weaving.{BeginsOwn}
use Rattle.trio_lines.proofs.reading.early_line.Given as goal

abbrev pub invariant-lines : goal.invariant-lines
invariant-lines l = record {
  place : l.number + length l.rest ≤ length l.bytes + 1;
  there : (k : ℕ) → BeginsOwn l.number (raw_lines l.rest) k → BeginsOwn 1 (raw_lines l.bytes) k;
  back : (k : ℕ) → BeginsOwn 1 (raw_lines l.bytes) k → BeginsOwn l.number (raw_lines l.rest) k;
}

abbrev pub decreases-lines : goal.decreases-lines
decreases-lines l = length l.rest

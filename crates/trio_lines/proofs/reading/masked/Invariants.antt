use Rattle.std.proofs.Common.{ℕ, ◌+◌, ◌≤◌, List, ◌++◌, length}
use Rattle.std.specs.List.{AllZip}
use Rattle.script_language.specs.Scripts.{raw_lines}
use Rattle.trio_lines.specs.Scripts.{Masks, AreMasked}
use Rattle.trio_lines.proofs.Masking.{room_of}
use Rattle.trio_lines.proofs.reading.masked.Given as goal

abbrev pub invariant-lines : goal.invariant-lines
invariant-lines l = record {
  room : length l.out.items + room_of (raw_lines l.rest) ≤ length l.bytes + 1;
  masks : (tail : List ℕ) → AllZip Masks (raw_lines l.rest) (raw_lines tail) → AreMasked l.bytes (l.out.items ++ tail);
}

abbrev pub decreases-lines : goal.decreases-lines
decreases-lines l = length l.rest

use Rattle.std.proofs.Common.{length}
use Rattle.script_language.specs.Scripts.{raw_lines}
use Rattle.trio_lines.specs.Weaving.{Weaves}
use Rattle.trio_lines.proofs.reading.woven.Given as goal

abbrev pub invariant-lines : goal.invariant-lines
invariant-lines l = Weaves l.fn.shared (raw_lines l.bytes) l.lines l.left (raw_lines l.rest)

abbrev pub decreases-lines : goal.decreases-lines
decreases-lines l = length l.rest

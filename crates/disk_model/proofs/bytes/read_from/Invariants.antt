use Rattle.std.proofs.Common.{◌≡◌}
use lib.Seq.{paste}
use Rattle.disk_model.proofs.bytes.read_from.Given as goal

abbrev pub invariant-loop-i : goal.invariant-loop-i
invariant-loop-i l = l.buf ≡ paste l.initial.buf 0 l.rest l.i

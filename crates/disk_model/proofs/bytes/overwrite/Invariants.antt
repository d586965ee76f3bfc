use Rattle.std.proofs.Common.{◌≡◌}
use lib.Seq.{paste}
use Rattle.disk_model.proofs.bytes.overwrite.Given as goal

abbrev pub invariant-loop-i : goal.invariant-loop-i
invariant-loop-i l = l.bytes.items ≡ paste l.initial.bytes.items l.at l.new l.i

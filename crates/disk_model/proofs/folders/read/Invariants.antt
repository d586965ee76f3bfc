use Rattle.std.proofs.Common.{◌≤◌, length}
use Rattle.disk_model.proofs.folders.read.Given as goal

abbrev pub invariant-loop : goal.invariant-loop
invariant-loop g l = l.count ≤ length l.buf

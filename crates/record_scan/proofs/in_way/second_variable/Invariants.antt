use Rattle.std.proofs.Common.{◌≡◌, cond, take}
use Rattle.record_scan.specs.Fits.{variables}
use Rattle.record_scan.proofs.in_way.second_variable.Given as goal

abbrev pub invariant-loop-place : goal.invariant-loop-place
invariant-loop-place l = variables (take l.place l.pieces) ≡ cond l.seen 1 0

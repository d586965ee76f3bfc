use Rattle.std.proofs.Common.{◌≡◌, drop}
use Rattle.stream_config.specs.Fit.{next_first, AreFilled}
use Rattle.saved_fit.proofs.filling.are_filled.Given as goal

abbrev pub invariant-loop-i : goal.invariant-loop-i
invariant-loop-i l = (l.next ≡ next_first (drop l.i l.files) l.taken) × AreFilled l.attrs l.taken (drop l.i l.files)

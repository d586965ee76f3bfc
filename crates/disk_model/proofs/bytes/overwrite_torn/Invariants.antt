use Rattle.std.proofs.Common.{◌≡◌}
use Rattle.disk_model.specs.Disk.{overwritten}
use Rattle.disk_model.specs.Memory.{torn_bytes}
use Rattle.disk_model.proofs.bytes.overwrite_torn.Given as goal

abbrev pub invariant-loop-i : goal.invariant-loop-i
invariant-loop-i l = l.bytes.items ≡ overwritten l.initial.bytes.items l.at (torn_bytes l.torn l.i)

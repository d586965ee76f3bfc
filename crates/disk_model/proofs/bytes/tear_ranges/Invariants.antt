use Rattle.std.proofs.Common.{◌≡◌, drop}
use Rattle.disk_model.specs.Memory.{ranges_torn}
use Rattle.disk_model.proofs.bytes.tear_ranges.Given as goal

abbrev pub invariant-loop-range : goal.invariant-loop-range
invariant-loop-range l = ranges_torn l.torn (drop l.range-index l.ranges) l.bytes.items ≡ ranges_torn l.torn l.ranges l.initial.bytes.items

use Rattle.std.proofs.Common.{◌/◌, ◌≤◌, sym, subst, arith}
use Rattle.civil_time.specs.Fields.{last_second, IsInRange}
use Rattle.civil_time.proofs.Counting.{civil_in_range}
use Rattle.record_print.proofs.clock.Clock.new.Goals as goal

pub invariant_of-result : goal.invariant_of-result
invariant_of-result c =
    let second = c.unsigned_abs-nanoseconds.result / 1_000_000_000 in
    let counted : second ≤ last_second = omega (arith, c.unsigned_abs-nanoseconds.ensures.bound) in
    record { ranges = subst IsInRange (sym c.civil_at.ensures) (civil_in_range second counted) }

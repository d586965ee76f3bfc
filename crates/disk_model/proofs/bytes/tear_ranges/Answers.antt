use Rattle.std.proofs.Common.{sym, ◌∙◌, ap, length, drop}
use Rattle.disk_model.proofs.Tearing.{length-ranges_torn}
use Rattle.disk_model.proofs.bytes.tear_ranges.Goals as goal

pub returns-clause-len : goal.returns-clause-len
returns-clause-len c =
    sym (length-ranges_torn c.args.torn.now (drop c.loop-range.range-index c.args.ranges.now) c.loop-range.bytes.items)
    ∙ ap length c.loop-range.invariant
    ∙ length-ranges_torn c.args.torn.now c.args.ranges.now c.args.bytes.now.items

use Rattle.std.proofs.Common.{arith}
use Rattle.record_scan.proofs.LengthLaws.{count_bound}
use Rattle.record_scan.proofs.in_way.separable.Goals as goal

pub overflow_cast-result : goal.overflow_cast-result
overflow_cast-result c =
    let inside = c.in-Some.ensures.inside in
    let bound = count_bound c.args.expr.now.kind c.args.expr.now.pieces c.as_slice.result.now c.as_slice.ensures c.args.expr.now.parsed c.args.expr.now.bounded in
    omega arith

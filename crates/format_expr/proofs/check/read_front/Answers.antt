use Rattle.std.proofs.Common.{◌≡◌, ◌⊎◌, length, arith}
use Rattle.format_expr.proofs.FaultLaws.{run_more, run_front}
use Rattle.format_expr.proofs.check.read_front.Goals as goal

pub loop-place-preserved : goal.loop-place-preserved
loop-place-preserved c =
    run_more c.args.kind c.args.text.now c.loop-place.place c.loop-place.stand c.in-Ok.next (omega arith) c.loop-place.invariant c.in-Ok.ensures

pub returns-clause-read : goal.returns-clause-read
returns-clause-read c =
    let whole : (c.loop-place.place ≡ length c.args.text.now) ⊎ (c.loop-place.place ≡ 1024) = Prim.grind arith in
    run_front c.args.kind c.args.text.now c.loop-place.place 1024 _ whole (omega arith) c.loop-place.invariant

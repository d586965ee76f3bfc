use Rattle.std.proofs.Common.{refl, arith}
use Rattle.world_runs.proofs.FigureLaws.{up_to-net}
use Rattle.world_runs.proofs.figures.requests_of_net.Goals as goal

pub loop-place-init : goal.loop-place-init
loop-place-init c = record { low = omega arith; counted = λ postings spelled. refl }

pub returns : goal.returns
returns c = λ postings spelled.
    up_to-net postings c.args.net.now c.loop-place.place c.loop-place.count spelled (omega (arith, c.len-place-end.ensures)) (c.loop-place.invariant.counted postings spelled)

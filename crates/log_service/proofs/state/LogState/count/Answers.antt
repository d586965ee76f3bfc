use Rattle.std.proofs.Common.{arith}
use Rattle.log_service.proofs.KeptLemmas.{few-bound}
use Rattle.log_service.proofs.state.LogState.count.Goals as goal

pub overflow_cast-result : goal.overflow_cast-result
overflow_cast-result c =
    let short = few-bound c.self.inside.streams.items c.self.invariant.few in
    record { fits = omega (arith, c.self.inside.streams.ok.0) }

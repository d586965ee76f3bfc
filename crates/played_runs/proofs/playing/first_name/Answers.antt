use Rattle.std.proofs.Common.{ap, length, arith}
use Rattle.played_runs.proofs.EndingSteps.{held-none}
use Rattle.played_runs.proofs.playing.first_name.Goals as goal

pub returns-in-empty-clause-found : goal.returns-in-empty-clause-found
returns-in-empty-clause-found g c =
    held-none (g.D.SharedDisk.seen c.args.disk.now).files c.in-Ok.names c.in-Ok.ensures.listed (omega (arith, ap length c.as_slice.ensures))

use Rattle.cold_cluster.proofs.Calm.{settle-ends, stays-up}
use Rattle.cold_cluster.proofs.Runs.{keeps-promises, settle-settles}
use Rattle.cold_cluster.proofs.law_of_runs.Goals as goal

pub returns : goal.returns
returns c = record { promises = keeps-promises; ends = settle-ends; settled = settle-settles; stays = stays-up }

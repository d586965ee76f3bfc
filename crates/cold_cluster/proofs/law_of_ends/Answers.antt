use Rattle.cold_cluster.proofs.Runs.{end-keeps, end-lacks}
use Rattle.cold_cluster.proofs.law_of_ends.Goals as goal

pub returns : goal.returns
returns c = record { promises = end-keeps; lacks = end-lacks }

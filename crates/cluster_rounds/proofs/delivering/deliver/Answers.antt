use Rattle.cluster_rounds.proofs.delivering.deliver.Goals as goal
use Rattle.cluster_rounds.proofs.BrokenClients.{same-breaks}

pub returns-in-Err-clause-err : goal.returns-in-Err-clause-err
returns-in-Err-clause-err g c = (same-breaks g.S.Serving.kit g.met.S.Serving.laws) c.args.world.now

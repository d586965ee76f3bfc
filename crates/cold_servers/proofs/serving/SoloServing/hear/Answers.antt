use Rattle.cluster_rounds.proofs.BrokenClients.{same-breaks-if}
use Rattle.cluster_rounds.specs.Worlds.{StandsIn}
use Rattle.cold_servers.specs.ColdKit.{cold_kit}
use Rattle.cold_servers.specs.ColdLaws.{cold_laws}
use Rattle.cold_servers.proofs.serving.SoloServing.hear.Goals as goal

pub hear-requires : goal.hear-requires
hear-requires c = record {
  state = c.requires.state;
  up = c.if-is_up.ensures;
  range = c.requires.range;
}

pub returns-clause-err : goal.returns-clause-err
returns-clause-err c = (same-breaks-if cold_kit cold_laws) (StandsIn c.args.message.now) c.args.world.now

use Rattle.cluster_rounds.proofs.BrokenClients.{same-breaks-if}
use Rattle.cluster_rounds.specs.Worlds.{IsIdle}
use Rattle.cold_servers.specs.ColdKit.{cold_kit}
use Rattle.cold_servers.specs.ColdLaws.{cold_laws}
use Rattle.cold_servers.proofs.serving.SoloServing.push.Goals as goal

pub push-requires : goal.push-requires
push-requires c = record { state = c.requires; up = c.if-is_up.ensures; idle = c.in_hand.ensures.none c.in-None.is }

pub returns-in-Some-clause-err : goal.returns-in-Some-clause-err
returns-in-Some-clause-err c = (same-breaks-if cold_kit cold_laws) IsIdle c.args.world.now

pub returns-clause-err : goal.returns-clause-err
returns-clause-err c = (same-breaks-if cold_kit cold_laws) IsIdle c.args.world.now

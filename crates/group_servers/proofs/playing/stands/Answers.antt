use Rattle.group_servers.proofs.OwnSteps.{stands-as}
use Rattle.group_servers.proofs.playing.stands.Goals as goal

pub returns : goal.returns
returns g c = stands-as g.row.N c.args.world.now c.standing_of.result c.standing_of.ensures

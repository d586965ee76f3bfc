use Rattle.group_servers.proofs.FailSteps.{disarms}
use Rattle.group_servers.proofs.joining.disarm.Goals as goal

pub returns : goal.returns
returns g c = λ lines. disarms g.row.N c.args.world.now lines (g.D.SharedDisk.seen c.args.disk.now) (g.D.SharedDisk.seen c.disarm.new.self) c.disarm.ensures.same c.disarm.ensures.counted c.disarm.ensures.faults_stay c.disarm.ensures.stops_stay

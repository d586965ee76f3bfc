use Rattle.group_servers.proofs.FallLines.{fallen-stays}
use Rattle.group_servers.proofs.telling.tell_fallen.Goals as goal

pub returns : goal.returns
returns c = fallen-stays c.args.base c.args.count c.args.lines.now.items c.truncate.new.self.items c.truncate.ensures.items

use Rattle.group_servers.proofs.FallLines.{over-stays}
use Rattle.group_servers.proofs.telling.tell_over.Goals as goal

pub returns : goal.returns
returns c =
    over-stays c.args.base c.args.count c.args.left c.args.lines.now.items c.take_away.new.lines.items c.take_away-2.new.lines.items c.take_away.ensures.is c.take_away-2.ensures.is

use Rattle.std.proofs.Common.{sym}
use Rattle.group_servers.proofs.OwingSteps.{none-owed}
use Rattle.group_servers.proofs.owing.link_all.Goals as goal

-- nothing is owed
pub returns-then-not-any_owed : goal.returns-then-not-any_owed
returns-then-not-any_owed c = none-owed c.args.seats.now c.args.active.now (sym c.if-not-any_owed.ensures)

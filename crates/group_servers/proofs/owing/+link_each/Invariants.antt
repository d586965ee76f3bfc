use Rattle.std.proofs.Common.{length}
use Rattle.group_servers.proofs.owing.+link_each.Given as goal

abbrev pub decreases-link_each : goal.decreases-link_each
decreases-link_each l = length l.seats.now

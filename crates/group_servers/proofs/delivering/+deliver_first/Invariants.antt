use Rattle.std.proofs.Common.{length}
use Rattle.group_servers.proofs.delivering.+deliver_first.Given as goal

abbrev pub decreases-deliver_first : goal.decreases-deliver_first
decreases-deliver_first l = length l.seats.now

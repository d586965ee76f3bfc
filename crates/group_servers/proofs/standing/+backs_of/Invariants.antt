use Rattle.std.proofs.Common.{length}
use Rattle.group_servers.proofs.standing.+backs_of.Given as goal

abbrev pub decreases-backs_of : goal.decreases-backs_of
decreases-backs_of l = length l.seats.now

use Rattle.std.proofs.Common.{length}
use Rattle.group_servers.proofs.standing.+links_of.Given as goal

abbrev pub decreases-links_of : goal.decreases-links_of
decreases-links_of l = length l.seats.now

use Rattle.std.proofs.Common.{length}
use Rattle.group_servers.proofs.telling.+count_takers.Given as goal

abbrev pub decreases-count_takers : goal.decreases-count_takers
decreases-count_takers l = length l.seats.now

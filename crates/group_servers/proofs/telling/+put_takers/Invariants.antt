use Rattle.std.proofs.Common.{length}
use Rattle.group_servers.proofs.telling.+put_takers.Given as goal

abbrev pub decreases-put_takers : goal.decreases-put_takers
decreases-put_takers l = length l.seats.now

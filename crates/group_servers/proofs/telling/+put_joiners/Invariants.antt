use Rattle.std.proofs.Common.{length}
use Rattle.group_servers.proofs.telling.+put_joiners.Given as goal

abbrev pub decreases-put_joiners : goal.decreases-put_joiners
decreases-put_joiners l = length l.seats.now

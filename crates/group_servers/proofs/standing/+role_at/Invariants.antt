use Rattle.std.proofs.Common.{length}
use Rattle.group_servers.proofs.standing.+role_at.Given as goal

abbrev pub decreases-role_at : goal.decreases-role_at
decreases-role_at l = length l.seats.now

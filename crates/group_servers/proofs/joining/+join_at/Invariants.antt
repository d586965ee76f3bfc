use Rattle.std.proofs.Common.{length}
use Rattle.group_servers.proofs.joining.+join_at.Given as goal

abbrev pub decreases-join_at : goal.decreases-join_at
decreases-join_at l = length l.seats.now

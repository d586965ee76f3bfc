use Rattle.std.proofs.Common.{length}
use Rattle.group_servers.proofs.seats.+is_down_at.Given as goal

abbrev pub decreases-is_down_at : goal.decreases-is_down_at
decreases-is_down_at l = length l.seats.now

use Rattle.std.proofs.Common.{length}
use Rattle.group_servers.proofs.parting.+drop_at.Given as goal

abbrev pub decreases-drop_at : goal.decreases-drop_at
decreases-drop_at l = length l.seats.now

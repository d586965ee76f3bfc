use Rattle.std.proofs.Common.{length}
use Rattle.group_servers.proofs.catching.+catch_up.Given as goal

abbrev pub decreases-catch_up : goal.decreases-catch_up
decreases-catch_up l = length l.seats.now

use Rattle.std.proofs.Common.{length}
use Rattle.group_servers.proofs.rejoining.+drop_ways.Given as goal

abbrev pub decreases-drop_ways : goal.decreases-drop_ways
decreases-drop_ways l = length l.seats.now

use Rattle.std.proofs.Common.{length}
use Rattle.group_servers.proofs.naming.+deliver_named.Given as goal

abbrev pub decreases-deliver_named : goal.decreases-deliver_named
decreases-deliver_named l = length l.seats.now

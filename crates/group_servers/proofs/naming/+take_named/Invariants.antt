use Rattle.std.proofs.Common.{length}
use Rattle.group_servers.proofs.naming.+take_named.Given as goal

abbrev pub decreases-take_named : goal.decreases-take_named
decreases-take_named l = length l.seats.now

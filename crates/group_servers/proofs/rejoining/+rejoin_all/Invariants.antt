use Rattle.std.proofs.Common.{length}
use Rattle.group_servers.proofs.rejoining.+rejoin_all.Given as goal

abbrev pub decreases-rejoin_all : goal.decreases-rejoin_all
decreases-rejoin_all l = length l.seats.now

use Rattle.group_servers.proofs.rejoining.+exchange.Given as goal

abbrev pub decreases-exchange : goal.decreases-exchange
decreases-exchange l = l.place

use Rattle.group_servers.proofs.telling.+take_away.Given as goal

abbrev pub decreases-take_away : goal.decreases-take_away
decreases-take_away l = l.count

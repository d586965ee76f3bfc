use Rattle.service_parts.proofs.Lookups.{next-value, next-none}
use Rattle.service_parts.proofs.reading.next_in.Goals as goal

pub returns-in-None : goal.returns-in-None
returns-in-None c =
    next-none c.args.cursor c.args.way c.args.filters.now c.args.alarms.now.kept c.in-None.ensures.order c.in-None.ensures.none

pub returns-in-Some : goal.returns-in-Some
returns-in-Some c =
    next-value c.args.cursor c.args.way c.args.filters.now c.args.alarms.now.kept _ c.in-Some.ensures.order c.in-Some.ensures.found

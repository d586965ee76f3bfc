use Rattle.alarm_view.proofs.Searching.{next-found}
use Rattle.alarm_view.proofs.search.next_in.Goals as goal

pub returns : goal.returns
returns c =
    next-found c.args.filters.now c.args.alarms.now.items c.args.order.now c.requires c.range_beyond-low.result.0 c.range_beyond-low.result.1 _ c.args.cursor.now c.args.way c.range_beyond-low.ensures c.first_within.ensures

use Rattle.std.proofs.Common.{refl, sym}
use Rattle.group_servers.specs.Delivered.{every}
use Rattle.group_servers.proofs.SeatTurns.{none-comes, past-comes, first-comes}
use Rattle.group_servers.proofs.delivering.+deliver_first.Goals as goal

pub returns-in-None : goal.returns-in-None
returns-in-None t c = none-comes every c.args.seats.now c.args.lines.now.items c.in-None.ensures.cases

-- nothing comes to the first
pub returns-then-not-has_link : goal.returns-then-not-has_link
returns-then-not-has_link t c =
    past-comes every c.deliver_first.result c.args.seats.now c.in-Some.rest.now c.deliver_first.new.seats c.in-Some.first.now c.args.lines.now.items c.deliver_first.new.lines.items c.in-Some.ensures.cases.0 (sym c.if-not-has_link.ensures) c.deliver_first.ensures

pub returns-else-not-has_link : goal.returns-else-not-has_link
returns-else-not-has_link t c =
    first-comes every c.deliver_to.result c.args.seats.now c.in-Some.rest.now c.in-Some.first.now c.deliver_to.new.seat c.args.lines.now.items c.deliver_to.new.lines.items c.in-Some.ensures.cases.0 refl (sym c.if-not-has_link.ensures) c.deliver_to.ensures

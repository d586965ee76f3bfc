use Rattle.std.proofs.Common.{refl, sym}
use Rattle.group_servers.specs.Delivered.{every}
use Rattle.group_servers.proofs.SeatTurns.{none-back, past-back, first-back}
use Rattle.group_servers.proofs.confirming.+take_back.Goals as goal

pub returns-in-None : goal.returns-in-None
returns-in-None t c = none-back every c.args.seats.now c.in-None.ensures.cases

-- the first has none
pub returns-then-not-has_back : goal.returns-then-not-has_back
returns-then-not-has_back t c =
    past-back every c.take_back.result c.args.seats.now c.in-Some.rest.now c.take_back.new.seats c.in-Some.first.now c.in-Some.ensures.cases.0 (sym c.if-not-has_back.ensures) c.take_back.ensures

pub returns-else-not-has_back : goal.returns-else-not-has_back
returns-else-not-has_back t c =
    first-back every c.take_first.result c.args.seats.now c.in-Some.rest.now c.in-Some.first.now c.take_first.new.list c.in-Some.ensures.cases.0 refl (sym c.if-not-has_back.ensures) c.take_first.ensures

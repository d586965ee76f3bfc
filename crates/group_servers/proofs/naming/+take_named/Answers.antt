use Rattle.std.proofs.Common.{refl, sym}
use Rattle.group_cluster.specs.Seats.{same_server}
use Rattle.group_servers.specs.Delivered.TakesBack.{first}
use Rattle.group_servers.proofs.SeatTurns.{none-back, later-back, other-back}
use Rattle.group_servers.proofs.naming.+take_named.Goals as goal

pub returns-in-None : goal.returns-in-None
returns-in-None t c = none-back (same_server c.args.server) c.args.seats.now c.in-None.ensures.cases

-- the first has another name
pub returns-then-not-same_server : goal.returns-then-not-same_server
returns-then-not-same_server t c =
    other-back (same_server c.args.server) c.take_named.result c.args.seats.now c.in-Some.rest.now c.take_named.new.seats c.in-Some.first.now c.in-Some.ensures.cases.0 (sym c.if-not-same_server.ensures) c.take_named.ensures

pub returns-in-Some-take_first : goal.returns-in-Some-take_first
returns-in-Some-take_first t c =
    rw c.in-Some.ensures.cases.0 (first c.in-Some-take_first.message _ _ _ (sym c.if-not-same_server.ensures) c.in-Some-take_first.ensures refl)

-- the first has none
pub returns-in-None-take_first : goal.returns-in-None-take_first
returns-in-None-take_first t c =
    later-back (same_server c.args.server) c.take_named-in-None-take_first.result c.args.seats.now c.in-Some.rest.now c.take_named-in-None-take_first.new.seats c.in-Some.first.now c.take_first.new.list c.in-Some.ensures.cases.0 c.in-None-take_first.ensures.0 c.in-None-take_first.ensures.1 c.take_named-in-None-take_first.ensures

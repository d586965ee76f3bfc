use Rattle.std.proofs.Common.{Option, sym, subst}
use Rattle.cluster_facts.specs.Types.{Entry}
use Rattle.group_cluster.specs.Seats.{same_server}
use Rattle.group_servers.specs.Delivered.{Comes}
use Rattle.group_servers.specs.Delivered.FirstComes.{here}
use Rattle.group_servers.proofs.SeatTurns.{none-comes, later-comes, other-comes}
use Rattle.group_servers.proofs.naming.+deliver_named.Goals as goal

pub returns-in-None : goal.returns-in-None
returns-in-None t c = none-comes (same_server c.args.server) c.args.seats.now c.args.lines.now.items c.in-None.ensures.cases

-- the first has another name
pub returns-then-not-same_server : goal.returns-then-not-same_server
returns-then-not-same_server t c =
    other-comes (same_server c.args.server) c.deliver_named.result c.args.seats.now c.in-Some.rest.now c.deliver_named.new.seats c.in-Some.first.now c.args.lines.now.items c.deliver_named.new.lines.items c.in-Some.ensures.cases.0 (sym c.if-not-same_server.ensures) c.deliver_named.ensures

-- nothing comes to the first
pub returns-in-Ok-None : goal.returns-in-Ok-None
returns-in-Ok-None t c =
    let C : Option (Option Entry) → Type 0 = λ found. Comes found c.in-Some.first.now c.deliver_to.new.seat c.args.lines.now.items c.deliver_to.new.lines.items in
    later-comes (same_server c.args.server) c.deliver_named-in-Ok-None.result c.args.seats.now c.in-Some.rest.now c.deliver_named-in-Ok-None.new.seats c.in-Some.first.now c.deliver_to.new.seat c.args.lines.now.items c.deliver_to.new.lines.items c.deliver_named-in-Ok-None.new.lines.items c.in-Some.ensures.cases.0 (subst C c.in-Ok-None.field-0-is c.in-Ok-None.ensures) c.deliver_named-in-Ok-None.ensures

pub returns-in-Ok-Some : goal.returns-in-Ok-Some
returns-in-Ok-Some t c =
    let C : Option (Option Entry) → Type 0 = λ found. Comes found c.in-Some.first.now c.deliver_to.new.seat c.args.lines.now.items c.deliver_to.new.lines.items in
    rw c.in-Some.ensures.cases.0 (here c.in-Some.first.now c.deliver_to.new.seat (sym c.if-not-same_server.ensures) (subst C c.in-Ok-Some.field-0-is c.in-Ok-Some.ensures))

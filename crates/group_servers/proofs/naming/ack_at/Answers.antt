use Rattle.std.proofs.Common.{None, List, refl, ap}
use Rattle.group_servers.specs.declared.group.Seat.{Seat}
use Rattle.group_cluster.specs.Seats.{same_server}
use Rattle.group_servers.proofs.GoodSteps.{untold-breaks}
use Rattle.group_servers.proofs.ConfirmSteps.{back-stays, can-confirm, ack-happens, acks-none}
use Rattle.group_servers.proofs.naming.ack_at.Goals as goal

pub confirm_last-confirmed-requires : goal.confirm_last-confirmed-requires
confirm_last-confirmed-requires g c = can-confirm g.row.N (same_server c.args.server) c.args.world.now c.in-Some.message c.take_named.new.seats c.requires.state c.in-Some.ensures

pub returns-in-Ok-clause-ok : goal.returns-in-Ok-clause-ok
returns-in-Ok-clause-ok g c = λ lines setup state good shows.
    let done = ack-happens g.row.N (same_server c.args.server) setup state c.args.world.now c.confirm_last-confirmed.new.active c.take_named.new.seats c.in-Some.message lines good shows c.in-Some.ensures c.in-Ok.ensures in
    (done.outcome, done.is, done.happened)

pub returns-in-Err-clause-err : goal.returns-in-Err-clause-err
returns-in-Err-clause-err g c = λ held setup state good shows. untold-breaks g.row.N setup state held c.args.world.now _ good shows refl refl refl refl refl

-- nothing is on the way back
pub returns-in-None-clause-ok : goal.returns-in-None-clause-ok
returns-in-None-clause-ok g c = λ lines.
    let old = c.args.world.now in (
      ap (λ (seats : List Seat). record old { servers = record old.servers { seats = seats } }) (back-stays (same_server c.args.server) None old.servers.seats c.take_named.new.seats c.in-None.ensures),
      refl,
      λ setup state good shows. (acks-none g.row.N (same_server c.args.server) setup state old c.take_named.new.seats shows c.in-None.ensures).0,
    )

use Rattle.std.proofs.Common.{sym}
use Rattle.group_servers.proofs.RejoinSteps.{nobody-rejoins, brings-fit, others-rejoin}
use Rattle.group_servers.proofs.rejoining.rejoin.Goals as goal

pub returns-then-not-any_up : goal.returns-then-not-any_up
returns-then-not-any_up c = nobody-rejoins c.args.active.now c.args.seats.now (sym c.if-not-any_up.ensures)

pub rejoin_all-joined-requires : goal.rejoin_all-joined-requires
rejoin_all-joined-requires c =
    brings-fit c.args.active.now c.begin_join.new.self c.in-Ok.heard c.in-Some.snapshot c.take_first-first.new.list c.requires.idle c.requires.fit c.in-Ok.ensures.ok c.in-Some.ensures

pub returns-in-Some : goal.returns-in-Some
returns-in-Some c =
    others-rejoin c.rejoin_all-joined.result c.args.active.now c.begin_join.new.self c.in-Ok.heard c.in-Some.snapshot c.take_first-first.new.list c.args.seats.now c.rejoin_all-joined.new.seats (sym c.if-not-any_up.ensures) c.requires.idle c.in-Ok.ensures.ok c.in-Some.ensures c.rejoin_all-joined.ensures

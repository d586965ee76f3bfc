use Rattle.std.proofs.Common.{sym, ◌∙◌, arith}
use Rattle.callback_dispatch.proofs.Crews.{known_taken}
use Rattle.client_agent.proofs.ring.take_oldest.Goals as goal

pub unreachable-requires : goal.unreachable-requires
unreachable-requires g c =
    let told = c.in_ok-meet.ensures.told.1 ∙ c.in_ok-meet.ensures.feeder.1 in
    let whole = c.in_ok-meet.ensures.taker.2 ∙ c.requires.taker.1 in
    let all = known_taken c.meet.new.taker.known c.args.feeder.now.list c.meet.new.taker.list c.args.taker.now.list (c.in-None.ensures.all whole) (sym told) (sym c.in_ok-meet.ensures.taker.1) in
    omega (arith, all, c.requires.waits)

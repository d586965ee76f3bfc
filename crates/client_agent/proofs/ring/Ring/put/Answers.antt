use Rattle.std.proofs.Common.{◌<◌, length, sym, subst}
use Rattle.client_agent.specs.Waiting.{Waiting}
use Rattle.client_agent.proofs.Handing.{only-taker, has-room}
use Rattle.client_agent.proofs.ring.Ring.put.Goals as goal

pub put_at_end-requires-clause-room : goal.put_at_end-requires-clause-room
put_at_end-requires-clause-room g c =
    let inside = c.self.inside in
    let only = only-taker inside c.in-Some.taker c.self.invariant c.in-Some.is in
    let Room : Waiting → Type 0 = λ w. length w.queue < w.places in
    has-room inside.given inside.places inside.queue.capacity inside.feeder.list c.in-Some.taker.list c.self.invariant.within only.took c.self.invariant.size (subst Room (sym c.self.view_is) c.requires.room)

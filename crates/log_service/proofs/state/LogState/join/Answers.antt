use Rattle.log_service.proofs.OpenLemmas.{few-joined, busy-joined}
use Rattle.log_service.proofs.state.LogState.join.Goals as goal

pub invariant_of-self-2 : goal.invariant_of-self-2
invariant_of-self-2 c =
    let old = c.self.inside.streams.items in
    let new = c.join.new.streams.items in
    record {
      from = c.self.invariant.from;
      few = few-joined c.args.client c.args.name.now old new c.in_ok-join.ensures.ok c.self.invariant.few;
      busy = busy-joined c.args.client c.args.name.now old new c.in_ok-join.ensures.ok c.self.invariant.busy;
    }

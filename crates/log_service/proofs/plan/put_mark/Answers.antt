use Rattle.std.proofs.Common.{ap, ◌∙◌, set, arith}
use Rattle.log_history.specs.Table.{with_mark}
use Rattle.client_set.proofs.ChangedPlace.{set-change_at}
use Rattle.log_service.proofs.plan.put_mark.Goals as goal

pub returns : goal.returns
returns c =
    let items = c.args.streams.now.items in
    ap (set items c.args.place) c.put_mark.ensures ∙ set-change_at (with_mark c.args.mark) items c.args.place c.index_mut.result.now c.index_mut.ensures.value (omega (arith, c.args.streams.now.ok.0))

use Rattle.std.proofs.Common.{ap, ◌∙◌, set, arith}
use Rattle.log_service.specs.Planning.{filed_in}
use Rattle.client_set.proofs.ChangedPlace.{set-change_at}
use Rattle.log_service.proofs.plan.put_files.Goals as goal

pub returns : goal.returns
returns c =
    let items = c.args.streams.now.items in
    ap (set items c.args.place) c.put_files.ensures ∙ set-change_at (filed_in c.args.taken c.args.opened c.args.filed) items c.args.place c.index_mut.result.now c.index_mut.ensures.value (omega (arith, c.args.streams.now.ok.0))

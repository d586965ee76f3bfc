use Rattle.std.proofs.Common.{List, ◌++◌, ap, sym, ◌∙◌}
use Rattle.calls.specs.declared.entry.Held.{Held}
use Rattle.service_core.specs.Holding.{items_by, items_at}
use Rattle.service_core.proofs.ListSteps.{flat-place}
use Rattle.service_core.proofs.holding.items_of.Goals as goal

pub loop-place-preserved : goal.loop-place-preserved
loop-place-preserved c =
    let subs = c.args.ntf.now.table.subs in
    let place = c.loop-place.place in
    c.in_ok-add_items_at.ensures
    ∙ ap (λ (front : List Held). front ++ items_at subs place) c.loop-place.invariant
    ∙ sym (flat-place items_by place subs)

use Rattle.std.proofs.Common.{List, ◌++◌, ap, sym, ◌∙◌}
use Rattle.std.specs.Prelude.{slice_get}
use Rattle.std.specs.Option.{option_map, option_to_list}
use Rattle.calls.specs.declared.saved.SavedSub.{SavedSub}
use Rattle.service_table.specs.Tables.{saved_queue}
use Rattle.service_core.proofs.ListSteps.{map-place}
use Rattle.service_core.proofs.saving.subs_of.Goals as goal

pub loop-place-preserved : goal.loop-place-preserved
loop-place-preserved c =
    let subs = c.args.ntf.now.table.subs in
    let place = c.loop-place.place in
    c.in_ok-push_sub_at.ensures
    ∙ ap (λ (front : List SavedSub). front ++ option_to_list (option_map saved_queue (slice_get subs place))) c.loop-place.invariant
    ∙ sym (map-place saved_queue place subs)

use Rattle.std.proofs.Common.{List, ◌++◌, ap, sym, ◌∙◌}
use Rattle.std.specs.Prelude.{slice_get}
use Rattle.std.specs.Option.{option_map, option_to_list}
use Rattle.calls.specs.declared.saved.SavedAlarm.{SavedAlarm}
use Rattle.plain_service.specs.Values.{saved_alarm}
use Rattle.service_core.proofs.ListSteps.{map-place}
use Rattle.service_core.proofs.saving.alarms_of.Goals as goal

pub loop-place-preserved : goal.loop-place-preserved
loop-place-preserved c =
    let alarms = c.args.alarms.now.kept in
    let place = c.loop-place.place in
    c.in_ok-push_alarm.ensures
    ∙ ap (λ (front : List SavedAlarm). front ++ option_to_list (option_map saved_alarm (slice_get alarms place))) c.loop-place.invariant
    ∙ sym (map-place saved_alarm place alarms)

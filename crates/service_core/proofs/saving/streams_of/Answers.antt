use Rattle.std.proofs.Common.{List, ◌++◌, ap, sym, ◌∙◌}
use Rattle.std.specs.Prelude.{slice_get}
use Rattle.std.specs.Option.{option_map, option_to_list}
use Rattle.calls.specs.declared.saved.SavedStream.{SavedStream}
use Rattle.plain_service.specs.Values.{saved_stream}
use Rattle.service_core.proofs.ListSteps.{map-place}
use Rattle.service_core.proofs.saving.streams_of.Goals as goal

pub loop-place-preserved : goal.loop-place-preserved
loop-place-preserved c =
    let streams = c.args.log.now.table.streams in
    let place = c.loop-place.place in
    c.in_ok-push_stream.ensures
    ∙ ap (λ (front : List SavedStream). front ++ option_to_list (option_map saved_stream (slice_get streams place))) c.loop-place.invariant
    ∙ sym (map-place saved_stream place streams)

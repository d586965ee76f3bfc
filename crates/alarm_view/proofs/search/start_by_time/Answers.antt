use Rattle.std.proofs.Common.{ℤ, w64, subst}
use Rattle.std.proofs.lemmas.Int.{to_z-of_z}
use Rattle.alarm_view.specs.Search.{has_mode}
use Rattle.alarm_view.specs.Inside.{IsRangeOf}
use Rattle.alarm_view.proofs.Searching.{start-found}
use Rattle.alarm_view.proofs.search.start_by_time.Goals as goal

pub returns : goal.returns
returns c =
    let range = c.range_of-low.result in
    let P : ℤ → Type 0 = λ value. IsRangeOf (has_mode c.args.mode value) c.args.order.now range.0 range.1 in
    start-found c.args.filters.now c.args.alarms.now.items c.args.order.now c.requires.indexed range.0 range.1 _ c.args.mode c.args.value (subst P (to_z-of_z w64 c.args.value c.ranges.value) c.range_of-low.ensures) c.way.result c.way.ensures c.first_within.ensures

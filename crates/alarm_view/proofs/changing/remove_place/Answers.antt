use Rattle.std.proofs.Common.{◌∙◌, arith}
use Rattle.alarm_view.proofs.Indexing.{early-within}
use Rattle.alarm_view.proofs.Removing.{removed}
use Rattle.alarm_view.proofs.changing.remove_place.Goals as goal

pub index-first-requires : goal.index-first-requires
index-first-requires c =
    let most = early-within c.args.number c.args.alarms.now.items in
    omega (arith, c.requires.one, most, c.args.alarms.now.ok.0)

pub remove-requires : goal.remove-requires
remove-requires c =
    let both = removed c.args.alarms.now.items c.args.order.now.items c.as_slice.result.now c.requires.indexed c.args.number c.requires.one c.index-first.result.now c.index-first.ensures c.place_of-place.result c.place_of-place.ensures c.cut_before.result c.cut_before.ensures c.as_slice.ensures.value c.count_below-at.result c.count_below-at.ensures.point in
    omega (arith, both.0, c.args.order.now.ok.0)

pub returns : goal.returns
returns c =
    let both = removed c.args.alarms.now.items c.args.order.now.items c.as_slice.result.now c.requires.indexed c.args.number c.requires.one c.index-first.result.now c.index-first.ensures c.place_of-place.result c.place_of-place.ensures c.cut_before.result c.cut_before.ensures c.as_slice.ensures.value c.count_below-at.result c.count_below-at.ensures.point in
    c.remove.ensures.items ∙ both.1

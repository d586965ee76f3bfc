use Rattle.alarm_view.proofs.Indexing.{order-added}
use Rattle.alarm_view.proofs.changing.add_reserved.Goals as goal

pub returns-clause-indexed : goal.returns-clause-indexed
returns-clause-indexed c =
    order-added c.args.alarms.now.items c.args.order.now.items c.as_slice.result.now c.requires.indexed c.args.number c.args.notification c.requires.can c.place_of-place.result c.place_of-place.ensures c.as_slice.ensures.value c.count_below-at.result c.count_below-at.ensures.bound c.cut_before.result c.cut_before.ensures c.count_below-at.ensures.point _ _ c.push_back_reserved.ensures.items c.insert_place.ensures

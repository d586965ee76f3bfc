use Rattle.std.proofs.Common.{length, refl, ap, sym, subst, ◌∙◌}
use Rattle.alarm_view.specs.declared.mode.Direction.{Direction}
use Rattle.alarm_view.specs.declared.mode.Direction.TheVariants.{Older, Younger}
use Rattle.alarm_view.specs.declared.place.Cut.{Cut}
use Rattle.alarm_view.specs.Search.{is_beyond}
use Rattle.alarm_view.specs.Inside.{IsCutAt, IsRangeOf, cut_at}
use Rattle.alarm_view.proofs.Ranging.{range-from, range-to, younger-cut, older-cut}
use Rattle.alarm_view.proofs.search.range_beyond.Goals as goal

pub returns-in-Younger : goal.returns-in-Younger
returns-in-Younger c =
    let cursor = c.args.cursor.now in
    let order = c.args.order.now in
    let place = c.count_below-place in
    let P : Direction → Type 0 = λ way. IsRangeOf (is_beyond way cursor) order place.result (length order) in
    let Q : Cut → Type 0 = λ cut. IsCutAt cut order place.result in
    let cut = c.cut_at.ensures ∙ ap (λ way. cut_at way cursor) c.in-Younger.is in
    subst P (sym c.in-Younger.is) (range-from (cut_at Younger cursor) order place.result place.ensures.bound (subst Q cut place.ensures.point) (is_beyond Younger cursor) (length order) refl (younger-cut cursor))

pub returns-in-Older : goal.returns-in-Older
returns-in-Older c =
    let cursor = c.args.cursor.now in
    let order = c.args.order.now in
    let place = c.count_below-place in
    let P : Direction → Type 0 = λ way. IsRangeOf (is_beyond way cursor) order 0 place.result in
    let Q : Cut → Type 0 = λ cut. IsCutAt cut order place.result in
    let cut = c.cut_at.ensures ∙ ap (λ way. cut_at way cursor) c.in-Older.is in
    subst P (sym c.in-Older.is) (range-to (cut_at Older cursor) order place.result place.ensures.bound (subst Q cut place.ensures.point) (is_beyond Older cursor) (older-cut cursor))

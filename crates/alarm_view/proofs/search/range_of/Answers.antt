use Rattle.std.proofs.Common.{ℤ, length, w64, refl, sym, subst}
use Rattle.std.proofs.lemmas.Int.{to_z-of_z}
use Rattle.alarm_view.specs.declared.mode.SearchMode.{SearchMode}
use Rattle.alarm_view.specs.declared.mode.SearchMode.TheVariants.{BeforeOrAtTime, AtTime, AtOrAfterTime, BeforeTime, AfterTime}
use Rattle.alarm_view.specs.declared.place.Cut.TheVariants.{Before, Through}
use Rattle.alarm_view.specs.Search.{has_mode}
use Rattle.alarm_view.specs.Inside.{IsCutAt, IsRangeOf}
use Rattle.alarm_view.proofs.Ranging.{range-from, range-to, range-between, at_time-cuts, twice-not}
use Rattle.alarm_view.proofs.search.range_of.Goals as goal

pub returns-in-BeforeOrAtTime : goal.returns-in-BeforeOrAtTime
returns-in-BeforeOrAtTime c =
    let same = to_z-of_z w64 c.args.value c.ranges.value in
    let P : SearchMode → Type 0 = λ mode. IsRangeOf (has_mode mode c.args.value) c.args.order.now 0 c.count_below.result in
    let Q : ℤ → Type 0 = λ time. IsCutAt (Through time) c.args.order.now c.count_below.result in
    subst P (sym c.in-BeforeOrAtTime.is) (range-to (Through c.args.value) c.args.order.now c.count_below.result c.count_below.ensures.bound (subst Q same c.count_below.ensures.point) (has_mode BeforeOrAtTime c.args.value) (λ alarm. refl))

pub returns-in-AtTime : goal.returns-in-AtTime
returns-in-AtTime c =
    let same = to_z-of_z w64 c.args.value c.ranges.value in
    let low = c.count_below-in-AtTime in
    let high = c.count_below-in-AtTime-2 in
    let P : SearchMode → Type 0 = λ mode. IsRangeOf (has_mode mode c.args.value) c.args.order.now low.result high.result in
    let Low : ℤ → Type 0 = λ time. IsCutAt (Before time) c.args.order.now low.result in
    let High : ℤ → Type 0 = λ time. IsCutAt (Through time) c.args.order.now high.result in
    subst P (sym c.in-AtTime.is) (range-between (Before c.args.value) (Through c.args.value) c.args.order.now low.result high.result low.ensures.bound high.ensures.bound (subst Low same low.ensures.point) (subst High same high.ensures.point) (has_mode AtTime c.args.value) (at_time-cuts c.args.value))

pub returns-in-AtOrAfterTime : goal.returns-in-AtOrAfterTime
returns-in-AtOrAfterTime c =
    let same = to_z-of_z w64 c.args.value c.ranges.value in
    let P : SearchMode → Type 0 = λ mode. IsRangeOf (has_mode mode c.args.value) c.args.order.now c.count_below-in-AtOrAfterTime.result (length c.args.order.now) in
    let Q : ℤ → Type 0 = λ time. IsCutAt (Before time) c.args.order.now c.count_below-in-AtOrAfterTime.result in
    subst P (sym c.in-AtOrAfterTime.is) (range-from (Before c.args.value) c.args.order.now c.count_below-in-AtOrAfterTime.result c.count_below-in-AtOrAfterTime.ensures.bound (subst Q same c.count_below-in-AtOrAfterTime.ensures.point) (has_mode AtOrAfterTime c.args.value) (length c.args.order.now) refl (λ alarm. refl))

pub returns-in-BeforeTime : goal.returns-in-BeforeTime
returns-in-BeforeTime c =
    let same = to_z-of_z w64 c.args.value c.ranges.value in
    let P : SearchMode → Type 0 = λ mode. IsRangeOf (has_mode mode c.args.value) c.args.order.now 0 c.count_below-in-BeforeTime.result in
    let Q : ℤ → Type 0 = λ time. IsCutAt (Before time) c.args.order.now c.count_below-in-BeforeTime.result in
    subst P (sym c.in-BeforeTime.is) (range-to (Before c.args.value) c.args.order.now c.count_below-in-BeforeTime.result c.count_below-in-BeforeTime.ensures.bound (subst Q same c.count_below-in-BeforeTime.ensures.point) (has_mode BeforeTime c.args.value) (λ alarm. refl))

pub returns-in-AfterTime : goal.returns-in-AfterTime
returns-in-AfterTime c =
    let same = to_z-of_z w64 c.args.value c.ranges.value in
    let P : SearchMode → Type 0 = λ mode. IsRangeOf (has_mode mode c.args.value) c.args.order.now c.count_below-in-AfterTime.result (length c.args.order.now) in
    let Q : ℤ → Type 0 = λ time. IsCutAt (Through time) c.args.order.now c.count_below-in-AfterTime.result in
    subst P (sym c.in-AfterTime.is) (range-from (Through c.args.value) c.args.order.now c.count_below-in-AfterTime.result c.count_below-in-AfterTime.ensures.bound (subst Q same c.count_below-in-AfterTime.ensures.point) (has_mode AfterTime c.args.value) (length c.args.order.now) refl (λ alarm. twice-not (has_mode AfterTime c.args.value alarm)))

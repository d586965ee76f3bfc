-- Which places a cut has below it, and the ranges of places that tests of times and points leave.
use Rattle.std.proofs.Common.{◌≡◌, ℕ, suc, ℤ, pos, ◌<◌, ◌≤◌, Bool, true, false, not, ◌&&◌, cond, ◌⊎◌, inl, inr, List, length, get_or, refl, ap, sym, ◌∙◌, arith}
use Rattle.std.specs.List.Sorted.{IsPartitionedBy}
use Rattle.std.proofs.lemmas.Bool.{and_right}
use Rattle.std.proofs.lemmas.Int.{ints}
use Rattle.std.proofs.lemmas.Bool.Decides.{nat_tests, leb_tells}
use Rattle.ntf_types.specs.declared.notification.Notification.{Notification}
use Rattle.client_set.specs.Rising.{IsRising}
use Rattle.alarm_view.specs.declared.cursor.Cursor.{Cursor}
use Rattle.alarm_view.specs.declared.mode.SearchMode.TheVariants.{AtTime}
use Rattle.alarm_view.specs.declared.mode.Direction.TheVariants.{Older, Younger}
use Rattle.alarm_view.specs.declared.place.Place.{Place}
use Rattle.alarm_view.specs.declared.place.Cut.{Cut}
use Rattle.alarm_view.specs.declared.place.Cut.TheVariants.{Before, Through, At, Behind}
use Rattle.alarm_view.specs.Order.{Point, point_of, is_older}
use Rattle.alarm_view.specs.Nearest.{point_at}
use Rattle.alarm_view.specs.Search.{has_mode, is_beyond}
use Rattle.alarm_view.specs.Inside.{point_in, place_first, is_below, IsCutAt, IsPlacedAt, IsRangeOf, cut_for, cut_at}
use Rattle.alarm_view.proofs.Listing.{rising-at}

-- what is older than a point below a cut lies below it
is_below-older : (cut : Cut) (one other : Point) → is_older one other ≡ true → is_below cut other ≡ true → is_below cut one ≡ true
is_below-older (Before time) one other older below = grind (arith, ints, nat_tests)
is_below-older (Through time) one other older below = grind (arith, ints, nat_tests)
is_below-older (At time id) one other older below = grind (arith, ints, nat_tests)
is_below-older (Behind time id) one other older below = grind (arith, ints, nat_tests)

le-cases : (i j : ℕ) → i ≤ j → (i ≡ j) ⊎ (i < j)
le-cases i j below = elim (leb_tells (suc i) j) [ inl less ↦ inr less.1 | inr same ↦ let over = same.1 in inl (omega arith) ]

-- no place below a cut comes after one that does not lie below it
pub cut-parts : (cut : Cut) (order : List Place) → IsRising place_first order → IsPartitionedBy (λ (x : Place). is_below cut (point_in x)) order
cut-parts cut order rising i j d below within passes = elim (le-cases i j below) [
  | inl same ↦ ap (λ k. is_below cut (point_in (get_or order k d))) same ∙ passes
  | inr less ↦ is_below-older cut (point_in (get_or order i d)) (point_in (get_or order j d)) (rising-at place_first order i j d rising less within) passes
]

-- a place, where one is asked for that is not looked at
abbrev some_place : Place
some_place = record { time = pos 0; id = 0; number = 0 }

module _ (cut : Cut) (order : List Place) (place : ℕ) (bound : place ≤ length order) (point : IsCutAt cut order place) where
  -- an alarm at a place below the cut lies below it, and one at another place does not

  low-below : (alarm : Notification) (k : ℕ) → k < place → IsPlacedAt order k alarm → is_below cut (point_of alarm) ≡ true
  low-below alarm k below placed =
      ap (is_below cut) (sym (placed some_place)) ∙ point.0 k some_place (omega arith) below

  high-above : (alarm : Notification) (k : ℕ) → place ≤ k → k < length order → IsPlacedAt order k alarm → is_below cut (point_of alarm) ≡ false
  high-above alarm k from within placed =
      ap (is_below cut) (sym (placed some_place)) ∙ point.1 k some_place from within

  -- the places from the cut on
  pub range-from : (test : Notification → Bool) (count : ℕ) → count ≡ length order → ((alarm : Notification) → test alarm ≡ not (is_below cut (point_of alarm))) → IsRangeOf test order place count
  range-from test count all tests = record {
    within = omega arith;
    passes = λ alarm k from below placed. tests alarm ∙ ap not (high-above alarm k from (omega arith) placed);
    before = λ alarm k below within placed. tests alarm ∙ ap not (low-below alarm k below placed);
    behind = λ alarm k from within placed. absurd (omega arith);
  }

  -- the places below the cut
  pub range-to : (test : Notification → Bool) → ((alarm : Notification) → test alarm ≡ is_below cut (point_of alarm)) → IsRangeOf test order 0 place
  range-to test tests = record {
    within = bound;
    passes = λ alarm k from below placed. tests alarm ∙ low-below alarm k below placed;
    before = λ alarm k below within placed. absurd (omega arith);
    behind = λ alarm k from within placed. tests alarm ∙ high-above alarm k from within placed;
  }

-- the places from one cut on and below another
pub range-between : (one other : Cut) (order : List Place) (low high : ℕ) → low ≤ length order → high ≤ length order → IsCutAt one order low → IsCutAt other order high → (test : Notification → Bool) → ((alarm : Notification) → test alarm ≡ (not (is_below one (point_of alarm)) && is_below other (point_of alarm))) → IsRangeOf test order low high
range-between one other order low high first last from to test tests = record {
  within = last;
  passes = λ alarm k above below placed. tests alarm ∙ ap (λ b. not b && is_below other (point_of alarm)) (high-above one order low first from alarm k above (omega arith) placed) ∙ low-below other order high last to alarm k below placed;
  before = λ alarm k below within placed. tests alarm ∙ ap (λ b. not b && is_below other (point_of alarm)) (low-below one order low first from alarm k below placed);
  behind = λ alarm k above within placed. tests alarm ∙ and_right (not (is_below one (point_of alarm))) (is_below other (point_of alarm)) (high-above other order high last to alarm k above within placed);
}

-- what a mode asks of times, by cuts

pub at_time-cuts : (value : ℤ) (alarm : Notification) → has_mode AtTime value alarm ≡ (not (is_below (Before value) (point_of alarm)) && is_below (Through value) (point_of alarm))
at_time-cuts value alarm = grind (arith, ints)

pub twice-not : (b : Bool) → b ≡ not (not b)
twice-not true = refl
twice-not false = refl

-- what lies beyond a point in a direction, by the cut there

pub younger-cut : (cursor : Cursor) (alarm : Notification) → is_beyond Younger cursor alarm ≡ not (is_below (cut_at Younger cursor) (point_of alarm))
younger-cut cursor alarm = by_fresh cursor.fresh where
  by_fresh : (fresh : Bool) → cond fresh (not (is_older (point_of alarm) (point_at cursor))) (is_older (point_at cursor) (point_of alarm)) ≡ not (is_below (cut_for Younger fresh cursor.time cursor.id) (point_of alarm))
  by_fresh true = refl
  by_fresh false = twice-not (is_older (point_at cursor) (point_of alarm))

pub older-cut : (cursor : Cursor) (alarm : Notification) → is_beyond Older cursor alarm ≡ is_below (cut_at Older cursor) (point_of alarm)
older-cut cursor alarm = by_fresh cursor.fresh where
  by_fresh : (fresh : Bool) → cond fresh (not (is_older (point_at cursor) (point_of alarm))) (is_older (point_of alarm) (point_at cursor)) ≡ is_below (cut_for Older fresh cursor.time cursor.id) (point_of alarm)
  by_fresh true = refl
  by_fresh false = refl

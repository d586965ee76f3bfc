-- The tests of a search tell what is asked.
use Rattle.std.proofs.Common.{◌≡◌, Bool, true, false, not, cond, ℤ, pos, List, refl, ap, subst, arith}
use Rattle.std.specs.Prelude.{Option, Some, None, MatchOption, Decides, reverse}
use Rattle.std.specs.Bool.{MatchBool}
use Rattle.std.proofs.lemmas.Bool.Decides.{Decides-int_eq, Decides-and, Decides-like}
use Rattle.std.proofs.lemmas.Int.{ints}
use Rattle.ntf_types.specs.declared.notification.Notification.{Notification}
use Rattle.ntf_filters.specs.declared.filter.FilterSet.{FilterSet}
use Rattle.ntf_filters.proofs.Meaning.{matches-decides}
use Rattle.client_set.proofs.MemberLaws.{Stands-reverse, Stands-reversed}
use Rattle.alarm_view.specs.declared.mode.SearchMode.{SearchMode}
use Rattle.alarm_view.specs.declared.mode.SearchMode.TheVariants.{BeforeOrAtTime, AtTime, AtOrAfterTime, BeforeTime, AfterTime, NotificationId, OnlyFilter}
use Rattle.alarm_view.specs.declared.mode.Direction.{Direction}
use Rattle.alarm_view.specs.declared.cursor.Cursor.{Cursor}
use Rattle.alarm_view.specs.Modes.{way_of}
use Rattle.alarm_view.specs.Order.{point_of, comes_before}
use Rattle.alarm_view.specs.Nearest.{IsNearest, IsNone, HasMode, CanStart, IsBeyond, CanFollow, IsStart, IsNext, point_at}
use Rattle.alarm_view.specs.Search.{has_mode, can_start, is_beyond, can_follow, starting, next_alarm}
use Rattle.alarm_view.specs.declared.alarm.KeptAlarm.{KeptAlarm}
use Rattle.alarm_view.specs.Alarms.{notifications, AreInOrder}
use Rattle.alarm_view.specs.Found.{IsExact, StartsExactly, FollowsExactly}
use Rattle.alarm_view.proofs.NearestLaws.{first_in-finds, IsNearest-one}

pub has_mode-decides : (mode : SearchMode) (value : ℤ) (alarm : Notification) → Decides (has_mode mode value alarm) (HasMode mode value alarm)
has_mode-decides BeforeOrAtTime value alarm = (λ e. grind (arith, ints), λ h. grind (arith, ints))
has_mode-decides AtTime value alarm = Decides-int_eq alarm.event_time value
has_mode-decides AtOrAfterTime value alarm = (λ e. grind (arith, ints), λ h. grind (arith, ints))
has_mode-decides BeforeTime value alarm = (λ e. grind (arith, ints), λ h. grind (arith, ints))
has_mode-decides AfterTime value alarm = (λ e. grind (arith, ints), λ h. grind (arith, ints))
has_mode-decides NotificationId value alarm = Decides-int_eq (pos alarm.id) value
has_mode-decides OnlyFilter value alarm = (λ e. tt, λ h. refl)

can_start-decides : (mode : SearchMode) (value : ℤ) (filters : FilterSet) (alarm : Notification) → Decides (can_start mode value filters alarm) (CanStart mode value filters alarm)
can_start-decides mode value filters alarm =
    Decides-like _ (λ h. record { asked = h.0; matches = h.1 }) (λ can. (can.asked, can.matches))
    (Decides-and _ _ (has_mode-decides mode value alarm) (matches-decides filters alarm))

not_true : (b : Bool) → Decides (not b) (b ≡ false)
not_true true = (λ e. cc, λ e. cc)
not_true false = (λ e. refl, λ e. refl)

pub is_beyond-decides : (way : Direction) (cursor : Cursor) (alarm : Notification) → Decides (is_beyond way cursor alarm) (IsBeyond way cursor alarm)
is_beyond-decides way cursor alarm = by_fresh cursor.fresh where
  by_fresh : (fresh : Bool) → Decides (cond fresh (not (comes_before way (point_of alarm) (point_at cursor))) (comes_before way (point_at cursor) (point_of alarm))) (MatchBool fresh (comes_before way (point_of alarm) (point_at cursor) ≡ false) (comes_before way (point_at cursor) (point_of alarm) ≡ true))
  by_fresh true = not_true (comes_before way (point_of alarm) (point_at cursor))
  by_fresh false = (λ e. e, λ e. e)

can_follow-decides : (way : Direction) (cursor : Cursor) (filters : FilterSet) (alarm : Notification) → Decides (can_follow way cursor filters alarm) (CanFollow way cursor filters alarm)
can_follow-decides way cursor filters alarm =
    Decides-like _ (λ h. record { beyond = h.0; matches = h.1 }) (λ can. (can.beyond, can.matches))
    (Decides-and _ _ (is_beyond-decides way cursor alarm) (matches-decides filters alarm))

-- the order in which the alarms are looked at does not matter
IsFound-reversed : (way : Direction) (P : Notification → Type 0) (alarms : List Notification) (found : Option Notification) → MatchOption found (IsNone P (reverse alarms)) (IsNearest way P (reverse alarms)) → MatchOption found (IsNone P alarms) (IsNearest way P alarms)
IsFound-reversed way P alarms None none =
    λ alarm stands asked. none alarm (Stands-reverse alarm alarms stands) asked
IsFound-reversed way P alarms (Some alarm) found = record {
  stands = Stands-reversed alarm alarms found.stands;
  asked = found.asked;
  nearest = λ other stands asked. found.nearest other (Stands-reverse other alarms stands) asked;
}

pub starting-found : (mode : SearchMode) (value : ℤ) (filters : FilterSet) (alarms : List Notification) → MatchOption (starting mode value filters (reverse alarms)) (IsNone (CanStart mode value filters) alarms) (IsStart mode value filters alarms)
starting-found mode value filters alarms =
    IsFound-reversed (way_of mode) (CanStart mode value filters) alarms (starting mode value filters (reverse alarms)) (first_in-finds (way_of mode) (CanStart mode value filters) (can_start mode value filters) (can_start-decides mode value filters) (reverse alarms))

pub next_alarm-found : (cursor : Cursor) (way : Direction) (filters : FilterSet) (alarms : List Notification) → MatchOption (next_alarm cursor way filters (reverse alarms)) (IsNone (CanFollow way cursor filters) alarms) (IsNext cursor way filters alarms)
next_alarm-found cursor way filters alarms =
    IsFound-reversed way (CanFollow way cursor filters) alarms (next_alarm cursor way filters (reverse alarms)) (first_in-finds way (CanFollow way cursor filters) (can_follow way cursor filters) (can_follow-decides way cursor filters) (reverse alarms))

module _ (way : Direction) (P : Notification → Type 0) (alarms : List Notification) where
  -- where a search answers nothing
  pub none-found : (found : Option Notification) → MatchOption found (IsNone P alarms) (IsNearest way P alarms) → found ≡ None → IsNone P alarms
  none-found found is answer =
      let M : Option Notification → Type 0 = λ o. MatchOption o (IsNone P alarms) (IsNearest way P alarms) in
      subst M answer is

  -- where it answers an alarm
  pub nearest-found : (found : Option Notification) (alarm : Notification) → MatchOption found (IsNone P alarms) (IsNearest way P alarms) → found ≡ Some alarm → IsNearest way P alarms alarm
  nearest-found found alarm is answer =
      let M : Option Notification → Type 0 = λ o. MatchOption o (IsNone P alarms) (IsNearest way P alarms) in
      subst M answer is

-- the alarm that is nearest is the one that the search finds
module _ (way : Direction) (P : Notification → Type 0) (alarms : List KeptAlarm) (rising : AreInOrder alarms) where
  nearest-is : (found : Option Notification) → MatchOption found (IsNone P (notifications alarms)) (IsNearest way P (notifications alarms)) → (alarm : Notification) → IsNearest way P (notifications alarms) alarm → found ≡ Some alarm
  nearest-is None none alarm nearest = absurd (none alarm nearest.stands nearest.asked)
  nearest-is (Some first) found alarm nearest =
      ap (λ (v : Notification). Some v) (IsNearest-one way P alarms rising first alarm found nearest)

  none-is : (found : Option Notification) → MatchOption found (IsNone P (notifications alarms)) (IsNearest way P (notifications alarms)) → IsNone P (notifications alarms) → found ≡ None
  none-is None is none = refl
  none-is (Some first) found none = absurd (none first found.stands found.asked)

  -- so what it answers is exact
  found-exact : (found : Option Notification) → MatchOption found (IsNone P (notifications alarms)) (IsNearest way P (notifications alarms)) → IsExact way P (notifications alarms) found
  found-exact found is = record {
    some = λ alarm. (nearest-found way P (notifications alarms) found alarm is, nearest-is found is alarm);
    none = (none-found way P (notifications alarms) found is, none-is found is);
  }

module _ (mode : SearchMode) (value : ℤ) (filters : FilterSet) (alarms : List KeptAlarm) (rising : AreInOrder alarms) where
  pub starting-exact : StartsExactly mode value filters alarms
  starting-exact =
      found-exact (way_of mode) (CanStart mode value filters) alarms rising (starting mode value filters (reverse (notifications alarms))) (starting-found mode value filters (notifications alarms))

  pub starting-is : (alarm : Notification) → IsStart mode value filters (notifications alarms) alarm → starting mode value filters (reverse (notifications alarms)) ≡ Some alarm
  starting-is alarm start = (starting-exact.some alarm).1 start

  pub starting-none : IsNone (CanStart mode value filters) (notifications alarms) → starting mode value filters (reverse (notifications alarms)) ≡ None
  starting-none none = starting-exact.none.1 none

module _ (cursor : Cursor) (way : Direction) (filters : FilterSet) (alarms : List KeptAlarm) (rising : AreInOrder alarms) where
  pub next_alarm-exact : FollowsExactly cursor way filters alarms
  next_alarm-exact =
      found-exact way (CanFollow way cursor filters) alarms rising (next_alarm cursor way filters (reverse (notifications alarms))) (next_alarm-found cursor way filters (notifications alarms))

  pub next_alarm-is : (alarm : Notification) → IsNext cursor way filters (notifications alarms) alarm → next_alarm cursor way filters (reverse (notifications alarms)) ≡ Some alarm
  next_alarm-is alarm next = (next_alarm-exact.some alarm).1 next

  pub next_alarm-none : IsNone (CanFollow way cursor filters) (notifications alarms) → next_alarm cursor way filters (reverse (notifications alarms)) ≡ None
  next_alarm-none none = next_alarm-exact.none.1 none

-- The search that computes finds the nearest alarm, and there is one nearest at most.
use Rattle.std.proofs.Common.{◌≡◌, ℕ, ◌+◌, ◌≤◌, Bool, true, false, cond, inl, inr, List, [], ◌∷◌, refl, ap, sym, ◌∙◌, arith}
use Rattle.std.specs.Prelude.{Option, Some, None, MatchOption, Decides}
use Rattle.ntf_types.specs.declared.notification.Notification.{Notification}
use Rattle.client_set.specs.Members.{Stands}
use Rattle.alarm_view.specs.declared.mode.Direction.{Direction}
use Rattle.alarm_view.specs.declared.alarm.KeptAlarm.{KeptAlarm}
use Rattle.alarm_view.specs.Order.{point_of, comes_before}
use Rattle.alarm_view.specs.Alarms.{notifications, RiseFrom, AreInOrder}
use Rattle.alarm_view.specs.Nearest.{IsNearest, IsNone}
use Rattle.alarm_view.specs.Search.{nearer_of, first_with, first_in}
use Rattle.alarm_view.proofs.OrderLaws.{comes_before-self, comes_before-one_way, comes_before-not_between, comes_before-total}

module _ (way : Direction) (P : Notification → Type 0) (test : Notification → Bool) (decides : (alarm : Notification) → Decides (test alarm) (P alarm)) where
  -- what a search found, or that there is nothing to find
  abbrev pub IsFound : List Notification → Option Notification → Type 0
  IsFound alarms found = MatchOption found (IsNone P alarms) (IsNearest way P alarms)

  -- one alarm more that does not pass
  IsFound-other : (alarm : Notification) (alarms : List Notification) (found : Option Notification) → test alarm ≡ false → IsFound alarms found → IsFound (alarm ∷ alarms) found
  IsFound-other alarm alarms None fails none =
      λ other stands asked. elim stands [
        | inl same ↦ absurd (cc ((decides other).1 asked, ap test same, fails))
        | inr there ↦ none other there asked
      ]
  IsFound-other alarm alarms (Some first) fails found = record {
    stands = inr found.stands;
    asked = found.asked;
    nearest = λ other stands asked. elim stands [
      | inl same ↦ absurd (cc ((decides other).1 asked, ap test same, fails))
      | inr there ↦ found.nearest other there asked
    ];
  }

  -- the alarm is nearer than what was found so far
  IsNearest-new : (alarm first : Notification) (alarms : List Notification) → P alarm → comes_before way (point_of first) (point_of alarm) ≡ false → IsNearest way P alarms first → IsNearest way P (alarm ∷ alarms) alarm
  IsNearest-new alarm first alarms passes farther found = record {
    stands = inl refl;
    asked = passes;
    nearest = λ other stands asked. elim stands [
      | inl same ↦ ap (λ v. comes_before way (point_of v) (point_of alarm)) same ∙ comes_before-self way (point_of alarm)
      | inr there ↦ comes_before-not_between way (point_of other) (point_of first) (point_of alarm) (found.nearest other there asked) farther
    ];
  }

  -- what was found so far is nearer than the alarm
  IsNearest-kept : (alarm first : Notification) (alarms : List Notification) → comes_before way (point_of first) (point_of alarm) ≡ true → IsNearest way P alarms first → IsNearest way P (alarm ∷ alarms) first
  IsNearest-kept alarm first alarms nearer found = record {
    stands = inr found.stands;
    asked = found.asked;
    nearest = λ other stands asked. elim stands [
      | inl same ↦ ap (λ v. comes_before way (point_of v) (point_of first)) same ∙ comes_before-one_way way (point_of first) (point_of alarm) nearer
      | inr there ↦ found.nearest other there asked
    ];
  }

  IsFound-nearer : (alarm : Notification) (alarms : List Notification) (found : Option Notification) → P alarm → IsFound alarms found → IsNearest way P (alarm ∷ alarms) (nearer_of way alarm found)
  IsFound-nearer alarm alarms None passes none = record {
    stands = inl refl;
    asked = passes;
    nearest = λ other stands asked. elim stands [
      | inl same ↦ ap (λ v. comes_before way (point_of v) (point_of alarm)) same ∙ comes_before-self way (point_of alarm)
      | inr there ↦ absurd (none other there asked)
    ];
  }
  IsFound-nearer alarm alarms (Some first) passes found = chosen (comes_before way (point_of first) (point_of alarm)) refl where
    chosen : (nearer : Bool) → comes_before way (point_of first) (point_of alarm) ≡ nearer → IsNearest way P (alarm ∷ alarms) (cond nearer first alarm)
    chosen true is = IsNearest-kept alarm first alarms is found
    chosen false is = IsNearest-new alarm first alarms passes is found

  IsFound-with : (alarm : Notification) (alarms : List Notification) (found : Option Notification) → IsFound alarms found → IsFound (alarm ∷ alarms) (first_with way test alarm found)
  IsFound-with alarm alarms found is = chosen (test alarm) refl where
    chosen : (passes : Bool) → test alarm ≡ passes → IsFound (alarm ∷ alarms) (cond passes (Some (nearer_of way alarm found)) found)
    chosen true passes = IsFound-nearer alarm alarms found ((decides alarm).0 passes) is
    chosen false fails = IsFound-other alarm alarms found fails is

  -- the search finds the nearest alarm, and finds none exactly where none passes
  pub first_in-finds : (alarms : List Notification) → IsFound alarms (first_in way test alarms)
  first_in-finds [] = λ alarm stands asked. stands
  first_in-finds (alarm ∷ alarms) = IsFound-with alarm alarms (first_in way test alarms) (first_in-finds alarms)

-- the id of an alarm that stands among those from this id on
id-from : (number id : ℕ) (alarms : List KeptAlarm) (alarm : Notification) → RiseFrom number id alarms → Stands alarm (notifications alarms) → id ≤ alarm.id
id-from number id [] alarm rising stands = absurd stands
id-from number id (a ∷ alarms) alarm rising (inl same) =
    let e : alarm.id ≡ a.notification.id = ap (λ (v : Notification). v.id) same in
    omega (arith, e, rising.1)
id-from number id (a ∷ alarms) alarm rising (inr there) =
    let above = id-from (a.number + 1) (a.notification.id + 1) alarms alarm rising.3 there in
    omega (arith, above, rising.1)

-- kept alarms of one id are one
pub same_id-same : (number id : ℕ) (alarms : List KeptAlarm) → RiseFrom number id alarms → (one other : Notification) → Stands one (notifications alarms) → Stands other (notifications alarms) → one.id ≡ other.id → one ≡ other
same_id-same number id [] rising one other first second same = absurd first
same_id-same number id (a ∷ alarms) rising one other (inl first) (inl second) same = first ∙ sym second
same_id-same number id (a ∷ alarms) rising one other (inl first) (inr second) same =
    let above = id-from (a.number + 1) (a.notification.id + 1) alarms other rising.3 second in
    let e : one.id ≡ a.notification.id = ap (λ (v : Notification). v.id) first in
    absurd (omega (arith, above, e, same))
same_id-same number id (a ∷ alarms) rising one other (inr first) (inl second) same =
    let above = id-from (a.number + 1) (a.notification.id + 1) alarms one rising.3 first in
    let e : other.id ≡ a.notification.id = ap (λ (v : Notification). v.id) second in
    absurd (omega (arith, above, e, same))
same_id-same number id (a ∷ alarms) rising one other (inr first) (inr second) same =
    same_id-same (a.number + 1) (a.notification.id + 1) alarms rising.3 one other first second same

-- there is one nearest alarm at most
pub IsNearest-one : (way : Direction) (P : Notification → Type 0) (alarms : List KeptAlarm) → AreInOrder alarms → (one other : Notification) → IsNearest way P (notifications alarms) one → IsNearest way P (notifications alarms) other → one ≡ other
IsNearest-one way P alarms rising one other first second =
    let same = comes_before-total way (point_of one) (point_of other) (second.nearest one first.stands first.asked) (first.nearest other second.stands second.asked) in
    same_id-same 0 0 alarms rising one other first.stands second.stands same

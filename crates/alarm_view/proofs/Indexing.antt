-- The order goes with the alarms when one is added and when early ones are dropped.
use Rattle.std.proofs.Common.{◌≡◌, ℕ, ◌+◌, ◌<◌, ◌≤◌, nat_le, Bool, true, false, not, cond, inl, inr, List, [], ◌∷◌, ◌++◌, length, get_or, drop, refl, ap, sym, subst, ◌∙◌, arith}
use Rattle.std.specs.Prelude.{insert, ◌↔◌}
use Rattle.std.specs.List.{filter, prefix_len}
use Rattle.std.proofs.lemmas.Bool.Decides.{nat_tests}
use Rattle.std.proofs.lemmas.Int.{ints}
use Rattle.std.proofs.lemmas.List.{map-append}
use Rattle.ais_values.proofs.Basics.{one_more}
use Rattle.ntf_types.specs.declared.notification.Notification.{Notification}
use Rattle.client_set.specs.Members.{Stands}
use Rattle.client_set.proofs.MemberLaws.{Stands-append_left, Stands-append_right, Stands-append_cases}
use Rattle.alarm_view.specs.declared.alarm.KeptAlarm.{KeptAlarm}
use Rattle.alarm_view.specs.declared.place.Place.{Place}
use Rattle.alarm_view.specs.declared.place.Cut.{Cut}
use Rattle.alarm_view.specs.declared.place.Cut.TheVariants.{At}
use Rattle.alarm_view.specs.Order.{Point, is_older}
use Rattle.alarm_view.specs.Alarms.{RiseFrom, AreInOrder, IsAboveAll, CanAdd, kept_alarm, from_record}
use Rattle.alarm_view.specs.Inside.{place_of, places_of, point_in, place_first, IsIndexed, IsCutAt}
use Rattle.alarm_view.proofs.Keeping.{AreInOrder-added, AreInOrder-from_record}
use Rattle.alarm_view.proofs.Listing.{Stands-get_or, Stands-insert, Stands-inserted, IsRising-insert, Stands-filter, Stands-filtered, IsRising-filter, map-filter, Stands-mapped}

above-kept : (number id : ℕ) (alarms : List KeptAlarm) (kept : KeptAlarm) → IsAboveAll number id alarms → Stands kept alarms → kept.notification.id < id
above-kept number id [] kept above stands = absurd stands
above-kept number id (a ∷ alarms) kept above (inl same) =
    let e : kept.notification.id ≡ a.notification.id = ap (λ (x : KeptAlarm). x.notification.id) same in
    omega (arith, e, above.1)
above-kept number id (a ∷ alarms) kept above (inr there) = above-kept number id alarms kept above.2 there

-- of two points the one of the higher id is the younger, unless it is older
younger-beside : (one other : Point) → one.id < other.id → is_older one other ≡ false → is_older other one ≡ true
younger-beside one other below apart = grind (arith, ints, nat_tests)

module _ (alarms : List KeptAlarm) (order : List Place) (indexed : IsIndexed alarms order) (number : ℕ) (notification : Notification) (can : CanAdd number notification alarms) (at : ℕ) (within : at ≤ length order) (cut : IsCutAt (At notification.event_time notification.id) order at) where
  -- what stands from the cut on is younger than the new alarm
  younger-from : (k : ℕ) (d : Place) → at ≤ k → k < length order → place_first (place_of (kept_alarm number notification)) (get_or order k d) ≡ true
  younger-from k d from inside =
      let x = get_or order k d in
      let stood = Stands-mapped place_of x alarms ((indexed.listed x).0 (Stands-get_or order k d inside)) in
      let below = above-kept number notification.id alarms stood.0 can.above stood.1 in
      let same : x.id ≡ stood.0.notification.id = ap (λ (p : Place). p.id) stood.2 in
      younger-beside (point_in x) (point_in (place_of (kept_alarm number notification))) (omega (arith, below, same)) (cut.1 k d from inside)

  listed-added : (place : Place) → Stands place (insert order at (place_of (kept_alarm number notification))) ↔ Stands place (places_of (alarms ++ kept_alarm number notification ∷ []))
  listed-added place =
      let added = place_of (kept_alarm number notification) in
      let P : List Place → Type 0 = Stands place in
      let split : places_of (alarms ++ kept_alarm number notification ∷ []) ≡ places_of alarms ++ added ∷ [] = map-append place_of alarms (kept_alarm number notification ∷ []) in (
        λ there. subst P (sym split) (elim (Stands-insert place added order at within there) [
          | inl same ↦ Stands-append_right place (places_of alarms) (added ∷ []) (inl same)
          | inr stood ↦ Stands-append_left place (places_of alarms) (added ∷ []) ((indexed.listed place).0 stood)
        ]),
        λ there. Stands-inserted place added order at within (elim (Stands-append_cases place (places_of alarms) (added ∷ []) (subst P split there)) [
          | inl stood ↦ inr ((indexed.listed place).1 stood)
          | inr last ↦ elim last [ inl same ↦ inl same | inr nowhere ↦ absurd nowhere ]
        ]),
      )

  pub IsIndexed-added : IsIndexed (alarms ++ kept_alarm number notification ∷ []) (insert order at (place_of (kept_alarm number notification)))
  IsIndexed-added = record {
    in_order = AreInOrder-added number notification alarms indexed.in_order can;
    rising = IsRising-insert place_first (place_of (kept_alarm number notification)) order at indexed.rising within (λ k d below. cut.0 k d (omega arith) below) younger-from;
    listed = listed-added;
  }

-- the same, where what is added and what the order was are known by equations
pub order-added : (alarms : List KeptAlarm) (order seen : List Place) → IsIndexed alarms order → (number : ℕ) (notification : Notification) → CanAdd number notification alarms → (place : Place) → place ≡ place_of (kept_alarm number notification) → seen ≡ order → (at : ℕ) → at ≤ length seen → (cut : Cut) → cut ≡ At place.time place.id → IsCutAt cut seen at → (more : List KeptAlarm) (new : List Place) → more ≡ alarms ++ kept_alarm number notification ∷ [] → new ≡ insert order at place → IsIndexed more new
order-added alarms order seen indexed number notification can place is_place is_order at within cut is_cut below more new is_more is_new =
    let added = place_of (kept_alarm number notification) in
    let Within : List Place → Type 0 = λ xs. at ≤ length xs in
    let At_order : List Place → Type 0 = λ xs. IsCutAt cut xs at in
    let Of : Cut → Type 0 = λ x. IsCutAt x order at in
    let same : cut ≡ At notification.event_time notification.id = is_cut ∙ ap (λ (p : Place). At p.time p.id) is_place in
    let More : List KeptAlarm → Type 0 = λ xs. IsIndexed xs (insert order at added) in
    let New : List Place → Type 0 = IsIndexed more in
    let indexed_more : IsIndexed more (insert order at added) = subst More (sym is_more) (IsIndexed-added alarms order indexed number notification can at (subst Within is_order within) (subst Of same (subst At_order is_order below))) in
    subst New (sym (is_new ∙ ap (λ p. insert order at p) is_place)) indexed_more

-- alarms of early records stand in front

from-all : (number low id : ℕ) (alarms : List KeptAlarm) → RiseFrom low id alarms → number ≤ low → from_record number alarms ≡ alarms
from-all number low id [] rising below = refl
from-all number low id (a ∷ alarms) rising below =
    let passes : nat_le number a.number ≡ true = (let from = rising.0 in grind (arith, nat_tests)) in
    ap (λ b. cond b (a ∷ from_record number alarms) (from_record number alarms)) passes ∙ ap (λ xs. a ∷ xs) (from-all number (a.number + 1) (a.notification.id + 1) alarms rising.3 (let from = rising.0 in omega arith))

abbrev pub early : ℕ → List KeptAlarm → ℕ
early number alarms = prefix_len (λ (alarm : KeptAlarm). not (nat_le number alarm.number)) alarms

pub from-drop : (number low id : ℕ) (alarms : List KeptAlarm) → RiseFrom low id alarms → from_record number alarms ≡ drop (early number alarms) alarms
from-drop number low id [] rising = refl
from-drop number low id (a ∷ alarms) rising = by_test (nat_le number a.number) refl (from-drop number (a.number + 1) (a.notification.id + 1) alarms rising.3) where
  by_test : (b : Bool) → nat_le number a.number ≡ b → from_record number alarms ≡ drop (early number alarms) alarms → cond b (a ∷ from_record number alarms) (from_record number alarms) ≡ drop (cond (not b) (1 + early number alarms) 0) (a ∷ alarms)
  by_test true is rest =
      let from : number ≤ a.number = grind (arith, nat_tests) in
      ap (λ xs. a ∷ xs) (from-all number (a.number + 1) (a.notification.id + 1) alarms rising.3 (omega arith))
  by_test false is rest = rest ∙ ap (λ k. drop k (a ∷ alarms)) (sym (one_more (early number alarms)))

pub from_record-drop : (number : ℕ) (alarms : List KeptAlarm) → AreInOrder alarms → from_record number alarms ≡ drop (early number alarms) alarms
from_record-drop number alarms rising = from-drop number 0 0 alarms rising

-- no more alarms are early than there are
pub early-within : (number : ℕ) (alarms : List KeptAlarm) → early number alarms ≤ length alarms
early-within number [] = omega arith
early-within number (a ∷ alarms) = by_test (nat_le number a.number) (early-within number alarms) where
  by_test : (b : Bool) → early number alarms ≤ length alarms → cond (not b) (1 + early number alarms) 0 ≤ length (a ∷ alarms)
  by_test true rest = omega arith
  by_test false rest = omega (arith, rest)

module _ (alarms : List KeptAlarm) (order : List Place) (indexed : IsIndexed alarms order) (number : ℕ) where
  listed-dropped : (place : Place) → Stands place (filter (λ (p : Place). nat_le number p.number) order) ↔ Stands place (places_of (from_record number alarms))
  listed-dropped place =
      let test = λ (p : Place). nat_le number p.number in
      let P : List Place → Type 0 = Stands place in
      let left : places_of (from_record number alarms) ≡ filter test (places_of alarms) = map-filter place_of test alarms in (
        λ there. let stood = Stands-filter test place order there in subst P (sym left) (Stands-filtered test place (places_of alarms) ((indexed.listed place).0 stood.0) stood.1),
        λ there. let stood = Stands-filter test place (places_of alarms) (subst P left there) in Stands-filtered test place order ((indexed.listed place).1 stood.0) stood.1,
      )

  pub IsIndexed-dropped : IsIndexed (from_record number alarms) (filter (λ (p : Place). nat_le number p.number) order)
  IsIndexed-dropped = record {
    in_order = AreInOrder-from_record number alarms indexed.in_order;
    rising = IsRising-filter (λ (p : Place). nat_le number p.number) place_first order indexed.rising;
    listed = listed-dropped;
  }

-- the same by equations
pub order-dropped : (alarms : List KeptAlarm) (order : List Place) → IsIndexed alarms order → (number : ℕ) (left : List KeptAlarm) (new : List Place) → left ≡ from_record number alarms → new ≡ filter (λ (p : Place). nat_le number p.number) order → IsIndexed left new
order-dropped alarms order indexed number left new is_left is_new =
    let Left : List KeptAlarm → Type 0 = λ xs. IsIndexed xs (filter (λ (p : Place). nat_le number p.number) order) in
    let New : List Place → Type 0 = IsIndexed left in
    subst New (sym is_new) (subst Left (sym is_left) (IsIndexed-dropped alarms order indexed number))

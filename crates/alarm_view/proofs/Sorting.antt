-- Places that are put into order are the order of their alarms.
use Rattle.std.proofs.Common.{◌≡◌, ℕ, suc, ◌+◌, ◌<◌, ◌≤◌, ◌==◌, Bool, true, false, List, [], ◌∷◌, inl, inr, length, get_or, ap, sym, subst, ◌∙◌, arith}
use Rattle.std.specs.Prelude.{IsPermutation}
use Rattle.std.specs.List.{AllByRecursion, IsDistinct}
use Rattle.std.specs.List.Sorted.{IsSortedBy}
use Rattle.std.specs.Cmp.{IsStrictWeakOrder}
use Rattle.std.proofs.lemmas.Bool.Decides.{nat_tests}
use Rattle.std.proofs.lemmas.Int.{ints}
use Rattle.std.proofs.lemmas.List.Sorted.{IsPermutation-sym, Contains-permutation, sorted_far}
use Rattle.std.proofs.lemmas.Map.Keys.{IsDistinct-IsPermutation}
use Rattle.client_set.specs.Members.{Stands}
use Rattle.client_set.specs.Rising.{IsRising}
use Rattle.alarm_view.specs.declared.alarm.KeptAlarm.{KeptAlarm}
use Rattle.alarm_view.specs.declared.place.Place.{Place}
use Rattle.alarm_view.specs.Order.{Point, is_older}
use Rattle.alarm_view.specs.Alarms.{RiseFrom, AreInOrder}
use Rattle.alarm_view.specs.Inside.{place_of, places_of, point_in, place_first, IsIndexed}
use Rattle.alarm_view.proofs.Listing.{Stands-get_or, place-of, ComesFirst-each}
use Rattle.alarm_view.proofs.OrderLaws.{is_older-one_way, is_older-not_between}

pub place_first-order : IsStrictWeakOrder place_first
place_first-order = record {
  one_way = λ x y older. is_older-one_way (point_in x) (point_in y) older;
  chain = λ x y z first second. is_older-not_between (point_in x) (point_in y) (point_in z) first second;
}

-- what stands in a list stands in each permutation of it
Stands-permutation : {X : Type 0} (x : X) (xs ys : List X) → IsPermutation xs ys → Stands x xs → Stands x ys
Stands-permutation x xs ys same stands =
    let at = place-of x xs stands in
    let found = Contains-permutation xs ys x same (at.0, at.1, at.2 x) in
    subst (λ y. Stands y ys) found.2 (Stands-get_or ys found.0 x found.1)

-- no two alarms have one id
abbrev same_id : Place → Place → Bool
same_id one other = one.id == other.id

same_id-flips : (one other : Place) → same_id one other ≡ same_id other one
same_id-flips one other = grind (arith, nat_tests)

apart : (number id : ℕ) (alarms : List KeptAlarm) → RiseFrom number id alarms → (x : Place) → x.id < id → AllByRecursion (λ y. same_id x y ≡ false) (places_of alarms)
apart number id [] rising x below = tt
apart number id (a ∷ alarms) rising x below =
    let differs : (x.id == a.notification.id) ≡ false = (let from = rising.1 in grind (arith, nat_tests)) in
    (differs, apart (a.number + 1) (a.notification.id + 1) alarms rising.3 x (omega (arith, rising.1, below)))

distinct : (number id : ℕ) (alarms : List KeptAlarm) → RiseFrom number id alarms → IsDistinct same_id (places_of alarms)
unfolding IsDistinct
distinct number id [] rising = tt
distinct number id (a ∷ alarms) rising =
    (apart (a.number + 1) (a.notification.id + 1) alarms rising.3 (place_of a) (omega arith), distinct (a.number + 1) (a.notification.id + 1) alarms rising.3)

-- of two places with different ids one is the older
older-beside : (one other : Point) → is_older other one ≡ false → (one.id == other.id) ≡ false → is_older one other ≡ true
older-beside one other apart differ = grind (arith, ints, nat_tests)

each-apart : (x y : Place) (ys : List Place) → AllByRecursion (λ z. same_id x z ≡ false) ys → Stands y ys → same_id x y ≡ false
each-apart x y [] all stands = absurd stands
each-apart x y (z ∷ zs) all (inl same) = ap (same_id x) same ∙ all.0
each-apart x y (z ∷ zs) all (inr there) = each-apart x y zs all.1 there

-- places of which none is older than one before it rise
rising-sorted : (xs : List Place) → ((i j : ℕ) (d : Place) → i ≤ j → j < length xs → place_first (get_or xs j d) (get_or xs i d) ≡ false) → IsDistinct same_id xs → IsRising place_first xs
unfolding IsDistinct
rising-sorted [] far differ = tt
rising-sorted (x ∷ xs) far differ = (
  ComesFirst-each place_first x xs (λ y there.
      let at = place-of y xs there in
      let after : place_first y x ≡ false = ap (λ z. place_first z x) (sym (at.2 y)) ∙ far 0 (suc at.0) y (omega arith) (omega (arith, at.1)) in
      older-beside (point_in x) (point_in y) after (each-apart x y xs differ.0 there)),
  rising-sorted xs (λ i j d below within. far (suc i) (suc j) d (omega (arith, below)) (omega (arith, within))) differ.1,
)

pub IsIndexed-sorted : (alarms : List KeptAlarm) (places order : List Place) → AreInOrder alarms → places ≡ places_of alarms → IsPermutation places order → IsSortedBy place_first order → IsIndexed alarms order
IsIndexed-sorted alarms places order rising are same sorted =
    let mixed : IsPermutation (places_of alarms) order = subst (λ xs. IsPermutation xs order) are same in
    record {
      in_order = rising;
      rising = rising-sorted order (sorted_far place_first place_first-order order sorted) (IsDistinct-IsPermutation same_id same_id-flips (places_of alarms) order mixed (distinct 0 0 alarms rising));
      listed = λ place. (
        Stands-permutation place order (places_of alarms) (IsPermutation-sym (places_of alarms) order mixed),
        Stands-permutation place (places_of alarms) order mixed,
      );
    }

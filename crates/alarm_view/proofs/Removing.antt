-- The place of the only early alarm is the one at which the order is cut by that alarm.
use Rattle.std.proofs.Common.{◌≡◌, ℕ, zero, suc, ◌+◌, ◌<◌, nat_le, Bool, true, false, not, cond, inl, inr, List, [], ◌∷◌, length, get_or, drop, refl, ap, sym, subst, ◌∙◌, arith}
use Rattle.std.specs.List.{filter, remove}
use Rattle.std.proofs.lemmas.Bool.Decides.{nat_tests, leb_tells}
use Rattle.std.proofs.lemmas.Int.{ints}
use Rattle.client_set.specs.Members.{Stands}
use Rattle.alarm_view.specs.declared.alarm.KeptAlarm.{KeptAlarm}
use Rattle.alarm_view.specs.declared.place.Place.{Place}
use Rattle.alarm_view.specs.declared.place.Cut.{Cut}
use Rattle.alarm_view.specs.declared.place.Cut.TheVariants.{At}
use Rattle.alarm_view.specs.Order.{Point, is_older}
use Rattle.alarm_view.specs.Alarms.{RiseFrom, from_record}
use Rattle.alarm_view.specs.Inside.{place_of, point_in, place_first, IsIndexed, IsCutAt}
use Rattle.alarm_view.proofs.Indexing.{early, from-drop}
use Rattle.alarm_view.proofs.Listing.{Stands-get_or, place-of, rising-at, Stands-filter, Stands-mapped}

filter-whole : {X : Type 0} (test : X → Bool) (xs : List X) (d : X) → ((k : ℕ) → k < length xs → test (get_or xs k d) ≡ true) → filter test xs ≡ xs
filter-whole test [] d passes = refl
filter-whole test (x ∷ xs) d passes =
    ap (λ b. cond b (x ∷ filter test xs) (filter test xs)) (passes 0 (omega arith)) ∙ ap (λ l. x ∷ l) (filter-whole test xs d (λ k inside. passes (suc k) (omega arith)))

-- where all elements but one pass a test, those that pass are all but that one
pub filter-removes : {X : Type 0} (test : X → Bool) (xs : List X) (at : ℕ) (d : X) → at < length xs → ((k : ℕ) → k < length xs → (k ≡ at → ⊥) → test (get_or xs k d) ≡ true) → test (get_or xs at d) ≡ false → filter test xs ≡ remove xs at
filter-removes test [] at d within passes fails = absurd (omega arith)
filter-removes test (x ∷ xs) zero d within passes fails =
    ap (λ b. cond b (x ∷ filter test xs) (filter test xs)) fails ∙ filter-whole test xs d (λ k inside. passes (suc k) (omega arith) (λ same. absurd (omega arith)))
filter-removes test (x ∷ xs) (suc at) d within passes fails =
    ap (λ b. cond b (x ∷ filter test xs) (filter test xs)) (passes 0 (omega arith) (λ same. absurd (omega arith)))
    ∙ ap (λ l. x ∷ l) (filter-removes test xs at d (omega arith) (λ k inside other. passes (suc k) (omega arith) (λ same. other (omega arith))) fails)

-- no point is older than itself
older-self : (point : Point) → is_older point point ≡ true → ⊥
older-self point older = grind (arith, ints, nat_tests)

-- behind the only early alarm there is none
rest-late : (number low id : ℕ) (alarms : List KeptAlarm) (alarm : KeptAlarm) → RiseFrom low id alarms → early number alarms ≡ 0 → Stands alarm alarms → nat_le number alarm.number ≡ true
rest-late number low id alarms alarm rising none stands =
    let all : from_record number alarms ≡ alarms = from-drop number low id alarms rising ∙ ap (λ k. drop k alarms) none in
    (Stands-filter (λ (one : KeptAlarm). nat_le number one.number) alarm alarms (subst (Stands alarm) (sym all) stands)).1

first-early : (b : Bool) (more : ℕ) → cond (not b) (1 + more) 0 ≡ 1 → (b ≡ false) × (more ≡ 0)
first-early true more is = absurd (omega (arith, is))
first-early false more is = (refl, omega (arith, is))

module _ (first : KeptAlarm) (alarms : List KeptAlarm) (order : List Place) (indexed : IsIndexed (first ∷ alarms) order) (number : ℕ) (one : early number (first ∷ alarms) ≡ 1) (at : ℕ) (cut : IsCutAt (At first.notification.event_time first.notification.id) order at) where
  abbrev own : Place
  own = place_of first

  -- where the alarm's place stands
  found : (k : ℕ) × (k < length order) × ((d : Place) → get_or order k d ≡ own)
  found = place-of own order ((indexed.listed own).1 (inl refl))

  not-before : found.0 < at → ⊥
  not-before below =
      older-self (point_in own) (ap (λ (p : Place). is_older (point_in p) (point_in own)) (sym (found.2 own)) ∙ cut.0 found.0 own (omega arith) below)

  not-behind : at < found.0 → ⊥
  not-behind above =
      let older = rising-at place_first order at found.0 own indexed.rising above found.1 in
      let other = cut.1 at own (omega arith) (omega (arith, above, found.1)) in
      let same : true ≡ false = sym older ∙ ap (λ (p : Place). is_older (point_in (get_or order at own)) (point_in p)) (found.2 own) ∙ other in
      cc

  stands-at : at ≡ found.0
  stands-at = elim (leb_tells (suc found.0) at) [
    | inl below ↦ absurd (not-before below.1)
    | inr from ↦ elim (leb_tells (suc at) found.0) [ inl above ↦ absurd (not-behind above.1) | inr to ↦ (let one_way = from.1 in let other_way = to.1 in omega arith) ]
  ]

  pub place-within : at < length order
  place-within = let inside = found.1 in let same = stands-at in omega (arith, inside, same)

  own-at : get_or order at own ≡ own
  own-at = ap (λ k. get_or order k own) stands-at ∙ found.2 own

  -- no other place is the same
  apart : (k : ℕ) → k < length order → (k ≡ at → ⊥) → get_or order k own ≡ own → ⊥
  apart k within other same = elim (leb_tells (suc k) at) [
    | inl below ↦
        let older = rising-at place_first order k at own indexed.rising below.1 place-within in
        older-self (point_in own) (ap (λ (p : Place). is_older (point_in p) (point_in own)) (sym same) ∙ ap (λ (p : Place). is_older (point_in (get_or order k own)) (point_in p)) (sym own-at) ∙ older)
    | inr from ↦ elim (leb_tells (suc at) k) [
      | inl above ↦
          let older = rising-at place_first order at k own indexed.rising above.1 within in
          older-self (point_in own) (ap (λ (p : Place). is_older (point_in p) (point_in own)) (sym own-at) ∙ ap (λ (p : Place). is_older (point_in (get_or order at own)) (point_in p)) (sym same) ∙ older)
      | inr to ↦ (let one_way = from.1 in let other_way = to.1 in other (omega arith))
    ]
  ]

  others-late : (k : ℕ) → k < length order → (k ≡ at → ⊥) → nat_le number (get_or order k own).number ≡ true
  others-late k within other =
      let x = get_or order k own in
      elim ((indexed.listed x).0 (Stands-get_or order k own within)) [
        | inl same ↦ absurd (apart k within other same)
        | inr there ↦
            let stood = Stands-mapped place_of x alarms there in
            ap (λ (p : Place). nat_le number p.number) stood.2 ∙ rest-late number (first.number + 1) (first.notification.id + 1) alarms stood.0 indexed.in_order.3 (first-early (nat_le number first.number) (early number alarms) one).1 stood.1
      ]

  pub place-removed : filter (λ (place : Place). nat_le number place.number) order ≡ remove order at
  place-removed =
      let fails : nat_le number (get_or order at own).number ≡ false = ap (λ (p : Place). nat_le number p.number) own-at ∙ (first-early (nat_le number first.number) (early number alarms) one).0 in
      filter-removes (λ (place : Place). nat_le number place.number) order at own place-within others-late fails

-- the same of any alarms, by equations
pub removed : (alarms : List KeptAlarm) (order seen : List Place) → IsIndexed alarms order → (number : ℕ) → early number alarms ≡ 1 → (alarm : KeptAlarm) → alarm ≡ get_or alarms 0 alarm → (place : Place) → place ≡ place_of alarm → (cut : Cut) → cut ≡ At place.time place.id → seen ≡ order → (at : ℕ) → IsCutAt cut seen at → (at < length order) × (remove order at ≡ filter (λ (other : Place). nat_le number other.number) order)
removed [] order seen indexed number one alarm is_first place is_place cut is_cut is_order at below = absurd (omega (arith, one))
removed (first ∷ alarms) order seen indexed number one alarm is_first place is_place cut is_cut is_order at below =
    let same : cut ≡ At first.notification.event_time first.notification.id = is_cut ∙ ap (λ (p : Place). At p.time p.id) is_place ∙ ap (λ (a : KeptAlarm). At a.notification.event_time a.notification.id) is_first in
    let At_order : List Place → Type 0 = λ xs. IsCutAt cut xs at in
    let Of : Cut → Type 0 = λ x. IsCutAt x order at in
    let here = subst Of same (subst At_order is_order below) in
    (place-within first alarms order indexed number one at here, sym (place-removed first alarms order indexed number one at here))

-- What is told of the subscriptions that are kept.
use Rattle.std.proofs.Common.{◌≡◌, ℕ, ◌+◌, ◌≤◌, ◌<◌, suc, zero, Bool, true, false, ◌||◌, cond, List, [], ◌∷◌, ◌++◌, length, map, take, drop, refl, ap, sym, ◌∙◌, arith}
use Rattle.std.specs.Prelude.{Some, find, insert, option_map}
use Rattle.std.specs.List.{AllByRecursion, list_any, prefix_len}
use Rattle.std.proofs.lemmas.List.{map-append}
use Rattle.ntf_filters.specs.declared.filter.FilterSet.{FilterSet}
use Rattle.ntf_history.specs.Kept.{Subscription}
use Rattle.client_set.specs.Rising.{without}
use Rattle.ntf_service.specs.declared.subscription.Subscription.{Subscription as KeptSub}
use Rattle.ntf_service.specs.ByKind.{filters_of}
use Rattle.ntf_service.specs.Told.{KeptNtf, all_told, HasRoom, spare_in}
use Rattle.ntf_service.specs.Planning.{HoldsAt}

-- what is kept the same is the same table
pub same_table : {one other : KeptNtf} → one ≡ other → one.table ≡ other.table
same_table is = ap (λ (kept : KeptNtf). kept.table) is

-- what subscriptions ask for
abbrev pub filters_in : List Subscription → List FilterSet
filters_in subs = map (λ (kept : Subscription). kept.filters) subs

pub filters-told : (subs : List KeptSub) → filters_in (all_told subs) ≡ filters_of subs
filters-told [] = refl
filters-told (kept ∷ subs) = ap (λ sets. kept.filters ∷ sets) (filters-told subs)

pub kept-filters : (now were : List KeptSub) → filters_in (all_told now) ≡ filters_in (all_told were) → filters_of now ≡ filters_of were
kept-filters now were same = sym (filters-told now) ∙ same ∙ filters-told were

-- what is looked for among the images of elements

module _ {X Y : Type 0} (read : X → Y) where
  pub find-read : (test : Y → Bool) (xs : List X) → option_map read (find (λ x. test (read x)) xs) ≡ find test (map read xs)
  find-read test [] = refl
  find-read test (x ∷ xs) = at (test (read x)) (find-read test xs) where
    at : (b : Bool) → option_map read (find (λ y. test (read y)) xs) ≡ find test (map read xs) → option_map read (cond b (Some x) (find (λ y. test (read y)) xs)) ≡ cond b (Some (read x)) (find test (map read xs))
    at true rest = refl
    at false rest = rest

  pub any-read : (test : Y → Bool) (xs : List X) → list_any (λ x. test (read x)) xs ≡ list_any test (map read xs)
  any-read test [] = refl
  any-read test (x ∷ xs) = ap (λ b. test (read x) || b) (any-read test xs)

  pub prefix-read : (test : Y → Bool) (xs : List X) → prefix_len (λ x. test (read x)) xs ≡ prefix_len test (map read xs)
  prefix-read test [] = refl
  prefix-read test (x ∷ xs) = ap (λ n. cond (test (read x)) (1 + n) 0) (prefix-read test xs)

  pub without-read : (test : Y → Bool) (xs : List X) → map read (without (λ x. test (read x)) xs) ≡ without test (map read xs)
  without-read test [] = refl
  without-read test (x ∷ xs) = at (test (read x)) (without-read test xs) where
    at : (b : Bool) → map read (without (λ y. test (read y)) xs) ≡ without test (map read xs) → map read (cond b (without (λ y. test (read y)) xs) (x ∷ without (λ y. test (read y)) xs)) ≡ cond b (without test (map read xs)) (read x ∷ without test (map read xs))
    at true rest = rest
    at false rest = ap (λ ys. read x ∷ ys) rest

  pub each-read : (P : Y → Type 0) (xs : List X) → AllByRecursion (λ x. P (read x)) xs → AllByRecursion P (map read xs)
  each-read P [] each = tt
  each-read P (x ∷ xs) each = (each.0, each-read P xs each.1)

  pub read-each : (P : Y → Type 0) (xs : List X) → AllByRecursion P (map read xs) → AllByRecursion (λ x. P (read x)) xs
  read-each P [] each = tt
  read-each P (x ∷ xs) each = (each.0, read-each P xs each.1)

  take-read : (n : ℕ) (xs : List X) → map read (take n xs) ≡ take n (map read xs)
  take-read zero xs = refl
  take-read (suc n) [] = refl
  take-read (suc n) (x ∷ xs) = ap (λ ys. read x ∷ ys) (take-read n xs)

  drop-read : (n : ℕ) (xs : List X) → map read (drop n xs) ≡ drop n (map read xs)
  drop-read zero xs = refl
  drop-read (suc n) [] = refl
  drop-read (suc n) (x ∷ xs) = drop-read n xs

  pub insert-read : (xs : List X) (n : ℕ) (x : X) → map read (insert xs n x) ≡ insert (map read xs) n (read x)
  insert-read xs n x =
      map-append read (take n xs) (x ∷ drop n xs) ∙ ap (λ front. front ++ read x ∷ map read (drop n xs)) (take-read n xs) ∙ ap (λ back. take n (map read xs) ++ read x ∷ back) (drop-read n xs)

-- a fact of the elements from one place on

module _ {X : Type 0} (P : X → Type 0) where
  pub each-behind : (low high : ℕ) (xs : List X) → low ≤ high → AllByRecursion P (drop low xs) → AllByRecursion P (drop high xs)
  each-behind low zero [] below each = tt
  each-behind low (suc high) [] below each = tt
  each-behind zero zero (x ∷ xs) below each = each
  each-behind zero (suc high) (x ∷ xs) below each = each-behind zero high xs (omega arith) each.1
  each-behind (suc low) zero (x ∷ xs) below each = absurd (omega arith)
  each-behind (suc low) (suc high) (x ∷ xs) below each = each-behind low high xs (omega arith) each

  pub each-holds : (low place : ℕ) (xs : List X) → low ≤ place → place < length xs → AllByRecursion P (drop low xs) → HoldsAt P xs place
  each-holds low place [] below within each = absurd (omega arith)
  each-holds zero zero (x ∷ xs) below within each = each.0
  each-holds zero (suc place) (x ∷ xs) below within each = each-holds zero place xs (omega arith) (omega arith) each.1
  each-holds (suc low) zero (x ∷ xs) below within each = absurd (omega arith)
  each-holds (suc low) (suc place) (x ∷ xs) below within each = each-holds low place xs (omega arith) (omega arith) each

-- room for a send is room in each queue

pub rooms-each : (subs : List KeptSub) → 1 ≤ spare_in subs → AllByRecursion HasRoom subs
rooms-each [] room = tt
rooms-each (kept ∷ subs) room = (omega (arith, room), rooms-each subs (omega (arith, room)))

pub each-rooms : (subs : List KeptSub) → AllByRecursion HasRoom subs → 1 ≤ spare_in subs
each-rooms [] each = omega arith
each-rooms (kept ∷ subs) each = let rest = each-rooms subs each.1 in omega (arith, rest, each.0)

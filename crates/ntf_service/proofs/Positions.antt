-- The places of the elements that pass a test.
use Rattle.std.proofs.Common.{◌≡◌, ℕ, zero, suc, ◌<◌, ◌≤◌, Bool, true, false, cond, List, [], ◌∷◌, ◌++◌, length, map, take, get_or, refl, ap, sym, subst, ◌∙◌, arith}
use Rattle.std.proofs.Math.Seq.{take-suc}
use Rattle.std.proofs.lemmas.List.{length-map, length-take, length-take-le, map-append}
use Rattle.ntf_filters.specs.declared.filter.FilterSet.{FilterSet}
use Rattle.ntf_service.specs.declared.subscription.Subscription.{Subscription}
use Rattle.ntf_service.specs.ByKind.{positions, filters_of}
use Rattle.ntf_service.specs.Planning.{RiseBetween}

module _ {X : Type 0} (test : X → Bool) where
  pub length-positions : (xs : List X) → length (positions test xs) ≤ length xs
  length-positions [] = omega arith
  length-positions (x ∷ xs) = at (test x) (length-positions xs) where
    at : (b : Bool) → length (positions test xs) ≤ length xs → length (cond b (zero ∷ map suc (positions test xs)) (map suc (positions test xs))) ≤ length (x ∷ xs)
    at true rest = let same = length-map (positions test xs) suc in omega arith
    at false rest = let same = length-map (positions test xs) suc in omega arith

  -- one element more
  pub positions-more : (xs : List X) (x : X) → positions test (xs ++ x ∷ []) ≡ positions test xs ++ cond (test x) (length xs ∷ []) []
  positions-more [] x = at (test x) where
    at : (b : Bool) → cond b (zero ∷ map suc []) (map suc []) ≡ cond b (zero ∷ []) []
    at true = refl
    at false = refl
  positions-more (y ∷ ys) x = at (test y) (shifted (test x) (positions-more ys x)) where
    shifted : (b : Bool) → positions test (ys ++ x ∷ []) ≡ positions test ys ++ cond b (length ys ∷ []) [] → map suc (positions test (ys ++ x ∷ [])) ≡ map suc (positions test ys) ++ cond b (suc (length ys) ∷ []) []
    shifted true rest = ap (map suc) rest ∙ map-append suc (positions test ys) (length ys ∷ [])
    shifted false rest = ap (map suc) rest ∙ map-append suc (positions test ys) []

    at : (b : Bool) → map suc (positions test (ys ++ x ∷ [])) ≡ map suc (positions test ys) ++ cond (test x) (suc (length ys) ∷ []) [] → cond b (zero ∷ map suc (positions test (ys ++ x ∷ []))) (map suc (positions test (ys ++ x ∷ []))) ≡ cond b (zero ∷ map suc (positions test ys)) (map suc (positions test ys)) ++ cond (test x) (suc (length ys) ∷ []) []
    at true rest = ap (λ places. zero ∷ places) rest
    at false rest = rest

  rise-suc : (low high : ℕ) (places : List ℕ) → RiseBetween low high places → RiseBetween (suc low) (suc high) (map suc places)
  rise-suc low high [] rise = tt
  rise-suc low high (place ∷ places) rise =
      let from = rise.0 in
      let below = rise.1 in
      (omega arith, omega arith, rise-suc (suc place) high places rise.2)

  rise-lower : (low high : ℕ) (places : List ℕ) → RiseBetween (suc low) high places → RiseBetween low high places
  rise-lower low high [] rise = tt
  rise-lower low high (place ∷ places) rise = let from = rise.0 in (omega arith, rise.1, rise.2)

  pub positions-rise : (xs : List X) → RiseBetween 0 (length xs) (positions test xs)
  positions-rise [] = tt
  positions-rise (x ∷ xs) = at (test x) (rise-suc 0 (length xs) (positions test xs) (positions-rise xs)) where
    at : (b : Bool) → RiseBetween 1 (suc (length xs)) (map suc (positions test xs)) → RiseBetween 0 (length (x ∷ xs)) (cond b (zero ∷ map suc (positions test xs)) (map suc (positions test xs)))
    at true rest = (omega arith, omega arith, rest)
    at false rest = rise-lower 0 (suc (length xs)) (map suc (positions test xs)) rest

-- places by what is read of elements
pub positions-map : {X Y : Type 0} (test : Y → Bool) (read : X → Y) (xs : List X) → positions test (map read xs) ≡ positions (λ x. test (read x)) xs
positions-map test read [] = refl
positions-map test read (x ∷ xs) =
    ap (λ places. cond (test (read x)) (zero ∷ map suc places) (map suc places)) (positions-map test read xs)

-- the places among one subscription more
pub positions-next : (test : FilterSet → Bool) (subs : List Subscription) (place next : ℕ) (kept : Subscription) → kept ≡ get_or subs place kept → place < length subs → next ≡ suc place → positions test (filters_of (take next subs)) ≡ positions test (filters_of (take place subs)) ++ cond (test kept.filters) (place ∷ []) []
positions-next test subs place next kept is within follows =
    let front = take place subs in
    let filters = λ (sub : Subscription). sub.filters in
    let more : filters_of (take next subs) ≡ filters_of front ++ kept.filters ∷ [] = ap (λ k. filters_of (take k subs)) follows ∙ ap filters_of (take-suc subs place kept within) ∙ ap (λ k. filters_of (front ++ k ∷ [])) (sym is) ∙ map-append filters front (kept ∷ []) in
    let long : length (filters_of front) ≡ place = length-map front filters ∙ length-take-le place subs (omega (arith, within)) in
    ap (positions test) more ∙ positions-more test (filters_of front) kept.filters ∙ ap (λ k. positions test (filters_of front) ++ cond (test kept.filters) (k ∷ []) []) long

-- there are no more of them than subscriptions that were looked at
pub positions-fewer : (test : FilterSet → Bool) (subs : List Subscription) (place : ℕ) (places : List ℕ) → places ≡ positions test (filters_of (take place subs)) → length places ≤ place
positions-fewer test subs place places is =
    let front = take place subs in
    omega (arith, ap length is, length-positions test (filters_of front), length-map front (λ (sub : Subscription). sub.filters), length-take place subs)

-- the places that are kept for a type rise
pub kept-rise : (test : FilterSet → Bool) (subs shown : List Subscription) (places : List ℕ) → shown ≡ subs → places ≡ positions test (filters_of subs) → RiseBetween 0 (length shown) places
kept-rise test subs shown places same is =
    let all = positions-rise test (filters_of subs) in
    let long : length (filters_of subs) ≡ length shown = length-map subs (λ (sub : Subscription). sub.filters) ∙ ap length (sym same) in
    subst (λ n. RiseBetween 0 n places) long (subst (RiseBetween 0 (length (filters_of subs))) (sym is) all)

-- Where a subscription stands in the order, or belongs.
use Rattle.std.proofs.Common.{◌≡◌, ℕ, ◌+◌, ◌<◌, ◌≤◌, ◌==◌, Bool, true, false, not, ◌&&◌, cond, List, [], ◌∷◌, length, map, get_or, set, refl, ap, sym, subst, ◌∙◌, arith}
use Rattle.std.specs.Prelude.{Some, find, insert}
use Rattle.std.specs.List.{prefix_len}
use Rattle.std.proofs.lemmas.Bool.Decides.{nat_tests}
use Rattle.client_set.specs.Rising.{put, ComesFirst, IsRising}
use Rattle.ntf_history.specs.Kept.{Subscription}
use Rattle.ntf_history.specs.Subscriptions.{key_first}
use Rattle.ntf_history.specs.Tables.{is_kept_at, kept_first}
use Rattle.ntf_service.specs.State.{IsKeyAbove}
use Rattle.ais_values.proofs.Basics.{pair_same, one_more}

key_first-one_way : (c k d l : ℕ) → key_first c k d l ≡ true → key_first d l c k ≡ false
key_first-one_way c k d l first = grind (arith, nat_tests)

back : (c k d l : ℕ) → key_first c k d l ≡ true → (d == c && l == k) ≡ false
back c k d l first = grind (arith, nat_tests)

-- none of these is of the client and key
abbrev AreApart : ℕ → ℕ → List Subscription → Type 0
AreApart client key [] = Unit {0}
AreApart client key (x ∷ xs) = (is_kept_at client key x ≡ false) × AreApart client key xs

-- what stands behind a subscription of a client and key is not of these
later-apart : (client key : ℕ) (x : Subscription) (xs : List Subscription) → is_kept_at client key x ≡ true → ComesFirst kept_first x xs → AreApart client key xs
later-apart client key x [] at first = tt
later-apart client key x (y ∷ ys) at first =
    let is = pair_same x.client x.key client key at in
    let P : ℕ → Type 0 = λ c. key_first c x.key y.client y.key ≡ true in
    let Q : ℕ → Type 0 = λ k. key_first client k y.client y.key ≡ true in
    let before : key_first client key y.client y.key ≡ true = subst Q is.1 (subst P is.0 first.0) in
    (back client key y.client y.key before, later-apart client key x ys at first.1)

-- the place of the subscription of a client and key
abbrev pub place_in : ℕ → ℕ → List Subscription → ℕ
place_in client key xs = prefix_len (λ (x : Subscription). not (is_kept_at client key x)) xs

module _ (client key : ℕ) (change : Subscription → Subscription) (others : (x : Subscription) → is_kept_at client key x ≡ false → change x ≡ x) where
  map-apart : (xs : List Subscription) → AreApart client key xs → map change xs ≡ xs
  map-apart [] apart = refl
  map-apart (x ∷ xs) apart = ap (λ y. y ∷ map change xs) (others x apart.0) ∙ ap (λ ys. x ∷ ys) (map-apart xs apart.1)

  -- a change of the subscription of a client and key alone is a write at its place
  pub set-map : (xs : List Subscription) (d : Subscription) → IsRising kept_first xs → place_in client key xs < length xs → set xs (place_in client key xs) (change (get_or xs (place_in client key xs) d)) ≡ map change xs
  set-map [] d rising within = absurd (omega arith)
  set-map (x ∷ xs) d rising within = at (is_kept_at client key x) refl (set-map xs d rising.1) within where
    at : (b : Bool) → is_kept_at client key x ≡ b → (place_in client key xs < length xs → set xs (place_in client key xs) (change (get_or xs (place_in client key xs) d)) ≡ map change xs) → cond (not b) (1 + place_in client key xs) 0 < length (x ∷ xs) → set (x ∷ xs) (cond (not b) (1 + place_in client key xs) 0) (change (get_or (x ∷ xs) (cond (not b) (1 + place_in client key xs) 0) d)) ≡ map change (x ∷ xs)
    at true is rest within = ap (λ ys. change x ∷ ys) (sym (map-apart xs (later-apart client key x xs is rising.0)))
    at false is rest within =
        let n = place_in client key xs in
        ap (λ k. set (x ∷ xs) k (change (get_or (x ∷ xs) k d))) (one_more n) ∙ ap (λ ys. x ∷ ys) (rest (omega (arith, within))) ∙ ap (λ y. y ∷ map change xs) (sym (others x is))

  -- no write, where there is none
  pub map-absent : (xs : List Subscription) → length xs ≤ place_in client key xs → xs ≡ map change xs
  map-absent [] beyond = refl
  map-absent (x ∷ xs) beyond = at (is_kept_at client key x) refl (map-absent xs) beyond where
    at : (b : Bool) → is_kept_at client key x ≡ b → (length xs ≤ place_in client key xs → xs ≡ map change xs) → length (x ∷ xs) ≤ cond (not b) (1 + place_in client key xs) 0 → x ∷ xs ≡ map change (x ∷ xs)
    at true is rest beyond = absurd (omega (arith, beyond))
    at false is rest beyond =
        ap (λ ys. x ∷ ys) (rest (omega (arith, beyond))) ∙ ap (λ y. y ∷ map change xs) (sym (others x is))

-- what stands at the place is found
pub find-at : (client key : ℕ) (xs : List Subscription) (d : Subscription) → place_in client key xs < length xs → (find (is_kept_at client key) xs ≡ Some (get_or xs (place_in client key xs) d)) × (is_kept_at client key (get_or xs (place_in client key xs) d) ≡ true)
find-at client key [] d within = absurd (omega arith)
find-at client key (x ∷ xs) d within = at (is_kept_at client key x) refl (find-at client key xs d) within where
  at : (b : Bool) → is_kept_at client key x ≡ b → (place_in client key xs < length xs → (find (is_kept_at client key) xs ≡ Some (get_or xs (place_in client key xs) d)) × (is_kept_at client key (get_or xs (place_in client key xs) d) ≡ true)) → cond (not b) (1 + place_in client key xs) 0 < length (x ∷ xs) → (cond b (Some x) (find (is_kept_at client key) xs) ≡ Some (get_or (x ∷ xs) (cond (not b) (1 + place_in client key xs) 0) d)) × (is_kept_at client key (get_or (x ∷ xs) (cond (not b) (1 + place_in client key xs) 0) d) ≡ true)
  at true is rest within = (refl, is)
  at false is rest within =
      let n = place_in client key xs in
      let later = rest (omega (arith, within)) in
      let same : get_or xs n d ≡ get_or (x ∷ xs) (1 + n) d = ap (λ k. get_or (x ∷ xs) k d) (sym (one_more n)) in
      (later.0 ∙ ap (λ (y : Subscription). Some y) same, ap (λ y. is_kept_at client key y) (sym same) ∙ later.1)

-- a key above those of its client comes behind or before another
later_first : (c k d l : ℕ) → (c ≡ d → k < l) → key_first c k d l ≡ false → key_first d l c k ≡ true
later_first c k d l above after = clients (c == d) refl where
  clients : (same : Bool) → (c == d) ≡ same → key_first d l c k ≡ true
  clients true is =
      let e : c ≡ d = grind (arith, nat_tests) in
      let below = above e in
      grind (arith, nat_tests)
  clients false is = grind (arith, nat_tests)

abbrev pub place_before : ℕ → ℕ → List Subscription → ℕ
place_before client key xs = prefix_len (λ (x : Subscription). key_first x.client x.key client key) xs

pub within-before : (client key : ℕ) (xs : List Subscription) → place_before client key xs ≤ length xs
within-before client key [] = omega arith
within-before client key (x ∷ xs) = at (key_first x.client x.key client key) (within-before client key xs) where
  at : (b : Bool) → place_before client key xs ≤ length xs → cond b (1 + place_before client key xs) 0 ≤ length (x ∷ xs)
  at true rest = omega (arith, rest)
  at false rest = omega arith

-- a subscription of a new key belongs behind those that come before it
pub insert-put : (kept : Subscription) (xs : List Subscription) → IsKeyAbove kept.client kept.key xs → insert xs (place_before kept.client kept.key xs) kept ≡ put kept_first kept xs
insert-put kept [] above = refl
insert-put kept (x ∷ xs) above = at (key_first x.client x.key kept.client kept.key) refl (insert-put kept xs above.1) where
  at : (b : Bool) → key_first x.client x.key kept.client kept.key ≡ b → insert xs (place_before kept.client kept.key xs) kept ≡ put kept_first kept xs → insert (x ∷ xs) (cond b (1 + place_before kept.client kept.key xs) 0) kept ≡ cond (kept_first kept x) (kept ∷ x ∷ xs) (cond b (x ∷ put kept_first kept xs) (kept ∷ xs))
  at true is rest =
      let n = place_before kept.client kept.key xs in
      let after = key_first-one_way x.client x.key kept.client kept.key is in
      ap (λ k. insert (x ∷ xs) k kept) (one_more n) ∙ ap (λ ys. x ∷ ys) rest ∙ ap (λ b. cond b (kept ∷ x ∷ xs) (x ∷ put kept_first kept xs)) (sym after)
  at false is rest =
      let before = later_first x.client x.key kept.client kept.key above.0 is in
      ap (λ b. cond b (kept ∷ x ∷ xs) (kept ∷ xs)) (sym before)

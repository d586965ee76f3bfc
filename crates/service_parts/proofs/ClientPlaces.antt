-- Where an element stands, or belongs, in a list that rises by its client's number.
use Rattle.std.proofs.Common.{◌≡◌, ℕ, zero, suc, ◌+◌, ◌<◌, ◌≤◌, ◌==◌, nat_lt, Bool, true, false, cond, List, [], ◌∷◌, length, get_or, slice_get, ◌-◌, set, refl, ap, sym, ◌∙◌, arith}
use Rattle.std.specs.Prelude.{Some, None, is_some, find, insert}
use Rattle.std.specs.List.{prefix_len}
use Rattle.std.specs.List.Sorted.{IsNonDecreasingBy, IsPartitionPoint}
use Rattle.std.proofs.lemmas.Bool.{eqb-true}
use Rattle.std.proofs.lemmas.Bool.Decides.{nat_tests}
use Rattle.std.proofs.lemmas.List.{get_or_default}
use Rattle.std.proofs.lemmas.Option.{get_or_from_slice_get}
use Rattle.client_set.specs.Rising.{put, ComesFirst, IsRising}
use Rattle.client_set.proofs.RisingLaws.{IsOrder-nat_lt}
use Rattle.ais_values.proofs.Basics.{one_more}

below-apart : (x client : ℕ) → nat_lt x client ≡ true → (x == client) ≡ false
below-apart x client low = grind (arith, nat_tests)

above-from : (x client : ℕ) → nat_lt x client ≡ false → (x == client) ≡ false → nat_lt client x ≡ true
above-from x client low apart = grind (arith, nat_tests)

one-way : (x client : ℕ) → nat_lt x client ≡ true → nat_lt client x ≡ false
one-way x client low = grind (arith, nat_tests)

no-less : (x client : ℕ) → (x == client) ≡ true → nat_lt client x ≡ false
no-less x client same = grind (arith, nat_tests)

lt-le : (x y : ℕ) → nat_lt x y ≡ true → x ≤ y
lt-le x y low = grind (arith, nat_tests)

lt-apart : (x y : ℕ) → nat_lt x y ≡ true → (y == x) ≡ false
lt-apart x y low = grind (arith, nat_tests)

not-under : (x client : ℕ) → client ≤ x → nat_lt x client ≡ false
not-under x client above = grind (arith, nat_tests)

ge-le : (x client y : ℕ) → x ≡ client → x ≤ y → client ≤ y
ge-le x client y same order = omega (arith, same, order)

le-under : (x end last client : ℕ) → x ≤ end → end ≡ last → nat_lt last client ≡ true → nat_lt x client ≡ true
le-under x end last client order same less = grind (arith, nat_tests)

-- the point up to which a test holds
pub point-is : {X : Type 0} (test : X → Bool) (xs : List X) (i : ℕ) → i ≤ length xs → IsPartitionPoint (λ x. test x ≡ true) (λ x. test x ≡ false) xs i → i ≡ prefix_len test xs
point-is test [] i within point = omega arith
point-is test (x ∷ xs) zero within point =
    ap (λ b. cond b (1 + prefix_len test xs) 0) (sym (point.1 0 x (omega arith) (omega arith)))
point-is test (x ∷ xs) (suc i) within point =
    let rest = point-is test xs i (omega arith) (λ k d low high. point.0 (suc k) d (omega arith) (omega arith), λ k d low high. point.1 (suc k) d (omega arith) (omega arith)) in
    sym (one_more i) ∙ ap (λ n. 1 + n) rest ∙ ap (λ b. cond b (1 + prefix_len test xs) 0) (sym (point.0 0 x (omega arith) (omega arith)))

module _ {X : Type 0} (of : X → ℕ) where
  abbrev pub is_for : ℕ → X → Bool
  is_for client x = of x == client

  abbrev pub place_in : ℕ → List X → ℕ
  place_in client xs = prefix_len (λ x. nat_lt (of x) client) xs

  -- a list that rises never falls

  first-at : (x : X) (xs : List X) (j : ℕ) (d : X) → ComesFirst (λ x y. nat_lt (of x) (of y)) x xs → j < length xs → of x ≤ of (get_or xs j d)
  first-at x [] j d first within = absurd (omega arith)
  first-at x (y ∷ ys) zero d first within = lt-le (of x) (of y) first.0
  first-at x (y ∷ ys) (suc j) d first within = first-at x ys j d first.1 (omega arith)

  first-under : (x : X) (xs : List X) (j : ℕ) (d : X) → ComesFirst (λ x y. nat_lt (of x) (of y)) x xs → j < length xs → nat_lt (of x) (of (get_or xs j d)) ≡ true
  first-under x [] j d first within = absurd (omega arith)
  first-under x (y ∷ ys) zero d first within = first.0
  first-under x (y ∷ ys) (suc j) d first within = first-under x ys j d first.1 (omega arith)

  pub non-decreasing : (xs : List X) → IsRising (λ x y. nat_lt (of x) (of y)) xs → IsNonDecreasingBy of xs
  non-decreasing [] rising i j d order within = absurd (omega arith)
  non-decreasing (x ∷ xs) rising zero zero d order within = omega arith
  non-decreasing (x ∷ xs) rising zero (suc j) d order within = first-at x xs j d rising.0 (omega arith)
  non-decreasing (x ∷ xs) rising (suc i) zero d order within = absurd (omega arith)
  non-decreasing (x ∷ xs) rising (suc i) (suc j) d order within = non-decreasing xs rising.1 i j d (omega arith) (omega arith)

  -- a place at which the client's own stands, and one behind all

  rising-under : (xs : List X) → IsRising (λ x y. nat_lt (of x) (of y)) xs → (i j : ℕ) (d : X) → i < j → j < length xs → nat_lt (of (get_or xs i d)) (of (get_or xs j d)) ≡ true
  rising-under [] rising i j d order within = absurd (omega arith)
  rising-under (x ∷ xs) rising zero zero d order within = absurd (omega arith)
  rising-under (x ∷ xs) rising zero (suc j) d order within = first-under x xs j d rising.0 (omega arith)
  rising-under (x ∷ xs) rising (suc i) zero d order within = absurd (omega arith)
  rising-under (x ∷ xs) rising (suc i) (suc j) d order within = rising-under xs rising.1 i j d (omega arith) (omega arith)

  pub own-place : (client : ℕ) (xs : List X) (place : ℕ) (one : X) → IsRising (λ x y. nat_lt (of x) (of y)) xs → place < length xs → one ≡ get_or xs place one → is_for client one ≡ true → place ≡ place_in client xs
  own-place client xs place one rising within there own =
      let same : of one ≡ client = eqb-true (of one) client own in
      let here : (d : X) → of (get_or xs place d) ≡ client = λ d. ap of (get_or_default xs place d one within ∙ sym there) ∙ same in
      point-is (λ x. nat_lt (of x) client) xs place (omega arith) (
        λ k d low high. ap (λ n. nat_lt (of (get_or xs k d)) n) (sym (here d)) ∙ rising-under xs rising k place d high within,
        λ k d low high. not-under (of (get_or xs k d)) client (ge-le (of (get_or xs place d)) client (of (get_or xs k d)) (here d) (non-decreasing xs rising place k d low high)),
      )

  pub past-place : (client : ℕ) (xs : List X) (last : X) → IsRising (λ x y. nat_lt (of x) (of y)) xs → Some last ≡ slice_get xs (length xs - 1) → nat_lt (of last) client ≡ true → length xs ≡ place_in client xs
  past-place client [] last rising is less = refl
  past-place client (y ∷ ys) last rising is less =
      let xs = y ∷ ys in
      let end = length xs - 1 in
      let here : (d : X) → of (get_or xs end d) ≡ of last = λ d. ap of (get_or_from_slice_get xs end last d (sym is)) in
      point-is (λ x. nat_lt (of x) client) xs (length xs) (omega arith) (
        λ k d low high. le-under (of (get_or xs k d)) (of (get_or xs end d)) (of last) client (non-decreasing xs rising k end d (omega arith) (omega arith)) (here d) less,
        λ k d low high. absurd (omega arith),
      )

  pub within-place : (client : ℕ) (xs : List X) → place_in client xs ≤ length xs
  within-place client [] = omega arith
  within-place client (x ∷ xs) = at (nat_lt (of x) client) (within-place client xs) where
    at : (b : Bool) → place_in client xs ≤ length xs → cond b (1 + place_in client xs) 0 ≤ length (x ∷ xs)
    at true rest = omega (arith, rest)
    at false rest = omega arith

  -- what stands at the place is found, if it is the client's
  pub find-here : (client : ℕ) (xs : List X) (d : X) → place_in client xs < length xs → is_for client (get_or xs (place_in client xs) d) ≡ true → find (λ x. of x == client) xs ≡ Some (get_or xs (place_in client xs) d)
  find-here client [] d within own = absurd (omega arith)
  find-here client (x ∷ xs) d within own = at (nat_lt (of x) client) refl (find-here client xs d) within own where
    at : (b : Bool) → nat_lt (of x) client ≡ b → (place_in client xs < length xs → is_for client (get_or xs (place_in client xs) d) ≡ true → find (λ y. of y == client) xs ≡ Some (get_or xs (place_in client xs) d)) → cond b (1 + place_in client xs) 0 < length (x ∷ xs) → is_for client (get_or (x ∷ xs) (cond b (1 + place_in client xs) 0) d) ≡ true → cond (of x == client) (Some x) (find (λ y. of y == client) xs) ≡ Some (get_or (x ∷ xs) (cond b (1 + place_in client xs) 0) d)
    at true is rest within own =
        let n = place_in client xs in
        let same : get_or xs n d ≡ get_or (x ∷ xs) (1 + n) d = ap (λ k. get_or (x ∷ xs) k d) (sym (one_more n)) in
        ap (λ b. cond b (Some x) (find (λ y. of y == client) xs)) (below-apart (of x) client is)
        ∙ rest (omega (arith, within)) (ap (λ y. is_for client y) same ∙ own)
        ∙ ap (λ y. Some y) same
    at false is rest within own = ap (λ b. cond b (Some x) (find (λ y. of y == client) xs)) own

  -- behind one of a higher client there is none of the client
  behind-none : (client : ℕ) (x : X) (xs : List X) → nat_lt client (of x) ≡ true → ComesFirst (λ x y. nat_lt (of x) (of y)) x xs → find (λ y. of y == client) xs ≡ None
  behind-none client x [] high first = refl
  behind-none client x (y ∷ ys) high first =
      let apart : (of y == client) ≡ false = lt-apart client (of y) (IsOrder-nat_lt.onward client (of x) (of y) high first.0) in
      ap (λ b. cond b (Some y) (find (λ z. of z == client) ys)) apart ∙ behind-none client x ys high first.1

  pub find-none : (client : ℕ) (xs : List X) → IsRising (λ x y. nat_lt (of x) (of y)) xs → ((d : X) → place_in client xs < length xs → is_for client (get_or xs (place_in client xs) d) ≡ false) → find (λ y. of y == client) xs ≡ None
  find-none client [] rising other = refl
  find-none client (x ∷ xs) rising other = at (nat_lt (of x) client) refl (find-none client xs rising.1) other where
    at : (b : Bool) → nat_lt (of x) client ≡ b → (((d : X) → place_in client xs < length xs → is_for client (get_or xs (place_in client xs) d) ≡ false) → find (λ y. of y == client) xs ≡ None) → ((d : X) → cond b (1 + place_in client xs) 0 < length (x ∷ xs) → is_for client (get_or (x ∷ xs) (cond b (1 + place_in client xs) 0) d) ≡ false) → cond (of x == client) (Some x) (find (λ y. of y == client) xs) ≡ None
    at true is rest other =
        let n = place_in client xs in
        ap (λ b. cond b (Some x) (find (λ y. of y == client) xs)) (below-apart (of x) client is)
        ∙ rest (λ d within.
        let same : get_or xs n d ≡ get_or (x ∷ xs) (1 + n) d = ap (λ k. get_or (x ∷ xs) k d) (sym (one_more n)) in
        ap (λ y. is_for client y) same ∙ other d (omega (arith, within)))
    at false is rest other =
        let apart = other x (omega arith) in
        ap (λ b. cond b (Some x) (find (λ y. of y == client) xs)) apart
        ∙ behind-none client x xs (above-from (of x) client is apart) rising.0

  -- where one is found, it stands at the place
  pub known-place : (client : ℕ) (xs : List X) (d : X) → IsRising (λ x y. nat_lt (of x) (of y)) xs → is_some (find (λ x. of x == client) xs) ≡ true → (place_in client xs < length xs) × (is_for client (get_or xs (place_in client xs) d) ≡ true)
  known-place client [] d rising known = cc
  known-place client (x ∷ xs) d rising known =
      at (nat_lt (of x) client) (of x == client) refl refl known (known-place client xs d rising.1) where
        at : (low own : Bool) → nat_lt (of x) client ≡ low → (of x == client) ≡ own → is_some (cond own (Some x) (find (λ y. of y == client) xs)) ≡ true → (is_some (find (λ y. of y == client) xs) ≡ true → (place_in client xs < length xs) × (is_for client (get_or xs (place_in client xs) d) ≡ true)) → (cond low (1 + place_in client xs) 0 < length (x ∷ xs)) × (is_for client (get_or (x ∷ xs) (cond low (1 + place_in client xs) 0) d) ≡ true)
        at true true low own found rest = let e : true ≡ false = sym own ∙ below-apart (of x) client low in cc
        at true false low own found rest =
            let n = place_in client xs in
            let later = rest found in
            let same : get_or xs n d ≡ get_or (x ∷ xs) (1 + n) d = ap (λ k. get_or (x ∷ xs) k d) (sym (one_more n)) in
            (omega (arith, later.0), ap (λ y. is_for client y) (sym same) ∙ later.1)
        at false true low own found rest = (omega arith, own)
        at false false low own found rest =
            let none : find (λ y. of y == client) xs ≡ None = behind-none client x xs (above-from (of x) client low own) rising.0 in
            let e : false ≡ true = sym (ap is_some none) ∙ found in
            cc

  -- an element takes the part of the client's, or is put in between

  pub set-put : (new : X) (xs : List X) (d : X) → place_in (of new) xs < length xs → is_for (of new) (get_or xs (place_in (of new) xs) d) ≡ true → set xs (place_in (of new) xs) new ≡ put (λ x y. nat_lt (of x) (of y)) new xs
  set-put new [] d within own = absurd (omega arith)
  set-put new (x ∷ xs) d within own = at (nat_lt (of x) (of new)) refl (set-put new xs d) within own where
    behind : List X
    behind = put (λ x y. nat_lt (of x) (of y)) new xs

    at : (b : Bool) → nat_lt (of x) (of new) ≡ b → (place_in (of new) xs < length xs → is_for (of new) (get_or xs (place_in (of new) xs) d) ≡ true → set xs (place_in (of new) xs) new ≡ put (λ x y. nat_lt (of x) (of y)) new xs) → cond b (1 + place_in (of new) xs) 0 < length (x ∷ xs) → is_for (of new) (get_or (x ∷ xs) (cond b (1 + place_in (of new) xs) 0) d) ≡ true → set (x ∷ xs) (cond b (1 + place_in (of new) xs) 0) new ≡ cond (nat_lt (of new) (of x)) (new ∷ x ∷ xs) (cond b (x ∷ put (λ x y. nat_lt (of x) (of y)) new xs) (new ∷ xs))
    at true is rest within own =
        let n = place_in (of new) xs in
        let same : get_or xs n d ≡ get_or (x ∷ xs) (1 + n) d = ap (λ k. get_or (x ∷ xs) k d) (sym (one_more n)) in
        ap (λ k. set (x ∷ xs) k new) (one_more n)
        ∙ ap (λ ys. x ∷ ys) (rest (omega (arith, within)) (ap (λ y. is_for (of new) y) same ∙ own))
        ∙ ap (λ b. cond b (new ∷ x ∷ xs) (x ∷ put (λ x y. nat_lt (of x) (of y)) new xs)) (sym (one-way (of x) (of new) is))
    at false is rest within own = ap (λ b. cond b (new ∷ x ∷ xs) (new ∷ xs)) (sym (no-less (of x) (of new) own))

  apart-found : (client : ℕ) (x : X) (xs : List X) → cond (of x == client) (Some x) (find (λ y. of y == client) xs) ≡ None → ((of x == client) ≡ false) × (find (λ y. of y == client) xs ≡ None)
  apart-found client x xs none = at (of x == client) none where
    at : (b : Bool) → cond b (Some x) (find (λ y. of y == client) xs) ≡ None → (b ≡ false) × (find (λ y. of y == client) xs ≡ None)
    at true none = cc
    at false none = (refl, none)

  pub insert-put : (new : X) (xs : List X) → find (λ y. of y == of new) xs ≡ None → insert xs (place_in (of new) xs) new ≡ put (λ x y. nat_lt (of x) (of y)) new xs
  insert-put new [] none = refl
  insert-put new (x ∷ xs) none = at (nat_lt (of x) (of new)) refl (insert-put new xs) where
    at : (b : Bool) → nat_lt (of x) (of new) ≡ b → (find (λ y. of y == of new) xs ≡ None → insert xs (place_in (of new) xs) new ≡ put (λ x y. nat_lt (of x) (of y)) new xs) → insert (x ∷ xs) (cond b (1 + place_in (of new) xs) 0) new ≡ cond (nat_lt (of new) (of x)) (new ∷ x ∷ xs) (cond b (x ∷ put (λ x y. nat_lt (of x) (of y)) new xs) (new ∷ xs))
    at true is rest =
        let n = place_in (of new) xs in
        ap (λ k. insert (x ∷ xs) k new) (one_more n)
        ∙ ap (λ ys. x ∷ ys) (rest (apart-found (of new) x xs none).1)
        ∙ ap (λ b. cond b (new ∷ x ∷ xs) (x ∷ put (λ x y. nat_lt (of x) (of y)) new xs)) (sym (one-way (of x) (of new) is))
    at false is rest =
        ap (λ b. cond b (new ∷ x ∷ xs) (new ∷ xs)) (sym (above-from (of x) (of new) is (apart-found (of new) x xs none).0))

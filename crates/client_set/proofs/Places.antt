-- What a search in a rising list of numbers finds.
use Rattle.std.proofs.Common.{◌≡◌, ℕ, zero, suc, ◌<◌, ◌≤◌, ◌==◌, nat_lt, Bool, true, false, cond, ◌||◌, List, [], ◌∷◌, length, get_or, slice_get, ◌-◌, refl, ap, sym, subst, ◌∙◌, arith}
use Rattle.std.specs.Prelude.{Result, Ok, Err, Some, MatchResult, insert, remove}
use Rattle.std.proofs.lemmas.Bool.{ltb-true}
use Rattle.std.proofs.lemmas.Option.{get_or_from_slice_get}
use Rattle.std.proofs.lemmas.Bool.Decides.{nat_tests}
use Rattle.client_set.specs.Members.{has}
use Rattle.client_set.specs.Rising.{put, without, ComesFirst, IsRising}
use Rattle.client_set.proofs.RisingLaws.{IsOrder-nat_lt, IsRising-put, IsRising-without}
use Rattle.client_set.specs.Searching.{IsPlaceOf, IsPlaceFor}

-- a number that comes before all is below each
ComesFirst-at : (x : ℕ) (ys : List ℕ) (i : ℕ) → ComesFirst nat_lt x ys → i < length ys → nat_lt x (get_or ys i 0) ≡ true
ComesFirst-at x [] i first within = absurd (omega arith)
ComesFirst-at x (y ∷ ys) zero first within = first.0
ComesFirst-at x (y ∷ ys) (suc i) first within = ComesFirst-at x ys i first.1 (omega arith)

ComesFirst-below : (x y : ℕ) (ys : List ℕ) → x < y → ComesFirst nat_lt y ys → ComesFirst nat_lt x ys
ComesFirst-below x y [] below first = tt
ComesFirst-below x y (z ∷ zs) below first =
    let above : nat_lt y z ≡ true = first.0 in
    (grind (arith, nat_tests), ComesFirst-below x y zs below first.1)

-- a number that comes before all does not stand there
has-first : (x : ℕ) (ys : List ℕ) → ComesFirst nat_lt x ys → has x ys ≡ false
has-first x [] first = refl
has-first x (y ∷ ys) first =
    let below : nat_lt x y ≡ true = first.0 in
    let other : (y == x) ≡ false = grind (arith, nat_tests) in
    ap (λ b. b || has x ys) other ∙ has-first x ys first.1

without-first : (x : ℕ) (ys : List ℕ) → ComesFirst nat_lt x ys → without (λ other. other == x) ys ≡ ys
without-first x [] first = refl
without-first x (y ∷ ys) first =
    let below : nat_lt x y ≡ true = first.0 in
    let other : (y == x) ≡ false = grind (arith, nat_tests) in
    let rest = without (λ z. z == x) ys in
    ap (λ b. cond b rest (y ∷ rest)) other ∙ ap (λ zs. y ∷ zs) (without-first x ys first.1)

-- the tests of the first element against a number above it
after_first : (x y : ℕ) → y < x → (nat_lt x y ≡ false) × (nat_lt y x ≡ true) × ((y == x) ≡ false)
after_first x y below = (grind (arith, nat_tests), grind (arith, nat_tests), grind (arith, nat_tests))

put-later : (x y : ℕ) (ys : List ℕ) → y < x → put nat_lt x (y ∷ ys) ≡ y ∷ put nat_lt x ys
put-later x y ys below =
    let tests = after_first x y below in
    let later = y ∷ put nat_lt x ys in
    ap (λ b. cond b (x ∷ y ∷ ys) (cond (nat_lt y x) later (x ∷ ys))) tests.0 ∙ ap (λ b. cond b later (x ∷ ys)) tests.1

without-later : (x y : ℕ) (ys : List ℕ) → y < x → without (λ other. other == x) (y ∷ ys) ≡ y ∷ without (λ other. other == x) ys
without-later x y ys below =
    let rest = without (λ other. other == x) ys in
    ap (λ b. cond b rest (y ∷ rest)) (after_first x y below).2

has-later : (x y : ℕ) (ys : List ℕ) → y < x → has x (y ∷ ys) ≡ has x ys
has-later x y ys below = ap (λ b. b || has x ys) (after_first x y below).2

-- the number that stands at a place
pub is_place_of : (xs : List ℕ) (x i : ℕ) → IsRising nat_lt xs → i < length xs → get_or xs i 0 ≡ x → IsPlaceOf xs x i
is_place_of [] x i rising within is = absurd (omega arith)
is_place_of (y ∷ ys) x zero rising within is =
    let first = rising.0 in
    let below : nat_lt x y ≡ false = grind (arith, nat_tests) in
    let above : nat_lt y x ≡ false = grind (arith, nat_tests) in
    let same : (y == x) ≡ true = grind (arith, nat_tests) in
    let rest = without (λ other. other == x) ys in
    let P : ℕ → Type 0 = λ z. ComesFirst nat_lt z ys in
    let later : P x = subst P is first in
    record {
      within = within;
      stands = ap (λ b. b || has x ys) same;
      put = ap (λ b. cond b (x ∷ y ∷ ys) (cond (nat_lt y x) (y ∷ put nat_lt x ys) (x ∷ ys))) below ∙ ap (λ b. cond b (y ∷ put nat_lt x ys) (x ∷ ys)) above ∙ ap (λ z. z ∷ ys) (sym is);
      taken = ap (λ b. cond b rest (y ∷ rest)) same ∙ without-first x ys later;
    }
is_place_of (y ∷ ys) x (suc i) rising within is =
    let low : nat_lt y (get_or ys i 0) ≡ true = ComesFirst-at y ys i rising.0 (omega arith) in
    let below : y < x = grind (arith, nat_tests) in
    let rest = is_place_of ys x i rising.1 (omega arith) is in
    record {
      within = within;
      stands = has-later x y ys below ∙ rest.stands;
      put = put-later x y ys below ∙ ap (λ zs. y ∷ zs) rest.put;
      taken = without-later x y ys below ∙ ap (λ zs. y ∷ zs) rest.taken;
    }

-- the place before which all smaller numbers stand, and behind it all greater ones
pub is_place_for : (xs : List ℕ) (x i : ℕ) → IsRising nat_lt xs → i ≤ length xs → ((k : ℕ) → k < i → get_or xs k 0 < x) → ((k : ℕ) → i ≤ k → k < length xs → x < get_or xs k 0) → IsPlaceFor xs x i
is_place_for [] x zero rising within smaller greater = record { within = within; absent = refl; put = refl; taken = refl }
is_place_for [] x (suc i) rising within smaller greater = absurd (omega arith)
is_place_for (y ∷ ys) x zero rising within smaller greater =
    let above : x < y = greater 0 (omega arith) (omega arith) in
    let below : nat_lt x y ≡ true = grind (arith, nat_tests) in
    let all : ComesFirst nat_lt x (y ∷ ys) = (below, ComesFirst-below x y ys above rising.0) in
    record {
      within = within;
      absent = has-first x (y ∷ ys) all;
      put = ap (λ b. cond b (x ∷ y ∷ ys) (cond (nat_lt y x) (y ∷ put nat_lt x ys) (x ∷ ys))) below;
      taken = without-first x (y ∷ ys) all;
    }
is_place_for (y ∷ ys) x (suc i) rising within smaller greater =
    let below : y < x = smaller 0 (omega arith) in
    let rest = is_place_for ys x i rising.1 (omega arith) (λ k h. smaller (suc k) (omega arith)) (λ k h w. greater (suc k) (omega arith) (omega arith)) in
    record {
      within = within;
      absent = has-later x y ys below ∙ rest.absent;
      put = put-later x y ys below ∙ ap (λ zs. y ∷ zs) rest.put;
      taken = without-later x y ys below ∙ ap (λ zs. y ∷ zs) rest.taken;
    }

-- a rising list rises from each place to each later one
pub non_decreasing : (xs : List ℕ) → IsRising nat_lt xs → (i j : ℕ) → i ≤ j → j < length xs → get_or xs i 0 ≤ get_or xs j 0
non_decreasing [] rising i j order within = absurd (omega arith)
non_decreasing (x ∷ xs) rising zero zero order within = omega arith
non_decreasing (x ∷ xs) rising zero (suc j) order within =
    let low : nat_lt x (get_or xs j 0) ≡ true = ComesFirst-at x xs j rising.0 (omega arith) in
    grind (arith, nat_tests)
non_decreasing (x ∷ xs) rising (suc i) zero order within = absurd (omega arith)
non_decreasing (x ∷ xs) rising (suc i) (suc j) order within = non_decreasing xs rising.1 i j (omega arith) (omega arith)

-- a number above the last one belongs behind all
pub belongs_last : (xs : List ℕ) (x last : ℕ) → IsRising nat_lt xs → Some last ≡ slice_get xs (length xs - 1) → nat_lt last x ≡ true → IsPlaceFor xs x (length xs)
belongs_last [] x last rising is less = record { within = omega arith; absent = refl; put = refl; taken = refl }
belongs_last (y ∷ ys) x last rising is less =
    let xs = y ∷ ys in
    let end = length xs - 1 in
    let below : last < x = ltb-true last x less in
    let same : get_or xs end 0 ≡ last = get_or_from_slice_get xs end last 0 (sym is) in
    is_place_for xs x (length xs) rising (omega arith)
    (λ k within. let low = non_decreasing xs rising k end (omega arith) (omega arith) in omega arith)
    (λ k from within. absurd (omega arith))

-- what a search found, in the words of the set
pub found : (xs : List ℕ) (x : ℕ) (r : Result ℕ ℕ) → IsRising nat_lt xs → MatchResult r (λ i. (i < length xs) × (get_or xs i 0 ≡ x)) (λ i. (i ≤ length xs) × ((k : ℕ) → k < i → get_or xs k 0 < x) × ((k : ℕ) → i ≤ k → k < length xs → x < get_or xs k 0)) → MatchResult r (IsPlaceOf xs x) (IsPlaceFor xs x)
found xs x (Ok i) rising at = is_place_of xs x i rising at.0 at.1
found xs x (Err i) rising between = is_place_for xs x i rising between.0 between.1 between.2

-- a rising list rises after the number was put in, or not
pub IsRising-inserted : (xs seen new : List ℕ) (x i : ℕ) (done : Bool) → IsRising nat_lt xs → seen ≡ xs → IsPlaceFor seen x i → new ≡ cond done (insert xs i x) xs → IsRising nat_lt new
IsRising-inserted xs seen new x i done rising same place is =
    let P : List ℕ → Type 0 = λ ys. IsPlaceFor ys x i in
    let there : IsPlaceFor xs x i = subst P same place in
    let R : List ℕ → Type 0 = IsRising nat_lt in
    let put_in : R (insert xs i x) = subst R there.put (IsRising-put nat_lt IsOrder-nat_lt x xs rising) in
    let either : R (cond done (insert xs i x) xs) = elim done as (λ b. R (cond b (insert xs i x) xs)) [ true ↦ put_in | false ↦ rising ] in
    subst R (sym is) either

-- a rising list rises after the number was taken out
pub IsRising-removed : (xs seen new : List ℕ) (x i : ℕ) → IsRising nat_lt xs → seen ≡ xs → IsPlaceOf seen x i → new ≡ remove xs i → IsRising nat_lt new
IsRising-removed xs seen new x i rising same place is =
    let P : List ℕ → Type 0 = λ ys. IsPlaceOf ys x i in
    let there : IsPlaceOf xs x i = subst P same place in
    let R : List ℕ → Type 0 = IsRising nat_lt in
    subst R (there.taken ∙ sym is) (IsRising-without nat_lt (λ other. other == x) xs rising)

-- What putting an element in its place and taking elements out make of a rising list.
use Rattle.std.proofs.Common.{◌≡◌, ℕ, ◌==◌, nat_lt, Bool, true, false, not, ◌&&◌, ◌||◌, cond, ◌⊎◌, inl, inr, List, [], ◌∷◌, map, refl, ap, sym, ◌∙◌, arith}
use Rattle.std.specs.List.{list_any}
use Rattle.std.proofs.lemmas.Bool.Decides.{nat_tests}
use Rattle.client_set.specs.Members.{Stands, has}
use Rattle.client_set.specs.Rising.{put, without, ComesFirst, IsRising, IsOrder}

-- numbers are ordered by size
pub IsOrder-nat_lt : IsOrder nat_lt
IsOrder-nat_lt = record {
  self = λ x. grind (arith, nat_tests);
  onward = λ x y z below under. grind (arith, nat_tests);
  beside = λ x y z not_below not_above under. grind (arith, nat_tests);
}

module _ {X : Type 0} (before : X → X → Bool) (order : IsOrder before) where
  -- what comes before an element that comes before all comes before all
  ComesFirst-onward : (x y : X) (ys : List X) → before x y ≡ true → ComesFirst before y ys → ComesFirst before x ys
  ComesFirst-onward x y [] first rest = tt
  ComesFirst-onward x y (z ∷ zs) first rest = (order.onward x y z first rest.0, ComesFirst-onward x y zs first rest.1)

  -- what has the place of an element that comes before all comes before all
  ComesFirst-beside : (x y : X) (ys : List X) → before x y ≡ false → before y x ≡ false → ComesFirst before y ys → ComesFirst before x ys
  ComesFirst-beside x y [] one other rest = tt
  ComesFirst-beside x y (z ∷ zs) one other rest =
      (order.beside x y z one other rest.0, ComesFirst-beside x y zs one other rest.1)

  ComesFirst-put : (y x : X) (xs : List X) → before y x ≡ true → ComesFirst before y xs → ComesFirst before y (put before x xs)
  ComesFirst-put y x [] first rest = (first, tt)
  ComesFirst-put y x (z ∷ zs) first rest =
      elim (before x z) as (λ b. ComesFirst before y (cond b (x ∷ z ∷ zs) (cond (before z x) (z ∷ put before x zs) (x ∷ zs)))) [
        | true ↦ (first, (rest.0, rest.1))
        | false ↦ elim (before z x) as (λ b. ComesFirst before y (cond b (z ∷ put before x zs) (x ∷ zs))) [
          | true ↦ (rest.0, ComesFirst-put y x zs first rest.1)
          | false ↦ (first, rest.1)
        ]
      ]

  IsRising-placed : (x y : X) (ys : List X) → IsRising before (y ∷ ys) → IsRising before (put before x ys) → (below : Bool) → before x y ≡ below → (above : Bool) → before y x ≡ above → IsRising before (cond below (x ∷ y ∷ ys) (cond above (y ∷ put before x ys) (x ∷ ys)))
  IsRising-placed x y ys rising rest true is above was = ((is, ComesFirst-onward x y ys is rising.0), (rising.0, rising.1))
  IsRising-placed x y ys rising rest false is true was = (ComesFirst-put y x ys was rising.0, rest)
  IsRising-placed x y ys rising rest false is false was = (ComesFirst-beside x y ys is was rising.0, rising.1)

  -- an element that is put in its place leaves the list rising
  pub IsRising-put : (x : X) (xs : List X) → IsRising before xs → IsRising before (put before x xs)
  IsRising-put x [] rising = (tt, tt)
  IsRising-put x (y ∷ ys) rising =
      IsRising-placed x y ys rising (IsRising-put x ys rising.1) (before x y) refl (before y x) refl

module _ {X : Type 0} (before : X → X → Bool) (test : X → Bool) where
  ComesFirst-without : (x : X) (xs : List X) → ComesFirst before x xs → ComesFirst before x (without test xs)
  ComesFirst-without x [] first = tt
  ComesFirst-without x (y ∷ ys) first =
      elim (test y) as (λ b. ComesFirst before x (cond b (without test ys) (y ∷ without test ys))) [
        | true ↦ ComesFirst-without x ys first.1
        | false ↦ (first.0, ComesFirst-without x ys first.1)
      ]

  -- a rising list from which elements were taken rises
  pub IsRising-without : (xs : List X) → IsRising before xs → IsRising before (without test xs)
  IsRising-without [] rising = tt
  IsRising-without (x ∷ xs) rising =
      elim (test x) as (λ b. IsRising before (cond b (without test xs) (x ∷ without test xs))) [
        | true ↦ IsRising-without xs rising.1
        | false ↦ (ComesFirst-without x xs rising.0, IsRising-without xs rising.1)
      ]

or_other : (a b : Bool) (rest : Bool) → a ≡ b → (a || rest) ≡ (a || (b || rest))
or_other true true rest e = refl
or_other false false rest e = refl
or_other true false rest e = cc
or_other false true rest e = cc

or_past : (a b rest : Bool) → (b || (a || rest)) ≡ (a || (b || rest))
or_past true true rest = refl
or_past true false rest = refl
or_past false true rest = refl
or_past false false rest = refl

list_any-placed : {X : Type 0} (before : X → X → Bool) (test : X → Bool) → ((x y : X) → before x y ≡ false → before y x ≡ false → test x ≡ test y) → (x y : X) (ys : List X) → list_any test (put before x ys) ≡ (test x || list_any test ys) → (below : Bool) → before x y ≡ below → (above : Bool) → before y x ≡ above → list_any test (cond below (x ∷ y ∷ ys) (cond above (y ∷ put before x ys) (x ∷ ys))) ≡ (test x || (test y || list_any test ys))
list_any-placed before test alike x y ys rest true is above was = refl
list_any-placed before test alike x y ys rest false is true was =
    ap (λ more. test y || more) rest ∙ or_past (test x) (test y) (list_any test ys)
list_any-placed before test alike x y ys rest false is false was =
    or_other (test x) (test y) (list_any test ys) (alike x y is was)

-- after an element is put in its place, those that pass a test are that one and the ones before, where the test tells elements of one place alike
pub list_any-put : {X : Type 0} (before : X → X → Bool) (test : X → Bool) → ((x y : X) → before x y ≡ false → before y x ≡ false → test x ≡ test y) → (x : X) (xs : List X) → list_any test (put before x xs) ≡ (test x || list_any test xs)
list_any-put before test alike x [] = refl
list_any-put before test alike x (y ∷ ys) =
    list_any-placed before test alike x y ys (list_any-put before test alike x ys) (before x y) refl (before y x) refl

-- which numbers stand in a list of numbers
same_place : (number x y : ℕ) → nat_lt x y ≡ false → nat_lt y x ≡ false → (x == number) ≡ (y == number)
same_place number x y one other = ap (λ z. z == number) (grind (arith, nat_tests))

pub has-put : (number x : ℕ) (xs : List ℕ) → has number (put nat_lt x xs) ≡ (x == number || has number xs)
has-put number x xs = list_any-put nat_lt (λ other. other == number) (same_place number) x xs

-- the test of one number more among those that are left
left_more : (number x y : ℕ) (rest : Bool) (same : Bool) → (y == x) ≡ same → cond same (not (x == number) && rest) (y == number || (not (x == number) && rest)) ≡ (not (x == number) && (y == number || rest))
left_more number x y rest true is = grind (arith, nat_tests)
left_more number x y rest false is = grind (arith, nat_tests)

has-cond : (number y : ℕ) (ys : List ℕ) (same : Bool) → has number (cond same ys (y ∷ ys)) ≡ cond same (has number ys) (y == number || has number ys)
has-cond number y ys true = refl
has-cond number y ys false = refl

pub has-without : (number x : ℕ) (xs : List ℕ) → has number (without (λ other. other == x) xs) ≡ (not (x == number) && has number xs)
has-without number x [] = elim (not (x == number)) as (λ b. false ≡ (b && false)) [ true ↦ refl | false ↦ refl ]
has-without number x (y ∷ ys) =
    let rest = without (λ other. other == x) ys in
    has-cond number y rest (y == x) ∙ ap (λ b. cond (y == x) b (y == number || b)) (has-without number x ys) ∙ left_more number x y (has number ys) (y == x) refl

map-cond : {X Y : Type 0} (f : X → Y) (b : Bool) (one other : List X) → map f (cond b one other) ≡ cond b (map f one) (map f other)
map-cond f true one other = refl
map-cond f false one other = refl

-- a function that keeps the order maps what is put in its place to what is put in its place
pub map-put : {X Y : Type 0} (f : X → Y) (before : X → X → Bool) (after : Y → Y → Bool) → ((x y : X) → after (f x) (f y) ≡ before x y) → (x : X) (xs : List X) → map f (put before x xs) ≡ put after (f x) (map f xs)
map-put f before after same x [] = refl
map-put f before after same x (y ∷ ys) =
    let above = cond (after (f y) (f x)) (f y ∷ put after (f x) (map f ys)) (f x ∷ map f ys) in
    map-cond f (before x y) (x ∷ y ∷ ys) (cond (before y x) (y ∷ put before x ys) (x ∷ ys)) ∙ ap (λ rest. cond (before x y) (f x ∷ f y ∷ map f ys) rest) (map-cond f (before y x) (y ∷ put before x ys) (x ∷ ys) ∙ ap (λ rest. cond (before y x) (f y ∷ rest) (f x ∷ map f ys)) (map-put f before after same x ys) ∙ ap (λ b. cond b (f y ∷ put after (f x) (map f ys)) (f x ∷ map f ys)) (sym (same y x))) ∙ ap (λ b. cond b (f x ∷ f y ∷ map f ys) above) (sym (same x y))

-- a function that keeps the test maps what is left to what is left
pub map-without : {X Y : Type 0} (f : X → Y) (test : X → Bool) (other : Y → Bool) → ((x : X) → other (f x) ≡ test x) → (xs : List X) → map f (without test xs) ≡ without other (map f xs)
map-without f test other same [] = refl
map-without f test other same (x ∷ xs) =
    map-cond f (test x) (without test xs) (x ∷ without test xs) ∙ ap (λ rest. cond (test x) rest (f x ∷ rest)) (map-without f test other same xs) ∙ ap (λ b. cond b (without other (map f xs)) (f x ∷ without other (map f xs))) (sym (same x))

-- what stands in a list after an element was put in its place is that element or stood there
pub Stands-put : {X : Type 0} (before : X → X → Bool) (s x : X) (xs : List X) → Stands s (put before x xs) → (s ≡ x) ⊎ Stands s xs
Stands-put before s x [] stands = stands
Stands-put {X} before s x (y ∷ ys) stands = placed (before x y) (before y x) (Stands-put before s x ys) stands where
  placed : (below above : Bool) → (Stands s (put before x ys) → (s ≡ x) ⊎ Stands s ys) → Stands s (cond below (x ∷ y ∷ ys) (cond above (y ∷ put before x ys) (x ∷ ys))) → (s ≡ x) ⊎ Stands s (y ∷ ys)
  placed true above rest there = there
  placed false true rest (inl same) = inr (inl same)
  placed false true rest (inr there) = elim (rest there) [ inl same ↦ inl same | inr later ↦ inr (inr later) ]
  placed false false rest (inl same) = inl same
  placed false false rest (inr there) = inr (inr there)

pub Stands-without : {X : Type 0} (test : X → Bool) (s : X) (xs : List X) → Stands s (without test xs) → Stands s xs × (test s ≡ false)
Stands-without test s [] stands = absurd stands
Stands-without {X} test s (x ∷ xs) stands = left (test x) refl (Stands-without test s xs) stands where
  left : (passes : Bool) → test x ≡ passes → (Stands s (without test xs) → Stands s xs × (test s ≡ false)) → Stands s (cond passes (without test xs) (x ∷ without test xs)) → Stands s (x ∷ xs) × (test s ≡ false)
  left true is rest there = (inr (rest there).0, (rest there).1)
  left false is rest (inl same) = (inl same, ap test same ∙ is)
  left false is rest (inr there) = (inr (rest there).0, (rest there).1)

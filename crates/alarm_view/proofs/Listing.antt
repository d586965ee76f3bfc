-- Where elements stand in a list that rises, and what an insert and a filter make of it.
use Rattle.std.proofs.Common.{◌≡◌, ℕ, zero, suc, ◌<◌, ◌≤◌, Bool, true, false, cond, ◌⊎◌, inl, inr, List, [], ◌∷◌, length, map, get_or, refl, ap, sym, subst, ◌∙◌, arith}
use Rattle.std.specs.Prelude.{insert}
use Rattle.std.specs.List.{filter}
use Rattle.client_set.specs.Members.{Stands}
use Rattle.client_set.specs.Rising.{ComesFirst, IsRising}

module _ {X : Type 0} where
  pub Stands-get_or : (xs : List X) (k : ℕ) (d : X) → k < length xs → Stands (get_or xs k d) xs
  Stands-get_or [] k d within = absurd (omega arith)
  Stands-get_or (x ∷ xs) zero d within = inl refl
  Stands-get_or (x ∷ xs) (suc k) d within = inr (Stands-get_or xs k d (omega arith))

  -- what stands in a list stands at a place
  pub place-of : (x : X) (xs : List X) → Stands x xs → (k : ℕ) × (k < length xs) × ((d : X) → get_or xs k d ≡ x)
  place-of x [] stands = absurd stands
  place-of x (y ∷ ys) (inl same) = (0, omega arith, λ d. sym same)
  place-of x (y ∷ ys) (inr there) = let rest = place-of x ys there in (suc rest.0, omega (arith, rest.1), rest.2)

  -- what stands in a list after an insert is the new element or stood there

  pub Stands-inserted : (x y : X) (xs : List X) (i : ℕ) → i ≤ length xs → (x ≡ y) ⊎ Stands x xs → Stands x (insert xs i y)
  Stands-inserted x y xs zero within stands = stands
  Stands-inserted x y [] (suc i) within stands = absurd (omega arith)
  Stands-inserted x y (z ∷ zs) (suc i) within (inl same) = inr (Stands-inserted x y zs i (omega arith) (inl same))
  Stands-inserted x y (z ∷ zs) (suc i) within (inr (inl same)) = inl same
  Stands-inserted x y (z ∷ zs) (suc i) within (inr (inr there)) = inr (Stands-inserted x y zs i (omega arith) (inr there))

  pub Stands-insert : (x y : X) (xs : List X) (i : ℕ) → i ≤ length xs → Stands x (insert xs i y) → (x ≡ y) ⊎ Stands x xs
  Stands-insert x y xs zero within stands = stands
  Stands-insert x y [] (suc i) within stands = absurd (omega arith)
  Stands-insert x y (z ∷ zs) (suc i) within (inl same) = inr (inl same)
  Stands-insert x y (z ∷ zs) (suc i) within (inr there) = elim (Stands-insert x y zs i (omega arith) there) [
    | inl same ↦ inl same
    | inr stood ↦ inr (inr stood)
  ]

module _ {X : Type 0} (before : X → X → Bool) where
  first-at : (x : X) (xs : List X) (j : ℕ) (d : X) → ComesFirst before x xs → j < length xs → before x (get_or xs j d) ≡ true
  first-at x [] j d first within = absurd (omega arith)
  first-at x (y ∷ ys) zero d first within = first.0
  first-at x (y ∷ ys) (suc j) d first within = first-at x ys j d first.1 (omega arith)

  -- in a list that rises what stands at a place comes before what stands at a later one
  pub rising-at : (xs : List X) (i j : ℕ) (d : X) → IsRising before xs → i < j → j < length xs → before (get_or xs i d) (get_or xs j d) ≡ true
  rising-at [] i j d rising below within = absurd (omega arith)
  rising-at (x ∷ xs) zero zero d rising below within = absurd (omega arith)
  rising-at (x ∷ xs) zero (suc j) d rising below within = first-at x xs j d rising.0 (omega arith)
  rising-at (x ∷ xs) (suc i) zero d rising below within = absurd (omega arith)
  rising-at (x ∷ xs) (suc i) (suc j) d rising below within = rising-at xs i j d rising.1 (omega arith) (omega arith)

  pub ComesFirst-each : (x : X) (xs : List X) → ((y : X) → Stands y xs → before x y ≡ true) → ComesFirst before x xs
  ComesFirst-each x [] each = tt
  ComesFirst-each x (y ∷ ys) each = (each y (inl refl), ComesFirst-each x ys (λ z there. each z (inr there)))

  each-ComesFirst : (x : X) (xs : List X) → ComesFirst before x xs → (y : X) → Stands y xs → before x y ≡ true
  each-ComesFirst x [] first y stands = absurd stands
  each-ComesFirst x (z ∷ zs) first y (inl same) = ap (before x) same ∙ first.0
  each-ComesFirst x (z ∷ zs) first y (inr there) = each-ComesFirst x zs first.1 y there

  -- an element inserted behind those that come before it and in front of those that come after it leaves the list rising
  pub IsRising-insert : (x : X) (xs : List X) (i : ℕ) → IsRising before xs → i ≤ length xs → ((k : ℕ) (d : X) → k < i → before (get_or xs k d) x ≡ true) → ((k : ℕ) (d : X) → i ≤ k → k < length xs → before x (get_or xs k d) ≡ true) → IsRising before (insert xs i x)
  IsRising-insert x xs zero rising within low high =
      (ComesFirst-each x xs (λ y there. let at = place-of y xs there in ap (before x) (sym (at.2 y)) ∙ high at.0 y (omega arith) at.1), rising)
  IsRising-insert x [] (suc i) rising within low high = absurd (omega arith)
  IsRising-insert x (y ∷ ys) (suc i) rising within low high = (
    ComesFirst-each y (insert ys i x) (λ z there. elim (Stands-insert z x ys i (omega arith) there) [
      | inl same ↦ ap (before y) same ∙ low 0 y (omega arith)
      | inr stood ↦ each-ComesFirst y ys rising.0 z stood
    ]),
    IsRising-insert x ys i rising.1 (omega arith) (λ k d below. low (suc k) d (omega arith)) (λ k d from inside. high (suc k) d (omega arith) (omega arith)),
  )

module _ {X : Type 0} (test : X → Bool) where
  pub Stands-filtered : (x : X) (xs : List X) → Stands x xs → test x ≡ true → Stands x (filter test xs)
  Stands-filtered x [] stands passes = absurd stands
  Stands-filtered x (y ∷ ys) (inl same) passes =
      let P : Bool → Type 0 = λ b. Stands x (cond b (y ∷ filter test ys) (filter test ys)) in
      subst P (sym (ap test (sym same) ∙ passes)) (inl same)
  Stands-filtered x (y ∷ ys) (inr there) passes =
      let rest = Stands-filtered x ys there passes in
      elim (test y) as (λ b. Stands x (cond b (y ∷ filter test ys) (filter test ys))) [ true ↦ inr rest | false ↦ rest ]

  pub Stands-filter : (x : X) (xs : List X) → Stands x (filter test xs) → Stands x xs × (test x ≡ true)
  Stands-filter x [] stands = absurd stands
  Stands-filter x (y ∷ ys) stands = left (test y) refl (Stands-filter x ys) stands where
    left : (b : Bool) → test y ≡ b → (Stands x (filter test ys) → Stands x ys × (test x ≡ true)) → Stands x (cond b (y ∷ filter test ys) (filter test ys)) → Stands x (y ∷ ys) × (test x ≡ true)
    left true is rest (inl same) = (inl same, ap test same ∙ is)
    left true is rest (inr there) = (inr (rest there).0, (rest there).1)
    left false is rest there = (inr (rest there).0, (rest there).1)

  module _ (before : X → X → Bool) where
    pub IsRising-filter : (xs : List X) → IsRising before xs → IsRising before (filter test xs)
    IsRising-filter [] rising = tt
    IsRising-filter (x ∷ xs) rising =
        elim (test x) as (λ b. IsRising before (cond b (x ∷ filter test xs) (filter test xs))) [
          | true ↦ (ComesFirst-each before x (filter test xs) (λ y there. each-ComesFirst before x xs rising.0 y (Stands-filter y xs there).0), IsRising-filter xs rising.1)
          | false ↦ IsRising-filter xs rising.1
        ]

module _ {X Y : Type 0} (f : X → Y) (test : Y → Bool) where
  pub map-filter : (xs : List X) → map f (filter (λ x. test (f x)) xs) ≡ filter test (map f xs)
  map-filter [] = refl
  map-filter (x ∷ xs) = elim (test (f x)) as (λ b. map f (cond b (x ∷ filter (λ x. test (f x)) xs) (filter (λ x. test (f x)) xs)) ≡ cond b (f x ∷ filter test (map f xs)) (filter test (map f xs))) [
    | true ↦ ap (λ ys. f x ∷ ys) (map-filter xs)
    | false ↦ map-filter xs
  ]

module _ {X Y : Type 0} (f : X → Y) where
  pub Stands-map : (x : X) (xs : List X) → Stands x xs → Stands (f x) (map f xs)
  Stands-map x [] stands = absurd stands
  Stands-map x (y ∷ ys) (inl same) = inl (ap f same)
  Stands-map x (y ∷ ys) (inr there) = inr (Stands-map x ys there)

  -- what stands in a mapped list comes of an element
  pub Stands-mapped : (y : Y) (xs : List X) → Stands y (map f xs) → (x : X) × Stands x xs × (y ≡ f x)
  Stands-mapped y [] stands = absurd stands
  Stands-mapped y (x ∷ xs) (inl same) = (x, inl refl, same)
  Stands-mapped y (x ∷ xs) (inr there) = let rest = Stands-mapped y xs there in (rest.0, inr rest.1, rest.2)

-- Words of public clauses: lists whose elements stand in order, each at one place.
use Rattle.std.specs.Prelude.{◌≡◌, Bool, true, false, ⊤, if◌then◌else◌, List, [], ◌∷◌}

-- the element in its place; it takes the part of one that has the same place
abbrev pub put : {X : Type 0} → (X → X → Bool) → X → List X → List X
put before x [] = x ∷ []
put before x (y ∷ ys) =
    if before x y then x ∷ y ∷ ys else if before y x then y ∷ put before x ys else x ∷ ys

-- the list without the elements that pass the test
abbrev pub without : {X : Type 0} → (X → Bool) → List X → List X
without test [] = []
without test (x ∷ xs) = if test x then without test xs else x ∷ without test xs

-- the element comes before each of these
abbrev pub ComesFirst : {X : Type 0} → (X → X → Bool) → X → List X → Type 0
ComesFirst before x [] = ⊤
ComesFirst before x (y ∷ ys) = (before x y ≡ true) × ComesFirst before x ys

-- each element comes before all that stand behind it
abbrev pub IsRising : {X : Type 0} → (X → X → Bool) → List X → Type 0
IsRising before [] = ⊤
IsRising before (x ∷ xs) = ComesFirst before x xs × IsRising before xs

-- a test that tells an order of places: elements of which neither comes before the other have the same place
pub record IsOrder {X : Type 0} (before : X → X → Bool) : Type 0 where
  pub self : (x : X) → before x x ≡ false
  pub onward : (x y z : X) → before x y ≡ true → before y z ≡ true → before x z ≡ true
  pub beside : (x y z : X) → before x y ≡ false → before y x ≡ false → before y z ≡ true → before x z ≡ true

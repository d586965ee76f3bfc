-- Lists of which elements at some places are changed.
use Rattle.std.proofs.Common.{◌≡◌, ℕ, zero, suc, ◌<◌, ◌≤◌, Bool, true, false, cond, List, [], ◌∷◌, ◌++◌, length, map, take, get_or, refl, ap, sym, ◌∙◌, arith}
use Rattle.std.specs.List.{AllByRecursion}
use Rattle.client_set.specs.Edits.{change_at}
use Rattle.ntf_service.specs.Planning.{HoldsAt, RiseBetween}
use Rattle.ntf_service.specs.Offering.{change_each}
use Rattle.ntf_service.specs.ByKind.{positions}

module _ {X : Type 0} where
  pub holds-read : (P : X → Type 0) (xs : List X) (place : ℕ) (d : X) → place < length xs → P (get_or xs place d) → HoldsAt P xs place
  holds-read P [] place d within holds = absurd (omega arith)
  holds-read P (x ∷ xs) zero d within holds = holds
  holds-read P (x ∷ xs) (suc place) d within holds = holds-read P xs place d (omega arith) holds

  pub holds-within : (P : X → Type 0) (xs : List X) (place : ℕ) → HoldsAt P xs place → place < length xs
  holds-within P [] place holds = absurd holds
  holds-within P (x ∷ xs) zero holds = omega arith
  holds-within P (x ∷ xs) (suc place) holds = let rest = holds-within P xs place holds in omega arith

  pub read-holds : (P : X → Type 0) (xs : List X) (place : ℕ) (d : X) → HoldsAt P xs place → P (get_or xs place d)
  read-holds P [] place d holds = absurd holds
  read-holds P (x ∷ xs) zero d holds = holds
  read-holds P (x ∷ xs) (suc place) d holds = read-holds P xs place d holds

  pub holds-weaker : (P Q : X → Type 0) → ((x : X) → P x → Q x) → (xs : List X) (place : ℕ) → HoldsAt P xs place → HoldsAt Q xs place
  holds-weaker P Q gives [] place holds = absurd holds
  holds-weaker P Q gives (x ∷ xs) zero holds = gives x holds
  holds-weaker P Q gives (x ∷ xs) (suc place) holds = holds-weaker P Q gives xs place holds

  -- a change before a place leaves what stands there
  holds-behind_one : (P : X → Type 0) (change : X → X) (xs : List X) (other place : ℕ) → other < place → HoldsAt P xs place → HoldsAt P (change_at change xs other) place
  holds-behind_one P change [] other place before holds = absurd holds
  holds-behind_one P change (x ∷ xs) other zero before holds = absurd (omega arith)
  holds-behind_one P change (x ∷ xs) zero (suc place) before holds = holds
  holds-behind_one P change (x ∷ xs) (suc other) (suc place) before holds =
      holds-behind_one P change xs other place (omega arith) holds

  pub holds-behind : (P : X → Type 0) (change : X → X) (places : List ℕ) (xs : List X) (place : ℕ) → AllByRecursion (λ other. other < place) places → HoldsAt P xs place → HoldsAt P (change_each change places xs) place
  holds-behind P change [] xs place before holds = holds
  holds-behind P change (other ∷ places) xs place before holds =
      holds-behind P change places (change_at change xs other) place before.1 (holds-behind_one P change xs other place before.0 holds)

  -- two changes that are the same for what stands at the place
  pub change_at-same : (change other : X → X) (xs : List X) (place : ℕ) → HoldsAt (λ x. change x ≡ other x) xs place → change_at change xs place ≡ change_at other xs place
  change_at-same change other [] place same = absurd same
  change_at-same change other (x ∷ xs) zero same = ap (λ y. y ∷ xs) same
  change_at-same change other (x ∷ xs) (suc place) same = ap (λ ys. x ∷ ys) (change_at-same change other xs place same)

  -- a change of something that stays as it is
  pub change_at-none : (change : X → X) (xs : List X) (place : ℕ) → HoldsAt (λ x. change x ≡ x) xs place → change_at change xs place ≡ xs
  change_at-none change [] place same = absurd same
  change_at-none change (x ∷ xs) zero same = ap (λ y. y ∷ xs) same
  change_at-none change (x ∷ xs) (suc place) same = ap (λ ys. x ∷ ys) (change_at-none change xs place same)

  pub map-change_at : {Y : Type 0} (read : X → Y) (change : X → X) → ((x : X) → read (change x) ≡ read x) → (xs : List X) (place : ℕ) → map read (change_at change xs place) ≡ map read xs
  map-change_at read change same [] place = refl
  map-change_at read change same (x ∷ xs) zero = ap (λ y. y ∷ map read xs) (same x)
  map-change_at read change same (x ∷ xs) (suc place) = ap (λ ys. read x ∷ ys) (map-change_at read change same xs place)

  pub change_each-append : (change : X → X) (places more : List ℕ) (xs : List X) → change_each change (places ++ more) xs ≡ change_each change more (change_each change places xs)
  change_each-append change [] more xs = refl
  change_each-append change (place ∷ places) more xs = change_each-append change places more (change_at change xs place)

  change_each-suc : (change : X → X) (places : List ℕ) (x : X) (xs : List X) → change_each change (map suc places) (x ∷ xs) ≡ x ∷ change_each change places xs
  change_each-suc change [] x xs = refl
  change_each-suc change (place ∷ places) x xs = change_each-suc change places x (change_at change xs place)

  -- where only those that pass a test change, changes at their places are changes of all
  pub change_each-positions : (test : X → Bool) (change : X → X) → ((x : X) → test x ≡ false → change x ≡ x) → (xs : List X) → change_each change (positions test xs) xs ≡ map change xs
  change_each-positions test change others [] = refl
  change_each-positions test change others (x ∷ xs) = at (test x) refl (change_each-positions test change others xs) where
    at : (b : Bool) → test x ≡ b → change_each change (positions test xs) xs ≡ map change xs → change_each change (cond b (zero ∷ map suc (positions test xs)) (map suc (positions test xs))) (x ∷ xs) ≡ change x ∷ map change xs
    at true is rest = change_each-suc change (positions test xs) (change x) xs ∙ ap (λ ys. change x ∷ ys) rest
    at false is rest =
        change_each-suc change (positions test xs) x xs ∙ ap (λ ys. x ∷ ys) rest ∙ ap (λ y. y ∷ map change xs) (sym (others x is))

-- of places that rise, those before one are below it
pub rise-before : (low high : ℕ) (places : List ℕ) (index d : ℕ) → RiseBetween low high places → index < length places → AllByRecursion (λ other. other < get_or places index d) (take index places) × (low ≤ get_or places index d) × (get_or places index d < high)
rise-before low high [] index d rise within = absurd (omega arith)
rise-before low high (place ∷ places) zero d rise within = (tt, rise.0, rise.1)
rise-before low high (place ∷ places) (suc index) d rise within =
    let rest = rise-before (suc place) high places index d rise.2 (omega arith) in
    let from = rise.0 in
    let above = rest.1 in
    ((omega arith, rest.0), omega arith, rest.2)

pub rise-below : (high : ℕ) (places : List ℕ) (index d place : ℕ) → place ≡ get_or places index d → RiseBetween 0 high places → index < length places → place < high
rise-below high places index d place is rise within =
    let below = (rise-before 0 high places index d rise within).2 in
    omega (arith, is, below)

pub rise-each : (low high : ℕ) (places : List ℕ) → RiseBetween low high places → AllByRecursion (λ place. place < high) places
rise-each low high [] rise = tt
rise-each low high (place ∷ places) rise = (rise.1, rise-each (suc place) high places rise.2)

-- one place more behind the others
pub rise-more : (low high place : ℕ) (places : List ℕ) → low ≤ place → place < high → RiseBetween low place places → RiseBetween low high (places ++ place ∷ [])
rise-more low high place [] from below rise = (from, below, tt)
rise-more low high place (other ∷ places) from below rise =
    let above = rise.1 in
    (rise.0, omega arith, rise-more (suc other) high place places (omega arith) below rise.2)

-- Facts of options, results, numbers and lists that proofs of several crates cite, and std has not.
use Rattle.std.proofs.Common.{◌≡◌, ℕ, zero, suc, ◌+◌, ◌<◌, ◌==◌, Bool, true, false, ◌&&◌, Option, Some, None, is_some, is_none, List, [], ◌∷◌, ◌++◌, length, map, take, drop, get_or, set, refl, ap, sym, subst, ◌∙◌, arith}
use Rattle.std.specs.Prelude.{Result, Ok, Err, OnErr, slice_get, ℤ, pos, negsuc, ◌≤ℤ◌, unsigned_abs}
use Rattle.std.specs.List.{AllByRecursion}
use Rattle.std.proofs.Math.Dec.{T}
use Rattle.std.proofs.lemmas.Bool.Decides.{nat_tests}
use Rattle.std.proofs.lemmas.List.Edits.{map_over_more}

-- Options and results.

pub some_of : {A : Type 0} (o : Option A) → is_some o ≡ true → (x : A) × (o ≡ Some x)
some_of None e = absurd cc
some_of (Some x) e = (x, refl)

pub none_from : {A : Type 0} (o : Option A) → is_none o ≡ true → o ≡ None
none_from None is = refl
none_from (Some value) is = cc

pub OnErr-from : {T E : Type 0} {P : Type 0} (result : Result T E) → P → OnErr result P
OnErr-from (Ok value) holds = tt
OnErr-from (Err error) holds = holds

-- Tests and numbers.

pub true_from_T : (b : Bool) → T b → b ≡ true
true_from_T true h = refl
true_from_T false h = absurd h

pub eqb_self : (n : ℕ) → (n == n) ≡ true
eqb_self n = grind (arith, nat_tests)

pub pair_same : (a b c d : ℕ) → (a == c && b == d) ≡ true → (a ≡ c) × (b ≡ d)
pair_same a b c d same = (grind (arith, nat_tests), grind (arith, nat_tests))

pub one_more : (n : ℕ) → 1 + n ≡ suc n
one_more n = omega arith

pub pos-unsigned_abs : (z : ℤ) → pos 0 ≤ℤ z → pos (unsigned_abs z) ≡ z
pos-unsigned_abs (pos n) from = refl
pos-unsigned_abs (negsuc n) from = absurd from.le

-- Lists.

pub slice_get-append : {X : Type 0} (xs ys : List X) (index : ℕ) (x : X) → slice_get xs index ≡ Some x → slice_get (xs ++ ys) index ≡ Some x
slice_get-append [] ys index x is = cc
slice_get-append (y ∷ xs) ys zero x is = is
slice_get-append (y ∷ xs) ys (suc index) x is = slice_get-append xs ys index x is

-- a list in which one element more was mapped, in place
pub set-map_more : {X : Type 0} (f : X → X) (xs now : List X) (place : ℕ) (read new : X) → place < length xs → now ≡ map f (take place xs) ++ drop place xs → read ≡ get_or now place read → new ≡ f read → set now place new ≡ map f (take (place + 1) xs) ++ drop (place + 1) xs
set-map_more f xs now place read new within so_far is mapped =
    ap (set now place) mapped ∙ map_over_more f xs now place read within so_far is

pub map-map_back : {X Y : Type 0} (there : X → Y) (here : Y → X) (same : (x : X) → here (there x) ≡ x) (xs : List X) → map here (map there xs) ≡ xs
map-map_back there here same [] = refl
map-map_back there here same (x ∷ xs) =
    ap (λ y. y ∷ map here (map there xs)) (same x) ∙ ap (λ ys. x ∷ ys) (map-map_back there here same xs)

module _ {X : Type 0} (P : X → Type 0) where
  pub AllByRecursion-append : (xs ys : List X) → AllByRecursion P xs → AllByRecursion P ys → AllByRecursion P (xs ++ ys)
  AllByRecursion-append [] ys each more = more
  AllByRecursion-append (x ∷ xs) ys each more = (each.0, AllByRecursion-append xs ys each.1 more)

  pub AllByRecursion-at : (xs : List X) (n : ℕ) (x : X) → n < length xs → x ≡ get_or xs n x → AllByRecursion P xs → P x
  AllByRecursion-at [] n x within at each = absurd (omega arith)
  AllByRecursion-at (y ∷ xs) zero x within at each = subst P (sym at) each.0
  AllByRecursion-at (y ∷ xs) (suc n) x within at each = AllByRecursion-at xs n x (omega arith) at each.1

-- The first element that passes a test, by its place.
use Rattle.std.proofs.Common.{◌≡◌, ℕ, ◌+◌, ◌<◌, ◌≤◌, zero, suc, Bool, true, false, not, cond, ltb, List, [], ◌∷◌, ◌++◌, length, get_or, set, take, drop, map, append-nil, subst, refl, ap, sym, ◌∙◌, arith}
use Rattle.std.specs.Prelude.{Some, None}
use Rattle.std.proofs.Math.ListN.{drop_of_length-le}
use Rattle.std.proofs.lemmas.List.{take_all}
use Rattle.std.specs.List.{find, position, position_or_len}
use Rattle.std.proofs.lemmas.Bool.Decides.{nat_tests}
use Rattle.log_history.specs.Firsts.{change_first}

-- the place of the first one that passes
pub record IsFirst {X : Type 0} (test : X → Bool) (xs : List X) (place : ℕ) : Type 0 where
  pub within : place < length xs
  pub found : (d : X) → find test xs ≡ Some (get_or xs place d)
  pub changed : (change : X → X) (d : X) → change_first test change xs ≡ set xs place (change (get_or xs place d))

-- nothing passes
pub record IsNowhere {X : Type 0} (test : X → Bool) (xs : List X) : Type 0 where
  pub none : find test xs ≡ None
  pub unchanged : (change : X → X) → change_first test change xs ≡ xs

module _ {X : Type 0} (test : X → Bool) where
  first-at : (xs : List X) → position_or_len test xs < length xs → IsFirst test xs (position_or_len test xs)
  first-at [] within = absurd (omega arith)
  first-at (x ∷ xs) within =
      (elim (test x) as (λ b. test x ≡ b → cond (not b) (1 + position_or_len test xs) 0 < length (x ∷ xs) → IsFirst test (x ∷ xs) (cond (not b) (1 + position_or_len test xs) 0)) [
        | true ↦ λ is here. record {
          within = here;
          found = λ d. ap (λ b. cond b (Some x) (find test xs)) is;
          changed = λ change d. ap (λ b. cond b (change x ∷ xs) (x ∷ change_first test change xs)) is;
        }
        | false ↦ λ is here. let next : suc (position_or_len test xs) ≡ 1 + position_or_len test xs = omega arith in subst (λ (k : ℕ). IsFirst test (x ∷ xs) k) next (behind is (omega arith) (first-at xs (omega arith)))
      ]) refl within where
        behind : test x ≡ false → suc (position_or_len test xs) < length (x ∷ xs) → IsFirst test xs (position_or_len test xs) → IsFirst test (x ∷ xs) (suc (position_or_len test xs))
        behind is here rest = record {
          within = here;
          found = λ d. ap (λ b. cond b (Some x) (find test xs)) is ∙ rest.found d;
          changed = λ change d. ap (λ b. cond b (change x ∷ xs) (x ∷ change_first test change xs)) is ∙ ap (λ more. x ∷ more) (rest.changed change d);
        }

  nowhere : (xs : List X) → length xs ≤ position_or_len test xs → IsNowhere test xs
  nowhere [] past = record { none = refl; unchanged = λ change. refl }
  nowhere (x ∷ xs) past =
      (elim (test x) as (λ b. test x ≡ b → length (x ∷ xs) ≤ cond (not b) (1 + position_or_len test xs) 0 → IsNowhere test (x ∷ xs)) [
        | true ↦ λ is none. absurd (omega arith)
        | false ↦ λ is none. behind is (nowhere xs (omega arith))
      ]) refl past where
        behind : test x ≡ false → IsNowhere test xs → IsNowhere test (x ∷ xs)
        behind is rest = record {
          none = ap (λ b. cond b (Some x) (find test xs)) is ∙ rest.none;
          unchanged = λ change. ap (λ b. cond b (change x ∷ xs) (x ∷ change_first test change xs)) is ∙ ap (λ more. x ∷ more) (rest.unchanged change);
        }

  -- what `position` tells
  pub first-is : (xs : List X) (place : ℕ) → position test xs ≡ Some place → IsFirst test xs place
  first-is xs place is = by_case (ltb (position_or_len test xs) (length xs)) refl is where
    by_case : (b : Bool) → ltb (position_or_len test xs) (length xs) ≡ b → cond b (Some (position_or_len test xs)) None ≡ Some place → IsFirst test xs place
    by_case true below same =
        let e : position_or_len test xs ≡ place = cc in
        subst (λ (k : ℕ). IsFirst test xs k) e (first-at xs (grind (arith, nat_tests)))
    by_case false past same = absurd cc

  pub nowhere-is : (xs : List X) → position test xs ≡ None → IsNowhere test xs
  nowhere-is xs is = by_case (ltb (position_or_len test xs) (length xs)) refl is where
    by_case : (b : Bool) → ltb (position_or_len test xs) (length xs) ≡ b → cond b (Some (position_or_len test xs)) None ≡ None → IsNowhere test xs
    by_case true below same = absurd cc
    by_case false past same = nowhere xs (grind (arith, nat_tests))

  -- the one at the place changed
  pub changed-at : (xs : List X) (place : ℕ) (read new : X) (change : X → X) → IsFirst test xs place → read ≡ get_or xs place read → new ≡ change read → set xs place new ≡ change_first test change xs
  changed-at xs place read new change first is changes =
      ap (set xs place) (changes ∙ ap change is) ∙ sym (first.changed change read)

  pub found-at : (xs : List X) (place : ℕ) (read : X) → IsFirst test xs place → read ≡ get_or xs place read → find test xs ≡ Some read
  found-at xs place read first is = first.found read ∙ ap Some (sym is)

pub map-whole : {X : Type 0} (f : X → X) (xs now : List X) (place : ℕ) → length xs ≤ place → now ≡ map f (take place xs) ++ drop place xs → now ≡ map f xs
map-whole f xs now place past is =
    is ∙ ap (λ front. map f front ++ drop place xs) (take_all place xs past) ∙ ap (λ back. map f xs ++ back) (drop_of_length-le xs past) ∙ append-nil (map f xs)

-- within bounds what is read does not depend on what stands for nothing
pub read-same : {X : Type 0} (xs : List X) (at : ℕ) (d : X) → at < length xs → get_or xs at d ≡ get_or xs at (get_or xs at d)
read-same [] at d within = absurd (omega (arith, within))
read-same (x ∷ xs) zero d within = refl
read-same (x ∷ xs) (suc at) d within = read-same xs at d (omega (arith, within))

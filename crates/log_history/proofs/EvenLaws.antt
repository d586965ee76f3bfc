-- Of records of one size each file holds n.
use Rattle.std.proofs.Common.{◌≡◌, ℕ, zero, suc, ◌+◌, ◌-◌, ◌*◌, ◌/◌, ◌%◌, ◌<◌, ◌≤◌, ◌⊎◌, inl, inr, Bool, true, false, nat_le, cond, ◌∷◌, length, refl, sym, ap, subst, ◌∙◌, arith}
use Rattle.std.specs.Prelude.{replicate}
use Rattle.std.proofs.lemmas.Bool.{cases_lt, leb-true, leb-false}
use Rattle.std.proofs.lemmas.Nat.{div-add-mod', le-div}
use Rattle.std.proofs.Math.Nat.{mul-le-mul_right}
use Rattle.log_history.specs.Rounds.{rounds_on, rounds, RoundsBeginEvenly}
use Rattle.stream_layout.proofs.Rounds.{quotient}

-- one n more
one-more : (n m : ℕ) → 0 < n → (n + m) / n ≡ m / n + 1
one-more n m some =
    let whole : m / n * n + m % n ≡ m = div-add-mod' m n in
    quotient n (m / n + 1) (m % n) (n + m) (omega arith) (omega (arith, whole))

module _ (most size : ℕ) (some : 0 < size) (least : size ≤ most) where
  one : 1 ≤ most / size
  one = le-div 1 most size some (omega (arith, least))

  -- a record more has room where fewer than n stand
  room : (j : ℕ) → nat_le (j * size + size) most ≡ true → suc j ≤ most / size
  room j fits = le-div (suc j) most size some (let high = leb-true (j * size + size) most fits in omega (arith, high))

  no_room : (j : ℕ) → nat_le (j * size + size) most ≡ false → j ≤ most / size → j ≡ most / size
  no_room j over low =
      let high = leb-false (j * size + size) most over in
      let whole : most / size * size + most % size ≡ most = div-add-mod' most size in
      by_order (cases_lt j (most / size)) high whole low where
        by_order : (j < most / size) ⊎ (most / size ≤ j) → most < j * size + size → most / size * size + most % size ≡ most → j ≤ most / size → j ≡ most / size
        by_order (inl less) high whole low =
            absurd (let grown : suc j * size ≤ most / size * size = mul-le-mul_right size less in omega (arith, grown, high, whole))
        by_order (inr more) high whole low = omega (arith, more, low)

  -- files behind one with j records
  evenly : (count first j : ℕ) → j ≤ most / size → RoundsBeginEvenly (most / size) first (rounds_on most first (j * size) (first + j) (replicate count size))
  evenly zero first j low = (refl, tt)
  evenly (suc count) first j low = by_case (nat_le (j * size + size) most) refl (evenly count first (suc j)) (evenly count (first + j) 1 one) where
    by_case : (b : Bool) → nat_le (j * size + size) most ≡ b
        → (suc j ≤ most / size → RoundsBeginEvenly (most / size) first (rounds_on most first (suc j * size) (first + suc j) (replicate count size)))
        → RoundsBeginEvenly (most / size) (first + j) (rounds_on most (first + j) (1 * size) (first + j + 1) (replicate count size))
        → RoundsBeginEvenly (most / size) first (cond b (rounds_on most first (j * size + size) (suc (first + j)) (replicate count size))
        (record { first = first; bytes = j * size } ∷ rounds_on most (first + j) size (suc (first + j)) (replicate count size)))
    by_case true fits on off =
        let bytes : suc j * size ≡ j * size + size = omega arith in
        let number : first + suc j ≡ suc (first + j) = omega arith in
        subst (λ b. RoundsBeginEvenly (most / size) first (rounds_on most first b (suc (first + j)) (replicate count size))) bytes
        (subst (λ n. RoundsBeginEvenly (most / size) first (rounds_on most first (suc j * size) n (replicate count size))) number (on (room j fits)))
    by_case false over on off =
        let full : j ≡ most / size = no_room j over low in
        let bytes : 1 * size ≡ size = omega arith in
        let number : first + j + 1 ≡ suc (first + j) = omega arith in (
          refl,
          subst (λ f. RoundsBeginEvenly (most / size) f (rounds_on most (first + j) size (suc (first + j)) (replicate count size))) (ap (λ k. first + k) full)
              (subst (λ b. RoundsBeginEvenly (most / size) (first + j) (rounds_on most (first + j) b (suc (first + j)) (replicate count size))) bytes
              (subst (λ n. RoundsBeginEvenly (most / size) (first + j) (rounds_on most (first + j) (1 * size) n (replicate count size))) number off)),
        )

  -- how many
  counted : (count first j : ℕ) → j ≤ most / size
      → length (rounds_on most first (j * size) (first + j) (replicate count size)) ≡ (j + count - 1) / (most / size) + 1
  counted zero first j low =
      let none : (j + 0 - 1) / (most / size) ≡ 0 = quotient (most / size) 0 (j + 0 - 1) (j + 0 - 1) (let some_one = one in omega (arith, low, some_one)) (omega arith) in
      omega (arith, none)
  counted (suc count) first j low = by_case (nat_le (j * size + size) most) refl (counted count first (suc j)) (counted count (first + j) 1 one) where
    by_case : (b : Bool) → nat_le (j * size + size) most ≡ b
        → (suc j ≤ most / size → length (rounds_on most first (suc j * size) (first + suc j) (replicate count size)) ≡ (suc j + count - 1) / (most / size) + 1)
        → length (rounds_on most (first + j) (1 * size) (first + j + 1) (replicate count size)) ≡ (1 + count - 1) / (most / size) + 1
        → length (cond b (rounds_on most first (j * size + size) (suc (first + j)) (replicate count size))
        (record { first = first; bytes = j * size } ∷ rounds_on most (first + j) size (suc (first + j)) (replicate count size))) ≡ (j + suc count - 1) / (most / size) + 1
    by_case true fits on off =
        let bytes : j * size + size ≡ suc j * size = omega arith in
        let number : suc (first + j) ≡ first + suc j = omega arith in
        let same : suc j + count - 1 ≡ j + suc count - 1 = omega arith in
        ap (λ b. length (rounds_on most first b (suc (first + j)) (replicate count size))) bytes
        ∙ ap (λ n. length (rounds_on most first (suc j * size) n (replicate count size))) number
        ∙ on (room j fits) ∙ ap (λ m. m / (most / size) + 1) same
    by_case false over on off =
        let full : j ≡ most / size = no_room j over low in
        let bytes : size ≡ 1 * size = omega arith in
        let number : suc (first + j) ≡ first + j + 1 = omega arith in
        let rest : 1 + count - 1 ≡ count = omega arith in
        let whole : j + suc count - 1 ≡ most / size + count = omega (arith, full) in
        let inner : length (rounds_on most (first + j) size (suc (first + j)) (replicate count size)) ≡ count / (most / size) + 1 =
        ap (λ b. length (rounds_on most (first + j) b (suc (first + j)) (replicate count size))) bytes
        ∙ ap (λ n. length (rounds_on most (first + j) (1 * size) n (replicate count size))) number
        ∙ off ∙ ap (λ m. m / (most / size) + 1) rest in
        ap suc inner
        ∙ (let e : suc (count / (most / size) + 1) ≡ count / (most / size) + 1 + 1 = omega arith in e)
        ∙ ap (λ m. m + 1) (sym (one-more (most / size) count (let some_one = one in omega (arith, some_one))))
        ∙ ap (λ m. m / (most / size) + 1) (sym whole)

-- **each file begins n records behind the one before**
pub even-form : (most size count : ℕ) → 0 < size → size ≤ most → RoundsBeginEvenly (most / size) 0 (rounds most (replicate count size))
even-form most size count some least =
    subst (λ b. RoundsBeginEvenly (most / size) 0 (rounds_on most 0 b 0 (replicate count size))) (let e : 0 * size ≡ 0 = omega arith in e)
    (evenly most size some least count 0 0 (omega arith))

pub count-form : (most size count : ℕ) → 0 < size → size ≤ most → length (rounds most (replicate count size)) ≡ (count - 1) / (most / size) + 1
count-form most size count some least =
    ap (λ b. length (rounds_on most 0 b 0 (replicate count size))) (let e : 0 ≡ 0 * size = omega arith in e)
    ∙ counted most size some least count 0 0 (omega arith)
    ∙ ap (λ m. (m - 1) / (most / size) + 1) (let e : 0 + count ≡ count = omega arith in e)

-- The files of records by their lengths have the closed form, and one more record is a step.
use Rattle.std.proofs.Common.{◌≡◌, ℕ, zero, suc, ◌+◌, ◌-◌, ◌<◌, ◌≤◌, ◌⊎◌, Bool, true, false, nat_le, cond, List, [], ◌∷◌, ◌++◌, length, take, drop, refl, sym, ap, subst, ◌∙◌, inl, inr, arith, length-drop}
use Rattle.std.specs.Prelude.{Some, option_map, slice_get}
use Rattle.std.specs.List.{All, sum}
use Rattle.std.proofs.lemmas.Bool.{cases_lt, leb-true, leb-false}
use Rattle.std.proofs.lemmas.List.{drop-drop}
use Rattle.std.proofs.lemmas.List.Elements.{All-head, All-tail}
use Rattle.std.proofs.lemmas.List.Sums.{sum_by_push}
use Rattle.log_history.specs.Rounds.{Round, rounds_on, rounds, round_pushed, total, IsNextFirst, AreRounds}

-- one more record is added to the last file, or begins the next

pushed-on : (most first bytes : ℕ) (round : Round) (number len : ℕ) (rounds : List Round) → 0 < length rounds
    → round ∷ round_pushed most number len rounds ≡ round_pushed most number len (round ∷ rounds)
pushed-on most first bytes round number len [] some = absurd (omega arith)
pushed-on most first bytes round number len (next ∷ more) some = refl

pub some-rounds : (most first bytes number : ℕ) (lens : List ℕ) → 0 < length (rounds_on most first bytes number lens)
some-rounds most first bytes number [] = omega arith
some-rounds most first bytes number (len ∷ lens) =
    elim (nat_le (bytes + len) most) as (λ b. 0 < length (cond b (rounds_on most first (bytes + len) (suc number) lens)
    (record { first = first; bytes = bytes } ∷ rounds_on most number len (suc number) lens))) [
      | true ↦ some-rounds most first (bytes + len) (suc number) lens
      | false ↦ omega arith
    ]

-- the first file begins with the first record
pub start-form : (most first bytes number : ℕ) (lens : List ℕ) → option_map (λ (round : Round). round.first) (slice_get (rounds_on most first bytes number lens) 0) ≡ Some first
start-form most first bytes number [] = refl
start-form most first bytes number (len ∷ lens) =
    elim (nat_le (bytes + len) most) as (λ b. option_map (λ (round : Round). round.first) (slice_get (cond b (rounds_on most first (bytes + len) (suc number) lens)
    (record { first = first; bytes = bytes } ∷ rounds_on most number len (suc number) lens)) 0) ≡ Some first) [
      | true ↦ start-form most first (bytes + len) (suc number) lens
      | false ↦ refl
    ]

pub rounds-push : (most first bytes number : ℕ) (lens : List ℕ) (len : ℕ)
    → rounds_on most first bytes number (lens ++ len ∷ []) ≡ round_pushed most (number + length lens) len (rounds_on most first bytes number lens)
rounds-push most first bytes number [] len =
    let same : number ≡ number + 0 = omega arith in
    ap (λ n. cond (nat_le (bytes + len) most) (record { first = first; bytes = bytes + len } ∷ [])
    (record { first = first; bytes = bytes } ∷ record { first = n; bytes = len } ∷ [])) same
rounds-push most first bytes number (one ∷ lens) len =
    let place : suc number + length lens ≡ number + suc (length lens) = omega arith in
    let here : Round = record { first = first; bytes = bytes } in
    elim (nat_le (bytes + one) most) as (λ b.
    cond b (rounds_on most first (bytes + one) (suc number) (lens ++ len ∷ [])) (here ∷ rounds_on most number one (suc number) (lens ++ len ∷ []))
    ≡ round_pushed most (number + suc (length lens)) len (cond b (rounds_on most first (bytes + one) (suc number) lens) (here ∷ rounds_on most number one (suc number) lens))) [
      | true ↦
          rounds-push most first (bytes + one) (suc number) lens len
          ∙ ap (λ n. round_pushed most n len (rounds_on most first (bytes + one) (suc number) lens)) place
      | false ↦
          ap (λ rs. here ∷ rs) (rounds-push most number one (suc number) lens len
          ∙ ap (λ n. round_pushed most n len (rounds_on most number one (suc number) lens)) place)
          ∙ pushed-on most first bytes here (number + suc (length lens)) len (rounds_on most number one (suc number) lens) (some-rounds most number one (suc number) lens)
    ]

-- what stands at a place of a list and behind it

take-next : (k : ℕ) (xs : List ℕ) (x : ℕ) (behind : List ℕ) → drop k xs ≡ x ∷ behind → take (suc k) xs ≡ take k xs ++ x ∷ []
take-next zero [] x behind is = cc
take-next zero (y ∷ xs) x behind is = let same : y ≡ x = cc in ap (λ z. z ∷ []) same
take-next (suc k) [] x behind is = cc
take-next (suc k) (y ∷ xs) x behind is = ap (λ rest. y ∷ rest) (take-next k xs x behind is)

drop-next : (k : ℕ) (xs : List ℕ) (x : ℕ) (behind : List ℕ) → drop k xs ≡ x ∷ behind → drop (suc k) xs ≡ behind
drop-next zero [] x behind is = cc
drop-next zero (y ∷ xs) x behind is = cc
drop-next (suc k) [] x behind is = cc
drop-next (suc k) (y ∷ xs) x behind is = drop-next k xs x behind is

inside : (k : ℕ) (xs : List ℕ) (x : ℕ) (behind : List ℕ) → drop k xs ≡ x ∷ behind → k < length xs
inside zero [] x behind is = cc
inside zero (y ∷ xs) x behind is = omega arith
inside (suc k) [] x behind is = cc
inside (suc k) (y ∷ xs) x behind is = let more = inside k xs x behind is in omega (arith, more)

-- the lengths through one more record
total-step : (first number len : ℕ) (all lens : List ℕ) → first ≤ number → drop number all ≡ len ∷ lens
    → total first (suc number) all ≡ total first number all + len
total-step first number len all lens low is =
    let place : first + (number - first) ≡ number = omega (arith, low) in
    let next : suc number - first ≡ suc (number - first) = omega (arith, low) in
    let there : drop (number - first) (drop first all) ≡ len ∷ lens = drop-drop (number - first) first all ∙ ap (λ k. drop k all) (let e : first + (number - first) ≡ number = place in e) ∙ is in
    ap (λ k. sum (take k (drop first all))) next
    ∙ ap sum (take-next (number - first) (drop first all) len lens there)
    ∙ sum_by_push (λ n. n) (take (number - first) (drop first all)) len

-- the current file so far: its bytes are those of its records, none of which began the next
record IsSoFar (most : ℕ) (all : List ℕ) (first bytes number : ℕ) : Type 0 where
  order : (first < number) ⊎ (bytes ≡ 0)
  low : first ≤ number
  high : number ≤ length all
  bytes_are : bytes ≡ total first number all
  fitted : (k : ℕ) → first < k → k < number → total first (k + 1) all ≤ most

-- a file before others
consed : (most : ℕ) (all : List ℕ) (round : Round) (lens : List ℕ) (first bytes number : ℕ) → IsNextFirst most all round.first first
    → round.bytes ≡ total round.first first all → AreRounds most all (rounds_on most first bytes number lens)
    → AreRounds most all (round ∷ rounds_on most first bytes number lens)
consed most all round [] first bytes number next is = λ are. (next, is, are)
consed most all round (len ∷ lens) first bytes number next is =
    elim (nat_le (bytes + len) most) as (λ b.
    AreRounds most all (cond b (rounds_on most first (bytes + len) (suc number) lens) (record { first = first; bytes = bytes } ∷ rounds_on most number len (suc number) lens))
    → AreRounds most all (round ∷ cond b (rounds_on most first (bytes + len) (suc number) lens) (record { first = first; bytes = bytes } ∷ rounds_on most number len (suc number) lens))) [
      | true ↦ consed most all round lens first (bytes + len) (suc number) next is
      | false ↦ λ are. (next, is, are)
    ]

module _ (most : ℕ) (all : List ℕ) (first bytes number len : ℕ) (lens : List ℕ) (there : drop number all ≡ len ∷ lens) (one : len ≤ most) (so_far : IsSoFar most all first bytes number) where
  within : number < length all
  within = inside number all len lens there

  step : total first (number + 1) all ≡ bytes + len
  step =
      ap (λ n. total first n all) (let e : number + 1 ≡ suc number = omega arith in e)
      ∙ total-step first number len all lens so_far.low there ∙ ap (λ b. b + len) (sym so_far.bytes_are)

  added : nat_le (bytes + len) most ≡ true → IsSoFar most all first (bytes + len) (suc number)
  added fits = record {
    order = inl (let low = so_far.low in omega (arith, low));
    low = (let low = so_far.low in omega (arith, low));
    high = (let inner = within in omega (arith, inner));
    bytes_are = sym step ∙ ap (λ n. total first n all) (let e : number + 1 ≡ suc number = omega arith in e);
    fitted = λ k above below. elim (cases_lt k number) [
      | inl less ↦ so_far.fitted k above less
      | inr more ↦
          let same : number ≡ k = omega (arith, below, more) in
          subst (λ n. total first (n + 1) all ≤ most) same (subst (λ t. t ≤ most) (sym step) (leb-true (bytes + len) most fits))
    ];
  }

  begun : IsSoFar most all number len (suc number)
  begun = record {
    order = inl (omega arith);
    low = omega arith;
    high = (let inner = within in omega (arith, inner));
    bytes_are =
        sym (total-step number number len all lens (omega arith) there
        ∙ ap (λ n. sum (take n (drop number all)) + len) (let e : number - number ≡ 0 = omega arith in e) ∙ (let e : 0 + len ≡ len = omega arith in e));
    fitted = λ k above below. absurd (omega (arith, above, below));
  }

  next-first : nat_le (bytes + len) most ≡ false → IsNextFirst most all first number
  next-first over = record {
    above = elim so_far.order [
      | inl less ↦ less
      | inr none ↦ absurd (let high = leb-false (bytes + len) most over in omega (arith, high, none, one))
    ];
    within = within;
    over = subst (λ t. most < t) (sym step) (leb-false (bytes + len) most over);
    least = so_far.fitted;
  }

  by_case : (b : Bool) → nat_le (bytes + len) most ≡ b
      → (IsSoFar most all first (bytes + len) (suc number) → AreRounds most all (rounds_on most first (bytes + len) (suc number) lens))
      → (IsSoFar most all number len (suc number) → AreRounds most all (rounds_on most number len (suc number) lens))
      → AreRounds most all (cond b (rounds_on most first (bytes + len) (suc number) lens)
      (record { first = first; bytes = bytes } ∷ rounds_on most number len (suc number) lens))
  by_case true fits on off = on (added fits)
  by_case false over on off =
      consed most all (record { first = first; bytes = bytes }) lens number len (suc number) (next-first over) so_far.bytes_are (off begun)

are-rounds : (most : ℕ) (all lens : List ℕ) (first bytes number : ℕ) → drop number all ≡ lens → All (λ len. len ≤ most) lens
    → IsSoFar most all first bytes number → AreRounds most all (rounds_on most first bytes number lens)
are-rounds most all [] first bytes number there small so_far =
    let long = length-drop number all in
    let none : length (drop number all) ≡ 0 = ap length there in
    let high = so_far.high in
    let same : number ≡ length all = omega (arith, long, none, high) in (
      record {
        within = (let low = so_far.low in omega (arith, low, high));
        none = λ k above below. so_far.fitted k above (omega (arith, below, same));
      },
      so_far.bytes_are ∙ ap (λ n. total first n all) same,
    )
are-rounds most all (len ∷ lens) first bytes number there small so_far =
    by_case most all first bytes number len lens there (All-head (λ l. l ≤ most) len lens small) so_far (nat_le (bytes + len) most) refl
    (are-rounds most all lens first (bytes + len) (suc number) (drop-next number all len lens there) (All-tail (λ l. l ≤ most) len lens small))
    (are-rounds most all lens number len (suc number) (drop-next number all len lens there) (All-tail (λ l. l ≤ most) len lens small))

-- **the files are those of the definition**
pub closed-form : (most : ℕ) (lens : List ℕ) → All (λ len. len ≤ most) lens → AreRounds most lens (rounds most lens)
closed-form most lens small =
    are-rounds most lens lens 0 0 0 refl small
    (record { order = inr refl; low = omega arith; high = omega arith; bytes_are = refl; fitted = λ k above below. absurd (omega (arith, above, below)) })

-- **one more record**
pub step-form : (most len : ℕ) (lens : List ℕ) → rounds most (lens ++ len ∷ []) ≡ round_pushed most (length lens) len (rounds most lens)
step-form most len lens = rounds-push most 0 0 0 lens len ∙ ap (λ n. round_pushed most n len (rounds most lens)) (let e : 0 + length lens ≡ length lens = omega arith in e)

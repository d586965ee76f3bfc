-- The value of digits, read from the left.
use Rattle.std.proofs.Common.{◌≡◌, ℕ, ◌+◌, ◌-◌, ◌*◌, ◌<◌, ◌≤◌, ◌∙◌, ap, refl, Bool, true, false, cond, List, [], ◌∷◌, length, take, get_or, arith}
use Rattle.std.specs.Char.{is_ascii_digit, digit_value}
use Rattle.std.specs.List.{prefix_len}
use Rattle.std.proofs.lemmas.List.Sums.{prefix_len-le-length}
use Rattle.std.proofs.Math.Numerals.{one-add}
use Rattle.std.specs.Str.{all_ascii_digits}
use Rattle.std.specs.Str.Parse.{digits_value}
use Rattle.std.proofs.lemmas.Bool.Decides.{nat_tests}
use Rattle.std.proofs.lemmas.Int.Digits.{digits_value_more}
use Rattle.std.proofs.lemmas.Str.Parse.{IsNumeralModel, numerals_by_value, tells_all_ascii_digits, digit_at, digits_value-take-le}

-- the words of std for digits and their value
pub own : IsNumeralModel (λ ds. all_ascii_digits ds ≡ true) (digits_value 10)
own = numerals_by_value (λ ds. all_ascii_digits ds ≡ true) tells_all_ascii_digits

pub digit_range : (ds : List ℕ) (i : ℕ) → all_ascii_digits ds ≡ true → i < length ds → (48 ≤ get_or ds i 0) × (get_or ds i 0 ≤ 57)
digit_range ds i h within = let r = digit_at ds i (own.to ds h) within in (omega arith, omega arith)

digit_is : (c : ℕ) → 48 ≤ c → c ≤ 57 → digit_value c ≡ c - 48
digit_is c low high = grind (arith, nat_tests)

-- one more digit
pub value_step : (ds : List ℕ) (i : ℕ) → all_ascii_digits ds ≡ true → i < length ds → digits_value 10 (take (i + 1) ds) ≡ digits_value 10 (take i ds) * 10 + (get_or ds i 0 - 48)
value_step ds i h within =
    let r = digit_range ds i h within in
    digits_value_more 10 ds i within ∙ ap (λ d. digits_value 10 (take i ds) * 10 + d) (digit_is (get_or ds i 0) r.0 r.1)

-- the front is worth no more than the whole
pub value_front : (ds : List ℕ) (i : ℕ) → digits_value 10 (take i ds) ≤ digits_value 10 ds
value_front ds i = digits_value-take-le 10 ds i (omega arith)

-- the front that passes a test passes it
pub front_digits : (bytes : List ℕ) → all_ascii_digits (take (prefix_len is_ascii_digit bytes) bytes) ≡ true
front_digits [] = refl
front_digits (b ∷ bytes) =
    let at : (t : Bool) → is_ascii_digit b ≡ t → all_ascii_digits (take (cond t (1 + prefix_len is_ascii_digit bytes) 0) (b ∷ bytes)) ≡ true = elim [
      | true ↦ λ test. rw (one-add, test) (front_digits bytes)
      | false ↦ λ test. refl
    ] in
    at (is_ascii_digit b) refl

-- it is no longer than the bytes
pub front_length : (bytes : List ℕ) → prefix_len is_ascii_digit bytes ≤ length bytes
front_length bytes = prefix_len-le-length is_ascii_digit bytes

-- The numbers and texts of the lines, as they are spelled.
use Rattle.std.proofs.Common.{◌≡◌, ℕ, zero, suc, ◌+◌, ◌/◌, ◌%◌, ◌^◌, ◌<◌, ◌≤◌, List, [], ◌∷◌, ◌++◌, length, Bool, true, false, cond, refl, ap, sym, ◌∙◌, arith}
use Rattle.std.specs.Prelude.{codes, nat_lt, slice_index_or}
use Rattle.std.specs.Char.{is_ascii_digit}
use Rattle.std.specs.Fmt.{decimal}
use Rattle.std.specs.Str.{all_ascii_digits}
use Rattle.std.proofs.lemmas.Bool.{and_parts, ltb-false, ltb-true}
use Rattle.std.proofs.lemmas.Fmt.{decimal_digit, decimal_step, digits_decimal, length-decimal-le}
use Rattle.ais_values.specs.Names.{IsPrintable}
use Rattle.script_grammar.specs.Values.{IsNumber, IsQuoted, StandAll}
use Rattle.script_grammar.specs.Values.Stands.{plain}
use Rattle.script_grammar.proofs.Digits.{digit_range, own}
use Rattle.script_language.specs.Values.{IsClass, IsQuotedName}
use Rattle.load_lines.specs.Lines.{no_class}

-- a number of one digit
pub small-number : (n low high : ℕ) → low ≤ n → n ≤ high → n < 10 → IsNumber low high n ((48 + n) ∷ [])
small-number n low high least most small = (least, most, sym (decimal_digit n small))

-- a number digit by digit, the last one first
abbrev written_by : (turns : ℕ) → ℕ → List ℕ
written_by zero n = []
written_by (suc turns) n = cond (nat_lt n 10) ((48 + n) ∷ []) (written_by turns (n / 10) ++ (48 + n % 10) ∷ [])

abbrev suffices : (turns : ℕ) → ℕ → Bool
suffices zero n = false
suffices (suc turns) n = cond (nat_lt n 10) true (suffices turns (n / 10))

pub written-by : (turns n : ℕ) → suffices turns n ≡ true → n < 2 ^ 64 → written_by turns n ≡ decimal n
written-by zero n enough small = absurd cc
written-by (suc turns) n enough small =
    let at : (one : Bool) → nat_lt n 10 ≡ one → cond one true (suffices turns (n / 10)) ≡ true → cond one ((48 + n) ∷ []) (written_by turns (n / 10) ++ (48 + n % 10) ∷ []) ≡ decimal n = elim [
      | true ↦ λ is more. sym (decimal_digit n (ltb-true n 10 is))
      | false ↦ λ is more.
          let above = ltb-false n 10 is in
          ap (λ front. front ++ (48 + n % 10) ∷ []) (written-by turns (n / 10) more (omega arith)) ∙ sym (decimal_step n above small)
    ] in
    at (nat_lt n 10) refl enough

-- a digit stands for itself
standing : (digits : List ℕ) → all_ascii_digits digits ≡ true → StandAll digits digits
standing [] all = refl
standing (digit ∷ digits) all =
    let parts = and_parts (is_ascii_digit digit) (all_ascii_digits digits) all in
    let range = digit_range (digit ∷ digits) 0 all (omega arith) in
    let low : 48 ≤ digit = range.0 in
    let high : digit ≤ 57 = range.1 in
    (digit ∷ [], digits, refl, plain (omega arith) (omega arith) (λ same. omega arith) (λ same. omega arith), standing digits parts.1)

pub quoted-number : (n : ℕ) → n < 2 ^ 64 → IsQuoted (decimal n) (34 ∷ decimal n ++ 34 ∷ [])
quoted-number n small =
    let short : length (decimal n) ≤ 20 = length-decimal-le 20 n (omega arith) (omega arith) small in
    (omega arith, (decimal n, refl, standing (decimal n) (digits_decimal own n small)))

-- a text of one letter, and a name of one
pub quoted-letter : (byte : ℕ) → 97 ≤ byte → byte ≤ 122 → IsQuoted (byte ∷ []) (34 ∷ byte ∷ 34 ∷ [])
quoted-letter byte low high =
    (omega arith, (byte ∷ [], refl, (byte ∷ [], [], refl, plain (omega arith) (omega arith) (λ same. omega arith) (λ same. omega arith), refl)))

letter-printable : (byte : ℕ) → 97 ≤ byte → byte ≤ 122 → (k d : ℕ) → k < length (byte ∷ []) → IsPrintable (slice_index_or (byte ∷ []) k d)
letter-printable byte low high zero d within = record { low = omega arith; high = omega arith }
letter-printable byte low high (suc k) d within = absurd (omega arith)

pub name-letter : (byte : ℕ) → 97 ≤ byte → byte ≤ 122 → IsQuotedName (byte ∷ []) (34 ∷ byte ∷ 34 ∷ [])
name-letter byte low high =
    (record { some = omega arith; bound = omega arith; printable = letter-printable byte low high }, quoted-letter byte low high)

-- the class 0.0.0
pub class-spelled : IsClass no_class (codes "0.0.0")
unfolding IsClass
class-spelled = (
  0,
  codes "0",
  codes ".0.0",
  refl,
  small-number 0 0 4294967295 (omega arith) (omega arith) (omega arith),
  (
    codes "0.0",
    refl,
    (
      0,
      codes "0",
      codes ".0",
      refl,
      small-number 0 0 65535 (omega arith) (omega arith) (omega arith),
      (codes "0", refl, (0, codes "0", [], refl, small-number 0 0 65535 (omega arith) (omega arith) (omega arith), (refl, refl))),
    ),
  ),
)

-- What one step of the automaton says of the byte that it reads.
use Rattle.std.proofs.Common.{◌≡◌, ℕ, ◌+◌, ◌-◌, ◌*◌, ◌/◌, ◌%◌, ◌<◌, ◌≤◌, ◌∷◌, [], ◌++◌, List, Bool, true, false, cond, ◌&&◌, ◌||◌, nat_eq, nat_lt, nat_le, ◌⊎◌, inl, inr, Option, Some, None, Result, Ok, Err, is_some, refl, sym, ap, ◌∙◌, append_assoc, arith}
use Rattle.std.specs.Result.{result_err}
use Rattle.std.specs.Fmt.{decimal}
use Rattle.std.proofs.lemmas.Bool.{cond_both, cond-true, cond-false, and_parts, or_parts, eqb-true, ltb-true, ltb-false, lt-ltb, leb-true, cases_Bool}
use Rattle.std.proofs.lemmas.Bool.Decides.{nat_tests}
use Rattle.std.proofs.lemmas.Fmt.{decimal_digit, decimal_step}
use Rattle.format_expr.specs.declared.check.Stand.{Stand}
use Rattle.format_expr.specs.declared.check.Stand.TheVariants.{Between, At, Class, Width}
use Rattle.format_expr.specs.declared.fault.ExprWhy.{ExprWhy}
use Rattle.format_expr.specs.declared.fault.ExprWhy.TheVariants.{ControlByte}
use Rattle.format_expr.specs.declared.token.Part.{Part}
use Rattle.ais_values.specs.declared.kind.StreamKind.{StreamKind}
use Rattle.format_expr.specs.Tokens.{part_with}
use Rattle.format_expr.specs.Language.{is_plain, is_digit, is_class, is_class_of, width_digits, is_width}
use Rattle.format_expr.specs.Scan.{plain_step, class_step, field_step, width_step, step_of, after, run}
use Rattle.ais_values.proofs.Basics.{some_of}

-- which way a choice went, by what it gave
pub chosen : {A : Type 0} (b : Bool) (x y z : A) → cond b x y ≡ z → ((b ≡ true) × (x ≡ z)) ⊎ ((b ≡ false) × (y ≡ z))
chosen true x y z e = inl (refl, e)
chosen false x y z e = inr (refl, e)

-- what went on had something to go on with
pub after_ok : {A B E : Type 0} (r : Result A E) (f : A → Result B E) (y : B) → after r f ≡ Ok y → (x : A) × (r ≡ Ok x) × (f x ≡ Ok y)
after_ok (Ok x) f y e = (x, refl, e)
after_ok (Err error) f y e = absurd cc

-- the steps that a plain piece's byte or an `@` makes
pub plain_ok : (byte : ℕ) (next : Stand) → plain_step byte ≡ Ok next → ((byte ≡ 64) × (next ≡ At)) ⊎ ((is_plain byte ≡ true) × (next ≡ Between))
plain_ok byte next e =
    elim (chosen (nat_eq byte 64) _ _ _ e) [
      | inl at ↦ inl (eqb-true _ _ at.0, cc)
      | inr other ↦ elim (chosen (is_plain byte) _ _ _ other.1) [
        | inl plain ↦ inr (plain.0, cc)
        | inr bad ↦ absurd cc
      ]
    ]

pub plain_on : (byte : ℕ) → is_plain byte ≡ true → plain_step byte ≡ Ok Between
plain_on byte e =
    let other : nat_eq byte 64 ≡ false = grind (arith, nat_tests) in
    cond-false _ _ _ other ∙ cond-true _ _ _ e

-- what one choice between two outcomes leaves, once its way is known
abbrev refused : Result Stand ExprWhy → Option ExprWhy
refused r = result_err r

pub plain_err : (byte : ℕ) (why : ExprWhy) → result_err (plain_step byte) ≡ Some why → (why ≡ ControlByte) × ((nat_lt byte 32 || nat_lt 126 byte) ≡ true)
plain_err byte why =
    cond_both (nat_eq byte 64) (Ok At) (cond (is_plain byte) (Ok Between) (Err ControlByte))
    (λ r. refused r ≡ Some why → (why ≡ ControlByte) × ((nat_lt byte 32 || nat_lt 126 byte) ≡ true))
    (λ at e. absurd cc)
    (λ other. cond_both (is_plain byte) (Ok Between) (Err ControlByte)
    (λ r. refused r ≡ Some why → (why ≡ ControlByte) × ((nat_lt byte 32 || nat_lt 126 byte) ≡ true))
    (λ plain e. absurd cc)
    (λ bad e. (cc, grind (arith, nat_tests))))

pub class_ok : (kind : StreamKind) (byte : ℕ) (next : Stand) → class_step kind byte ≡ Ok next → (is_class_of kind byte ≡ true) × (next ≡ Class byte)
class_ok kind byte next e =
    elim (chosen (is_class_of kind byte) _ _ _ e) [
      | inl own ↦ (own.0, cc)
      | inr other ↦ elim (chosen (is_class byte) _ _ _ other.1) [
        | inl wrong ↦ absurd cc
        | inr lone ↦ absurd cc
      ]
    ]

pub class_on : (kind : StreamKind) (byte : ℕ) → is_class_of kind byte ≡ true → class_step kind byte ≡ Ok (Class byte)
class_on kind byte e = cond-true _ _ _ e

pub field_ok : (class byte : ℕ) (next : Stand) → field_step class byte ≡ Ok next → (part : Part) × (part_with class byte ≡ Some part) × (next ≡ Width 0)
field_ok class byte next e =
    elim (chosen (is_some (part_with class byte)) _ _ _ e) [
      | inl known ↦ let part = some_of _ known.0 in (part.0, part.1, cc)
      | inr other ↦ absurd cc
    ]

-- the next value of a width
pub record IsLonger (width digit : ℕ) (next : Stand) : Type 0 where
  pub some : 0 < width * 10 + digit
  pub low : width * 10 + digit ≤ 255
  pub next_is : next ≡ cond (nat_lt (width * 10 + digit) 100) (Width (width * 10 + digit)) Between

pub width_ok : (width digit : ℕ) (next : Stand) → width_step width digit ≡ Ok next → IsLonger width digit next
width_ok width digit next e =
    elim (chosen ((nat_eq width 0 && nat_eq digit 0) || nat_lt 255 (width * 10 + digit)) _ _ _ e) [
      | inl bad ↦ absurd cc
      | inr fits ↦ record {
        some = let parts = or_parts (nat_eq width 0 && nat_eq digit 0) (nat_lt 255 (width * 10 + digit)) fits.0 in grind (arith, nat_tests);
        low = let parts = or_parts (nat_eq width 0 && nat_eq digit 0) (nat_lt 255 (width * 10 + digit)) fits.0 in ltb-false _ _ parts.1;
        next_is = elim (chosen (nat_lt (width * 10 + digit) 100) _ _ _ fits.1) [
          | inl short ↦ let same : Width (width * 10 + digit) ≡ next = cc in sym same ∙ sym (cond-true _ _ _ short.0)
          | inr long ↦ let same : Between ≡ next = cc in sym same ∙ sym (cond-false _ _ _ long.0)
        ];
      }
    ]

pub width_on : (width digit : ℕ) → 0 < width * 10 + digit → width * 10 + digit ≤ 255 → width_step width digit ≡ Ok (cond (nat_lt (width * 10 + digit) 100) (Width (width * 10 + digit)) Between)
width_on width digit some low =
    let fits : ((nat_eq width 0 && nat_eq digit 0) || nat_lt 255 (width * 10 + digit)) ≡ false = grind (arith, nat_tests) in
    let good : Stand → Result Stand ExprWhy = λ next. Ok next in
    cond-false _ _ _ fits ∙ cond_both (nat_lt (width * 10 + digit) 100) (Width (width * 10 + digit)) Between
    (λ next. cond (nat_lt (width * 10 + digit) 100) (good (Width (width * 10 + digit))) (good Between) ≡ good next)
    (λ short. cond-true _ _ _ short) (λ long. cond-false _ _ _ long)

-- the value of a width that is being read, as the option that a token has
abbrev pub width_of : ℕ → Option ℕ
width_of width = cond (nat_eq width 0) None (Some width)

-- one more digit
pub digits_more : (width digit : ℕ) → digit < 10 → 0 < width * 10 + digit → width * 10 + digit ≤ 255 → width_digits (width_of width) ++ (48 + digit) ∷ [] ≡ decimal (width * 10 + digit)
digits_more width digit small some low =
    cond_both (nat_eq width 0) None (Some width) (λ w. width_digits w ++ (48 + digit) ∷ [] ≡ decimal (width * 10 + digit))
    (λ first. let zero : width * 10 + digit ≡ digit = let none = eqb-true width 0 first in omega arith in
    let only : decimal (width * 10 + digit) ≡ (48 + digit) ∷ [] = ap decimal zero ∙ decimal_digit digit small in
    sym only)
    (λ later. let one : 1 ≤ width = grind (arith, nat_tests) in
    let step = decimal_step (width * 10 + digit) (omega arith) (omega arith) in
    let front : (width * 10 + digit) / 10 ≡ width = omega arith in
    let back : (width * 10 + digit) % 10 ≡ digit = omega arith in
    sym (step ∙ ap (λ n. decimal n ++ (48 + (width * 10 + digit) % 10) ∷ []) front ∙ ap (λ n. decimal width ++ (48 + n) ∷ []) back))

-- a digit read behind the letters
pub digit_step : (kind : StreamKind) (width digit : ℕ) → digit < 10 → step_of kind (Width width) (48 + digit) ≡ width_step width digit
digit_step kind width digit small =
    let is : is_digit (48 + digit) ≡ true = grind (arith, nat_tests) in
    let value : 48 + digit - 48 ≡ digit = omega arith in
    cond-true (is_digit (48 + digit)) (width_step width (48 + digit - 48)) (plain_step (48 + digit)) is ∙ ap (width_step width) value

-- and a byte that is none
pub past_width : (kind : StreamKind) (width byte : ℕ) → is_digit byte ≡ false → step_of kind (Width width) byte ≡ plain_step byte
past_width kind width byte other = cond-false (is_digit byte) (width_step width (byte - 48)) (plain_step byte) other

-- a whole width is read to its value, or past its third digit
abbrev pub behind_width : Option ℕ → Stand
behind_width None = Width 0
behind_width (Some width) = cond (nat_lt width 100) (Width width) Between

run_digit : (kind : StreamKind) (width digit : ℕ) (rest : List ℕ) → digit < 10 → 0 < width * 10 + digit → width * 10 + digit ≤ 255 → run kind (Width width) ((48 + digit) ∷ rest) ≡ run kind (behind_width (Some (width * 10 + digit))) rest
run_digit kind width digit rest small some low =
    ap (λ r. after r (λ next. run kind next rest)) (digit_step kind width digit small ∙ width_on width digit some low)

run_two : (kind : StreamKind) (width : ℕ) (rest : List ℕ) → 1 ≤ width → width < 100 → run kind (Width 0) (decimal width ++ rest) ≡ run kind (Width width) rest
run_two kind width rest some low =
    elim (cases_Bool (nat_lt width 10)) [
      | inl one ↦
          let small : width < 10 = ltb-true width 10 one in
          let alone : 0 * 10 + width ≡ width = omega arith in
          let short : nat_lt width 100 ≡ true = lt-ltb width 100 low in
          ap (λ ds. run kind (Width 0) (ds ++ rest)) (decimal_digit width small) ∙ run_digit kind 0 width rest small (omega arith) (omega arith)
          ∙ ap (λ w. run kind (behind_width (Some w)) rest) alone
          ∙ ap (λ s. run kind s rest) (cond-true (nat_lt width 100) (Width width) Between short)
      | inr two ↦
          let large : 10 ≤ width = ltb-false width 10 two in
          let tens = width / 10 in
          let ones = width % 10 in
          let whole : tens * 10 + ones ≡ width = omega arith in
          let first : 0 * 10 + tens ≡ tens = omega arith in
          let short : nat_lt width 100 ≡ true = lt-ltb width 100 low in
          let shorter : nat_lt tens 100 ≡ true = lt-ltb tens 100 (omega arith) in
          let digits : decimal width ≡ (48 + tens) ∷ (48 + ones) ∷ [] = decimal_step width large (omega arith) ∙ ap (λ ds. ds ++ (48 + ones) ∷ []) (decimal_digit tens (omega arith)) in
          ap (λ ds. run kind (Width 0) (ds ++ rest)) digits
          ∙ run_digit kind 0 tens ((48 + ones) ∷ rest) (omega arith) (omega arith) (omega arith)
          ∙ ap (λ w. run kind (behind_width (Some w)) ((48 + ones) ∷ rest)) first
          ∙ ap (λ s. run kind s ((48 + ones) ∷ rest)) (cond-true (nat_lt tens 100) (Width tens) Between shorter)
          ∙ run_digit kind tens ones rest (omega arith) (omega arith) (omega arith)
          ∙ ap (λ w. run kind (behind_width (Some w)) rest) whole
          ∙ ap (λ s. run kind s rest) (cond-true (nat_lt width 100) (Width width) Between short)
    ]

pub run_width : (kind : StreamKind) (width : Option ℕ) (rest : List ℕ) → is_width width ≡ true → run kind (Width 0) (width_digits width ++ rest) ≡ run kind (behind_width width) rest
run_width kind None rest e = refl
run_width kind (Some width) rest e =
    let parts = and_parts (nat_le 1 width) (nat_le width 255) e in
    let some : 1 ≤ width = leb-true 1 width parts.0 in
    let low : width ≤ 255 = leb-true width 255 parts.1 in
    elim (cases_Bool (nat_lt width 100)) [
      | inl short ↦ run_two kind width rest some (ltb-true width 100 short) ∙ ap (λ s. run kind s rest) (sym (cond-true (nat_lt width 100) (Width width) Between short))
      | inr long ↦
          let large : 100 ≤ width = ltb-false width 100 long in
          let front = width / 10 in
          let ones = width % 10 in
          let whole : front * 10 + ones ≡ width = omega arith in
          ap (λ ds. run kind (Width 0) (ds ++ rest)) (decimal_step width (omega arith) (omega arith))
          ∙ ap (run kind (Width 0)) (append_assoc (decimal front) ((48 + ones) ∷ []) rest)
          ∙ run_two kind front ((48 + ones) ∷ rest) (omega arith) (omega arith)
          ∙ run_digit kind front ones rest (omega arith) (omega arith) (omega arith)
          ∙ ap (λ w. run kind (behind_width (Some w)) rest) whole
    ]

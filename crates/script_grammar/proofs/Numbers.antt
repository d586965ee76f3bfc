-- That reading of numbers is exact.
use Rattle.std.proofs.Common.{◌≡◌, ◌<◌, ◌^◌, ℕ, zero, suc, Bool, true, false, not, cond, ◌&&◌, ◌==◌, List, [], ◌∷◌, ◌++◌, length, get_or, take, drop, Option, Some, None, refl, sym, ap, subst, ◌∙◌, inl, inr, ⊎_elim, arith}
use Rattle.std.specs.Prelude.{option_and_then, nat_le, nat_lt, ℤ, pos, negsuc, neg_ℤ, ◌≤ℤ◌, int_le, unsigned_abs, codes}
use Rattle.std.specs.Option.{option_map_or}
use Rattle.std.specs.Char.{is_ascii_digit}
use Rattle.std.specs.Fmt.{decimal}
use Rattle.std.specs.List.{prefix_len}
use Rattle.std.specs.Str.{all_ascii_digits}
use Rattle.std.specs.Str.Parse.{digits_value}
use Rattle.std.proofs.lemmas.Bool.Decides.{Decides-eqb, nat_tests}
use Rattle.std.proofs.lemmas.Bool.{not-true, ltb-true, lt-ltb, leb-true, le-leb, and_parts}
use Rattle.std.proofs.lemmas.List.{take-append-drop}
use Rattle.std.proofs.lemmas.Option.{cond_some}
use Rattle.std.proofs.Math.Numerals.{one-add}
use Rattle.std.proofs.Math.Seq.{take-append_seam, drop-append_seam}
use Rattle.std.proofs.lemmas.Int.{ints}
use Rattle.std.proofs.lemmas.Fmt.{digits_decimal, digits_value-decimal, decimal-digits_value, decimal_nonempty, first_decimal, decimal_digit}
use Rattle.script_grammar.specs.Reading.{skipped}
use Rattle.script_grammar.specs.ValueReading.{is_plain, magnitude_of, magnitude_at, in_range, number_at, in_signed_range, signed_at}
use Rattle.script_grammar.specs.Values.{IsNumber, IsSigned}
use Rattle.script_grammar.proofs.Digits.{own, front_digits}
use Rattle.script_grammar.proofs.Rules.{ValueRule, stops, and_then_some, skipped-sound, one_line}

-- digits before a text that does not begin with one are the whole front of digits
prefix-digits : (digits rest : List ℕ) → all_ascii_digits digits ≡ true → stops is_ascii_digit rest ≡ true → prefix_len is_ascii_digit (digits ++ rest) ≡ length digits
prefix-digits [] [] h stop = refl
prefix-digits [] (b ∷ rest) h stop = let no = not-true (is_ascii_digit b) stop in rw no refl
prefix-digits (d ∷ digits) rest h stop =
    let parts = and_parts (is_ascii_digit d) (all_ascii_digits digits) h in
    rw parts.0 (one-add (prefix_len is_ascii_digit (digits ++ rest)) ∙ ap suc (prefix-digits digits rest parts.1 stop))

-- what the test of a leading zero says
plain-parts : (ds : List ℕ) → is_plain ds ≡ true → (0 < length ds) × (get_or ds 0 0 ≡ 48 → length ds ≡ 1)
plain-parts [] h = cc
plain-parts (d ∷ []) h = (omega arith, λ _. refl)
plain-parts (d ∷ e ∷ ds) h = (omega arith, λ zero_first. let yes = (Decides-eqb d 48).1 zero_first in let no = not-true (d == 48) h in cc)

plain-from : (ds : List ℕ) → 0 < length ds → (get_or ds 0 0 ≡ 48 → length ds ≡ 1) → is_plain ds ≡ true
plain-from [] some only = absurd (omega arith)
plain-from (d ∷ []) some only = refl
plain-from (d ∷ e ∷ ds) some only =
    let at : (t : Bool) → (d == 48) ≡ t → not t ≡ true = elim [
      | true ↦ λ test. let bad : suc (suc (length ds)) ≡ 1 = only ((Decides-eqb d 48).0 test) in absurd (omega arith)
      | false ↦ λ test. refl
    ] in
    at (d == 48) refl

-- `decimal` writes no leading zero
decimal-plain : (n : ℕ) → n < 2 ^ 64 → is_plain (decimal n) ≡ true
decimal-plain zero h = rw (decimal_digit 0 (omega arith)) refl
decimal-plain (suc n) h =
    let high = first_decimal (suc n) (omega arith) h in
    plain-from (decimal (suc n)) (decimal_nonempty (suc n) h) (λ zero_first. absurd (omega arith))

digit-clean : (b : ℕ) → is_ascii_digit b ≡ true → not (b == 10) ≡ true
digit-clean b h = grind (arith, nat_tests)

-- digits have no LF
digits-clean : (ds : List ℕ) → all_ascii_digits ds ≡ true → one_line ds ≡ true
digits-clean [] h = refl
digits-clean (d ∷ ds) h =
    let parts = and_parts (is_ascii_digit d) (all_ascii_digits ds) h in
    rw (digit-clean d parts.0) (digits-clean ds parts.1)

decimal-clean : (n : ℕ) → n < 2 ^ 64 → one_line (decimal n) ≡ true
decimal-clean n h = digits-clean (decimal n) (digits_decimal own n h)

-- a number below 2 ^ 64, in decimal
abbrev pub IsMagnitude : ℕ → List ℕ → Type 0
IsMagnitude n text = (n < 2 ^ 64) × (text ≡ decimal n)

pub magnitude_rule : ValueRule magnitude_at IsMagnitude is_ascii_digit
unfolding magnitude_at
magnitude_rule = record {
  sound = λ bytes n rest h.
      let k = prefix_len is_ascii_digit bytes in
      let digits = take (prefix_len is_ascii_digit bytes) bytes in
      let parts = cond_some (is_plain digits && nat_lt (digits_value 10 digits) (2 ^ 64)) (digits_value 10 digits, drop k bytes) (n, rest) h in
      let tests = and_parts (is_plain digits) (nat_lt (digits_value 10 digits) (2 ^ 64)) parts.0 in
      let plain = plain-parts digits tests.0 in
      let small = ltb-true (digits_value 10 digits) (2 ^ 64) tests.1 in
      let value : digits_value 10 digits ≡ n = ap (λ (x : ℕ × List ℕ). x.0) parts.1 in
      let after : drop k bytes ≡ rest = ap (λ (x : ℕ × List ℕ). x.1) parts.1 in
      let spelled = decimal-digits_value own digits (front_digits bytes) plain.0 plain.1 small in
      (digits, sym (take-append-drop k bytes) ∙ ap (λ x. digits ++ x) after, (rw (← value) small, sym spelled ∙ ap decimal value));
  complete = λ n text rest h stop.
      let digits = digits_decimal own n h.0 in
      let len = prefix-digits (decimal n) rest digits stop in
      let at : magnitude_of (length (decimal n)) (decimal n ++ rest) ≡ Some (n, rest) =
      rw (take-append_seam (decimal n) rest, drop-append_seam (decimal n) rest, decimal-plain n h.0, digits_value-decimal own n h.0, lt-ltb n (2 ^ 64) h.0) refl in
      rw (h.1, len) at;
  clean = λ n text h. rw h.1 (decimal-clean n h.0);
}

-- a number in a range of a machine's word
pub number_rule : (low high : ℕ) → nat_lt high (2 ^ 64) ≡ true → ValueRule (number_at low high) (IsNumber low high) is_ascii_digit
unfolding number_at
number_rule low high fits = record {
  sound = λ bytes n rest h.
      let found = and_then_some (in_range low high) (magnitude_at bytes) (n, rest) h in
      let parts = cond_some (nat_le low found.0.0 && nat_le found.0.0 high) found.0 (n, rest) found.2 in
      let tests = and_parts (nat_le low found.0.0) (nat_le found.0.0 high) parts.0 in
      let value : found.0.0 ≡ n = ap (λ (x : ℕ × List ℕ). x.0) parts.1 in
      let text = magnitude_rule.sound bytes n rest (found.1 ∙ ap (λ x. Some x) parts.1) in
      (text.0, text.1, (rw (← value) (leb-true low found.0.0 tests.0), rw (← value) (leb-true found.0.0 high tests.1), text.2.1));
  complete = λ n text rest h stop.
      let small = ltb-true high (2 ^ 64) fits in
      let below : n < 2 ^ 64 = omega arith in
      rw (magnitude_rule.complete n text rest (below, h.2) stop, le-leb low n h.0, le-leb n high h.1) refl;
  clean = λ n text h. let small = ltb-true high (2 ^ 64) fits in magnitude_rule.clean n text (omega arith, h.2);
}

-- digits do not begin with a minus sign
no_minus : (digits rest : List ℕ) → all_ascii_digits digits ≡ true → 0 < length digits → skipped (codes "-") (digits ++ rest) ≡ None
no_minus [] rest h some = absurd (omega arith)
no_minus (d ∷ digits) rest h some =
    let first = and_parts (is_ascii_digit d) (all_ascii_digits digits) h in
    let at : (t : Bool) → (d == 45) ≡ t → cond t (skipped [] (digits ++ rest)) None ≡ None = elim [
      | true ↦ λ test. let same = (Decides-eqb d 45).0 test in let no : true ≡ false = sym first.0 ∙ ap is_ascii_digit same in absurd (cc)
      | false ↦ λ test. refl
    ] in
    at (d == 45) refl

int_le-true : (a b : ℤ) → int_le a b ≡ true → a ≤ℤ b
int_le-true a b h = grind (arith, ints)

le-int_le : (a b : ℤ) → a ≤ℤ b → int_le a b ≡ true
le-int_le a b h = grind (arith, ints)

small_neg : (low : ℤ) (n : ℕ) → unsigned_abs low < 2 ^ 64 → low ≤ℤ neg_ℤ (pos n) → n < 2 ^ 64
small_neg (pos m) n h le = grind (arith, ints)
small_neg (negsuc m) n h le = grind (arith, ints)

small_pos : (high : ℤ) (n : ℕ) → unsigned_abs high < 2 ^ 64 → pos n ≤ℤ high → n < 2 ^ 64
small_pos (pos m) n h le = omega (arith, ints)
small_pos (negsuc m) n h le = omega (arith, ints)

-- a signed number in the range that it is read for
ranged : (low high z y : ℤ) (rest after : List ℕ) → in_signed_range low high z rest ≡ Some (y, after) → (low ≤ℤ y) × (y ≤ℤ high) × (z ≡ y) × (rest ≡ after)
ranged low high z y rest after h =
    let parts = cond_some (int_le low z && int_le z high) (z, rest) (y, after) h in
    let tests = and_parts (int_le low z) (int_le z high) parts.0 in
    let same : z ≡ y = ap (λ (x : ℤ × List ℕ). x.0) parts.1 in
    (subst (λ x. low ≤ℤ x) same (int_le-true low z tests.0), subst (λ x. x ≤ℤ high) same (int_le-true z high tests.1), same, ap (λ (x : ℤ × List ℕ). x.1) parts.1)

ranged_again : (low high z : ℤ) (rest : List ℕ) → low ≤ℤ z → z ≤ℤ high → in_signed_range low high z rest ≡ Some (z, rest)
ranged_again low high z rest above below = rw (le-int_le low z above, le-int_le z high below) refl

-- a signed number in a range of a machine's word
pub signed_rule : (low high : ℤ) → unsigned_abs low < 2 ^ 64 → unsigned_abs high < 2 ^ 64 → ValueRule (signed_at low high) (IsSigned low high) is_ascii_digit
unfolding signed_at
signed_rule low high fits_low fits_high =
    let negative = λ (found : ℕ × List ℕ). in_signed_range low high (neg_ℤ (pos found.0)) found.1 in
    let positive = λ (found : ℕ × List ℕ). in_signed_range low high (pos found.0) found.1 in
    let sound_at : (bytes : List ℕ) (z : ℤ) (rest : List ℕ) (o : Option (List ℕ)) → skipped (codes "-") bytes ≡ o
    → option_map_or (λ after. option_and_then negative (magnitude_at after)) o (option_and_then positive (magnitude_at bytes)) ≡ Some (z, rest)
    → (text : List ℕ) × (bytes ≡ text ++ rest) × IsSigned low high z text = λ bytes z rest. elim [
      | None ↦ λ was h.
          let found = and_then_some positive (magnitude_at bytes) (z, rest) h in
          let in_it = ranged low high (pos found.0.0) z found.0.1 rest found.2 in
          let text = magnitude_rule.sound bytes found.0.0 found.0.1 found.1 in
          (text.0, text.1 ∙ ap (λ x. text.0 ++ x) in_it.3, (in_it.0, in_it.1, (found.0.0, inl (sym in_it.2, text.2.1))))
      | Some after ↦ λ was h.
          let found = and_then_some negative (magnitude_at after) (z, rest) h in
          let in_it = ranged low high (neg_ℤ (pos found.0.0)) z found.0.1 rest found.2 in
          let text = magnitude_rule.sound after found.0.0 found.0.1 found.1 in
          let front = skipped-sound (codes "-") bytes after was in
          (45 ∷ text.0, front ∙ ap (λ x. 45 ∷ x) (text.1 ∙ ap (λ x. text.0 ++ x) in_it.3), (in_it.0, in_it.1, (found.0.0, inr (sym in_it.2, ap (λ x. 45 ∷ x) text.2.1))))
    ] in
    record {
      sound = λ bytes z rest h. sound_at bytes z rest (skipped (codes "-") bytes) refl h;
      complete = λ z text rest h stop.
          let n = h.2.0 in
          ⊎_elim
          (λ p.
          let below : n < 2 ^ 64 = small_pos high n fits_high (subst (λ x. x ≤ℤ high) p.0 h.1) in
          let digits = digits_decimal own n below in
          let none = no_minus (decimal n) rest digits (decimal_nonempty n below) in
          rw (p.1, none, magnitude_rule.complete n (decimal n) rest (below, refl) stop, p.0) (ranged_again low high (pos n) rest (subst (λ x. low ≤ℤ x) p.0 h.0) (subst (λ x. x ≤ℤ high) p.0 h.1)))
          (λ p.
          let below : n < 2 ^ 64 = small_neg low n fits_low (subst (λ x. low ≤ℤ x) p.0 h.0) in
          rw (p.1, magnitude_rule.complete n (decimal n) rest (below, refl) stop, p.0) (ranged_again low high (neg_ℤ (pos n)) rest (subst (λ x. low ≤ℤ x) p.0 h.0) (subst (λ x. x ≤ℤ high) p.0 h.1)))
          h.2.1;
      clean = λ z text h.
          let n = h.2.0 in
          ⊎_elim
          (λ p. rw p.1 (decimal-clean n (small_pos high n fits_high (subst (λ x. x ≤ℤ high) p.0 h.1))))
          (λ p. rw p.1 (decimal-clean n (small_neg low n fits_low (subst (λ x. low ≤ℤ x) p.0 h.0))))
          h.2.1;
    }

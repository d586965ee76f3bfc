-- That reading of hexadecimal digits and of texts between quotation marks is exact.
use Rattle.std.proofs.Common.{◌≡◌, ◌≢◌, ◌<◌, ◌≤◌, ◌+◌, ◌*◌, ◌/◌, ◌%◌, ℕ, zero, suc, Bool, true, false, not, cond, ◌&&◌, ◌||◌, ◌==◌, List, [], ◌∷◌, ◌++◌, length, Option, Some, None, refl, sym, ap, subst, ◌∙◌, ⊎_elim, arith, append_assoc, length-append}
use Rattle.std.specs.Prelude.{option_and_then, option_map, nat_le, codes}
use Rattle.std.specs.Option.{option_map_or}
use Rattle.std.proofs.lemmas.Bool.{not-true, leb-true, le-leb, and_parts, cond_both, or_cases}
use Rattle.std.proofs.lemmas.Bool.Decides.{Decides-eqb, nat_tests}
use Rattle.std.proofs.lemmas.Option.{cond_some}
use Rattle.script_grammar.specs.Reading.{skipped, known, part}
use Rattle.script_grammar.specs.ValueReading.{is_hex, hex_value, hex_at, hex_word_at, escape_at, part_at, with_front, inner_at, fitting, quoted_at}
use Rattle.ais_values.specs.Texts.{hex_digit}
use Rattle.script_grammar.specs.Values.{hex_pair, hex_word, IsHexWord, Stands, StandAll, IsQuoted}
use Rattle.script_grammar.specs.Values.Stands.{plain, quote, backslash, hex}
use Rattle.script_grammar.proofs.Rules.{ValueRule, same_parts, map_some, and_then_some, skipped-sound, one_line, one_line-append}

-- any byte may follow
abbrev pub nothing : ℕ → Bool
nothing b = false

-- a choice whose first test did not pass
cons_same : {b c : ℕ} {bs cs : List ℕ} → b ≡ c → bs ≡ cs → b ∷ bs ≡ c ∷ cs
cons_same e f = cc

-- a hexadecimal digit is the digit of its value, which is below 16
hex_digit-value : (c : ℕ) → is_hex c ≡ true → (hex_digit (hex_value c) ≡ c) × (hex_value c < 16)
hex_digit-value c h = (grind (arith, nat_tests), grind (arith, nat_tests))

hex_value-digit : (n : ℕ) → n < 16 → (hex_value (hex_digit n) ≡ n) × (is_hex (hex_digit n) ≡ true)
hex_value-digit n h = (grind (arith, nat_tests), grind (arith, nat_tests))

sixteens : (h l : ℕ) → l < 16 → ((16 * h + l) / 16 ≡ h) × ((16 * h + l) % 16 ≡ l)
sixteens h l low = (omega arith, omega arith)

two_digits : (n : ℕ) → n < 256 → (n / 16 < 16) × (n % 16 < 16) × (16 * (n / 16) + n % 16 ≡ n)
two_digits n h = (omega arith, omega arith, omega arith)

-- two digits are read as the byte that they write
hex-sound : (bytes : List ℕ) (byte : ℕ) (rest : List ℕ) → hex_at bytes ≡ Some (byte, rest) → (bytes ≡ hex_digit (byte / 16) ∷ hex_digit (byte % 16) ∷ rest) × (byte < 256)
unfolding hex_at
hex-sound [] byte rest h = cc
hex-sound (high ∷ []) byte rest h = cc
hex-sound (high ∷ low ∷ bytes) byte rest h =
    let parts = cond_some (is_hex high && is_hex low) (16 * hex_value high + hex_value low, bytes) (byte, rest) h in
    let tests = and_parts (is_hex high) (is_hex low) parts.0 in
    let one = hex_digit-value high tests.0 in
    let two = hex_digit-value low tests.1 in
    let split = sixteens (hex_value high) (hex_value low) two.1 in
    let value : 16 * hex_value high + hex_value low ≡ byte = ap (λ (p : ℕ × List ℕ). p.0) parts.1 in
    let after : bytes ≡ rest = ap (λ (p : ℕ × List ℕ). p.1) parts.1 in
    let high_is : high ≡ hex_digit (byte / 16) = sym (ap (λ x. hex_digit (x / 16)) (sym value) ∙ ap hex_digit split.0 ∙ one.0) in
    let low_is : low ≡ hex_digit (byte % 16) = sym (ap (λ x. hex_digit (x % 16)) (sym value) ∙ ap hex_digit split.1 ∙ two.0) in
    (cons_same high_is (cons_same low_is after), omega arith)

hex-complete : (byte : ℕ) (rest : List ℕ) → byte < 256 → hex_at (hex_digit (byte / 16) ∷ hex_digit (byte % 16) ∷ rest) ≡ Some (byte, rest)
unfolding hex_at
hex-complete byte rest h =
    let parts = two_digits byte h in
    let one = hex_value-digit (byte / 16) parts.0 in
    let two = hex_value-digit (byte % 16) parts.1 in
    rw (one.1, two.1, one.0, two.0, parts.2) refl

escape-sound : (bytes : List ℕ) (byte : ℕ) (rest : List ℕ) → escape_at bytes ≡ Some (byte, rest) → (part : List ℕ) × (92 ∷ bytes ≡ part ++ rest) × Stands byte part
unfolding escape_at
escape-sound [] byte rest = λ h. cc
escape-sound (c ∷ bytes) byte rest =
    let Q : Type 0 = (part : List ℕ) × (92 ∷ c ∷ bytes ≡ part ++ rest) × Stands byte part in
    let P : Option (ℕ × List ℕ) → Type 0 = λ o. o ≡ Some (byte, rest) → Q in
    cond_both (c == 34 || c == 92) (Some (c, bytes)) (cond (c == 120) (hex_at bytes) None) P
    (λ test h.
    let same = same_parts h in
    ⊎_elim
    (λ it. let is = (Decides-eqb c 34).0 it in (92 ∷ 34 ∷ [], cons_same refl (cons_same is same.1), subst (λ x. Stands x (92 ∷ 34 ∷ [])) (sym is ∙ same.0) quote))
    (λ it. let is = (Decides-eqb c 92).0 it in (92 ∷ 92 ∷ [], cons_same refl (cons_same is same.1), subst (λ x. Stands x (92 ∷ 92 ∷ [])) (sym is ∙ same.0) backslash))
    (or_cases (c == 34) (c == 92) test))
    (λ _. cond_both (c == 120) (hex_at bytes) None P
    (λ test h.
    let digits = hex-sound bytes byte rest h in
    (92 ∷ 120 ∷ hex_digit (byte / 16) ∷ hex_digit (byte % 16) ∷ [], cons_same refl (cons_same ((Decides-eqb c 120).0 test) digits.0), hex digits.1))
    (λ _ h. cc))

part-sound : (bytes : List ℕ) (byte : ℕ) (rest : List ℕ) → part_at bytes ≡ Some (byte, rest) → (part : List ℕ) × (bytes ≡ part ++ rest) × Stands byte part
unfolding part_at
part-sound [] byte rest = λ h. cc
part-sound (b ∷ bytes) byte rest =
    let Q : Type 0 = (part : List ℕ) × (b ∷ bytes ≡ part ++ rest) × Stands byte part in
    let P : Option (ℕ × List ℕ) → Type 0 = λ o. o ≡ Some (byte, rest) → Q in
    cond_both (b == 92) (escape_at bytes) (cond (nat_le 32 b && nat_le b 126 && not (b == 34)) (Some (b, bytes)) None) P
    (λ test h. let it = escape-sound bytes byte rest h in (it.0, cons_same ((Decides-eqb b 92).0 test) refl ∙ it.1, it.2))
    (λ other. cond_both (nat_le 32 b && nat_le b 126 && not (b == 34)) (Some (b, bytes)) None P
    (λ test h.
    let same = same_parts h in
    let tests = and_parts (nat_le 32 b && nat_le b 126) (not (b == 34)) test in
    let bounds = and_parts (nat_le 32 b) (nat_le b 126) tests.0 in
    let shown : Stands b (b ∷ []) = plain (leb-true 32 b bounds.0) (leb-true b 126 bounds.1) (λ is. let yes = (Decides-eqb b 34).1 is in let not_it = not-true (b == 34) tests.1 in cc) (λ is. let yes = (Decides-eqb b 92).1 is in cc) in
    (b ∷ [], cons_same refl same.1, subst (λ x. Stands x (b ∷ [])) same.0 shown))
    (λ _ h. cc))

pub eqb_ne : (a b : ℕ) → a ≢ b → (a == b) ≡ false
eqb_ne a b h =
    let at : (t : Bool) → (a == b) ≡ t → t ≡ false = elim [
      | true ↦ λ test. absurd (h ((Decides-eqb a b).0 test))
      | false ↦ λ test. refl
    ] in
    at (a == b) refl

part-complete : (byte : ℕ) (part rest : List ℕ) → Stands byte part → part_at (part ++ rest) ≡ Some (byte, rest)
unfolding part_at escape_at
part-complete byte part rest (plain low high not_quote not_slash) =
    rw (eqb_ne byte 92 not_slash, le-leb 32 byte low, le-leb byte 126 high, eqb_ne byte 34 not_quote) refl
part-complete byte part rest quote = refl
part-complete byte part rest backslash = refl
part-complete byte part rest (hex small) = hex-complete byte rest small

-- no byte's text begins with a quotation mark, and none is empty
part-begins : (byte : ℕ) (part rest : List ℕ) → Stands byte part → skipped (34 ∷ []) (part ++ rest) ≡ None
part-begins byte part rest (plain low high not_quote not_slash) = rw (eqb_ne byte 34 not_quote) refl
part-begins byte part rest quote = refl
part-begins byte part rest backslash = refl
part-begins byte part rest (hex small) = refl

part-length : (byte : ℕ) (part : List ℕ) → Stands byte part → 1 ≤ length part
part-length byte part (plain low high not_quote not_slash) = omega arith
part-length byte part quote = omega arith
part-length byte part backslash = omega arith
part-length byte part (hex small) = omega arith

inner-sound : (n : ℕ) (bytes content rest : List ℕ) → inner_at n bytes ≡ Some (content, rest) → (inner : List ℕ) × (bytes ≡ inner ++ 34 ∷ rest) × StandAll content inner
unfolding inner_at
inner-sound zero bytes content rest h = cc
inner-sound (suc n) bytes content rest h =
    let step = λ (found : ℕ × List ℕ). option_map (with_front (found.0 ∷ [])) (inner_at n found.1) in
    let at : (o : Option (List ℕ)) → skipped (34 ∷ []) bytes ≡ o → option_map_or (λ after. Some ([], after)) o (option_and_then step (part_at bytes)) ≡ Some (content, rest)
    → (inner : List ℕ) × (bytes ≡ inner ++ 34 ∷ rest) × StandAll content inner = elim [
      | Some after ↦ λ was here.
          let same = same_parts here in
          ([], skipped-sound (34 ∷ []) bytes after was ∙ cons_same refl same.1, subst (λ c. StandAll c []) same.0 refl)
      | None ↦ λ was here.
          let found = and_then_some step (part_at bytes) (content, rest) here in
          let later = map_some (with_front (found.0.0 ∷ [])) (inner_at n found.0.1) (content, rest) found.2 in
          let part = part-sound bytes found.0.0 found.0.1 found.1 in
          let more = inner-sound n found.0.1 later.0.0 later.0.1 later.1 in
          let whole : found.0.0 ∷ later.0.0 ≡ content = ap (λ (p : List ℕ × List ℕ). p.0) later.2 in
          let after : later.0.1 ≡ rest = ap (λ (p : List ℕ × List ℕ). p.1) later.2 in (
            part.0 ++ more.0,
            part.1 ∙ ap (λ x. part.0 ++ x) (more.1 ∙ ap (λ x. more.0 ++ 34 ∷ x) after) ∙ sym (append_assoc part.0 more.0 (34 ∷ rest)),
            subst (λ c. StandAll c (part.0 ++ more.0)) whole (part.0, more.0, refl, part.2, more.2),
          )
    ] in
    at (skipped (34 ∷ []) bytes) refl h

inner-complete : (n : ℕ) (content inner rest : List ℕ) → StandAll content inner → length content < n → inner_at n (inner ++ 34 ∷ rest) ≡ Some (content, rest)
unfolding inner_at
inner-complete zero content inner rest h more = absurd (omega arith)
inner-complete (suc n) [] inner rest h more = rw h refl
inner-complete (suc n) (b ∷ content) inner rest h more =
    let regrouped : inner ++ 34 ∷ rest ≡ h.0 ++ (h.1 ++ 34 ∷ rest) = ap (λ x. x ++ 34 ∷ rest) h.2 ∙ append_assoc h.0 h.1 (34 ∷ rest) in
    let later = inner-complete n content h.1 rest h.4 (omega arith) in
    rw (regrouped, part-begins b h.0 (h.1 ++ 34 ∷ rest) h.3, part-complete b h.0 (h.1 ++ 34 ∷ rest) h.3, later) refl

length-StandAll : (content inner : List ℕ) → StandAll content inner → length content ≤ length inner
length-StandAll [] inner h = omega arith
length-StandAll (b ∷ content) inner h =
    let one = part-length b h.0 h.3 in
    let more = length-StandAll content h.1 h.4 in
    let whole : length inner ≡ length h.0 + length h.1 = ap length h.2 ∙ length-append h.0 h.1 in
    omega arith

hex_digit-clean : (n : ℕ) → not (hex_digit n == 10) ≡ true
hex_digit-clean n = grind (arith, nat_tests)

shown-clean : (byte : ℕ) → 32 ≤ byte → not (byte == 10) ≡ true
shown-clean byte h = grind (arith, nat_tests)

part-clean : (byte : ℕ) (part : List ℕ) → Stands byte part → one_line part ≡ true
part-clean byte part (plain low high not_quote not_slash) = rw (shown-clean byte low) refl
part-clean byte part quote = refl
part-clean byte part backslash = refl
part-clean byte part (hex small) = rw (hex_digit-clean (byte / 16), hex_digit-clean (byte % 16)) refl

-- a text between quotation marks has no LF
all-clean : (content inner : List ℕ) → StandAll content inner → one_line inner ≡ true
all-clean [] inner h = rw h refl
all-clean (b ∷ content) inner h = rw h.2 (one_line-append h.0 h.1 (part-clean b h.0 h.3) (all-clean content h.1 h.4))

pub quoted_rule : ValueRule quoted_at IsQuoted nothing
unfolding quoted_at
quoted_rule =
    let read = λ (inner : List ℕ). option_and_then fitting (inner_at (length inner) inner) in
    record {
      sound = λ bytes content rest h.
          let found = and_then_some read (skipped (34 ∷ []) bytes) (content, rest) h in
          let text = and_then_some fitting (inner_at (length found.0) found.0) (content, rest) found.2 in
          let fits = cond_some (nat_le (length text.0.0) 16384) text.0 (content, rest) text.2 in
          let small : length content ≤ 16384 = subst (λ (p : List ℕ × List ℕ). length p.0 ≤ 16384) fits.1 (leb-true (length text.0.0) 16384 fits.0) in
          let inner = inner-sound (length found.0) found.0 content rest (text.1 ∙ ap (λ p. Some p) fits.1) in (
            34 ∷ inner.0 ++ 34 ∷ [],
            skipped-sound (34 ∷ []) bytes found.0 found.1 ∙ cons_same refl (inner.1 ∙ sym (append_assoc inner.0 (34 ∷ []) rest)),
            (small, (inner.0, refl, inner.2)),
          );
      complete = λ content text rest h stop.
          let inner = h.1.0 in
          let regrouped : (inner ++ 34 ∷ []) ++ rest ≡ inner ++ 34 ∷ rest = append_assoc inner (34 ∷ []) rest in
          let long = length-StandAll content inner h.1.2 in
          let whole : length (inner ++ 34 ∷ rest) ≡ length inner + suc (length rest) = length-append inner (34 ∷ rest) in
          let below : length content < length (inner ++ 34 ∷ rest) = omega arith in
          rw (h.1.1, regrouped, inner-complete (length (inner ++ 34 ∷ rest)) content inner rest h.1.2 below, le-leb (length content) 16384 h.0) refl;
      clean = λ content text h. rw h.1.1 (one_line-append h.1.0 (34 ∷ []) (all-clean content h.1.0 h.1.2) refl);
    }

bytes_of_word : (high low : ℕ) → low < 256 → ((256 * high + low) / 256 ≡ high) × ((256 * high + low) % 256 ≡ low)
bytes_of_word high low h = (omega arith, omega arith)

word_of_bytes : (n : ℕ) → n < 65536 → (n / 256 < 256) × (n % 256 < 256) × (256 * (n / 256) + n % 256 ≡ n)
word_of_bytes n h = (omega arith, omega arith, omega arith)

word_shown : (bytes behind middle rest : List ℕ) (high low : ℕ) → bytes ≡ codes "0x" ++ behind → behind ≡ hex_pair high ++ middle → middle ≡ hex_pair low ++ rest → low < 256
    → bytes ≡ hex_word (256 * high + low) ++ rest
word_shown bytes behind middle rest high low e f g small =
    let split = bytes_of_word high low small in
    rw (split.0, split.1, e, f, g) refl

-- a number of two bytes
pub hex_word_rule : ValueRule hex_word_at IsHexWord nothing
unfolding hex_word_at
hex_word_rule = record {
  sound = λ bytes n rest h.
      let behind = and_then_some (part hex_at (λ high. part hex_at (λ low. known (256 * high + low)))) (skipped (codes "0x") bytes) (n, rest) h in
      let one = and_then_some (λ (high : ℕ × List ℕ). part hex_at (λ low. known (256 * high.0 + low)) high.1) (hex_at behind.0) (n, rest) behind.2 in
      let two = and_then_some (λ (low : ℕ × List ℕ). known (256 * one.0.0 + low.0) low.1) (hex_at one.0.1) (n, rest) one.2 in
      let same = same_parts two.2 in
      let high = hex-sound behind.0 one.0.0 one.0.1 one.1 in
      let low = hex-sound one.0.1 two.0.0 two.0.1 two.1 in
      let shown = word_shown bytes behind.0 one.0.1 two.0.1 one.0.0 two.0.0 (skipped-sound (codes "0x") bytes behind.0 behind.1) high.0 low.0 low.1 in (
        hex_word n,
        shown ∙ ap (λ m. hex_word m ++ two.0.1) same.0 ∙ ap (λ x. hex_word n ++ x) same.1,
        (subst (λ m. m < 65536) same.0 (omega arith), refl),
      );
  complete = λ n text rest p stop.
      let parts = word_of_bytes n p.0 in
      rw (p.1, hex-complete (n / 256) (hex_pair (n % 256) ++ rest) parts.0, hex-complete (n % 256) rest parts.1, parts.2) refl;
  clean = λ n text p. rw (p.1, hex_digit-clean (n / 256 / 16), hex_digit-clean (n / 256 % 16), hex_digit-clean (n % 256 / 16), hex_digit-clean (n % 256 % 16)) refl;
}

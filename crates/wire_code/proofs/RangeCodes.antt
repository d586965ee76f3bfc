-- The readings of numbers in a range are exact, down to the byte that is wrong.
use Rattle.std.proofs.Common.{◌≡◌, ◌⊎◌, ℕ, suc, ◌-◌, ◌*◌, ◌/◌, ◌%◌, ◌<◌, ◌≤◌, ◌&&◌, ◌==◌, nat_lt, nat_le, List, [], ◌∷◌, ◌++◌, length, drop, replicate, slice_index, if◌then◌else◌, Result, Ok, Err, refl, sym, ◌∙◌, ap, subst, inl, inr, arith}
use Rattle.std.proofs.lemmas.Bool.{cases_lt, cases_eq, cond-true, cond-false, lt-ltb, le-ltb, le-leb, lt-leb, and_from, and_left, and_right, eq-eqb, ne_eqb}
use Rattle.std.proofs.lemmas.List.{take_all, length-append, length-replicate}
use Rattle.std.proofs.lemmas.List.Elements.{All-head, All-cons, All-nil, All-append, All-replicate, All-take}
use Rattle.byteorder.specs.Endian.{big_number}
use Rattle.wire_code.specs.declared.fault.Fault.{Fault}
use Rattle.wire_code.specs.declared.fault.Fault.TheVariants.{Short, Bad}
use Rattle.wire_code.specs.Spelling.{IsByte, IsBytes, IsWithin, IsClient, IsCount, number_text, Begins}
use Rattle.wire_code.specs.Reading.{wrong, then_read, within_at, client_at, count_at, byte_at}
use Rattle.wire_code.proofs.Codes.{Code, IsWrong, ok_is}
use Rattle.wire_code.proofs.NumberCodes.{number_code, number_below, number_text-big_number, number_read, number_short}

-- a byte in a range
module _ (low high : ℕ) where
  byte_read : (byte : ℕ) (rest : List ℕ) → IsWithin low high byte → byte_at low high (byte ∷ rest) ≡ Ok (byte, rest)
  byte_read byte rest fits = cond-true (nat_le low byte && nat_le byte high) (Ok (byte, rest)) (wrong rest) (and_from _ _ (le-leb _ _ fits.least) (le-leb _ _ fits.most))

  -- a byte is in the range, or it is wrong whatever follows
  byte_cases : (byte : ℕ) → IsWithin low high byte ⊎ ((rest : List ℕ) → byte_at low high (byte ∷ rest) ≡ wrong rest)
  byte_cases byte =
      elim (cases_lt byte low) [
        | inl less ↦ inr (λ rest. cond-false (nat_le low byte && nat_le byte high) (Ok (byte, rest)) (wrong rest) (and_left _ _ (lt-leb _ _ less)))
        | inr least ↦ elim (cases_lt high byte) [
          | inl more ↦ inr (λ rest. cond-false (nat_le low byte && nat_le byte high) (Ok (byte, rest)) (wrong rest) (and_right _ _ (lt-leb _ _ more)))
          | inr most ↦ inl (record { least = least; most = most })
        ]
      ]

  byte-sound : (bytes : List ℕ) → IsBytes bytes → (x : ℕ) (rest : List ℕ) → byte_at low high bytes ≡ Ok (x, rest) → IsWithin low high x × (bytes ≡ (x ∷ []) ++ rest)
  byte-sound [] all x rest done = cc
  byte-sound (byte ∷ others) all x rest done =
      elim (byte_cases byte) [
        | inl fits ↦
            let P : ℕ × List ℕ → Type 0 = λ q. IsWithin low high q.0 × (byte ∷ others ≡ (q.0 ∷ []) ++ q.1) in
            subst P (ok_is _ _ (sym (byte_read byte others fits) ∙ done)) (fits, refl)
        | inr fails ↦ let never : ◌≡◌ {A = Result (ℕ × List ℕ) Fault} (wrong others) (Ok (x, rest)) = sym (fails others) ∙ done in cc
      ]

  byte-short : (bytes : List ℕ) → low ≤ high → byte_at low high bytes ≡ Err Short → Begins (λ (byte : ℕ). byte ∷ []) (IsWithin low high) bytes
  byte-short [] some done = record { value = low; more = low ∷ []; fits = record { least = omega arith; most = some }; is = refl }
  byte-short (byte ∷ others) some done =
      elim (byte_cases byte) [
        | inl fits ↦ let never : ◌≡◌ {A = Result (ℕ × List ℕ) Fault} (Ok (byte, others)) (Err Short) = sym (byte_read byte others fits) ∙ done in cc
        | inr fails ↦ let never : ◌≡◌ {A = Result (ℕ × List ℕ) Fault} (wrong others) (Err Short) = sym (fails others) ∙ done in cc
      ]

  byte-bad : (bytes : List ℕ) (left : ℕ) → low ≤ high → byte_at low high bytes ≡ Err (Bad left) → IsWrong (byte_at low high) (Begins (λ (byte : ℕ). byte ∷ []) (IsWithin low high)) bytes left
  byte-bad [] left some done = cc
  byte-bad (byte ∷ others) left some done =
      elim (byte_cases byte) [
        | inl fits ↦ let never : ◌≡◌ {A = Result (ℕ × List ℕ) Fault} (Ok (byte, others)) (Err (Bad left)) = sym (byte_read byte others fits) ∙ done in cc
        | inr fails ↦
            let same : ◌≡◌ {A = Result (ℕ × List ℕ) Fault} (wrong others) (Err (Bad left)) = sym (fails others) ∙ done in
            record {
              front = [];
              byte = byte;
              rest = others;
              is = refl;
              left_is = cc;
              begins = record { value = low; more = low ∷ []; fits = record { least = omega arith; most = some }; is = refl };
              always = fails;
            }
      ]

  pub byte_code : low ≤ high → Code (byte_at low high) (λ (byte : ℕ). byte ∷ []) (IsWithin low high)
  byte_code some = record {
    back = byte_read;
    sound = byte-sound;
    short = λ bytes all done. byte-short bytes some done;
    bad = λ bytes all left done. byte-bad bytes left some done;
    some = (low, record { least = omega arith; most = some });
  }

-- a number of two bytes in a range
module _ (low high : ℕ) (small : low < 256) (some : low ≤ high) (fits : high < 65536) where
  abbrev pair : ℕ → ℕ → ℕ
  pair first second = big_number 2 (first ∷ second ∷ [])

  -- what the reading comes to behind its first byte
  abbrev rest_read : List ℕ → Result (ℕ × List ℕ) Fault
  rest_read bytes =
      if nat_lt (length bytes) 2 then Err Short
      else (if nat_le low (big_number 2 bytes) && nat_le (big_number 2 bytes) high then Ok (big_number 2 bytes, drop 2 bytes)
      else Err (Bad (length bytes - 1)))

  abbrev whole_read : List ℕ → Result (ℕ × List ℕ) Fault
  whole_read bytes = if nat_lt high (slice_index bytes 0 * 256) then Err (Bad (length bytes)) else rest_read bytes

  first_seen : (first : ℕ) (rest : List ℕ) → within_at low high (first ∷ rest) ≡ whole_read (first ∷ rest)
  unfolding within_at
  first_seen first rest = cond-false (nat_lt (length (first ∷ rest)) 1) (Err Short) (whole_read (first ∷ rest)) (le-ltb _ _ (omega arith))

  none_read : within_at low high [] ≡ Err Short
  unfolding within_at
  none_read = refl

  first_wrong : (first : ℕ) (rest : List ℕ) → high < first * 256 → within_at low high (first ∷ rest) ≡ wrong rest
  first_wrong first rest over = first_seen first rest ∙ cond-true (nat_lt high (first * 256)) (wrong rest) (rest_read (first ∷ rest)) (lt-ltb high (first * 256) over)

  first_right : (first : ℕ) (rest : List ℕ) → first * 256 ≤ high → within_at low high (first ∷ rest) ≡ rest_read (first ∷ rest)
  first_right first rest under = first_seen first rest ∙ cond-false (nat_lt high (first * 256)) (wrong rest) (rest_read (first ∷ rest)) (le-ltb high (first * 256) under)

  one_read : (first : ℕ) → first * 256 ≤ high → within_at low high (first ∷ []) ≡ Err Short
  one_read first under = first_right first [] under

  second_seen : (first second : ℕ) (rest : List ℕ) → first * 256 ≤ high → within_at low high (first ∷ second ∷ rest) ≡ (if nat_le low (pair first second) && nat_le (pair first second) high then Ok (pair first second, rest) else wrong rest)
  second_seen first second rest under =
      let bytes : List ℕ = first ∷ second ∷ rest in
      let test = nat_le low (pair first second) && nat_le (pair first second) high in
      let left : length bytes - 1 ≡ suc (length rest) = omega arith in
      first_right first (second ∷ rest) under
      ∙ cond-false (nat_lt (length bytes) 2) (Err Short) (if test then Ok (pair first second, rest) else Err (Bad (length bytes - 1))) (le-ltb (length bytes) 2 (omega arith))
      ∙ ap (λ n. if test then Ok (pair first second, rest) else Err (Bad n)) left

  both_right : (first second : ℕ) (rest : List ℕ) → IsWithin low high (pair first second) → within_at low high (first ∷ second ∷ rest) ≡ Ok (pair first second, rest)
  both_right first second rest within =
      second_seen first second rest (omega (arith, within.most))
      ∙ cond-true (nat_le low (pair first second) && nat_le (pair first second) high) (Ok (pair first second, rest)) (wrong rest) (and_from _ _ (le-leb _ _ within.least) (le-leb _ _ within.most))

  -- two bytes are a number in the range, or the first is wrong, or the second
  pair_cases : (first second : ℕ) → IsWithin low high (pair first second) ⊎ ((high < first * 256) ⊎ ((first * 256 ≤ high) × ((rest : List ℕ) → within_at low high (first ∷ second ∷ rest) ≡ wrong rest)))
  pair_cases first second =
      let number = pair first second in
      elim (cases_lt high (first * 256)) [
        | inl over ↦ inr (inl over)
        | inr under ↦ elim (cases_lt number low) [
          | inl less ↦ inr (inr (under, λ rest. second_seen first second rest under ∙ cond-false (nat_le low number && nat_le number high) (Ok (number, rest)) (wrong rest) (and_left _ _ (lt-leb _ _ less))))
          | inr least ↦ elim (cases_lt high number) [
            | inl more ↦ inr (inr (under, λ rest. second_seen first second rest under ∙ cond-false (nat_le low number && nat_le number high) (Ok (number, rest)) (wrong rest) (and_right _ _ (lt-leb _ _ more))))
            | inr most ↦ inl (record { least = least; most = most })
          ]
        ]
      ]

  pair_text : (first second : ℕ) (rest : List ℕ) → IsBytes (first ∷ second ∷ rest) → number_text 2 (pair first second) ≡ first ∷ second ∷ []
  pair_text first second rest all = number_text-big_number 2 (first ∷ second ∷ rest) all (omega arith)

  -- a first byte with which some number of the range begins
  begins_first : (first : ℕ) → IsByte first → first * 256 ≤ high → Begins (number_text 2) (IsWithin low high) (first ∷ [])
  begins_first first byte under =
      elim (cases_eq first 0) [
        | inl is ↦ record {
          value = pair first low;
          more = low ∷ [];
          fits = record { least = omega arith; most = omega arith };
          is = pair_text first low [] (All-cons IsByte first (low ∷ []) byte (All-cons IsByte low [] small (All-nil IsByte)));
        }
        | inr other ↦ record {
          value = pair first 0;
          more = 0 ∷ [];
          fits = record { least = omega arith; most = omega arith };
          is = pair_text first 0 [] (All-cons IsByte first (0 ∷ []) byte (All-cons IsByte 0 [] (omega arith) (All-nil IsByte)));
        }
      ]

  begins_none : Begins (number_text 2) (IsWithin low high) []
  begins_none = record { value = low; more = number_text 2 low; fits = record { least = omega arith; most = some }; is = refl }

  within-sound : (bytes : List ℕ) → IsBytes bytes → (x : ℕ) (rest : List ℕ) → within_at low high bytes ≡ Ok (x, rest) → IsWithin low high x × (bytes ≡ number_text 2 x ++ rest)
  within-sound [] all x rest done = let never : ◌≡◌ {A = Result (ℕ × List ℕ) Fault} (Err Short) (Ok (x, rest)) = sym none_read ∙ done in cc
  within-sound (first ∷ []) all x rest done =
      elim (cases_lt high (first * 256)) [
        | inl over ↦ let never : ◌≡◌ {A = Result (ℕ × List ℕ) Fault} (wrong []) (Ok (x, rest)) = sym (first_wrong first [] over) ∙ done in cc
        | inr under ↦ let never : ◌≡◌ {A = Result (ℕ × List ℕ) Fault} (Err Short) (Ok (x, rest)) = sym (one_read first under) ∙ done in cc
      ]
  within-sound (first ∷ second ∷ others) all x rest done =
      elim (pair_cases first second) [
        | inl within ↦
            let P : ℕ × List ℕ → Type 0 = λ q. IsWithin low high q.0 × (first ∷ second ∷ others ≡ number_text 2 q.0 ++ q.1) in
            subst P (ok_is _ _ (sym (both_right first second others within) ∙ done)) (within, ap (λ (t : List ℕ). t ++ others) (sym (pair_text first second others all)))
        | inr fails ↦ elim fails [
          | inl over ↦ let never : ◌≡◌ {A = Result (ℕ × List ℕ) Fault} (wrong (second ∷ others)) (Ok (x, rest)) = sym (first_wrong first (second ∷ others) over) ∙ done in cc
          | inr last ↦ let never : ◌≡◌ {A = Result (ℕ × List ℕ) Fault} (wrong others) (Ok (x, rest)) = sym (last.1 others) ∙ done in cc
        ]
      ]

  within-short : (bytes : List ℕ) → IsBytes bytes → within_at low high bytes ≡ Err Short → Begins (number_text 2) (IsWithin low high) bytes
  within-short [] all done = begins_none
  within-short (first ∷ []) all done =
      elim (cases_lt high (first * 256)) [
        | inl over ↦ let never : ◌≡◌ {A = Result (ℕ × List ℕ) Fault} (wrong []) (Err Short) = sym (first_wrong first [] over) ∙ done in cc
        | inr under ↦ begins_first first (All-head IsByte first [] all) under
      ]
  within-short (first ∷ second ∷ others) all done =
      elim (pair_cases first second) [
        | inl within ↦ let never : ◌≡◌ {A = Result (ℕ × List ℕ) Fault} (Ok (pair first second, others)) (Err Short) = sym (both_right first second others within) ∙ done in cc
        | inr fails ↦ elim fails [
          | inl over ↦ let never : ◌≡◌ {A = Result (ℕ × List ℕ) Fault} (wrong (second ∷ others)) (Err Short) = sym (first_wrong first (second ∷ others) over) ∙ done in cc
          | inr last ↦ let never : ◌≡◌ {A = Result (ℕ × List ℕ) Fault} (wrong others) (Err Short) = sym (last.1 others) ∙ done in cc
        ]
      ]

  abbrev WrongWithin : List ℕ → ℕ → Type 0
  WrongWithin bytes left = IsWrong (within_at low high) (Begins (number_text 2) (IsWithin low high)) bytes left

  wrong_first : (first : ℕ) (rest : List ℕ) (left : ℕ) → high < first * 256 → within_at low high (first ∷ rest) ≡ Err (Bad left) → WrongWithin (first ∷ rest) left
  wrong_first first rest left over done =
      let same : ◌≡◌ {A = Result (ℕ × List ℕ) Fault} (wrong rest) (Err (Bad left)) = sym (first_wrong first rest over) ∙ done in
      record { front = []; byte = first; rest = rest; is = refl; left_is = cc; begins = begins_none; always = λ other. first_wrong first other over }

  within-bad : (bytes : List ℕ) → IsBytes bytes → (left : ℕ) → within_at low high bytes ≡ Err (Bad left) → WrongWithin bytes left
  within-bad [] all left done = let never : ◌≡◌ {A = Result (ℕ × List ℕ) Fault} (Err Short) (Err (Bad left)) = sym none_read ∙ done in cc
  within-bad (first ∷ []) all left done =
      elim (cases_lt high (first * 256)) [
        | inl over ↦ wrong_first first [] left over done
        | inr under ↦ let never : ◌≡◌ {A = Result (ℕ × List ℕ) Fault} (Err Short) (Err (Bad left)) = sym (one_read first under) ∙ done in cc
      ]
  within-bad (first ∷ second ∷ others) all left done =
      elim (pair_cases first second) [
        | inl within ↦ let never : ◌≡◌ {A = Result (ℕ × List ℕ) Fault} (Ok (pair first second, others)) (Err (Bad left)) = sym (both_right first second others within) ∙ done in cc
        | inr fails ↦ elim fails [
          | inl over ↦ wrong_first first (second ∷ others) left over done
          | inr last ↦
              let same : ◌≡◌ {A = Result (ℕ × List ℕ) Fault} (wrong others) (Err (Bad left)) = sym (last.1 others) ∙ done in
              record { front = first ∷ []; byte = second; rest = others; is = refl; left_is = cc; begins = begins_first first (All-head IsByte first (second ∷ others) all) last.0; always = last.1 }
        ]
      ]

  within-back : (x : ℕ) (rest : List ℕ) → IsWithin low high x → within_at low high (number_text 2 x ++ rest) ≡ Ok (x, rest)
  unfolding number_text
  within-back x rest within =
      let first = x / 256 % 256 in
      let second = x % 256 in
      let number : pair first second ≡ x = omega arith in
      let same : IsWithin low high (pair first second) = subst (IsWithin low high) (sym number) within in
      both_right first second rest same ∙ ap (λ n. Ok (n, rest)) number

  pub within_code : Code (within_at low high) (number_text 2) (IsWithin low high)
  within_code = record {
    back = within-back;
    sound = within-sound;
    short = within-short;
    bad = within-bad;
    some = (low, record { least = omega arith; most = some });
  }

-- a number of four bytes that is not 0
abbrev checked : ℕ → List ℕ → Result (ℕ × List ℕ) Fault
checked number rest = if number == 0 then wrong rest else Ok (number, rest)

count_read : (bytes : List ℕ) → 4 ≤ length bytes → count_at bytes ≡ checked (big_number 4 bytes) (drop 4 bytes)
unfolding count_at
count_read bytes long = ap (λ (r : Result (ℕ × List ℕ) Fault). then_read r checked) (number_read 4 bytes long)

count_short : (bytes : List ℕ) → length bytes < 4 → count_at bytes ≡ Err Short
unfolding count_at
count_short bytes few = ap (λ (r : Result (ℕ × List ℕ) Fault). then_read r checked) (number_short 4 bytes few)

count_right : (number : ℕ) (rest : List ℕ) → 1 ≤ number → checked number rest ≡ Ok (number, rest)
count_right number rest some = cond-false (number == 0) (wrong rest) (Ok (number, rest)) (ne_eqb number 0 (λ none. absurd (omega arith)))

count_wrong : (number : ℕ) (rest : List ℕ) → number ≡ 0 → checked number rest ≡ wrong rest
count_wrong number rest none = cond-true (number == 0) (wrong rest) (Ok (number, rest)) (eq-eqb number 0 none)

count-back : (x : ℕ) (rest : List ℕ) → IsCount x → count_at (number_text 4 x ++ rest) ≡ Ok (x, rest)
unfolding count_at
count-back x rest fits =
    ap (λ (r : Result (ℕ × List ℕ) Fault). then_read r checked) ((number_code 4).back x rest (omega (arith, fits.most))) ∙ count_right x rest fits.least

count-sound : (bytes : List ℕ) → IsBytes bytes → (x : ℕ) (rest : List ℕ) → count_at bytes ≡ Ok (x, rest) → IsCount x × (bytes ≡ number_text 4 x ++ rest)
count-sound bytes all x rest done =
    elim (cases_lt (length bytes) 4) [
      | inl few ↦ let never : ◌≡◌ {A = Result (ℕ × List ℕ) Fault} (Err Short) (Ok (x, rest)) = sym (count_short bytes few) ∙ done in cc
      | inr long ↦
          let number = big_number 4 bytes in
          let last = drop 4 bytes in
          let seen : checked number last ≡ Ok (x, rest) = sym (count_read bytes long) ∙ done in
          elim (cases_eq number 0) [
            | inl none ↦ let never : ◌≡◌ {A = Result (ℕ × List ℕ) Fault} (wrong last) (Ok (x, rest)) = sym (count_wrong number last none) ∙ seen in cc
            | inr other ↦
                let part = (number_code 4).sound bytes all number last (number_read 4 bytes long) in
                let P : ℕ × List ℕ → Type 0 = λ q. IsCount q.0 × (bytes ≡ number_text 4 q.0 ++ q.1) in
                let some : IsCount number = record { least = omega arith; most = omega (arith, part.0) } in
                subst P (ok_is _ _ (sym (count_right number last some.least) ∙ seen)) (some, part.1)
          ]
    ]

count_some : (bytes : List ℕ) → length bytes < 4 → 1 ≤ big_number 4 (bytes ++ replicate (4 - length bytes) 1)
count_some [] few = omega arith
count_some (a ∷ []) few = omega arith
count_some (a ∷ b ∷ []) few = omega arith
count_some (a ∷ b ∷ c ∷ []) few = omega arith
count_some (a ∷ b ∷ c ∷ d ∷ rest) few = absurd (omega arith)

-- fewer than four bytes, and ones behind them, are a number that is not 0
begins_count : (bytes : List ℕ) → IsBytes bytes → length bytes < 4 → Begins (number_text 4) IsCount bytes
begins_count bytes all few =
    let more : List ℕ = replicate (4 - length bytes) 1 in
    let ones = All-replicate IsByte (4 - length bytes) 1 (omega arith) in
    let whole = All-append IsByte bytes more all ones in
    let count : length (bytes ++ more) ≡ 4 = omega (arith, length-append bytes more, length-replicate {A = ℕ} (4 - length bytes) 1) in
    record {
      value = big_number 4 (bytes ++ more);
      more = more;
      fits = record { least = count_some bytes few; most = omega (arith, number_below 4 (bytes ++ more) whole) };
      is = number_text-big_number 4 (bytes ++ more) whole (omega arith) ∙ take_all 4 (bytes ++ more) (omega arith);
    }

count-short : (bytes : List ℕ) → IsBytes bytes → count_at bytes ≡ Err Short → Begins (number_text 4) IsCount bytes
count-short bytes all done =
    elim (cases_lt (length bytes) 4) [
      | inl few ↦ begins_count bytes all few
      | inr long ↦
          let number = big_number 4 bytes in
          let last = drop 4 bytes in
          let seen : checked number last ≡ Err Short = sym (count_read bytes long) ∙ done in
          elim (cases_eq number 0) [
            | inl none ↦ let never : ◌≡◌ {A = Result (ℕ × List ℕ) Fault} (wrong last) (Err Short) = sym (count_wrong number last none) ∙ seen in cc
            | inr other ↦ let never : ◌≡◌ {A = Result (ℕ × List ℕ) Fault} (Ok (number, last)) (Err Short) = sym (count_right number last (omega arith)) ∙ seen in cc
          ]
    ]

abbrev WrongCount : List ℕ → ℕ → Type 0
WrongCount bytes left = IsWrong count_at (Begins (number_text 4) IsCount) bytes left

few_right : (bytes : List ℕ) (left : ℕ) → length bytes < 4 → count_at bytes ≡ Err (Bad left) → ⊥
few_right bytes left few done = let never : ◌≡◌ {A = Result (ℕ × List ℕ) Fault} (Err Short) (Err (Bad left)) = sym (count_short bytes few) ∙ done in cc

count-bad : (bytes : List ℕ) → IsBytes bytes → (left : ℕ) → count_at bytes ≡ Err (Bad left) → WrongCount bytes left
count-bad [] all left done = absurd (few_right [] left (omega arith) done)
count-bad (a ∷ []) all left done = absurd (few_right (a ∷ []) left (omega arith) done)
count-bad (a ∷ b ∷ []) all left done = absurd (few_right (a ∷ b ∷ []) left (omega arith) done)
count-bad (a ∷ b ∷ c ∷ []) all left done = absurd (few_right (a ∷ b ∷ c ∷ []) left (omega arith) done)
count-bad (a ∷ b ∷ c ∷ d ∷ rest) all left done =
    let number = big_number 4 (a ∷ b ∷ c ∷ d ∷ []) in
    let seen : checked number rest ≡ Err (Bad left) = sym (count_read (a ∷ b ∷ c ∷ d ∷ rest) (omega arith)) ∙ done in
    elim (cases_eq number 0) [
      | inl none ↦
          let same : ◌≡◌ {A = Result (ℕ × List ℕ) Fault} (wrong rest) (Err (Bad left)) = sym (count_wrong number rest none) ∙ seen in
          record {
            front = a ∷ b ∷ c ∷ [];
            byte = d;
            rest = rest;
            is = refl;
            left_is = cc;
            begins = begins_count (a ∷ b ∷ c ∷ []) (All-take IsByte 3 (a ∷ b ∷ c ∷ d ∷ rest) all) (omega arith);
            always = λ last. count_read (a ∷ b ∷ c ∷ d ∷ last) (omega arith) ∙ count_wrong number last none;
          }
      | inr other ↦ let never : ◌≡◌ {A = Result (ℕ × List ℕ) Fault} (Ok (number, rest)) (Err (Bad left)) = sym (count_right number rest (omega arith)) ∙ seen in cc
    ]

pub count_code : Code count_at (number_text 4) IsCount
count_code = record {
  back = count-back;
  sound = count-sound;
  short = count-short;
  bad = count-bad;
  some = (1, record { least = omega arith; most = omega arith });
}

-- a client
pub client_code : Code client_at (number_text 2) IsClient
client_code = within_code 1 4096 (omega arith) (omega arith) (omega arith)

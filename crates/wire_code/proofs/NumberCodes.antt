-- The readings of numbers are exact. The bytes of a number that was read from bytes are these bytes.
use Rattle.std.proofs.Common.{◌≡◌, ℕ, zero, suc, ◌+◌, ◌-◌, ◌*◌, ◌/◌, ◌^◌, ◌<◌, ◌≤◌, nat_lt, List, [], ◌∷◌, ◌++◌, length, take, drop, replicate, slice_index, Result, Ok, Err, refl, sym, ◌∙◌, ap, subst, inl, inr, arith, w64}
use Rattle.std.specs.Int.{byte_at, bytes_high_first, cast_signed, cast_unsigned}
use Rattle.std.proofs.Math.Facts.{sfits_to_z, Fits-of_z, of_z-to_z, to_z-of_z, Fits-of_lt}
use Rattle.std.proofs.lemmas.Nat.{same_from_place, mod_below}
use Rattle.std.proofs.lemmas.Bool.{cases_lt, cond-true, cond-false, lt-ltb, le-ltb}
use Rattle.std.proofs.lemmas.List.{append-nil, drop_at, take_all, take-append-drop, length-append, length-take-le, length-replicate, get_or_past}
use Rattle.std.proofs.lemmas.List.Elements.{All-tail, All-cons, All-append, All-replicate, All-take, All-nil}
use Rattle.byteorder.specs.Endian.{big_number, big_bytes}
use Rattle.byteorder.specs.Numbers.{big_from-cons, big_from-take, big_from-lt, big_number-reads_back, length-bytes_high_first}
use Rattle.wire_code.specs.declared.fault.Fault.{Fault}
use Rattle.wire_code.specs.declared.fault.Fault.TheVariants.{Short, Bad}
use Rattle.wire_code.specs.Spelling.{IsByte, IsBytes, IsNumber, IsSigned, number_text, signed_text, Begins}
use Rattle.wire_code.specs.Reading.{number_at, signed_at}
use Rattle.wire_code.proofs.Codes.{Code, made_code, ok_is}

-- each place of bytes holds a byte, and behind them stands 0
each_byte : (bytes : List ℕ) → IsBytes bytes → (k : ℕ) → slice_index bytes k < 256
each_byte bytes all k =
    elim (cases_lt k (length bytes)) [
      | inl within ↦ all k 0 within
      | inr past ↦ let zero_there : slice_index bytes k ≡ 0 = get_or_past bytes k 0 past in omega arith
    ]

pub number_below : (n : ℕ) (bytes : List ℕ) → IsBytes bytes → big_number n bytes < 256 ^ n
number_below n bytes all = big_from-lt 0 n bytes (each_byte bytes all)

-- bytes of one number are the same
same_bytes : (n : ℕ) (xs ys : List ℕ) → IsBytes xs → IsBytes ys → length xs ≡ n → length ys ≡ n → big_number n xs ≡ big_number n ys → xs ≡ ys
same_bytes zero [] [] all_xs all_ys long_xs long_ys same = refl
same_bytes zero [] (y ∷ ys) all_xs all_ys long_xs long_ys same = absurd (omega arith)
same_bytes zero (x ∷ xs) ys all_xs all_ys long_xs long_ys same = absurd (omega arith)
same_bytes (suc n) [] ys all_xs all_ys long_xs long_ys same = absurd (omega arith)
same_bytes (suc n) (x ∷ xs) [] all_xs all_ys long_xs long_ys same = absurd (omega arith)
same_bytes (suc n) (x ∷ xs) (y ∷ ys) all_xs all_ys long_xs long_ys same =
    let rest_xs = All-tail IsByte x xs all_xs in
    let rest_ys = All-tail IsByte y ys all_ys in
    let sums : x * 256 ^ n + big_number n xs ≡ y * 256 ^ n + big_number n ys = ap (λ r. x * 256 ^ n + r) (sym (big_from-cons 0 n x xs)) ∙ same ∙ ap (λ r. y * 256 ^ n + r) (big_from-cons 0 n y ys) in
    let parts = same_from_place x (big_number n xs) y (big_number n ys) (256 ^ n) (number_below n xs rest_xs) (number_below n ys rest_ys) sums in
    let others = same_bytes n xs ys rest_xs rest_ys (omega arith) (omega arith) parts.1 in
    λ i. parts.0 i ∷ others i

low_byte : (k x : ℕ) → byte_at k x < 256
low_byte zero x = mod_below x 256 (omega arith)
low_byte (suc k) x = mod_below (x / 256 ^ suc k) 256 (omega arith)

bytes_of_number : (n x : ℕ) → IsBytes (bytes_high_first n x)
bytes_of_number zero x = All-nil IsByte
bytes_of_number (suc n) x =
    All-cons IsByte (byte_at n x) (bytes_high_first n x) (low_byte n x) (bytes_of_number n x)

-- the bytes of a number that was read from bytes are these bytes
pub number_text-big_number : (n : ℕ) (bytes : List ℕ) → IsBytes bytes → n ≤ length bytes → number_text n (big_number n bytes) ≡ take n bytes
unfolding number_text
number_text-big_number n bytes all long =
    let x = big_number n bytes in
    let back : big_number n (big_bytes n x) ≡ x = ap (big_number n) (sym (append-nil (big_bytes n x))) ∙ big_number-reads_back n x [] (number_below n bytes all) in
    let front : big_number n (take n bytes) ≡ x = big_from-take 0 n n bytes (omega arith) in
    same_bytes n (big_bytes n x) (take n bytes) (bytes_of_number n x) (All-take IsByte n bytes all) (length-bytes_high_first n x) (length-take-le n bytes long) (back ∙ sym front)

pub length-number_text : (n x : ℕ) → length (number_text n x) ≡ n
unfolding number_text
length-number_text n x = length-bytes_high_first n x

pub number_read : (n : ℕ) (bytes : List ℕ) → n ≤ length bytes → number_at n bytes ≡ Ok (big_number n bytes, drop n bytes)
unfolding number_at
number_read n bytes long = cond-false (nat_lt (length bytes) n) (Err Short) (Ok (big_number n bytes, drop n bytes)) (le-ltb (length bytes) n long)

pub number_short : (n : ℕ) (bytes : List ℕ) → length bytes < n → number_at n bytes ≡ Err Short
unfolding number_at
number_short n bytes few = cond-true (nat_lt (length bytes) n) (Err Short) (Ok (big_number n bytes, drop n bytes)) (lt-ltb (length bytes) n few)

number-back : (n x : ℕ) (rest : List ℕ) → IsNumber n x → number_at n (number_text n x ++ rest) ≡ Ok (x, rest)
unfolding number_text
number-back n x rest fits =
    let bytes = number_text n x ++ rest in
    let number : big_number n bytes ≡ x = big_number-reads_back n x rest fits in
    let last : drop n bytes ≡ rest = drop_at (number_text n x) rest n (length-number_text n x) in
    number_read n bytes (omega (arith, length-append (number_text n x) rest, length-number_text n x)) ∙ (λ i. Ok (number i, last i))

number-sound : (n : ℕ) (bytes : List ℕ) → IsBytes bytes → (x : ℕ) (rest : List ℕ) → number_at n bytes ≡ Ok (x, rest) → IsNumber n x × (bytes ≡ number_text n x ++ rest)
number-sound n bytes all x rest done =
    elim (cases_lt (length bytes) n) [
      | inl few ↦ let never : ◌≡◌ {A = Result (ℕ × List ℕ) Fault} (Err Short) (Ok (x, rest)) = sym (number_short n bytes few) ∙ done in cc
      | inr long ↦
          let found : (big_number n bytes, drop n bytes) ≡ (x, rest) = ok_is _ _ (sym (number_read n bytes long) ∙ done) in
          let whole : bytes ≡ number_text n (big_number n bytes) ++ drop n bytes = sym (take-append-drop n bytes) ∙ ap (λ front. front ++ drop n bytes) (sym (number_text-big_number n bytes all long)) in
          let P : ℕ × List ℕ → Type 0 = λ q. IsNumber n q.0 × (bytes ≡ number_text n q.0 ++ q.1) in
          subst P found (number_below n bytes all, whole)
    ]

-- bytes that are fewer than a number has, and others behind them, are a number
begins_number : (n : ℕ) (bytes more : List ℕ) → IsBytes bytes → IsBytes more → length bytes + length more ≡ n → number_text n (big_number n (bytes ++ more)) ≡ bytes ++ more
begins_number n bytes more all others long =
    let count : length (bytes ++ more) ≡ n = length-append bytes more ∙ long in
    number_text-big_number n (bytes ++ more) (All-append IsByte bytes more all others) (omega arith) ∙ take_all n (bytes ++ more) (omega arith)

number-short : (n : ℕ) (bytes : List ℕ) → IsBytes bytes → number_at n bytes ≡ Err Short → Begins (number_text n) (IsNumber n) bytes
number-short n bytes all done =
    elim (cases_lt (length bytes) n) [
      | inl few ↦
          let more : List ℕ = replicate (n - length bytes) 0 in
          let zeros = All-replicate IsByte (n - length bytes) 0 (omega arith) in
          record {
            value = big_number n (bytes ++ more);
            more = more;
            fits = number_below n (bytes ++ more) (All-append IsByte bytes more all zeros);
            is = begins_number n bytes more all zeros (omega (arith, length-replicate {A = ℕ} (n - length bytes) 0));
          }
      | inr long ↦ let never : ◌≡◌ {A = Result (ℕ × List ℕ) Fault} (Ok (big_number n bytes, drop n bytes)) (Err Short) = sym (number_read n bytes long) ∙ done in cc
    ]

number-bad : (n : ℕ) (bytes : List ℕ) (left : ℕ) → number_at n bytes ≡ Err (Bad left) → ⊥
number-bad n bytes left done =
    elim (cases_lt (length bytes) n) [
      | inl few ↦ let never : ◌≡◌ {A = Result (ℕ × List ℕ) Fault} (Err Short) (Err (Bad left)) = sym (number_short n bytes few) ∙ done in cc
      | inr long ↦ let never : ◌≡◌ {A = Result (ℕ × List ℕ) Fault} (Ok (big_number n bytes, drop n bytes)) (Err (Bad left)) = sym (number_read n bytes long) ∙ done in cc
    ]

pub number_code : (n : ℕ) → Code (number_at n) (number_text n) (IsNumber n)
number_code n = record {
  back = number-back n;
  sound = number-sound n;
  short = number-short n;
  bad = λ bytes all left done. absurd (number-bad n bytes left done);
  some = (0, let none = number_below n [] (All-nil IsByte) in omega arith);
}

pub signed_code : Code signed_at signed_text IsSigned
unfolding signed_at signed_text
signed_code =
    made_code (cast_signed w64) signed_text IsSigned (number_code 8)
    (λ n fits. ap (number_text 8) (of_z-to_z {w = w64} (Fits-of_lt fits)))
    (λ n fits. sfits_to_z {w = w64} (Fits-of_lt fits))
    (λ z fits. (cast_unsigned w64 z, to_z-of_z {w = w64} fits, omega (arith, Fits-of_z {w = w64} fits)))

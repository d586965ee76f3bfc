-- Hexadecimal digits, one after another.
use Rattle.std.proofs.Common.{◌≡◌, ℕ, zero, suc, ◌+◌, ◌-◌, ◌*◌, ◌/◌, ◌%◌, ◌^◌, ◌<◌, ◌≤◌, List, [], ◌∷◌, ◌++◌, length, take, drop, set, get_or, bit_and, refl, sym, ap, ◌∙◌, arith, append_assoc, append-nil}
use Rattle.std.proofs.lemmas.List.{take_more, take_more_set, take_all, take-append-drop}
use Rattle.std.proofs.lemmas.Nat.{and_mask}
use Rattle.ais_values.specs.Texts.{hex_digit}
use Rattle.record_print.specs.Printing.{hex_digits, hex_bytes}

-- the low four bits
low_bits : (number : ℕ) → bit_and number 15 ≡ number % 16
low_bits number = and_mask number 4

-- the digit before the last ones
hex_digits-next : (size place number : ℕ) → place < size → hex_digits (size - place) number ≡ hex_digit (number / 2 ^ (4 * (size - 1 - place)) % 16) ∷ hex_digits (size - (place + 1)) number
unfolding hex_digits
hex_digits-next size place number inside =
    let places : size - place ≡ suc (size - 1 - place) = omega arith in
    let rest : size - 1 - place ≡ size - (place + 1) = omega arith in
    ap (λ n. hex_digits n number) places ∙ ap (λ n. hex_digit (number / 2 ^ (4 * (size - 1 - place)) % 16) ∷ hex_digits n number) rest

-- one more digit of an array of them
pub hex_more : (size number place digit : ℕ) (digits : List ℕ) → place < size → length digits ≡ size → digit ≡ hex_digit (bit_and (number / 2 ^ (4 * (size - 1 - place))) 15) → take place digits ++ hex_digits (size - place) number ≡ hex_digits size number → take (place + 1) (set digits place digit) ++ hex_digits (size - (place + 1)) number ≡ hex_digits size number
hex_more size number place digit digits inside long is before =
    ap (λ ds. ds ++ hex_digits (size - (place + 1)) number) (take_more_set digits place digit (omega arith))
    ∙ append_assoc (take place digits) (digit ∷ []) (hex_digits (size - (place + 1)) number)
    ∙ ap (λ d. take place digits ++ d ∷ hex_digits (size - (place + 1)) number) (is ∙ ap hex_digit (low_bits (number / 2 ^ (4 * (size - 1 - place)))))
    ∙ ap (λ ds. take place digits ++ ds) (sym (hex_digits-next size place number inside))
    ∙ before

-- and all of them
pub hex_all : (size number place : ℕ) (digits : List ℕ) → length digits ≡ size → size ≤ place → take place digits ++ hex_digits (size - place) number ≡ hex_digits size number → digits ≡ hex_digits size number
unfolding hex_digits
hex_all size number place digits long past before =
    let none : size - place ≡ zero = omega arith in
    sym (append-nil digits) ∙ ap (λ ds. ds ++ []) (sym (take_all place digits (omega arith)))
    ∙ ap (λ n. take place digits ++ hex_digits n number) (sym none) ∙ before

pub hex_bytes-append : (one other : List ℕ) → hex_bytes (one ++ other) ≡ hex_bytes one ++ hex_bytes other
hex_bytes-append [] other = refl
hex_bytes-append (byte ∷ one) other = ap (λ ds. hex_digit (byte / 16) ∷ hex_digit (byte % 16) ∷ ds) (hex_bytes-append one other)

-- all bytes, of which so many are written
pub hex_bytes-rest : (bytes : List ℕ) (count : ℕ) → hex_bytes (take count bytes) ++ hex_bytes (drop count bytes) ≡ hex_bytes bytes
hex_bytes-rest bytes count = sym (hex_bytes-append (take count bytes) (drop count bytes)) ∙ ap hex_bytes (take-append-drop count bytes)

-- one more byte
pub hex_bytes-more : (bytes : List ℕ) (count : ℕ) → count < length bytes → hex_bytes (take (count + 1) bytes) ≡ hex_bytes (take count bytes) ++ hex_digit (get_or bytes count 0 / 16) ∷ hex_digit (get_or bytes count 0 % 16) ∷ []
hex_bytes-more bytes count inside = ap hex_bytes (take_more bytes count 0 inside) ∙ hex_bytes-append (take count bytes) (get_or bytes count 0 ∷ [])

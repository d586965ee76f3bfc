-- Words of bodies alone: reading of numbers and of texts between quotation marks on lists of bytes.
use Rattle.std.specs.Prelude.{ℕ, zero, suc, ◌+◌, ◌-◌, ◌*◌, ◌^◌, Bool, true, false, not, ◌&&◌}
use Rattle.std.specs.Prelude.{◌||◌, ℤ, pos, neg_ℤ, int_le, Option, Some, None, List, [], ◌∷◌, ◌++◌}
use Rattle.std.specs.Prelude.{◌==◌, nat_le, nat_lt, length, take, drop, codes, option_and_then, option_map, if◌then◌else◌}
use Rattle.std.specs.Char.{is_ascii_digit}
use Rattle.std.specs.List.{prefix_len}
use Rattle.std.specs.Option.{option_map_or}
use Rattle.std.specs.Str.Parse.{digits_value}
use Rattle.script_grammar.specs.Reading.{skipped, known, word, part}

-- digits without a leading zero, or `0` alone
abbrev pub is_plain : List ℕ → Bool
is_plain [] = false
is_plain (d ∷ []) = true
is_plain (d ∷ e ∷ digits) = not (d == 48)

-- the number that the first n bytes write
abbrev pub magnitude_of : ℕ → List ℕ → Option (ℕ × List ℕ)
magnitude_of n bytes =
    if is_plain (take n bytes) && nat_lt (digits_value 10 (take n bytes)) (2 ^ 64) then Some (digits_value 10 (take n bytes), drop n bytes) else None

-- a number below 2 ^ 64
unfoldable pub magnitude_at : List ℕ → Option (ℕ × List ℕ)
magnitude_at bytes = magnitude_of (prefix_len is_ascii_digit bytes) bytes

abbrev pub in_range : ℕ → ℕ → ℕ × List ℕ → Option (ℕ × List ℕ)
in_range low high found = if nat_le low found.0 && nat_le found.0 high then Some found else None

-- a number from low to high
unfoldable pub number_at : ℕ → ℕ → List ℕ → Option (ℕ × List ℕ)
number_at low high bytes = option_and_then (in_range low high) (magnitude_at bytes)

abbrev pub in_signed_range : ℤ → ℤ → ℤ → List ℕ → Option (ℤ × List ℕ)
in_signed_range low high z rest = if int_le low z && int_le z high then Some (z, rest) else None

-- a number from low to high that may be negative
unfoldable pub signed_at : ℤ → ℤ → List ℕ → Option (ℤ × List ℕ)
signed_at low high bytes = option_map_or
    (λ rest. option_and_then (λ found. in_signed_range low high (neg_ℤ (pos found.0)) found.1) (magnitude_at rest))
    (skipped (codes "-") bytes)
    (option_and_then (λ found. in_signed_range low high (pos found.0) found.1) (magnitude_at bytes))

abbrev pub is_hex : ℕ → Bool
is_hex c = (nat_le 48 c && nat_le c 57) || (nat_le 97 c && nat_le c 102)

abbrev pub hex_value : ℕ → ℕ
hex_value c = if nat_le c 57 then c - 48 else c - 87

-- the byte that two hexadecimal digits write
unfoldable pub hex_at : List ℕ → Option (ℕ × List ℕ)
hex_at [] = None
hex_at (high ∷ []) = None
hex_at (high ∷ low ∷ bytes) = if is_hex high && is_hex low then Some (16 * hex_value high + hex_value low, bytes) else None

-- a number of two bytes
unfoldable pub hex_word_at : List ℕ → Option (ℕ × List ℕ)
hex_word_at = word (codes "0x") (part hex_at (λ high. part hex_at (λ low. known (256 * high + low))))

-- what stands behind a backslash
unfoldable pub escape_at : List ℕ → Option (ℕ × List ℕ)
escape_at [] = None
escape_at (c ∷ bytes) = if c == 34 || c == 92 then Some (c, bytes) else if c == 120 then hex_at bytes else None

-- one byte of a text between quotation marks
unfoldable pub part_at : List ℕ → Option (ℕ × List ℕ)
part_at [] = None
part_at (b ∷ bytes) = if b == 92 then escape_at bytes else if nat_le 32 b && nat_le b 126 && not (b == 34) then Some (b, bytes) else None

-- the bytes before, in front of what was read
abbrev pub with_front : List ℕ → List ℕ × List ℕ → List ℕ × List ℕ
with_front front found = (front ++ found.0, found.1)

-- at most so many bytes, up to the quotation mark
unfoldable pub inner_at : ℕ → List ℕ → Option (List ℕ × List ℕ)
inner_at zero bytes = None
inner_at (suc n) bytes = option_map_or
    (λ rest. Some ([], rest))
    (skipped (34 ∷ []) bytes)
    (option_and_then (λ found. option_map (with_front (found.0 ∷ [])) (inner_at n found.1)) (part_at bytes))

abbrev pub fitting : List ℕ × List ℕ → Option (List ℕ × List ℕ)
fitting found = if nat_le (length found.0) 16384 then Some found else None

-- a text between quotation marks
unfoldable pub quoted_at : List ℕ → Option (List ℕ × List ℕ)
quoted_at bytes = option_and_then (λ inner. option_and_then fitting (inner_at (length inner) inner)) (skipped (34 ∷ []) bytes)

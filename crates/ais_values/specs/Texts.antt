-- Words of public clauses: the bound of texts, and the digits of printed numbers.
use Rattle.std.specs.Prelude.{ℕ, ◌+◌, ◌≤◌, nat_lt, if◌then◌else◌, List, length}

-- the most bytes of a text
abbrev pub most_text_bytes : ℕ
most_text_bytes = 16384

-- a text: at most so many bytes, whichever they are
abbrev pub IsText : List ℕ → Type 0
IsText bytes = length bytes ≤ most_text_bytes

-- the lower-case hexadecimal digit of a number below 16
abbrev pub hex_digit : ℕ → ℕ
hex_digit digit = if nat_lt digit 10 then 48 + digit else 87 + digit

-- Words of public clauses: how numbers and texts are spelled.
use Rattle.std.specs.Prelude.{◌≡◌, ◌≢◌, ℕ, ◌/◌, ◌%◌, ◌+◌, ◌<◌, ◌≤◌, ◌⊎◌, ℤ, pos, neg_ℤ, ◌≤ℤ◌, List, [], ◌∷◌, ◌++◌, codes}
use Rattle.std.specs.Fmt.{decimal}
use Rattle.ais_values.specs.Texts.{IsText, hex_digit}

-- a number from low to high, in decimal without a leading zero
abbrev pub IsNumber : ℕ → ℕ → ℕ → List ℕ → Type 0
IsNumber low high n text = (low ≤ n) × (n ≤ high) × (text ≡ decimal n)

-- a number from low to high that may be negative: a minus sign may stand before its digits, before 0 too
abbrev pub IsSigned : ℤ → ℤ → ℤ → List ℕ → Type 0
IsSigned low high z text =
    (low ≤ℤ z) × (z ≤ℤ high) × ((n : ℕ) × (((z ≡ pos n) × (text ≡ decimal n)) ⊎ ((z ≡ neg_ℤ (pos n)) × (text ≡ 45 ∷ decimal n))))

-- the two hexadecimal digits of a byte
abbrev pub hex_pair : ℕ → List ℕ
hex_pair byte = hex_digit (byte / 16) ∷ hex_digit (byte % 16) ∷ []

-- a number of two bytes, as `0x` and their hexadecimal digits
abbrev pub hex_word : ℕ → List ℕ
hex_word n = codes "0x" ++ (hex_pair (n / 256) ++ hex_pair (n % 256))

abbrev pub IsHexWord : ℕ → List ℕ → Type 0
IsHexWord n text = (n < 65536) × (text ≡ hex_word n)

-- how a byte may stand between quotation marks: as itself, behind a backslash, or by its two hexadecimal digits
pub data Stands : ℕ → List ℕ → Type 0 where
  plain : {byte : ℕ} → 32 ≤ byte → byte ≤ 126 → byte ≢ 34 → byte ≢ 92 → Stands byte (byte ∷ [])
  quote : Stands 34 (92 ∷ 34 ∷ [])
  backslash : Stands 92 (92 ∷ 92 ∷ [])
  hex : {byte : ℕ} → byte < 256 → Stands byte (92 ∷ 120 ∷ hex_pair byte)

-- the bytes of a text as they stand between quotation marks
abbrev pub StandAll : List ℕ → List ℕ → Type 0
StandAll [] inner = inner ≡ []
StandAll (byte ∷ bytes) inner = (part : List ℕ) × (rest : List ℕ) × (inner ≡ part ++ rest) × Stands byte part × StandAll bytes rest

-- a text of at most 16,384 bytes between quotation marks
abbrev pub IsQuoted : List ℕ → List ℕ → Type 0
IsQuoted bytes text = IsText bytes × ((inner : List ℕ) × (text ≡ 34 ∷ inner ++ 34 ∷ []) × StandAll bytes inner)

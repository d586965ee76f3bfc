-- Words of public clauses: the lists of words that are read as a line.
use Rattle.std.specs.Prelude.{ℕ, Bool, false, not, ◌&&◌, ◌==◌, nat_lt, if◌then◌else◌, List, [], ◌∷◌, length, Option, Some, None}
use Rattle.std.specs.List.{list_any}

-- whether a word begins with a minus sign, as options do
abbrev pub is_dashed : List ℕ → Bool
is_dashed [] = false
is_dashed (byte ∷ bytes) = byte == 45

-- one to six words, of which none does
abbrev pub is_line : List (List ℕ) → Bool
is_line words = not (list_any is_dashed words) && (nat_lt 0 (length words) && nat_lt (length words) 7)

abbrev pub line_of : List (List ℕ) → Option (List (List ℕ))
line_of words = if is_line words then Some words else None

-- How a line stands in a picture: its number and its text, as a viewer shows them where the pointer rests. Words of public clauses.
use Rattle.std.specs.Prelude.{ℕ, ◌+◌, ◌/◌, ◌%◌, ◌==◌, nat_lt, List, ◌∷◌, [], ◌++◌, if◌then◌else◌, codes, decimal}
use Rattle.std.specs.List.{flat_map}
use Rattle.ais_values.specs.Texts.{hex_digit}

-- a byte that is not printable, as `\xNN`
abbrev pub hexed : ℕ → List ℕ
hexed byte = 92 ∷ 120 ∷ hex_digit (byte / 16) ∷ hex_digit (byte % 16) ∷ []

-- how a byte stands in the text of an element
abbrev pub escape_of : ℕ → List ℕ
escape_of byte =
    if byte == 38 then codes "&amp;" else
    if byte == 60 then codes "&lt;" else
    if byte == 62 then codes "&gt;" else
    if nat_lt byte 32 then hexed byte else
    if nat_lt 126 byte then hexed byte else byte ∷ []

abbrev pub escaped : List ℕ → List ℕ
escaped text = flat_map escape_of text

-- the title of the line of this number
abbrev pub title : ℕ → List ℕ → List ℕ
title number line = codes "<title>" ++ decimal number ++ codes ": " ++ escaped line ++ codes "</title>"

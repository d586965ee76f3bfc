-- Words of public clauses: how values are written, each in one of its spellings.
use Rattle.std.specs.Prelude.{ℕ, Bool, ◌&&◌, ◌||◌, ◌==◌, nat_le, Option, Some, None, List, [], ◌∷◌, ◌++◌, if◌then◌else◌}
use Rattle.std.specs.List.{flat_map}
use Rattle.script_grammar.specs.Values.{hex_pair}

-- texts one after another
abbrev pub joined : List (List ℕ) → List ℕ
joined [] = []
joined (text ∷ texts) = text ++ joined texts

-- a byte between quotation marks: by its number only where it is not printable
abbrev pub byte_text : ℕ → List ℕ
byte_text byte =
    if byte == 34 || byte == 92 then 92 ∷ byte ∷ []
    else if nat_le 32 byte && nat_le byte 126 then byte ∷ []
    else 92 ∷ 120 ∷ hex_pair byte

-- a text between quotation marks
abbrev pub quoted_text : List ℕ → List ℕ
quoted_text bytes = 34 ∷ flat_map byte_text bytes ++ 34 ∷ []

-- values, each behind a comma
abbrev pub commas_text : {X : Type 0} → (X → List ℕ) → List X → List ℕ
commas_text write [] = []
commas_text write (x ∷ xs) = 44 ∷ write x ++ commas_text write xs

-- values, separated by commas
abbrev pub list_text : {X : Type 0} → (X → List ℕ) → List X → List ℕ
list_text write [] = []
list_text write (x ∷ xs) = write x ++ commas_text write xs

-- what stands where a value may be absent
abbrev pub maybe_text : {X : Type 0} → List ℕ → (X → List ℕ) → Option X → List ℕ
maybe_text word write None = []
maybe_text word write (Some x) = word ++ write x

-- what stands where a list may be empty
abbrev pub listed_text : {X : Type 0} → List ℕ → (X → List ℕ) → List X → List ℕ
listed_text word write [] = []
listed_text word write (x ∷ xs) = word ++ list_text write (x ∷ xs)

-- what stands where nothing means one value, which a test knows
abbrev pub unless_text : {X : Type 0} → (X → Bool) → List ℕ → (X → List ℕ) → X → List ℕ
unless_text is_absent word write x = if is_absent x then [] else word ++ write x

-- Words of public clauses: the lines that tell of a file's records.
use Rattle.std.specs.Prelude.{ℕ, ◌==◌, List, [], ◌∷◌, ◌++◌, length, if◌then◌else◌, codes}
use Rattle.std.specs.Fmt.{decimal}
use Rattle.format_expr.specs.declared.token.Token.{Token}
use Rattle.format_expr.specs.declared.piece.Piece.{Piece}
use Rattle.format_expr.specs.Tokens.{letters}
use Rattle.script_grammar.specs.Writing.{quoted_text}
use Rattle.record_scan.specs.Fits.{tokens_of}
use Rattle.record_scan.specs.Numbers.{IsTextAt}
use Rattle.scan_lines.specs.declared.shown.Shown.{Shown}
use Rattle.scan_lines.specs.declared.shown.Shown.TheVariants.{All, Having}

-- a token by its class letter and its field letter, and its text between quotation marks
abbrev pub token_word : Token → List ℕ → List ℕ
token_word token text = codes " " ++ (letters token.part ++ (codes "=" ++ quoted_text text))

-- tokens and their texts, in order
abbrev pub token_words : List Token → List (List ℕ) → List ℕ
token_words tokens [] = []
token_words [] (text ∷ texts) = []
token_words (token ∷ tokens) (text ∷ texts) = token_word token text ++ token_words tokens texts

-- the line of a record whose tokens have these texts
abbrev pub read_line : List Piece → (number : ℕ) → List (List ℕ) → List ℕ
read_line pieces number texts = codes "rec " ++ (decimal number ++ (token_words (tokens_of pieces) texts ++ codes "\n"))

-- what is printed of a record whose tokens have no texts: a line only where each record has one
abbrev pub unread_line : Shown → (number : ℕ) → List ℕ
unread_line All number = codes "rec " ++ (decimal number ++ codes " unreadable\n")
unread_line (Having token) number = []

-- what is printed of the bytes behind the last record: their number, where each record has a line and some bytes are left
abbrev pub rest_line : Shown → (rest : List ℕ) → List ℕ
rest_line All rest = if length rest == 0 then [] else codes "rest " ++ (decimal (length rest) ++ codes "\n")
rest_line (Having token) rest = []

-- a record with these texts has a line
abbrev pub IsShown : Shown → (wanted : List ℕ) → (texts : List (List ℕ)) → Type 0
IsShown All wanted texts = Unit {0}
IsShown (Having token) wanted texts = IsTextAt token wanted texts

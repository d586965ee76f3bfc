-- Words of public clauses: the language of expressions, their pieces, and the text that pieces spell.
use Rattle.std.specs.Prelude.{◌≡◌, ℕ, ◌∷◌, [], ◌++◌, List, Bool, true, false, not, ◌&&◌, ◌||◌, ◌==◌, nat_lt, nat_le, codes, Option, Some, None, IsTrue}
use Rattle.std.specs.Prelude.{slice_index}
use Rattle.std.specs.Fmt.{decimal}
use Rattle.std.specs.List.{list_all}
use Rattle.format_expr.specs.declared.token.Token.{Token}
use Rattle.format_expr.specs.declared.piece.Piece.{Piece}
use Rattle.format_expr.specs.declared.piece.Piece.TheVariants.{Plain, Field}
use Rattle.ais_values.specs.declared.kind.StreamKind.{StreamKind}
use Rattle.ais_values.specs.declared.kind.StreamKind.TheVariants.{Alarm, Notification, System, Application}
use Rattle.format_expr.specs.Tokens.{letters}

-- a byte that a plain piece may have: printable, and not `@`
abbrev pub is_plain : ℕ → Bool
is_plain byte = nat_le 32 byte && nat_le byte 126 && not (byte == 64)

abbrev pub is_digit : ℕ → Bool
is_digit byte = nat_le 48 byte && nat_le byte 57

-- the letters C, N and S
abbrev pub is_class : ℕ → Bool
is_class letter = letter == 67 || letter == 78 || letter == 83

-- records of these kinds have a notification's header, the others a generic one
abbrev pub is_notified : StreamKind → Bool
is_notified Alarm = true
is_notified Notification = true
is_notified System = false
is_notified Application = false

-- each kind takes tokens of class C, and of class N or S, as its records' header has them
abbrev pub is_class_of : StreamKind → ℕ → Bool
is_class_of kind letter = letter == 67 || is_notified kind && letter == 78 || not (is_notified kind) && letter == 83

-- a width in decimal, without leading zeros
abbrev pub width_digits : Option ℕ → List ℕ
width_digits None = []
width_digits (Some width) = decimal width

abbrev pub is_width : Option ℕ → Bool
is_width None = true
is_width (Some width) = nat_le 1 width && nat_le width 255

-- a digit behind the token would be read as one of its width, which has up to three
abbrev pub takes_digit : Option ℕ → Bool
takes_digit None = true
takes_digit (Some width) = nat_lt width 100

-- `@`, the two letters and the width
abbrev pub token_spelling : Token → List ℕ
token_spelling token = codes "@" ++ letters token.part ++ width_digits token.width

abbrev pub spelling_of : Piece → List ℕ
spelling_of (Plain text) = text
spelling_of (Field token) = token_spelling token

-- the text that pieces spell, one after another
abbrev pub spelling : List Piece → List ℕ
spelling [] = []
spelling (piece ∷ pieces) = spelling_of piece ++ spelling pieces

abbrev pub begins_with : (ℕ → Bool) → List ℕ → Bool
begins_with test [] = false
begins_with test (byte ∷ bytes) = test byte

abbrev pub begins_plain : List Piece → Bool
begins_plain [] = false
begins_plain (Plain text ∷ pieces) = true
begins_plain (Field token ∷ pieces) = false

abbrev pub is_empty : List ℕ → Bool
is_empty [] = true
is_empty (byte ∷ bytes) = false

-- pieces of an expression: plain ones are longest runs and not empty, and no digit stands where a width would take it
abbrev pub are_pieces : StreamKind → List Piece → Bool
are_pieces kind [] = true
are_pieces kind (Plain text ∷ pieces) =
    not (is_empty text) && list_all is_plain text && not (begins_plain pieces) && are_pieces kind pieces
are_pieces kind (Field token ∷ pieces) =
    is_class_of kind (slice_index (letters token.part) 0) && is_width token.width
    && not (takes_digit token.width && begins_with is_digit (spelling pieces)) && are_pieces kind pieces

-- these pieces are an expression of the kind, and spell this text
pub record ArePiecesOf (kind : StreamKind) (pieces : List Piece) (text : List ℕ) : Type 0 where
  pub valid : IsTrue (are_pieces kind pieces)
  pub spelled : text ≡ spelling pieces

-- a text is an expression of the kind, of whatever length
abbrev pub IsExpression : StreamKind → List ℕ → Type 0
IsExpression kind text = (pieces : List Piece) × ArePiecesOf kind pieces text

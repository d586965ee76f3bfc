-- Words of public clauses, those of the law of pieces, and of bodies: the pieces of a text as a function of it. Of an expression they are its pieces.
use Rattle.std.specs.Prelude.{ℕ, zero, suc, ◌+◌, ◌-◌, ◌*◌, ◌∷◌, [], List, length, take, drop, min, ◌==◌, if◌then◌else◌, Option, Some, None, slice_get}
use Rattle.std.specs.Option.{option_map_or}
use Rattle.format_expr.specs.declared.token.Token.{Token}
use Rattle.format_expr.specs.declared.piece.Piece.{Piece}
use Rattle.format_expr.specs.declared.piece.Piece.TheVariants.{Plain, Field}
use Rattle.format_expr.specs.Tokens.{part_with}
use Rattle.format_expr.specs.Language.{is_digit}

-- the value of a digit
abbrev pub digit_of : Option ℕ → Option ℕ
digit_of None = None
digit_of (Some byte) = if is_digit byte then Some (byte - 48) else None

-- the width of up to three digits at the front, and how many they are
abbrev pub width_at : List ℕ → Option ℕ × ℕ
width_at bytes =
    option_map_or (λ first.
    option_map_or (λ second.
    option_map_or (λ third. (Some (min (first * 100 + second * 10 + third) 255), 3))
    (digit_of (slice_get bytes 2)) (Some (first * 10 + second), 2))
    (digit_of (slice_get bytes 1)) (Some first, 1))
    (digit_of (slice_get bytes 0)) (None, 0)

-- the token at the front, and how many bytes it has
abbrev pub token_at : List ℕ → Option (Token × ℕ)
token_at [] = None
token_at (at ∷ []) = None
token_at (at ∷ class ∷ []) = None
token_at (at ∷ class ∷ field ∷ bytes) =
    if at == 64 then
    option_map_or (λ part. Some (record { part = part; width = (width_at bytes).0 }, 3 + (width_at bytes).1)) (part_with class field) None
    else None

-- how many bytes stand before the next `@`
abbrev pub plain_length : List ℕ → ℕ
plain_length [] = 0
plain_length (byte ∷ bytes) = if byte == 64 then 0 else suc (plain_length bytes)

-- a first byte, and those up to the next `@`
abbrev pub plain_at : List ℕ → Piece × ℕ
plain_at bytes = (Plain (take (1 + plain_length (drop 1 bytes)) bytes), 1 + plain_length (drop 1 bytes))

-- the piece at the front, and how many bytes it has; an `@` that begins no token is read as plain
abbrev pub piece_at : List ℕ → Piece × ℕ
piece_at bytes = option_map_or (λ token. (Field token.0, token.1)) (token_at bytes) (plain_at bytes)

-- at most so many pieces, one after another
unfoldable pub pieces_from : ℕ → List ℕ → List Piece
pieces_from zero bytes = []
pieces_from (suc most) [] = []
pieces_from (suc most) (byte ∷ bytes) =
    let piece = piece_at (byte ∷ bytes) in piece.0 ∷ pieces_from most (drop piece.1 (byte ∷ bytes))

-- the pieces of a text
unfoldable pub pieces_of : List ℕ → List Piece
pieces_of text = pieces_from (length text) text

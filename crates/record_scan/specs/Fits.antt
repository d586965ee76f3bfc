-- Words of public clauses: which texts an expression's tokens have in a stored record.
use Rattle.std.specs.Prelude.{◌≡◌, ℕ, ◌<◌, ◌-◌, ◌∷◌, [], ◌++◌, List, length, Bool, false, ◌==◌, Option, Some, None, is_none, slice_get, count_by}
use Rattle.std.specs.Option.{MatchOption, option_map_or}
use Rattle.std.specs.List.{AllZip}
use Rattle.format_expr.specs.declared.token.Part.{Part}
use Rattle.format_expr.specs.declared.token.Part.TheVariants.{Number, Time, ClassId, Cut, Body, BodyBytes, NotificationId, EventType, Object, Notifier, User}
use Rattle.format_expr.specs.declared.token.Part.TheVariants.{Severity}
use Rattle.format_expr.specs.declared.token.Token.{Token}
use Rattle.format_expr.specs.declared.piece.Piece.{Piece}
use Rattle.format_expr.specs.declared.piece.Piece.TheVariants.{Plain, Field}
use Rattle.record_print.specs.Printing.{spaces}
use Rattle.record_print.specs.Lengths.{time_length}

-- the length of a token's texts with a width, or without one where they all have the same
abbrev pub length_at : Option ℕ → Part → Option ℕ
length_at (Some width) part = Some width
length_at None Number = Some 10
length_at None (Time moment part) = Some (time_length part)
length_at None ClassId = Some 29
length_at None Cut = Some 1
length_at None Body = None
length_at None BodyBytes = None
length_at None NotificationId = Some 18
length_at None EventType = Some 6
length_at None Object = None
length_at None Notifier = None
length_at None User = None
length_at None Severity = Some 2

-- a fixed token's length; the others are variable
abbrev pub fixed_length : Token → Option ℕ
fixed_length token = length_at token.width token.part

abbrev pub is_variable : Piece → Bool
is_variable (Plain text) = false
is_variable (Field token) = is_none (fixed_length token)

-- how many variable tokens there are
abbrev pub variables : List Piece → ℕ
variables pieces = count_by is_variable pieces

abbrev pub tokens_of : List Piece → List Token
tokens_of [] = []
tokens_of (Plain text ∷ pieces) = tokens_of pieces
tokens_of (Field token ∷ pieces) = token ∷ tokens_of pieces

-- a fixed token's text has its length
abbrev pub IsTextOf : Token → List ℕ → Type 0
IsTextOf token text = MatchOption (fixed_length token) (Unit {0}) (λ places. length text ≡ places)

-- one text for each token, in order
abbrev pub AreTexts : List Piece → List (List ℕ) → Type 0
AreTexts pieces texts = AllZip IsTextOf (tokens_of pieces) texts

-- the plain pieces, and the texts in place of the tokens
abbrev pub filled : List Piece → List (List ℕ) → List ℕ
filled [] texts = []
filled (Plain plain ∷ pieces) texts = plain ++ filled pieces texts
filled (Field token ∷ pieces) [] = []
filled (Field token ∷ pieces) (text ∷ texts) = text ++ filled pieces texts

-- the last byte of a text passes
abbrev pub ends_with : (ℕ → Bool) → List ℕ → Bool
ends_with test text = option_map_or test (slice_get text (length text - 1)) false

abbrev pub is_space : ℕ → Bool
is_space byte = byte == 32

-- texts fit a record: it is the pieces with them, then spaces, then a line feed. With size 0 there are no such spaces; with another size
-- the record has so many bytes, and where a token is variable, what stands before the spaces does not end in one
pub record Fits (pieces : List Piece) (size : ℕ) (rec : List ℕ) (texts : List (List ℕ)) : Type 0 where
  pub each : AreTexts pieces texts
  pub blanks : ℕ
  pub whole : rec ≡ filled pieces texts ++ spaces blanks ++ 10 ∷ []
  pub unpadded : size ≡ 0 → blanks ≡ 0
  pub sized : 0 < size → length rec ≡ size
  pub ended : 0 < size → 0 < variables pieces → ends_with is_space (filled pieces texts) ≡ false

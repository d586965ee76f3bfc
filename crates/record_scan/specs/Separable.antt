-- Words of public clauses: of which expressions a record's texts can be told apart.
use Rattle.std.specs.Prelude.{◌≡◌, ℕ, ◌<◌, ◌≤◌, ◌-◌, List, length, take, Bool, not, false, ◌⊎◌, slice_get}
use Rattle.std.specs.Option.{option_map_or}
use Rattle.format_expr.specs.declared.piece.Piece.{Piece}
use Rattle.format_expr.specs.declared.piece.Piece.TheVariants.{Plain, Field}
use Rattle.record_scan.specs.Fits.{variables, ends_with, is_space}

-- plain text that ends in another byte than a space
abbrev pub closes : Piece → Bool
closes (Plain text) = ends_with (λ byte. not (is_space byte)) text
closes (Field token) = false

-- the last piece is such
abbrev pub is_closed : List Piece → Bool
is_closed pieces = option_map_or closes (slice_get pieces (length pieces - 1)) false

-- the piece of this number, counted from 1, is the second variable token: before it stands one, and with it there are two
pub record IsSecondVariable (pieces : List Piece) (piece : ℕ) : Type 0 where
  pub before : variables (take (piece - 1) pieces) ≡ 1
  pub through : variables (take piece pieces) ≡ 2

-- it is the last piece of pieces with a variable token, which spaces up to the size may follow, and it does not close
pub record IsOpenEnd (pieces : List Piece) (size piece : ℕ) : Type 0 where
  pub padded : 0 < size
  pub variable : 0 < variables pieces
  pub last : piece ≡ length pieces
  pub unclosed : is_closed pieces ≡ false

abbrev pub StandsInWay : List Piece → ℕ → ℕ → Type 0
StandsInWay pieces size piece = IsSecondVariable pieces piece ⊎ IsOpenEnd pieces size piece

-- no piece stands in the way
abbrev pub IsSeparable : List Piece → ℕ → Type 0
IsSeparable pieces size = (piece : ℕ) → StandsInWay pieces size piece → ⊥

-- the first piece that does
pub record IsFirstInWay (pieces : List Piece) (size piece : ℕ) : Type 0 where
  pub stands : StandsInWay pieces size piece
  pub least : (other : ℕ) → StandsInWay pieces size other → piece ≤ other

-- Words of bodies alone: how a record is read, once it is known how long the variable token's text is.
use Rattle.std.specs.Prelude.{◌≡◌, ℕ, ◌<◌, ◌≤◌, ◌∷◌, [], ◌++◌, List, length, take, drop, ◌==◌, nat_le, false, if◌then◌else◌, Option, Some, None, slice_index}
use Rattle.std.specs.Option.{unwrap_or}
use Rattle.std.specs.List.{sum_by, AllZip}
use Rattle.std.specs.Str.{bytes_eq}
use Rattle.format_expr.specs.declared.token.Token.{Token}
use Rattle.format_expr.specs.declared.piece.Piece.{Piece}
use Rattle.format_expr.specs.declared.piece.Piece.TheVariants.{Plain, Field}
use Rattle.record_print.specs.Printing.{spaces}
use Rattle.record_scan.specs.Fits.{fixed_length, tokens_of, variables, ends_with, is_space}

-- how many bytes a token's text has, where a variable one has so many
abbrev pub places_in : ℕ → Token → ℕ
places_in variable token = unwrap_or (fixed_length token) variable

-- texts for the tokens that have so many
abbrev pub AreAt : ℕ → List Piece → List (List ℕ) → Type 0
AreAt variable pieces texts = AllZip (λ token text. length text ≡ places_in variable token) (tokens_of pieces) texts

-- how many bytes the pieces have, where the variable token's text is empty
abbrev pub least_length : Piece → ℕ
least_length (Plain text) = length text
least_length (Field token) = places_in 0 token

abbrev pub least_total : List Piece → ℕ
least_total pieces = sum_by least_length pieces

-- the texts read so far and those of these pieces, where the rest is just what they make up
abbrev pub texts_from : ℕ → List Piece → List ℕ → List (List ℕ) → Option (List (List ℕ))
texts_from variable [] rest texts = if length rest == 0 then Some texts else None
texts_from variable (Plain plain ∷ pieces) rest texts =
    if bytes_eq (take (length plain) rest) plain then texts_from variable pieces (drop (length plain) rest) texts else None
texts_from variable (Field token ∷ pieces) rest texts =
    if nat_le (places_in variable token) (length rest)
    then texts_from variable pieces (drop (places_in variable token) rest) (texts ++ take (places_in variable token) rest ∷ [])
    else None

-- a record without its line feed
pub record IsBody (size : ℕ) (rec body : List ℕ) : Type 0 where
  pub whole : rec ≡ body ++ 10 ∷ []
  pub sized : 0 < size → length rec ≡ size

-- what the pieces and the texts make up ends there: spaces follow
pub record EndsAt (pieces : List Piece) (size : ℕ) (body : List ℕ) (end : ℕ) : Type 0 where
  pub inside : end ≤ length body
  pub blank : (k : ℕ) → end ≤ k → k < length body → slice_index body k ≡ 32
  pub unpadded : size ≡ 0 → end ≡ length body
  pub ended : 0 < size → 0 < variables pieces → ends_with is_space (take end body) ≡ false
  pub total : 0 < size → variables pieces ≡ 0 → end ≡ least_total pieces

-- what the pieces and the texts make up in a record
pub record IsContent (pieces : List Piece) (size : ℕ) (rec content : List ℕ) : Type 0 where
  pub blanks : ℕ
  pub whole : rec ≡ content ++ spaces blanks ++ 10 ∷ []
  pub unpadded : size ≡ 0 → blanks ≡ 0
  pub sized : 0 < size → length rec ≡ size
  pub ended : 0 < size → 0 < variables pieces → ends_with is_space content ≡ false
  pub total : 0 < size → variables pieces ≡ 0 → length content ≡ least_total pieces

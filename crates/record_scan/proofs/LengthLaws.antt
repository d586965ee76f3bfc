-- How long what pieces and texts make up is, by the tokens that are variable.
use Rattle.std.proofs.Common.{◌≡◌, ℕ, ◌+◌, ◌*◌, ◌≤◌, List, [], ◌∷◌, length, true, false, cond, not, nat_le, ◌&&◌, inl, inr, Option, Some, None, is_none, refl, sym, ap, ◌∙◌, arith, length-append, lit≤, zero-add}
use Rattle.std.specs.Option.{MatchOption, unwrap_or}
use Rattle.std.proofs.lemmas.Bool.{cases_Bool, and_parts, leb-true}
use Rattle.std.proofs.lemmas.List.Sums.{sum_by-cons}
use Rattle.ais_values.specs.declared.kind.StreamKind.{StreamKind}
use Rattle.format_expr.specs.declared.token.Token.{Token}
use Rattle.format_expr.specs.declared.token.Part.{Part}
use Rattle.format_expr.specs.declared.token.Part.TheVariants.{Number, Time, ClassId, Cut, Body, BodyBytes, NotificationId, EventType, Object, Notifier, User, Severity}
use Rattle.format_expr.specs.declared.token.TimePart.{TimePart}
use Rattle.format_expr.specs.declared.token.TimePart.TheVariants.{Nanoseconds, Hour, Minute, Second, HalfDay, Month, MonthName, Day, DayName, ShortYear, Year}
use Rattle.format_expr.specs.declared.piece.Piece.{Piece}
use Rattle.format_expr.specs.declared.piece.Piece.TheVariants.{Plain, Field}
use Rattle.format_expr.specs.Language.{are_pieces, is_width, spelling, is_empty, begins_plain, takes_digit, begins_with, is_digit, token_spelling, width_digits}
use Rattle.format_expr.specs.Tokens.{letters}
use Rattle.record_print.specs.Lengths.{time_length}
use Rattle.record_scan.specs.Fits.{length_at, fixed_length, is_variable, variables, AreTexts, filled}
use Rattle.record_scan.specs.Reading.{places_in, least_length, least_total, AreAt}

pub variables-cons : (piece : Piece) (pieces : List Piece) → variables (piece ∷ pieces) ≡ cond (is_variable piece) 1 0 + variables pieces
variables-cons piece pieces = sum_by-cons (λ (p : Piece). cond (is_variable p) 1 0) piece pieces

pub least_total-cons : (piece : Piece) (pieces : List Piece) → least_total (piece ∷ pieces) ≡ least_length piece + least_total pieces
least_total-cons piece pieces = sum_by-cons least_length piece pieces

-- a token by whether its length is fixed
at_fixed : (variable : ℕ) (found : Option ℕ) (text : List ℕ) → is_none found ≡ false → MatchOption found (Unit {0}) (λ places. length text ≡ places) → length text ≡ unwrap_or found variable
at_fixed variable None text fixed is = absurd cc
at_fixed variable (Some places) text fixed is = is

at_variable : (variable : ℕ) (found : Option ℕ) → is_none found ≡ true → unwrap_or found variable ≡ variable
at_variable variable None free = refl
at_variable variable (Some places) free = absurd cc

at_least : (found : Option ℕ) (text : List ℕ) → MatchOption found (Unit {0}) (λ places. length text ≡ places) → unwrap_or found 0 ≤ length text
at_least None text is = omega arith
at_least (Some places) text is = omega (arith, is)

from_places : (variable : ℕ) (found : Option ℕ) (text : List ℕ) → length text ≡ unwrap_or found variable → MatchOption found (Unit {0}) (λ places. length text ≡ places)
from_places variable None text is = tt
from_places variable (Some places) text is = is

-- of a piece at the front
fixed_front : (token : Token) (pieces : List Piece) → is_none (fixed_length token) ≡ false → variables (Field token ∷ pieces) ≡ variables pieces
fixed_front token pieces fixed = variables-cons (Field token) pieces ∙ ap (λ b. cond b 1 0 + variables pieces) fixed ∙ zero-add (variables pieces)

variable_front : (token : Token) (pieces : List Piece) → is_none (fixed_length token) ≡ true → variables (Field token ∷ pieces) ≡ 1 + variables pieces
variable_front token pieces free = variables-cons (Field token) pieces ∙ ap (λ b. cond b 1 0 + variables pieces) free

plain_front : (text : List ℕ) (pieces : List Piece) → variables (Plain text ∷ pieces) ≡ variables pieces
plain_front text pieces = variables-cons (Plain text) pieces ∙ zero-add (variables pieces)

-- texts of their lengths are texts of the tokens
pub texts_from_places : (variable : ℕ) (pieces : List Piece) (texts : List (List ℕ)) → AreAt variable pieces texts → AreTexts pieces texts
texts_from_places variable [] [] at = tt
texts_from_places variable [] (text ∷ texts) at = absurd at
texts_from_places variable (Plain plain ∷ pieces) texts at = texts_from_places variable pieces texts at
texts_from_places variable (Field token ∷ pieces) [] at = absurd at
texts_from_places variable (Field token ∷ pieces) (text ∷ texts) at =
    (from_places variable (fixed_length token) text at.0, texts_from_places variable pieces texts at.1)

-- without a variable token all lengths are known
pub none_variable : (variable : ℕ) (pieces : List Piece) (texts : List (List ℕ)) → variables pieces ≡ 0 → AreTexts pieces texts → AreAt variable pieces texts × (length (filled pieces texts) ≡ least_total pieces)
none_variable variable [] [] none each = (tt, refl)
none_variable variable [] (text ∷ texts) none each = absurd each
none_variable variable (Plain plain ∷ pieces) texts none each =
    let behind = none_variable variable pieces texts (sym (plain_front plain pieces) ∙ none) each in
    (behind.0, length-append plain (filled pieces texts) ∙ ap (λ n. length plain + n) behind.1 ∙ sym (least_total-cons (Plain plain) pieces))
none_variable variable (Field token ∷ pieces) [] none each = absurd each
none_variable variable (Field token ∷ pieces) (text ∷ texts) none each =
    elim (cases_Bool (is_none (fixed_length token))) [
      | inl free ↦ let one = variable_front token pieces free in absurd (omega arith)
      | inr fixed ↦
          let behind = none_variable variable pieces texts (sym (fixed_front token pieces fixed) ∙ none) each.1 in
          let front : length text ≡ places_in 0 token = at_fixed 0 (fixed_length token) text fixed each.0 in (
            (at_fixed variable (fixed_length token) text fixed each.0, behind.0),
            length-append text (filled pieces texts) ∙ ap (λ n. length text + n) behind.1 ∙ ap (λ n. n + least_total pieces) front ∙ sym (least_total-cons (Field token) pieces),
          )
    ]

-- with one at most, its text has what the others leave
pub one_variable : (variable : ℕ) (pieces : List Piece) (texts : List (List ℕ)) → variables pieces ≤ 1 → AreTexts pieces texts → length (filled pieces texts) ≡ least_total pieces + variable → AreAt variable pieces texts
one_variable variable [] [] one each long = tt
one_variable variable [] (text ∷ texts) one each long = absurd each
one_variable variable (Plain plain ∷ pieces) texts one each long =
    let front = plain_front plain pieces in
    let whole = length-append plain (filled pieces texts) in
    let least = least_total-cons (Plain plain) pieces in
    one_variable variable pieces texts (omega arith) each (omega arith)
one_variable variable (Field token ∷ pieces) [] one each long = absurd each
one_variable variable (Field token ∷ pieces) (text ∷ texts) one each long =
    let whole = length-append text (filled pieces texts) in
    let least = least_total-cons (Field token) pieces in
    elim (cases_Bool (is_none (fixed_length token))) [
      | inl free ↦
          let front = variable_front token pieces free in
          let behind = none_variable variable pieces texts (omega arith) each.1 in
          let rest = behind.1 in
          let own : places_in 0 token ≡ 0 = at_variable 0 (fixed_length token) free in
          let places : places_in variable token ≡ variable = at_variable variable (fixed_length token) free in
          (omega arith, behind.0)
      | inr fixed ↦
          let front = fixed_front token pieces fixed in
          let own : length text ≡ places_in 0 token = at_fixed 0 (fixed_length token) text fixed each.0 in
          (at_fixed variable (fixed_length token) text fixed each.0, one_variable variable pieces texts (omega arith) each.1 (omega arith))
    ]

pub least_within : (pieces : List Piece) (texts : List (List ℕ)) → AreTexts pieces texts → least_total pieces ≤ length (filled pieces texts)
least_within [] [] each = omega arith
least_within [] (text ∷ texts) each = absurd each
least_within (Plain plain ∷ pieces) texts each =
    let behind = least_within pieces texts each in
    let whole = length-append plain (filled pieces texts) in
    let least = least_total-cons (Plain plain) pieces in
    omega arith
least_within (Field token ∷ pieces) [] each = absurd each
least_within (Field token ∷ pieces) (text ∷ texts) each =
    let behind = least_within pieces texts each.1 in
    let front = at_least (fixed_length token) text each.0 in
    let whole = length-append text (filled pieces texts) in
    let least = least_total-cons (Field token) pieces in
    omega arith

-- a token has at most 255 places
places_low : (width : Option ℕ) (part : Part) → is_width width ≡ true → unwrap_or (length_at width part) 0 ≤ 255
places_low (Some width) part is = leb-true width 255 (and_parts (nat_le 1 width) (nat_le width 255) is).1
places_low None Number is = lit≤ tt
places_low None (Time moment part) is = time_low part where
  time_low : (part : TimePart) → time_length part ≤ 255
  time_low Nanoseconds = lit≤ tt
  time_low Hour = lit≤ tt
  time_low Minute = lit≤ tt
  time_low Second = lit≤ tt
  time_low HalfDay = lit≤ tt
  time_low Month = lit≤ tt
  time_low MonthName = lit≤ tt
  time_low Day = lit≤ tt
  time_low DayName = lit≤ tt
  time_low ShortYear = lit≤ tt
  time_low Year = lit≤ tt
places_low None ClassId is = lit≤ tt
places_low None Cut is = lit≤ tt
places_low None Body is = lit≤ tt
places_low None BodyBytes is = lit≤ tt
places_low None NotificationId is = lit≤ tt
places_low None EventType is = lit≤ tt
places_low None Object is = lit≤ tt
places_low None Notifier is = lit≤ tt
places_low None User is = lit≤ tt
places_low None Severity is = lit≤ tt

some_bytes : (text : List ℕ) → not (is_empty text) ≡ true → 1 ≤ length text
some_bytes [] some = absurd cc
some_bytes (byte ∷ text) some = omega arith

-- what a text spells bounds the number of its pieces and their lengths
pieces_bound : (kind : StreamKind) (pieces : List Piece) → are_pieces kind pieces ≡ true → least_total pieces + length pieces ≤ 256 * length (spelling pieces)
pieces_bound kind [] are = omega arith
pieces_bound kind (Plain text ∷ pieces) are =
    let last = and_parts _ (are_pieces kind pieces) are in
    let third = and_parts _ (not (begins_plain pieces)) last.0 in
    let first = and_parts (not (is_empty text)) _ third.0 in
    let some = some_bytes text first.0 in
    let behind = pieces_bound kind pieces last.1 in
    let whole = length-append text (spelling pieces) in
    let least = least_total-cons (Plain text) pieces in
    omega arith
pieces_bound kind (Field token ∷ pieces) are =
    let last = and_parts _ (are_pieces kind pieces) are in
    let third = and_parts _ (not (takes_digit token.width && begins_with is_digit (spelling pieces))) last.0 in
    let first = and_parts _ (is_width token.width) third.0 in
    let low = places_low token.width token.part first.1 in
    let behind = pieces_bound kind pieces last.1 in
    let whole = length-append (token_spelling token) (spelling pieces) in
    let led = length-append (64 ∷ letters token.part) (width_digits token.width) in
    let least = least_total-cons (Field token) pieces in
    omega arith

-- of an expression
pub total_bound : (kind : StreamKind) (pieces slice : List Piece) → slice ≡ pieces → are_pieces kind pieces ≡ true → length (spelling pieces) ≤ 1024 → least_total slice ≤ 262144
total_bound kind pieces slice is are short =
    let bound = pieces_bound kind pieces are in
    let same = ap least_total is in
    omega arith

pub count_bound : (kind : StreamKind) (pieces slice : List Piece) → slice ≡ pieces → are_pieces kind pieces ≡ true → length (spelling pieces) ≤ 1024 → length slice ≤ 262144
count_bound kind pieces slice is are short =
    let bound = pieces_bound kind pieces are in
    let same = ap length is in
    omega arith

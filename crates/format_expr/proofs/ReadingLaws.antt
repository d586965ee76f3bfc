-- What is read of an expression are its pieces.
use Rattle.std.proofs.Common.{◌≡◌, ℕ, zero, suc, ◌+◌, ◌-◌, ◌*◌, ◌/◌, ◌%◌, ◌<◌, ◌≤◌, min, ◌∷◌, [], ◌++◌, List, length, take, drop, true, false, not, ◌&&◌, nat_eq, nat_lt, nat_le, inl, inr, Option, Some, None, slice_index, refl, sym, ap, subst, ◌∙◌, append_assoc, append-nil, length-append, length-drop, arith}
use Rattle.std.specs.List.{list_all, slice_get}
use Rattle.std.specs.Option.{option_map_or}
use Rattle.std.proofs.lemmas.Bool.{cond_both, cond-true, cond-false, and_parts, ltb-true, ltb-false, cases_Bool, not-true}
use Rattle.std.proofs.lemmas.Bool.Decides.{nat_tests}
use Rattle.std.proofs.lemmas.List.{take_at, drop_at}
use Rattle.std.proofs.lemmas.Fmt.{decimal_digit}
use Rattle.format_expr.specs.declared.token.Token.{Token}
use Rattle.format_expr.specs.declared.token.Part.{Part}
use Rattle.format_expr.specs.declared.piece.Piece.{Piece}
use Rattle.format_expr.specs.declared.piece.Piece.TheVariants.{Plain, Field}
use Rattle.ais_values.specs.declared.kind.StreamKind.{StreamKind}
use Rattle.format_expr.specs.Tokens.{letters, part_with}
use Rattle.format_expr.specs.Language.{is_plain, is_digit, is_class_of, width_digits, is_width, takes_digit, token_spelling, spelling, begins_with, begins_plain, are_pieces, ArePiecesOf, IsExpression}
use Rattle.format_expr.specs.Reading.{digit_of, width_at, token_at, plain_length, plain_at, piece_at, pieces_from, pieces_of}
use Rattle.format_expr.proofs.TokenLaws.{row_of}
use Rattle.format_expr.proofs.Decimals.{decimal_two, decimal_three}

-- a digit's value is read back
digit_of_value : (digit : ℕ) → digit < 10 → digit_of (Some (48 + digit)) ≡ Some digit
digit_of_value digit small =
    let is : is_digit (48 + digit) ≡ true = grind (arith, nat_tests) in
    let back : 48 + digit - 48 ≡ digit = omega arith in
    cond-true (is_digit (48 + digit)) (Some (48 + digit - 48)) None is ∙ ap Some back

-- no digit at the front
no_digit : (bytes : List ℕ) → begins_with is_digit bytes ≡ false → digit_of (slice_get bytes 0) ≡ None
no_digit [] e = refl
no_digit (byte ∷ bytes) e = cond-false (is_digit byte) (Some (byte - 48)) None e

-- the widths of one, two and three digits
width_at_one : (width : ℕ) (rest : List ℕ) → width < 10 → begins_with is_digit rest ≡ false → width_at ((48 + width) ∷ rest) ≡ (Some width, 1)
width_at_one width rest small over = rw (digit_of_value width small, no_digit rest over)

width_at_two : (first second : ℕ) (rest : List ℕ) → first < 10 → second < 10 → begins_with is_digit rest ≡ false → width_at ((48 + first) ∷ (48 + second) ∷ rest) ≡ (Some (first * 10 + second), 2)
width_at_two first second rest one two over = rw (digit_of_value first one, digit_of_value second two, no_digit rest over)

width_at_three : (first second third : ℕ) (rest : List ℕ) → first < 10 → second < 10 → third < 10 → width_at ((48 + first) ∷ (48 + second) ∷ (48 + third) ∷ rest) ≡ (Some (min (first * 100 + second * 10 + third) 255), 3)
width_at_three first second third rest one two three = rw (digit_of_value first one, digit_of_value second two, digit_of_value third three)

-- a width that no digit follows, or that has three, is read back
pub width_at-digits : (width : Option ℕ) (rest : List ℕ) → is_width width ≡ true → (takes_digit width && begins_with is_digit rest) ≡ false → width_at (width_digits width ++ rest) ≡ (width, length (width_digits width))
width_at-digits None rest fits over = rw (no_digit rest over)
width_at-digits (Some width) rest fits over =
    let low : 1 ≤ width = grind (arith, nat_tests) in
    let high : width ≤ 255 = grind (arith, nat_tests) in
    elim (cases_Bool (nat_lt width 100)) [
      | inl short ↦
          let apart : begins_with is_digit rest ≡ false = ap (λ b. b && begins_with is_digit rest) (sym short) ∙ over in
          elim (cases_Bool (nat_lt width 10)) [
            | inl one ↦
                let digits = decimal_digit width (ltb-true width 10 one) in
                ap (λ ds. width_at (ds ++ rest)) digits ∙ width_at_one width rest (ltb-true width 10 one) apart ∙ ap (λ ds. (Some width, length ds)) (sym digits)
            | inr two ↦
                let large : 10 ≤ width = ltb-false width 10 two in
                let digits = decimal_two width large (ltb-true width 100 short) in
                let value : width / 10 * 10 + width % 10 ≡ width = omega arith in
                ap (λ ds. width_at (ds ++ rest)) digits ∙ width_at_two (width / 10) (width % 10) rest (let h : width < 100 = ltb-true width 100 short in omega arith) (omega arith) apart
                ∙ ap (λ v. (Some v, 2)) value ∙ ap (λ ds. (Some width, length ds)) (sym digits)
          ]
      | inr long ↦
          let large : 100 ≤ width = ltb-false width 100 long in
          let digits = decimal_three width large (omega arith) in
          let value : min (width / 100 * 100 + width / 10 % 10 * 10 + width % 10) 255 ≡ width = omega arith in
          ap (λ ds. width_at (ds ++ rest)) digits ∙ width_at_three (width / 100) (width / 10 % 10) (width % 10) rest (omega arith) (omega arith) (omega arith)
          ∙ ap (λ v. (Some v, 3)) value ∙ ap (λ ds. (Some width, length ds)) (sym digits)
    ]

-- a token that no digit follows is read back
token_at-spelling : (token : Token) (rest : List ℕ) → is_width token.width ≡ true → (takes_digit token.width && begins_with is_digit rest) ≡ false → token_at (token_spelling token ++ rest) ≡ Some (token, length (token_spelling token))
token_at-spelling token rest fits over =
    let found = row_of token.part in
    let class = found.0 in
    let field = found.1 in
    let is = found.2 in
    let width = width_at-digits token.width rest fits over in
    let whole : token_spelling token ++ rest ≡ 64 ∷ class ∷ field ∷ (width_digits token.width ++ rest) = ap (λ ls. (64 ∷ ls ++ width_digits token.width) ++ rest) is.written in
    let long : length (token_spelling token) ≡ 3 + length (width_digits token.width) = ap (λ ls. length (64 ∷ ls ++ width_digits token.width)) is.written ∙ omega arith in
    ap token_at whole
    ∙ ap (λ part. option_map_or (λ (p : Part). Some (record { part = p; width = (width_at (width_digits token.width ++ rest)).0 }, 3 + (width_at (width_digits token.width ++ rest)).1)) part None) is.found
    ∙ ap (λ (w : Option ℕ × ℕ). Some (record { part = token.part; width = w.0 }, 3 + w.1)) width
    ∙ ap (λ n. Some (token, n)) (sym long)

-- other bytes begin no token
token_at_other : (byte : ℕ) (bytes : List ℕ) → nat_eq byte 64 ≡ false → token_at (byte ∷ bytes) ≡ None
token_at_other byte [] e = refl
token_at_other byte (class ∷ []) e = refl
token_at_other byte (class ∷ field ∷ bytes) e = cond-false (nat_eq byte 64) _ None e

-- a plain run ends at an `@`, or with the text
plain_length-run : (text : List ℕ) (pieces : List Piece) → list_all is_plain text ≡ true → begins_plain pieces ≡ false → plain_length (text ++ spelling pieces) ≡ length text
plain_length-run [] [] plain over = refl
plain_length-run [] (Plain text ∷ pieces) plain over = absurd cc
plain_length-run [] (Field token ∷ pieces) plain over = refl
plain_length-run (byte ∷ text) pieces plain over =
    let parts = and_parts (is_plain byte) (list_all is_plain text) plain in
    let other : nat_eq byte 64 ≡ false = plain_other byte parts.0 in
    cond-false (nat_eq byte 64) 0 (suc (plain_length (text ++ spelling pieces))) other ∙ ap suc (plain_length-run text pieces parts.1 over)
  where
    plain_other : (byte : ℕ) → is_plain byte ≡ true → nat_eq byte 64 ≡ false
    plain_other byte e = not-true (nat_eq byte 64) (and_parts (nat_le 32 byte && nat_le byte 126) (not (nat_eq byte 64)) e).1

-- the first piece is read back, and where the next begins
piece_at-plain : (byte : ℕ) (text : List ℕ) (pieces : List Piece) → is_plain byte ≡ true → list_all is_plain text ≡ true → begins_plain pieces ≡ false → piece_at ((byte ∷ text) ++ spelling pieces) ≡ (Plain (byte ∷ text), length (byte ∷ text))
piece_at-plain byte text pieces first plain over =
    let other : nat_eq byte 64 ≡ false = not-true (nat_eq byte 64) (and_parts (nat_le 32 byte && nat_le byte 126) (not (nat_eq byte 64)) first).1 in
    let long : 1 + plain_length (text ++ spelling pieces) ≡ length (byte ∷ text) = let run = plain_length-run text pieces plain over in omega arith in
    ap (λ t. option_map_or (λ (token : Token × ℕ). (Field token.0, token.1)) t (plain_at (byte ∷ text ++ spelling pieces))) (token_at_other byte (text ++ spelling pieces) other)
    ∙ ap (λ n. (Plain (take n (byte ∷ text ++ spelling pieces)), n)) long
    ∙ ap (λ t. (Plain t, length (byte ∷ text))) (take_at (byte ∷ text) (spelling pieces) (length (byte ∷ text)) refl)

-- a token has three bytes and more
token_some : (bytes : List ℕ) (token : Token × ℕ) → token_at bytes ≡ Some token → 3 ≤ token.1
token_some [] token = λ e. absurd cc
token_some (at ∷ []) token = λ e. absurd cc
token_some (at ∷ class ∷ []) token = λ e. absurd cc
token_some (at ∷ class ∷ field ∷ bytes) token =
    cond_both (nat_eq at 64) (option_map_or (λ (part : Part). Some (record { part = part; width = (width_at bytes).0 }, 3 + (width_at bytes).1)) (part_with class field) None) None
    (λ found. found ≡ Some token → 3 ≤ token.1)
    (λ _. known (part_with class field))
    (λ _ e. absurd cc)
  where
    known : (part : Option Part) → option_map_or (λ (p : Part). Some (record { part = p; width = (width_at bytes).0 }, 3 + (width_at bytes).1)) part None ≡ Some token → 3 ≤ token.1
    known None e = absurd cc
    known (Some p) e = let same : 3 + (width_at bytes).1 ≡ token.1 = cc in omega arith

-- each piece has a byte and more
pub piece_some : (bytes : List ℕ) → 1 ≤ (piece_at bytes).1
piece_some bytes = by_token (token_at bytes) refl
  where
    by_token : (found : Option (Token × ℕ)) → token_at bytes ≡ found → 1 ≤ (option_map_or (λ (token : Token × ℕ). (Field token.0, token.1)) found (plain_at bytes)).1
    by_token None e = omega arith
    by_token (Some token) e = let long = token_some bytes token e in omega arith

-- the part of a fuel that is not needed
fuel_enough : (most more : ℕ) (bytes : List ℕ) → length bytes ≤ most → length bytes ≤ more → pieces_from most bytes ≡ pieces_from more bytes
unfolding pieces_from
fuel_enough zero zero bytes one two = refl
fuel_enough zero (suc more) [] one two = refl
fuel_enough zero (suc more) (byte ∷ bytes) one two = absurd (omega arith)
fuel_enough (suc most) zero [] one two = refl
fuel_enough (suc most) zero (byte ∷ bytes) one two = absurd (omega arith)
fuel_enough (suc most) (suc more) [] one two = refl
fuel_enough (suc most) (suc more) (byte ∷ bytes) one two =
    let some = piece_some (byte ∷ bytes) in
    let shorter = length-drop (piece_at (byte ∷ bytes)).1 (byte ∷ bytes) in
    ap (λ pieces. (piece_at (byte ∷ bytes)).0 ∷ pieces)
    (fuel_enough most more (drop (piece_at (byte ∷ bytes)).1 (byte ∷ bytes)) (omega arith) (omega arith))

-- the pieces of a text that is not empty
pub pieces_of-step : (bytes : List ℕ) → 0 < length bytes → pieces_of bytes ≡ (piece_at bytes).0 ∷ pieces_of (drop (piece_at bytes).1 bytes)
unfolding pieces_of pieces_from
pieces_of-step [] some = absurd (omega arith)
pieces_of-step (byte ∷ bytes) some =
    let one = piece_some (byte ∷ bytes) in
    let shorter = length-drop (piece_at (byte ∷ bytes)).1 (byte ∷ bytes) in
    ap (λ pieces. (piece_at (byte ∷ bytes)).0 ∷ pieces)
    (fuel_enough (length bytes) (length (drop (piece_at (byte ∷ bytes)).1 (byte ∷ bytes))) (drop (piece_at (byte ∷ bytes)).1 (byte ∷ bytes)) (omega arith) (omega arith))

pub pieces_of-nil : pieces_of [] ≡ []
unfolding pieces_of pieces_from
pieces_of-nil = refl

-- one step of the reading, where the first piece is known
step_is : (piece : Piece) (bytes rest : List ℕ) → 0 < length bytes → piece_at (bytes ++ rest) ≡ (piece, length bytes) → pieces_of (bytes ++ rest) ≡ piece ∷ pieces_of rest
step_is piece bytes rest some is =
    let long = length-append bytes rest in
    pieces_of-step (bytes ++ rest) (omega arith)
    ∙ ap (λ (p : Piece × ℕ). p.0 ∷ pieces_of (drop p.1 (bytes ++ rest))) is
    ∙ ap (λ bs. piece ∷ pieces_of bs) (drop_at bytes rest (length bytes) refl)

-- pieces of an expression are read back
read_back : (kind : StreamKind) (pieces : List Piece) → are_pieces kind pieces ≡ true → pieces_of (spelling pieces) ≡ pieces
read_back kind [] valid = pieces_of-nil
read_back kind (Plain [] ∷ pieces) valid = absurd cc
read_back kind (Plain (byte ∷ text) ∷ pieces) valid =
    let parts = and_parts (list_all is_plain (byte ∷ text) && not (begins_plain pieces)) (are_pieces kind pieces) valid in
    let front = and_parts (list_all is_plain (byte ∷ text)) (not (begins_plain pieces)) parts.0 in
    let plain = and_parts (is_plain byte) (list_all is_plain text) front.0 in
    step_is (Plain (byte ∷ text)) (byte ∷ text) (spelling pieces) (omega arith) (piece_at-plain byte text pieces plain.0 plain.1 (not-true (begins_plain pieces) front.1))
    ∙ ap (λ ps. Plain (byte ∷ text) ∷ ps) (read_back kind pieces parts.1)
read_back kind (Field token ∷ pieces) valid =
    let parts = and_parts (is_class_of kind (slice_index (letters token.part) 0) && is_width token.width && not (takes_digit token.width && begins_with is_digit (spelling pieces))) (are_pieces kind pieces) valid in
    let front = and_parts (is_class_of kind (slice_index (letters token.part) 0) && is_width token.width) (not (takes_digit token.width && begins_with is_digit (spelling pieces))) parts.0 in
    let own = and_parts (is_class_of kind (slice_index (letters token.part) 0)) (is_width token.width) front.0 in
    let token_is = token_at-spelling token (spelling pieces) own.1 (not-true (takes_digit token.width && begins_with is_digit (spelling pieces)) front.1) in
    step_is (Field token) (token_spelling token) (spelling pieces) (omega arith)
    (ap (λ t. option_map_or (λ (found : Token × ℕ). (Field found.0, found.1)) t (plain_at (token_spelling token ++ spelling pieces))) token_is)
    ∙ ap (λ ps. Field token ∷ ps) (read_back kind pieces parts.1)

-- so a text has one parse, and it is what is read
pub parse_is_read : (kind : StreamKind) (pieces : List Piece) (text : List ℕ) → ArePiecesOf kind pieces text → pieces_of text ≡ pieces
parse_is_read kind pieces text spells = ap pieces_of spells.spelled ∙ read_back kind pieces spells.valid

-- and what is read of an expression spells it
pub read_spells : (kind : StreamKind) (text : List ℕ) → IsExpression kind text → ArePiecesOf kind (pieces_of text) text
read_spells kind text (pieces, spells) =
    subst (λ ps. ArePiecesOf kind ps text) (sym (parse_is_read kind pieces text spells)) spells

-- one step of the loop that reads pieces
pub read_more : (text : List ℕ) (pieces new : List Piece) (rest more : List ℕ) (piece : Piece) (count : ℕ) → pieces ++ pieces_of rest ≡ pieces_of text → 0 < length rest → piece_at rest ≡ (piece, count) → new ≡ pieces ++ piece ∷ [] → more ≡ drop count rest → new ++ pieces_of more ≡ pieces_of text
read_more text pieces new rest more piece count before some is new_is more_is =
    ap (λ ps. ps ++ pieces_of more) new_is
    ∙ append_assoc pieces (piece ∷ []) (pieces_of more)
    ∙ ap (λ bs. pieces ++ piece ∷ pieces_of bs) more_is
    ∙ ap (λ (p : Piece × ℕ). pieces ++ p.0 ∷ pieces_of (drop p.1 rest)) (sym is)
    ∙ ap (λ ps. pieces ++ ps) (sym (pieces_of-step rest some))
    ∙ before

-- and its end
pub read_all : (text : List ℕ) (pieces : List Piece) (rest : List ℕ) → pieces ++ pieces_of rest ≡ pieces_of text → length rest ≡ 0 → pieces ≡ pieces_of text
read_all text pieces [] before none = sym (append-nil pieces) ∙ ap (λ ps. pieces ++ ps) (sym pieces_of-nil) ∙ before
read_all text pieces (byte ∷ rest) before none = absurd (omega arith)

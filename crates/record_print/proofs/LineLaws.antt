-- A record's text, piece after piece, and the mark in it.
use Rattle.std.proofs.Common.{◌≡◌, ℕ, ◌==◌, ◌+◌, ◌-◌, ◌<◌, ◌≤◌, min, inl, inr, List, [], ◌∷◌, ◌++◌, length, take, get_or, Bool, true, false, cond, ◌↔◌, nat_lt, Option, Some, None, refl, sym, ap, ◌∙◌, arith, length-append}
use Rattle.std.specs.List.{list_any}
use Rattle.std.proofs.lemmas.List.{take_all, take_more, flat_map_more, length-take, length-replicate}
use Rattle.std.proofs.lemmas.Bool.{cases_lt, ne_eqb, or_parts, cond-true, cond-false, lt-ltb, le-ltb, ltb-true, ltb-false}
use Rattle.format_expr.specs.declared.token.Moment.{Moment}
use Rattle.format_expr.specs.declared.token.Part.{Part}
use Rattle.format_expr.specs.declared.token.Part.TheVariants.{Number, Time, ClassId, Cut, Body, BodyBytes, NotificationId, EventType, Object, Notifier, User, Severity}
use Rattle.format_expr.specs.declared.piece.Piece.{Piece}
use Rattle.format_expr.specs.declared.piece.Piece.TheVariants.{Plain, Field}
use Rattle.record_print.specs.declared.record.LogRecord.{LogRecord}
use Rattle.record_print.specs.Printing.{piece_text, part_text, in_places, is_number, is_mark, has_part, pieces_text, spaces, has_half, places_of, cut_mark, line_of, printed_record}

-- one more piece
pub pieces_text-more : (half : Moment → Bool) (number mark : ℕ) (rec : LogRecord) (pieces : List Piece) (count : ℕ) (piece : Piece) → count < length pieces → piece ≡ get_or pieces count piece → pieces_text half number mark rec (take count pieces) ++ piece_text half number mark rec piece ≡ pieces_text half number mark rec (take (count + 1) pieces)
pieces_text-more half number mark rec pieces count piece inside is =
    flat_map_more (piece_text half number mark rec) [] (take count pieces) piece
    ∙ ap (λ p. pieces_text half number mark rec (take count pieces ++ p ∷ [])) is
    ∙ ap (pieces_text half number mark rec) (sym (take_more pieces count piece inside))

-- without a token that tells of it a text is the same whether it is cut or not
pub pieces_text-unmarked : (half : Moment → Bool) (number one other : ℕ) (rec : LogRecord) (pieces : List Piece) → list_any (has_part is_mark) pieces ≡ false → pieces_text half number one rec pieces ≡ pieces_text half number other rec pieces
pieces_text-unmarked half number one other rec [] e = refl
pieces_text-unmarked half number one other rec (piece ∷ pieces) e =
    let parts = or_parts (has_part is_mark piece) (list_any (has_part is_mark) pieces) e in
    ap (λ text. text ++ pieces_text half number one rec pieces) (piece_text-unmarked half number one other rec piece parts.0)
    ∙ ap (λ text. piece_text half number other rec piece ++ text) (pieces_text-unmarked half number one other rec pieces parts.1)
  where
    part_text-unmarked : (half : Moment → Bool) (number one other : ℕ) (rec : LogRecord) (part : Part) → is_mark part ≡ false → part_text half number one rec part ≡ part_text half number other rec part
    part_text-unmarked half number one other rec Number e = refl
    part_text-unmarked half number one other rec (Time moment part) e = refl
    part_text-unmarked half number one other rec ClassId e = refl
    part_text-unmarked half number one other rec Cut e = absurd cc
    part_text-unmarked half number one other rec Body e = refl
    part_text-unmarked half number one other rec BodyBytes e = refl
    part_text-unmarked half number one other rec NotificationId e = refl
    part_text-unmarked half number one other rec EventType e = refl
    part_text-unmarked half number one other rec Object e = refl
    part_text-unmarked half number one other rec Notifier e = refl
    part_text-unmarked half number one other rec User e = refl
    part_text-unmarked half number one other rec Severity e = refl

    piece_text-unmarked : (half : Moment → Bool) (number one other : ℕ) (rec : LogRecord) (piece : Piece) → has_part is_mark piece ≡ false → piece_text half number one rec piece ≡ piece_text half number other rec piece
    piece_text-unmarked half number one other rec (Plain text) e = refl
    piece_text-unmarked half number one other rec (Field token) e = ap (in_places (is_number token.part) token.width) (part_text-unmarked half number one other rec token.part e)

-- the printed record of a text that is cut, of one that is not, and of one that does not tell
pub printed_cut : (pieces : List Piece) (number : ℕ) (rec : LogRecord) (size : ℕ) → places_of size < length (pieces_text (has_half pieces) number 67 rec pieces) → line_of size (pieces_text (has_half pieces) number 84 rec pieces) ≡ printed_record pieces number rec size
unfolding printed_record
printed_cut pieces number rec size long =
    let text = λ (mark : ℕ). pieces_text (has_half pieces) number mark rec pieces in
    sym (ap (λ mark. line_of size (text mark)) (cond-true (nat_lt (places_of size) (length (text 67))) 84 67 (lt-ltb (places_of size) (length (text 67)) long)))

pub printed_whole : (pieces : List Piece) (number : ℕ) (rec : LogRecord) (size : ℕ) → length (pieces_text (has_half pieces) number 67 rec pieces) ≤ places_of size → line_of size (pieces_text (has_half pieces) number 67 rec pieces) ≡ printed_record pieces number rec size
unfolding printed_record
printed_whole pieces number rec size short =
    let text = λ (mark : ℕ). pieces_text (has_half pieces) number mark rec pieces in
    sym (ap (λ mark. line_of size (text mark)) (cond-false (nat_lt (places_of size) (length (text 67))) 84 67 (le-ltb (places_of size) (length (text 67)) short)))

pub printed_unmarked : (pieces : List Piece) (number : ℕ) (rec : LogRecord) (size : ℕ) → list_any (has_part is_mark) pieces ≡ false → line_of size (pieces_text (has_half pieces) number 67 rec pieces) ≡ printed_record pieces number rec size
unfolding printed_record
printed_unmarked pieces number rec size none =
    ap (line_of size) (pieces_text-unmarked (has_half pieces) number 67 (cut_mark (λ mark. pieces_text (has_half pieces) number mark rec pieces) size) rec pieces none)

-- a text is as long with the one mark as with the other
pub length-pieces_text : (half : Moment → Bool) (number one other : ℕ) (rec : LogRecord) (pieces : List Piece) → length (pieces_text half number one rec pieces) ≡ length (pieces_text half number other rec pieces)
length-pieces_text half number one other rec [] = refl
length-pieces_text half number one other rec (piece ∷ pieces) =
    let front = piece_long half number one other rec piece in
    let rest = length-pieces_text half number one other rec pieces in
    let whole = length-append (piece_text half number one rec piece) (pieces_text half number one rec pieces) in
    let whole' = length-append (piece_text half number other rec piece) (pieces_text half number other rec pieces) in
    omega arith
  where
    in_places_long : (aligned : Bool) (width : Option ℕ) (one other : List ℕ) → length one ≡ length other → length (in_places aligned width one) ≡ length (in_places aligned width other)
    in_places_long false None one other e = e
    in_places_long true None one other e =
        let left = length-append (spaces (10 - length one)) one in
        let right = length-append (spaces (10 - length other)) other in
        let blank : length (spaces (10 - length one)) ≡ length (spaces (10 - length other)) = ap (λ n. length (spaces (10 - n))) e in
        omega arith
    in_places_long aligned (Some width) one other e =
        let left = length-append (take width one) (spaces (width - length one)) in
        let right = length-append (take width other) (spaces (width - length other)) in
        let one_long = length-take width one in
        let other_long = length-take width other in
        let blank : length (spaces (width - length one)) ≡ length (spaces (width - length other)) = ap (λ n. length (spaces (width - n))) e in
        omega arith

    part_long : (half : Moment → Bool) (number one other : ℕ) (rec : LogRecord) (part : Part) → length (part_text half number one rec part) ≡ length (part_text half number other rec part)
    part_long half number one other rec Number = refl
    part_long half number one other rec (Time moment part) = refl
    part_long half number one other rec ClassId = refl
    part_long half number one other rec Cut = refl
    part_long half number one other rec Body = refl
    part_long half number one other rec BodyBytes = refl
    part_long half number one other rec NotificationId = refl
    part_long half number one other rec EventType = refl
    part_long half number one other rec Object = refl
    part_long half number one other rec Notifier = refl
    part_long half number one other rec User = refl
    part_long half number one other rec Severity = refl

    piece_long : (half : Moment → Bool) (number one other : ℕ) (rec : LogRecord) (piece : Piece) → length (piece_text half number one rec piece) ≡ length (piece_text half number other rec piece)
    piece_long half number one other rec (Plain text) = refl
    piece_long half number one other rec (Field token) = in_places_long (is_number token.part) token.width _ _ (part_long half number one other rec token.part)

-- the mark by whether the text with it is cut
cut_mark_by : (b : Bool) (limit long : ℕ) → nat_lt limit long ≡ b → let mark : ℕ = cond b 84 67 in ((mark ≡ 84) ↔ (limit < long)) × ((mark ≡ 67) ↔ (long ≤ limit))
cut_mark_by true limit long is =
    let over : limit < long = ltb-true limit long is in
    ((λ _. over, λ _. refl), (λ e. absurd (omega arith), λ h. absurd (omega arith)))
cut_mark_by false limit long is =
    let within : long ≤ limit = ltb-false limit long is in
    ((λ e. absurd (omega arith), λ h. absurd (omega arith)), (λ _. within, λ _. refl))

pub cut_mark-cut : (half : Moment → Bool) (number : ℕ) (rec : LogRecord) (pieces : List Piece) (size : ℕ) → let mark = cut_mark (λ mark. pieces_text half number mark rec pieces) size in (mark ≡ 84) ↔ (places_of size < length (pieces_text half number mark rec pieces))
cut_mark-cut half number rec pieces size =
    let text = λ (mark : ℕ). pieces_text half number mark rec pieces in
    let same = length-pieces_text half number 67 (cut_mark text size) rec pieces in
    let tells = cut_mark_by (nat_lt (places_of size) (length (text 67))) (places_of size) (length (text 67)) refl in
    (λ e. let over = tells.0.0 e in omega arith, λ h. tells.0.1 (omega arith))

pub cut_mark-whole : (half : Moment → Bool) (number : ℕ) (rec : LogRecord) (pieces : List Piece) (size : ℕ) → let mark = cut_mark (λ mark. pieces_text half number mark rec pieces) size in (mark ≡ 67) ↔ (length (pieces_text half number mark rec pieces) ≤ places_of size)
cut_mark-whole half number rec pieces size =
    let text = λ (mark : ℕ). pieces_text half number mark rec pieces in
    let same = length-pieces_text half number 67 (cut_mark text size) rec pieces in
    let tells = cut_mark_by (nat_lt (places_of size) (length (text 67))) (places_of size) (length (text 67)) refl in
    (λ e. let within = tells.1.0 e in omega arith, λ h. tells.1.1 (omega arith))

-- a line has as many bytes as its size says, or with size 0 as its text needs
pub places_sized : (size : ℕ) → 0 < size → places_of size ≡ size - 1
places_sized size some = cond-false (size == 0) 16383 (size - 1) (ne_eqb size 0 (omega arith))

length-line_of : (size : ℕ) (text : List ℕ) → 0 < size → length (line_of size text) ≡ size
length-line_of size text some =
    let places = places_sized size some in
    let line = length-append (take (places_of size) text ++ spaces (size - 1 - length text)) (10 ∷ []) in
    let front = length-append (take (places_of size) text) (spaces (size - 1 - length text)) in
    let cut = length-take (places_of size) text in
    let blank = length-replicate {A = ℕ} (size - 1 - length text) 32 in
    omega arith

-- and so has a printed record
pub length-printed_record : (pieces : List Piece) (number : ℕ) (rec : LogRecord) (size : ℕ) → 0 < size → length (printed_record pieces number rec size) ≡ size
unfolding printed_record
length-printed_record pieces number rec size some =
    length-line_of size (pieces_text (has_half pieces) number (cut_mark (λ mark. pieces_text (has_half pieces) number mark rec pieces) size) rec pieces) some

-- with size 0 it is the record of the size that its text needs
cut-as : (limit most long : ℕ) → limit ≡ min long most → nat_lt most long ≡ nat_lt limit long
cut-as limit most long is = by_test (nat_lt most long) refl where
  by_test : (b : Bool) → nat_lt most long ≡ b → b ≡ nat_lt limit long
  by_test true over = let past = ltb-true most long over in sym (lt-ltb limit long (omega arith))
  by_test false under = let within = ltb-false most long under in sym (le-ltb limit long (omega arith))

take-as : (text : List ℕ) (limit most : ℕ) → limit ≡ min (length text) most → take most text ≡ take limit text
take-as text limit most is = elim (cases_lt most (length text)) [
  | inl past ↦ ap (λ k. take k text) (omega arith)
  | inr whole ↦ take_all most text whole ∙ sym (take_all limit text (omega arith))
]

pub printed_freely : (pieces : List Piece) (number : ℕ) (rec : LogRecord) (needed : ℕ) → needed ≡ min (length (pieces_text (has_half pieces) number 67 rec pieces)) 16383 + 1 → printed_record pieces number rec 0 ≡ printed_record pieces number rec needed
unfolding printed_record
printed_freely pieces number rec needed is =
    let text = λ (mark : ℕ). pieces_text (has_half pieces) number mark rec pieces in
    let mark = cut_mark text needed in
    let places : places_of needed ≡ min (length (text 67)) 16383 = places_sized needed (omega arith) ∙ omega arith in
    let same : cut_mark text 0 ≡ mark = ap (λ b. cond b 84 67) (cut-as (places_of needed) 16383 (length (text 67)) places) in
    let long : length (text mark) ≡ length (text 67) = length-pieces_text (has_half pieces) number mark 67 rec pieces in
    ap (λ m. line_of 0 (text m)) same
    ∙ ap (λ line. line ++ spaces (0 - 1 - length (text mark)) ++ 10 ∷ []) (take-as (text mark) (places_of needed) 16383 (places ∙ ap (λ n. min n 16383) (sym long)))
    ∙ ap (λ count. take (places_of needed) (text mark) ++ spaces count ++ 10 ∷ []) (omega arith)

-- with size 0 it has a byte at least, and no more than a text may have
pub length-printed_freely : (pieces : List Piece) (number : ℕ) (rec : LogRecord) → (1 ≤ length (printed_record pieces number rec 0)) × (length (printed_record pieces number rec 0) ≤ 16384)
length-printed_freely pieces number rec =
    let long = length (pieces_text (has_half pieces) number 67 rec pieces) in
    let needed = min long 16383 + 1 in
    let same = ap length (printed_freely pieces number rec needed refl) ∙ length-printed_record pieces number rec needed (omega arith) in
    (omega arith, omega arith)

-- The texts with which a record's tokens are printed fit the printed record.
use Rattle.std.proofs.Common.{◌≡◌, ℕ, suc, ◌+◌, ◌-◌, ◌^◌, ◌<◌, ◌≤◌, List, [], ◌∷◌, ◌++◌, length, map, get_or, Bool, true, false, not, ◌&&◌, codes, ◌↔◌, Option, Some, None, slice_get, unsigned_abs, refl, sym, ap, ◌∙◌, arith, length-append, append-nil}
use Rattle.std.specs.Option.{option_map_or, MatchOption}
use Rattle.std.specs.Int.{is_negative}
use Rattle.std.proofs.lemmas.Bool.{and_parts, leb-true, not-true}
use Rattle.std.proofs.lemmas.List.{get_or-append-add, take_all}
use Rattle.ais_values.specs.declared.kind.StreamKind.{StreamKind}
use Rattle.ais_values.specs.declared.kind.StreamKind.TheVariants.{Alarm, Notification, System, Application}
use Rattle.format_expr.specs.declared.token.Moment.{Moment}
use Rattle.format_expr.specs.declared.token.Moment.TheVariants.{Record, Event}
use Rattle.format_expr.specs.declared.token.TimePart.{TimePart}
use Rattle.format_expr.specs.declared.token.Part.{Part}
use Rattle.format_expr.specs.declared.token.Part.TheVariants.{Number, Time, ClassId as Class, Cut, Body, BodyBytes, NotificationId, EventType, Object, Notifier, User, Severity}
use Rattle.format_expr.specs.declared.token.Token.{Token}
use Rattle.format_expr.specs.declared.piece.Piece.{Piece}
use Rattle.format_expr.specs.declared.piece.Piece.TheVariants.{Plain, Field}
use Rattle.format_expr.specs.Tokens.{letters}
use Rattle.format_expr.specs.Language.{are_pieces, is_class_of, is_notified, is_width, takes_digit, begins_with, is_digit, spelling}
use Rattle.record_print.specs.declared.record.Header.{Header}
use Rattle.record_print.specs.declared.record.Header.TheVariants.{Ntf, Generic}
use Rattle.record_print.specs.declared.record.LogRecord.{LogRecord}
use Rattle.record_print.specs.Printing.{spaces, time_text, class_of, id_text, event_type_text, severity_text, time_of, event_time, part_text, places_of, is_number, in_places, piece_text, pieces_text, has_half, has_codes, can_print}
use Rattle.record_print.proofs.LineLaws.{printed_whole, length-printed_record}
use Rattle.record_print.proofs.LengthLaws.{length-led_digits, severity_name_long, time_long, class_long, number_long}
use Rattle.record_print.proofs.SheetLaws.{length-fitted}
use Rattle.record_print.specs.Lengths.{time_length}
use Rattle.record_scan.specs.Fits.{length_at, tokens_of, AreTexts, filled, ends_with, is_space, Fits}
use Rattle.record_scan.specs.Separable.{closes, is_closed, IsSeparable}
use Rattle.record_scan.specs.Printed.{is_of_kind, token_texts, IsPrintedWhole}
use Rattle.record_scan.proofs.SeparableLaws.{is_end_closed}
use Rattle.record_scan.proofs.ContentLaws.{last_byte}

-- what only a header of one kind has
notified : (kind : StreamKind) → is_class_of kind 78 ≡ true → is_notified kind ≡ true
notified Alarm is = refl
notified Notification is = refl
notified System is = absurd cc
notified Application is = absurd cc

unnotified : (kind : StreamKind) → is_class_of kind 83 ≡ true → is_notified kind ≡ false
unnotified Alarm is = absurd cc
unnotified Notification is = absurd cc
unnotified System is = refl
unnotified Application is = refl

id_long : (kind : StreamKind) (header : Header) → is_class_of kind 78 ≡ true → is_of_kind kind header ≡ true → length (id_text header) ≡ 18
id_long kind (Ntf id event_type object notifier class time) is suits = length-led_digits (codes "0x") 16 id
id_long kind (Generic class user severity) is suits = let other = not-true (is_notified kind) suits in let own = notified kind is in absurd cc

event_type_long : (kind : StreamKind) (header : Header) → is_class_of kind 78 ≡ true → is_of_kind kind header ≡ true → length (event_type_text header) ≡ 6
event_type_long kind (Ntf id event_type object notifier class time) is suits = length-led_digits (codes "0x") 4 event_type
event_type_long kind (Generic class user severity) is suits = let other = not-true (is_notified kind) suits in let own = notified kind is in absurd cc

event_time_long : (half : Bool) (kind : StreamKind) (header : Header) (part : TimePart) → is_class_of kind 78 ≡ true → is_of_kind kind header ≡ true → ((time : ℕ) → event_time header ≡ Some time → time < 2 ^ 63) → length (option_map_or (λ time. time_text half time part) (event_time header) []) ≡ time_length part
event_time_long half kind (Ntf id event_type object notifier class time) part is suits low = time_long half (unsigned_abs time) (let below = low (unsigned_abs time) refl in omega arith) part
event_time_long half kind (Generic class user severity) part is suits low = let other = not-true (is_notified kind) suits in let own = notified kind is in absurd cc

severity_long : (kind : StreamKind) (header : Header) → is_class_of kind 83 ≡ true → is_of_kind kind header ≡ true → has_codes header ≡ true → length (severity_text header) ≡ 2
severity_long kind (Ntf id event_type object notifier class time) is suits codes_are = let own = unnotified kind is in let other : is_notified kind ≡ true = suits in absurd cc
severity_long kind (Generic class user severity) is suits codes_are = severity_name_long severity (let low = leb-true severity 6 codes_are in omega arith)

-- a token's text
text_long : (half : Moment → Bool) (kind : StreamKind) (number : ℕ) (rec : LogRecord) → number < 2 ^ 32 → ((moment : Moment) (time : ℕ) → time_of moment rec ≡ Some time → time < 2 ^ 63) → can_print rec ≡ true → is_of_kind kind rec.header ≡ true → (width : Option ℕ) (part : Part) → is_class_of kind (get_or (letters part) 0 0) ≡ true → MatchOption (length_at width part) (Unit {0}) (λ places. length (in_places (is_number part) width (part_text half number 67 rec part)) ≡ places)
text_long half kind number rec low timed printable suits (Some width) part is = length-fitted width (part_text half number 67 rec part)
text_long half kind number rec low timed printable suits None Number is = number_long number low
text_long half kind number rec low timed printable suits None (Time Record part) is = time_long (half Record) (unsigned_abs rec.time) (let low = timed Record (unsigned_abs rec.time) refl in omega arith) part
text_long half kind number rec low timed printable suits None (Time Event part) is = event_time_long (half Event) kind rec.header part is suits (timed Event)
text_long half kind number rec low timed printable suits None Class is = class_long (class_of rec.header)
text_long half kind number rec low timed printable suits None Cut is = refl
text_long half kind number rec low timed printable suits None Body is = tt
text_long half kind number rec low timed printable suits None BodyBytes is = tt
text_long half kind number rec low timed printable suits None NotificationId is = id_long kind rec.header is suits
text_long half kind number rec low timed printable suits None EventType is = event_type_long kind rec.header is suits
text_long half kind number rec low timed printable suits None Object is = tt
text_long half kind number rec low timed printable suits None Notifier is = tt
text_long half kind number rec low timed printable suits None User is = tt
text_long half kind number rec low timed printable suits None Severity is = severity_long kind rec.header is suits (and_parts (not (is_negative rec.time)) (has_codes rec.header) printable).1

-- the texts of the tokens of some pieces
abbrev shown_texts : (Moment → Bool) → ℕ → LogRecord → List Piece → List (List ℕ)
shown_texts half number rec pieces = map (λ (token : Token). piece_text half number 67 rec (Field token)) (tokens_of pieces)

are_shown : (half : Moment → Bool) (kind : StreamKind) (number : ℕ) (rec : LogRecord) → number < 2 ^ 32 → ((moment : Moment) (time : ℕ) → time_of moment rec ≡ Some time → time < 2 ^ 63) → can_print rec ≡ true → is_of_kind kind rec.header ≡ true → (pieces : List Piece) → are_pieces kind pieces ≡ true → AreTexts pieces (shown_texts half number rec pieces)
are_shown half kind number rec low timed printable suits [] are = tt
are_shown half kind number rec low timed printable suits (Plain text ∷ pieces) are =
    are_shown half kind number rec low timed printable suits pieces (and_parts _ (are_pieces kind pieces) are).1
are_shown half kind number rec low timed printable suits (Field token ∷ pieces) are =
    let last = and_parts _ (are_pieces kind pieces) are in
    let third = and_parts _ (not (takes_digit token.width && begins_with is_digit (spelling pieces))) last.0 in
    let first = and_parts _ (is_width token.width) third.0 in
    (text_long half kind number rec low timed printable suits token.width token.part first.0, are_shown half kind number rec low timed printable suits pieces last.1)

filled_shown : (half : Moment → Bool) (number : ℕ) (rec : LogRecord) (pieces : List Piece) → filled pieces (shown_texts half number rec pieces) ≡ pieces_text half number 67 rec pieces
filled_shown half number rec [] = refl
filled_shown half number rec (Plain text ∷ pieces) = ap (λ bytes. text ++ bytes) (filled_shown half number rec pieces)
filled_shown half number rec (Field token ∷ pieces) = ap (λ bytes. piece_text half number 67 rec (Field token) ++ bytes) (filled_shown half number rec pieces)

-- how a text ends
ends_some : (test : ℕ → Bool) (text : List ℕ) → ends_with test text ≡ true → 0 < length text
ends_some test [] ends = absurd cc
ends_some test (byte ∷ text) ends = omega arith

ends_behind : (test : ℕ → Bool) (front text : List ℕ) → ends_with test text ≡ true → ends_with test (front ++ text) ≡ true
ends_behind test front text ends =
    let some = ends_some test text ends in
    let whole = length-append front text in
    let place : length (front ++ text) - 1 ≡ length front + (length text - 1) = omega arith in
    last_byte test (front ++ text) (omega arith)
    ∙ ap test (ap (λ k. get_or (front ++ text) k 0) place ∙ get_or-append-add front text (length text - 1) 0)
    ∙ sym (last_byte test text some) ∙ ends

closed_more : (piece next : Piece) (pieces : List Piece) → is_closed (piece ∷ next ∷ pieces) ≡ is_closed (next ∷ pieces)
closed_more piece next pieces =
    let long : length (piece ∷ next ∷ pieces) - 1 ≡ suc (length (next ∷ pieces) - 1) = omega arith in
    ap (λ k. option_map_or closes (slice_get (piece ∷ next ∷ pieces) k) false) long

filled_ends : (pieces : List Piece) (texts : List (List ℕ)) → AreTexts pieces texts → is_closed pieces ≡ true → ends_with (λ byte. not (is_space byte)) (filled pieces texts) ≡ true
filled_ends [] texts each closed = absurd cc
filled_ends (Plain plain ∷ []) texts each closed = ap (ends_with (λ byte. not (is_space byte))) (append-nil plain) ∙ closed
filled_ends (Field token ∷ []) texts each closed = absurd cc
filled_ends (Plain plain ∷ next ∷ pieces) texts each closed =
    ends_behind (λ byte. not (is_space byte)) plain (filled (next ∷ pieces) texts) (filled_ends (next ∷ pieces) texts each (sym (closed_more (Plain plain) next pieces) ∙ closed))
filled_ends (Field token ∷ next ∷ pieces) [] each closed = absurd each
filled_ends (Field token ∷ next ∷ pieces) (text ∷ texts) each closed =
    ends_behind (λ byte. not (is_space byte)) text (filled (next ∷ pieces) texts) (filled_ends (next ∷ pieces) texts each.1 (sym (closed_more (Field token) next pieces) ∙ closed))

other_end : (text : List ℕ) → ends_with (λ byte. not (is_space byte)) text ≡ true → ends_with is_space text ≡ false
other_end text ends = by_last (slice_get text (length text - 1)) ends where
  by_last : (found : Option ℕ) → option_map_or (λ byte. not (is_space byte)) found false ≡ true → option_map_or is_space found false ≡ false
  by_last None is = absurd cc
  by_last (Some byte) is = not-true (is_space byte) is

-- what is printed and not cut, and is found in it
fits_printed : (kind : StreamKind) (pieces : List Piece) (size number : ℕ) (rec : LogRecord) (bytes : List ℕ) → are_pieces kind pieces ≡ true → IsSeparable pieces size → IsPrintedWhole kind pieces size number rec bytes → Fits pieces size bytes (token_texts pieces number rec)
fits_printed kind pieces size number rec bytes are separable whole =
    let half = has_half pieces in
    let text = pieces_text half number 67 rec pieces in
    let short : length text ≤ places_of size = whole.short in
    let same = filled_shown half number rec pieces in
    let each = are_shown half kind number rec whole.counted whole.timed whole.printable whole.suited pieces are in
    record {
      each = each;
      blanks = size - 1 - length text;
      whole = whole.printed ∙ sym (printed_whole pieces number rec size short)
          ∙ ap (λ line. line ++ spaces (size - 1 - length text) ++ 10 ∷ []) (take_all (places_of size) text short ∙ sym same);
      unpadded = λ lines. omega arith;
      sized = λ padded. ap length whole.printed ∙ length-printed_record pieces number rec size padded;
      ended = λ padded some. other_end (filled pieces (shown_texts half number rec pieces)) (filled_ends pieces (shown_texts half number rec pieces) each (is_end_closed pieces size separable padded some));
    }

pub finds_printed : (kind : StreamKind) (pieces : List Piece) (size : ℕ) (bytes : List ℕ) (found : Option (List (List ℕ))) → are_pieces kind pieces ≡ true → IsSeparable pieces size → ((texts : List (List ℕ)) → (found ≡ Some texts) ↔ Fits pieces size bytes texts) → (number : ℕ) (rec : LogRecord) → IsPrintedWhole kind pieces size number rec bytes → found ≡ Some (token_texts pieces number rec)
finds_printed kind pieces size bytes found are separable fits number rec whole =
    (fits (token_texts pieces number rec)).1 (fits_printed kind pieces size number rec bytes are separable whole)

-- No byte of a printed text is a control one, so the line feed behind it is the first of its record.
use Rattle.std.proofs.Common.{◌≡◌, ℕ, zero, suc, ◌+◌, ◌-◌, ◌*◌, ◌/◌, ◌%◌, ◌^◌, ◌<◌, ◌≤◌, List, [], ◌∷◌, ◌++◌, length, take, get_or, Bool, true, false, cond, not, ◌==◌, ◌&&◌, ◌||◌, nat_le, nat_lt, codes, Option, Some, None, slice_index_or, refl, sym, ap, subst, ◌∙◌, arith, length-append, append-nil}
use Rattle.std.specs.List.{list_all}
use Rattle.std.specs.Option.{option_map_or}
use Rattle.std.specs.Fmt.{decimal}
use Rattle.std.proofs.lemmas.Bool.{and_from, and_parts, cond_both, le-leb, leb-true, ltb-false}
use Rattle.std.proofs.lemmas.Fmt.{decimal_by_steps}
use Rattle.std.proofs.lemmas.List.{get_or_append_left, get_or-append-add}
use Rattle.ais_values.specs.Texts.{hex_digit}
use Rattle.ais_values.specs.declared.kind.ClassId.{ClassId}
use Rattle.ais_values.specs.declared.kind.StreamKind.{StreamKind}
use Rattle.civil_time.specs.Digits.{two_digits, four_digits}
use Rattle.civil_time.specs.Fields.{civil_of}
use Rattle.civil_time.specs.declared.civil.Civil.{Civil}
use Rattle.format_expr.specs.declared.token.Moment.{Moment}
use Rattle.format_expr.specs.declared.token.TimePart.{TimePart}
use Rattle.format_expr.specs.declared.token.TimePart.TheVariants.{Nanoseconds, Hour, Minute, Second, HalfDay, Month, MonthName, Day, DayName, ShortYear, Year}
use Rattle.format_expr.specs.declared.token.Part.{Part}
use Rattle.format_expr.specs.declared.token.Part.TheVariants.{Number, Time, ClassId as Class, Cut, Body, BodyBytes, NotificationId, EventType, Object, Notifier, User, Severity}
use Rattle.format_expr.specs.declared.piece.Piece.{Piece}
use Rattle.format_expr.specs.declared.piece.Piece.TheVariants.{Plain, Field}
use Rattle.format_expr.specs.Language.{are_pieces, is_plain, is_empty, begins_plain}
use Rattle.record_print.specs.declared.record.Header.{Header}
use Rattle.record_print.specs.declared.record.Header.TheVariants.{Ntf, Generic}
use Rattle.record_print.specs.declared.record.LogRecord.{LogRecord}
use Rattle.record_print.specs.Printing.{spaces, fitted, shown_byte, shown, hex_digits, led_digits, hex_bytes, month_names, day_names, severity_names, clock_hour, civil_text, time_text, class_text, class_of, id_text, event_type_text, object_text, notifier_text, user_text, severity_text, time_of, part_text, is_number, in_places, piece_text, pieces_text, has_half, places_of, cut_mark, printed_record}
use Rattle.record_scan.specs.Numbers.{IsLine}

-- the bytes are none of the first 32
abbrev is_clear : List ℕ → Bool
is_clear text = list_all (nat_le 32) text

clear-append : (front text : List ℕ) → is_clear front ≡ true → is_clear text ≡ true → is_clear (front ++ text) ≡ true
clear-append [] text before is = is
clear-append (byte ∷ front) text before is =
    let parts = and_parts (nat_le 32 byte) (is_clear front) before in
    and_from (nat_le 32 byte) (is_clear (front ++ text)) parts.0 (clear-append front text parts.1 is)

clear-take : (text : List ℕ) (count : ℕ) → is_clear text ≡ true → is_clear (take count text) ≡ true
clear-take [] zero is = refl
clear-take [] (suc count) is = refl
clear-take (byte ∷ text) zero is = refl
clear-take (byte ∷ text) (suc count) is =
    let parts = and_parts (nat_le 32 byte) (is_clear text) is in
    and_from (nat_le 32 byte) (is_clear (take count text)) parts.0 (clear-take text count parts.1)

clear-spaces : (count : ℕ) → is_clear (spaces count) ≡ true
clear-spaces zero = refl
clear-spaces (suc count) = clear-spaces count

clear-fitted : (width : ℕ) (text : List ℕ) → is_clear text ≡ true → is_clear (fitted width text) ≡ true
clear-fitted width text is = clear-append (take width text) (spaces (width - length text)) (clear-take text width is) (clear-spaces (width - length text))

-- bytes that are shown
byte-clear : (byte : ℕ) → nat_le 32 (shown_byte byte) ≡ true
byte-clear byte = by_case (nat_lt byte 32) refl where
  by_case : (low : Bool) → nat_lt byte 32 ≡ low → nat_le 32 (cond (low || byte == 127) 46 byte) ≡ true
  by_case true is = refl
  by_case false is = cond_both (byte == 127) 46 byte (λ b. nat_le 32 b ≡ true) (λ _. refl) (λ _. le-leb 32 byte (ltb-false byte 32 is))

clear-shown : (text : List ℕ) → is_clear (shown text) ≡ true
clear-shown [] = refl
clear-shown (byte ∷ text) = and_from (nat_le 32 (shown_byte byte)) (is_clear (shown text)) (byte-clear byte) (clear-shown text)

-- digits
hex-clear : (digit : ℕ) → nat_le 32 (hex_digit digit) ≡ true
hex-clear digit =
    cond_both (nat_lt digit 10) (48 + digit) (87 + digit) (λ b. nat_le 32 b ≡ true) (λ _. le-leb 32 (48 + digit) (omega arith)) (λ _. le-leb 32 (87 + digit) (omega arith))

clear-hex_digits : (places number : ℕ) → is_clear (hex_digits places number) ≡ true
unfolding hex_digits
clear-hex_digits zero number = refl
clear-hex_digits (suc places) number =
    let digit = number / 2 ^ (4 * places) % 16 in
    and_from (nat_le 32 (hex_digit digit)) (is_clear (hex_digits places number)) (hex-clear digit) (clear-hex_digits places number)

clear-led : (lead : List ℕ) (places number : ℕ) → is_clear lead ≡ true → is_clear (led_digits lead places number) ≡ true
clear-led lead places number is = clear-append lead (hex_digits places number) is (clear-hex_digits places number)

clear-hex_bytes : (bytes : List ℕ) → is_clear (hex_bytes bytes) ≡ true
clear-hex_bytes [] = refl
clear-hex_bytes (byte ∷ bytes) =
    and_from (nat_le 32 (hex_digit (byte / 16))) (is_clear (hex_digit (byte % 16) ∷ hex_bytes bytes)) (hex-clear (byte / 16))
    (and_from (nat_le 32 (hex_digit (byte % 16))) (is_clear (hex_bytes bytes)) (hex-clear (byte % 16)) (clear-hex_bytes bytes))

one-clear : (digit : ℕ) → is_clear ((48 + digit) ∷ []) ≡ true
one-clear digit = and_from (nat_le 32 (48 + digit)) true (le-leb 32 (48 + digit) (omega arith)) refl

clear-two : (n : ℕ) → is_clear (two_digits n) ≡ true
clear-two n = and_from (nat_le 32 (48 + n / 10)) (is_clear ((48 + n % 10) ∷ [])) (le-leb 32 (48 + n / 10) (omega arith)) (one-clear (n % 10))

clear-four : (n : ℕ) → is_clear (four_digits n) ≡ true
clear-four n = clear-append (two_digits (n / 100)) (two_digits (n % 100)) (clear-two (n / 100)) (clear-two (n % 100))

clear-decimal : (n : ℕ) → n < 2 ^ 64 → is_clear (decimal n) ≡ true
clear-decimal n low =
    decimal_by_steps (λ m digits. is_clear digits ≡ true) (λ m one. one-clear m)
    (λ m digits more is. clear-append digits ((48 + m % 10) ∷ []) is (one-clear (m % 10))) n low

-- names of a table
clear-name : (names : List (List ℕ)) (k : ℕ) → list_all is_clear names ≡ true → is_clear (slice_index_or names k []) ≡ true
clear-name [] zero is = refl
clear-name [] (suc k) is = refl
clear-name (name ∷ names) zero is = (and_parts (is_clear name) (list_all is_clear names) is).0
clear-name (name ∷ names) (suc k) is = clear-name names k (and_parts (is_clear name) (list_all is_clear names) is).1

-- times
clear-civil : (half : Bool) (time : ℕ) (civil : Civil) (part : TimePart) → is_clear (civil_text half time civil part) ≡ true
clear-civil half time civil Nanoseconds = clear-led (codes "0x") 16 time refl
clear-civil half time civil Hour = clear-two (clock_hour half civil.hour)
clear-civil half time civil Minute = clear-two civil.minute
clear-civil half time civil Second = clear-two civil.second
clear-civil half time civil HalfDay = cond_both (nat_lt civil.hour 12) (codes "am") (codes "pm") (λ text. is_clear text ≡ true) (λ _. refl) (λ _. refl)
clear-civil half time civil Month = clear-two civil.month
clear-civil half time civil MonthName = clear-name month_names (civil.month - 1) refl
clear-civil half time civil Day = clear-two civil.day
clear-civil half time civil DayName = clear-name day_names civil.weekday refl
clear-civil half time civil ShortYear = clear-two (civil.year % 100)
clear-civil half time civil Year = clear-four civil.year

clear-time : (half : Bool) (part : TimePart) (found : Option ℕ) → is_clear (option_map_or (λ time. time_text half time part) found []) ≡ true
clear-time half part None = refl
clear-time half part (Some time) = clear-civil half time (civil_of (time / 1_000_000_000)) part

-- what a header has
clear-class : (class : ClassId) → is_clear (class_text class) ≡ true
clear-class class =
    let vendor = led_digits (codes "NCI[0x") 8 class.vendor in
    let major = led_digits (codes ",0x") 4 class.major in
    let minor = led_digits (codes ",0x") 4 class.minor in
    clear-append (vendor ++ major ++ minor) (codes "]")
    (clear-append (vendor ++ major) minor (clear-append vendor major (clear-led (codes "NCI[0x") 8 class.vendor refl) (clear-led (codes ",0x") 4 class.major refl))
    (clear-led (codes ",0x") 4 class.minor refl)) refl

clear-header : (header : Header) → (is_clear (id_text header) ≡ true) × (is_clear (event_type_text header) ≡ true) × (is_clear (object_text header) ≡ true) × (is_clear (notifier_text header) ≡ true) × (is_clear (user_text header) ≡ true) × (is_clear (severity_text header) ≡ true)
clear-header (Ntf id event_type object notifier class time) =
    (clear-led (codes "0x") 16 id refl, clear-led (codes "0x") 4 event_type refl, clear-shown object, clear-shown notifier, refl, refl)
clear-header (Generic class user severity) = (refl, refl, refl, refl, clear-shown user, clear-name severity_names severity refl)

-- tokens and pieces
clear-part : (half : Moment → Bool) (number mark : ℕ) (rec : LogRecord) (part : Part) → number < 2 ^ 64 → nat_le 32 mark ≡ true → is_clear (part_text half number mark rec part) ≡ true
clear-part half number mark rec Number low is = clear-decimal number low
clear-part half number mark rec (Time moment part) low is = clear-time (half moment) part (time_of moment rec)
clear-part half number mark rec Class low is = clear-class (class_of rec.header)
clear-part half number mark rec Cut low is = and_from (nat_le 32 mark) true is refl
clear-part half number mark rec Body low is = clear-shown rec.body
clear-part half number mark rec BodyBytes low is = clear-hex_bytes rec.body
clear-part half number mark rec NotificationId low is = (clear-header rec.header).0
clear-part half number mark rec EventType low is = (clear-header rec.header).1
clear-part half number mark rec Object low is = (clear-header rec.header).2
clear-part half number mark rec Notifier low is = (clear-header rec.header).3
clear-part half number mark rec User low is = (clear-header rec.header).4
clear-part half number mark rec Severity low is = (clear-header rec.header).5

clear-places : (aligned : Bool) (width : Option ℕ) (text : List ℕ) → is_clear text ≡ true → is_clear (in_places aligned width text) ≡ true
clear-places aligned (Some width) text is = clear-fitted width text is
clear-places aligned None text is =
    cond_both aligned (spaces (10 - length text) ++ text) text (λ t. is_clear t ≡ true)
    (λ _. clear-append (spaces (10 - length text)) text (clear-spaces (10 - length text)) is) (λ _. is)

clear-plain : (text : List ℕ) → list_all is_plain text ≡ true → is_clear text ≡ true
clear-plain [] is = refl
clear-plain (byte ∷ text) is =
    let parts = and_parts (is_plain byte) (list_all is_plain text) is in
    let bounds = and_parts (nat_le 32 byte && nat_le byte 126) (not (byte == 64)) parts.0 in
    and_from (nat_le 32 byte) (is_clear text) (and_parts (nat_le 32 byte) (nat_le byte 126) bounds.0).0 (clear-plain text parts.1)

clear-pieces : (kind : StreamKind) (half : Moment → Bool) (number mark : ℕ) (rec : LogRecord) (pieces : List Piece) → number < 2 ^ 64 → nat_le 32 mark ≡ true → are_pieces kind pieces ≡ true → is_clear (pieces_text half number mark rec pieces) ≡ true
clear-pieces kind half number mark rec [] low is are = refl
clear-pieces kind half number mark rec (Plain text ∷ pieces) low is are =
    let last = and_parts _ (are_pieces kind pieces) are in
    let third = and_parts _ (not (begins_plain pieces)) last.0 in
    let plain = and_parts (not (is_empty text)) (list_all is_plain text) third.0 in
    clear-append text (pieces_text half number mark rec pieces) (clear-plain text plain.1) (clear-pieces kind half number mark rec pieces low is last.1)
clear-pieces kind half number mark rec (Field token ∷ pieces) low is are =
    let last = and_parts _ (are_pieces kind pieces) are in
    clear-append (piece_text half number mark rec (Field token)) (pieces_text half number mark rec pieces)
    (clear-places (is_number token.part) token.width (part_text half number mark rec token.part) (clear-part half number mark rec token.part low is))
    (clear-pieces kind half number mark rec pieces low is last.1)

-- a clear text and a line feed
clear-at : (text : List ℕ) (k : ℕ) → is_clear text ≡ true → k < length text → 32 ≤ get_or text k 0
clear-at [] k is inside = absurd (omega (arith, inside))
clear-at (byte ∷ text) zero is inside = leb-true 32 byte (and_parts (nat_le 32 byte) (is_clear text) is).0
clear-at (byte ∷ text) (suc k) is inside = clear-at text k (and_parts (nat_le 32 byte) (is_clear text) is).1 (omega (arith, inside))

line-of-clear : (text : List ℕ) → is_clear text ≡ true → IsLine (text ++ 10 ∷ [])
line-of-clear text is =
    let long : length (text ++ 10 ∷ []) ≡ length text + 1 = length-append text (10 ∷ []) in
    let last : length (text ++ 10 ∷ []) - 1 ≡ length text + 0 = omega (arith, long) in
    record {
      some = omega (arith, long);
      ended = ap (λ k. get_or (text ++ 10 ∷ []) k 0) last ∙ get_or-append-add text (10 ∷ []) 0 0;
      first = λ k early found.
          let inside : k < length text = omega (arith, long, early) in
          let clear = clear-at text k is inside in
          let same : get_or text k 0 ≡ 10 = sym (get_or_append_left text (10 ∷ []) 0 k inside) ∙ found in
          omega (arith, clear, same);
    }

-- **a printed record of size 0 ends with its first line feed**
pub printed-line : (kind : StreamKind) (pieces : List Piece) (number : ℕ) (rec : LogRecord) → are_pieces kind pieces ≡ true → number < 2 ^ 64 → IsLine (printed_record pieces number rec 0)
unfolding printed_record
printed-line kind pieces number rec are low =
    let text = λ (mark : ℕ). pieces_text (has_half pieces) number mark rec pieces in
    let mark = cut_mark text 0 in
    let mark_is : nat_le 32 mark ≡ true = cond_both (nat_lt (places_of 0) (length (text 67))) 84 67 (λ m. nat_le 32 m ≡ true) (λ _. refl) (λ _. refl) in
    let front = take (places_of 0) (text mark) in
    let none : 0 - 1 - length (text mark) ≡ 0 = omega arith in
    subst IsLine (ap (λ line. line ++ 10 ∷ []) (sym (append-nil front) ∙ ap (λ n. front ++ spaces n) (sym none)))
    (line-of-clear front (clear-take (text mark) (places_of 0) (clear-pieces kind (has_half pieces) number mark rec pieces low mark_is are)))

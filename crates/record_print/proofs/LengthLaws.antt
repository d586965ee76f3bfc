-- How many bytes the text of a record has, counted before it is printed.
use Rattle.std.proofs.Common.{◌≡◌, ℕ, zero, suc, ◌+◌, ◌-◌, ◌*◌, ◌/◌, ◌^◌, ◌<◌, ◌≤◌, min, List, [], ◌∷◌, ◌++◌, length, Bool, true, nat_eq, nat_lt, codes, Option, Some, None, slice_index_or, unsigned_abs, refl, sym, ap, ◌∙◌, arith, length-append, lit<, not}
use Rattle.std.specs.Prelude.{ℤ}
use Rattle.std.specs.Option.{option_map_or}
use Rattle.std.specs.Fmt.{decimal}
use Rattle.std.specs.Int.{is_negative}
use Rattle.std.proofs.lemmas.Bool.{cond_both, and_parts, leb-true, agree_below_at, eqb-true}
use Rattle.std.proofs.lemmas.Fmt.{length-decimal-le}
use Rattle.std.proofs.lemmas.List.{length-replicate, length-map}
use Rattle.std.proofs.lemmas.List.Sums.{sum_by-cons}
use Rattle.ais_values.specs.declared.kind.ClassId.{ClassId}
use Rattle.civil_time.specs.Fields.{civil_of}
use Rattle.civil_time.specs.declared.civil.Civil.{Civil}
use Rattle.civil_time.proofs.Counting.{civil_in_range}
use Rattle.format_expr.specs.declared.token.Moment.{Moment}
use Rattle.format_expr.specs.declared.token.Moment.TheVariants.{Record, Event}
use Rattle.format_expr.specs.declared.token.TimePart.{TimePart}
use Rattle.format_expr.specs.declared.token.TimePart.TheVariants.{Nanoseconds, Hour, Minute, Second, HalfDay, Month, MonthName, Day, DayName, ShortYear, Year}
use Rattle.format_expr.specs.declared.token.Part.{Part}
use Rattle.format_expr.specs.declared.token.Part.TheVariants.{Number, Time, ClassId as Class, Cut, Body, BodyBytes, NotificationId, EventType, Object, Notifier, User, Severity}
use Rattle.format_expr.specs.declared.piece.Piece.{Piece}
use Rattle.format_expr.specs.declared.piece.Piece.TheVariants.{Plain, Field}
use Rattle.record_print.specs.declared.record.Header.{Header}
use Rattle.record_print.specs.declared.record.Header.TheVariants.{Ntf, Generic}
use Rattle.record_print.specs.declared.record.LogRecord.{LogRecord}
use Rattle.record_print.specs.Printing.{spaces, hex_digits, hex_bytes, led_digits, month_names, day_names, severity_names, civil_text, time_text, class_text, class_of, id_text, event_type_text, object_text, notifier_text, user_text, severity_text, event_time, part_text, is_number, in_places, piece_text, pieces_text, has_half, has_codes, can_print, printed_record}
use Rattle.record_print.specs.declared.length.NameLengths.{NameLengths}
use Rattle.record_print.specs.declared.length.NameLengths.TheVariants.{Notified}
use Rattle.record_print.specs.Lengths.{name_lengths, time_length, header_length, part_length, width_length, piece_length, pieces_length, IsTimed, with_event_time, HasParts, HasNames, HasNotifiedParts}
use Rattle.record_print.proofs.LineLaws.{length-printed_record, printed_freely}
use Rattle.record_print.proofs.SheetLaws.{length-fitted}

-- digits
length-hex_digits : (places number : ℕ) → length (hex_digits places number) ≡ places
unfolding hex_digits
length-hex_digits zero number = refl
length-hex_digits (suc places) number = ap suc (length-hex_digits places number)

pub length-led_digits : (lead : List ℕ) (places number : ℕ) → length (led_digits lead places number) ≡ length lead + places
length-led_digits lead places number = length-append lead (hex_digits places number) ∙ ap (λ n. length lead + n) (length-hex_digits places number)

-- names of a table that all have one length
abbrev has_length : ℕ → List (List ℕ) → ℕ → Bool
has_length long names k = nat_eq (length (slice_index_or names k [])) long

month_name_long : (k : ℕ) → k < 12 → length (slice_index_or month_names k []) ≡ 3
month_name_long k inside = eqb-true (length (slice_index_or month_names k [])) 3 (agree_below_at (has_length 3 month_names) (λ _. true) 12 k refl inside)

day_name_long : (k : ℕ) → k < 7 → length (slice_index_or day_names k []) ≡ 3
day_name_long k inside = eqb-true (length (slice_index_or day_names k [])) 3 (agree_below_at (has_length 3 day_names) (λ _. true) 7 k refl inside)

pub severity_name_long : (k : ℕ) → k < 7 → length (slice_index_or severity_names k []) ≡ 2
severity_name_long k inside = eqb-true (length (slice_index_or severity_names k [])) 2 (agree_below_at (has_length 2 severity_names) (λ _. true) 7 k refl inside)

-- times
pub civil_long : (half : Bool) (time : ℕ) (civil : Civil) → 1 ≤ civil.month → civil.month ≤ 12 → civil.weekday ≤ 6 → (part : TimePart) → length (civil_text half time civil part) ≡ time_length part
civil_long half time civil from to days Nanoseconds = length-led_digits (codes "0x") 16 time
civil_long half time civil from to days Hour = refl
civil_long half time civil from to days Minute = refl
civil_long half time civil from to days Second = refl
civil_long half time civil from to days HalfDay = cond_both (nat_lt civil.hour 12) (codes "am") (codes "pm") (λ text. length text ≡ 2) (λ _. refl) (λ _. refl)
civil_long half time civil from to days Month = refl
civil_long half time civil from to days MonthName = month_name_long (civil.month - 1) (omega arith)
civil_long half time civil from to days Day = refl
civil_long half time civil from to days DayName = day_name_long civil.weekday (omega arith)
civil_long half time civil from to days ShortYear = refl
civil_long half time civil from to days Year = refl

pub time_long : (half : Bool) (time : ℕ) → time ≤ 2 ^ 63 → (part : TimePart) → length (time_text half time part) ≡ time_length part
time_long half time low part =
    let second : time / 1_000_000_000 ≤ 20_000_000_100 = omega arith in
    let range = civil_in_range (time / 1_000_000_000) second in
    civil_long half time (civil_of (time / 1_000_000_000)) range.month.0 range.month.1 range.weekday part

pub class_long : (class : ClassId) → length (class_text class) ≡ 29
class_long class =
    let vendor = led_digits (codes "NCI[0x") 8 class.vendor in
    let major = led_digits (codes ",0x") 4 class.major in
    let minor = led_digits (codes ",0x") 4 class.minor in
    let one = length-led_digits (codes "NCI[0x") 8 class.vendor in
    let two = length-led_digits (codes ",0x") 4 class.major in
    let three = length-led_digits (codes ",0x") 4 class.minor in
    let first = length-append vendor major in
    let second = length-append (vendor ++ major) minor in
    let third = length-append (vendor ++ major ++ minor) (codes "]") in
    omega arith

-- a token's text
pub number_long : (number : ℕ) → number < 2 ^ 32 → length (spaces (10 - length (decimal number)) ++ decimal number) ≡ 10
number_long number low =
    let small = length-decimal-le 10 number (lit< tt) (omega arith) (omega arith) in
    let whole = length-append (spaces (10 - length (decimal number))) (decimal number) in
    let blank = length-replicate {A = ℕ} (10 - length (decimal number)) 32 in
    omega arith

length-hex_bytes : (bytes : List ℕ) → length (hex_bytes bytes) ≡ 2 * length bytes
length-hex_bytes [] = refl
length-hex_bytes (byte ∷ bytes) = let rest = length-hex_bytes bytes in omega arith

event_counted : (half : Bool) (part : TimePart) (header : Header) → ((time : ℕ) → event_time header ≡ Some time → time ≤ 2 ^ 63)
    → length (option_map_or (λ time. time_text half time part) (event_time header) []) ≡ header_length (name_lengths header) (Time Event part)
event_counted half part (Ntf id event_type object notifier class time) low = time_long half (unsigned_abs time) (low (unsigned_abs time) refl) part
event_counted half part (Generic class user severity) low = refl

id_counted : (header : Header) → length (id_text header) ≡ header_length (name_lengths header) NotificationId
id_counted (Ntf id event_type object notifier class time) = length-led_digits (codes "0x") 16 id
id_counted (Generic class user severity) = refl

event_type_counted : (header : Header) → length (event_type_text header) ≡ header_length (name_lengths header) EventType
event_type_counted (Ntf id event_type object notifier class time) = length-led_digits (codes "0x") 4 event_type
event_type_counted (Generic class user severity) = refl

object_counted : (header : Header) → length (object_text header) ≡ header_length (name_lengths header) Object
object_counted (Ntf id event_type object notifier class time) = length-map object _
object_counted (Generic class user severity) = refl

notifier_counted : (header : Header) → length (notifier_text header) ≡ header_length (name_lengths header) Notifier
notifier_counted (Ntf id event_type object notifier class time) = length-map notifier _
notifier_counted (Generic class user severity) = refl

user_counted : (header : Header) → length (user_text header) ≡ header_length (name_lengths header) User
user_counted (Ntf id event_type object notifier class time) = refl
user_counted (Generic class user severity) = length-map user _

severity_counted : (header : Header) → has_codes header ≡ true → length (severity_text header) ≡ header_length (name_lengths header) Severity
severity_counted (Ntf id event_type object notifier class time) codes_are = refl
severity_counted (Generic class user severity) codes_are = severity_name_long severity (let low = leb-true severity 6 codes_are in omega arith)

token_counted : (half : Moment → Bool) (number mark : ℕ) (rec : LogRecord) → number < 2 ^ 32 → IsTimed rec → has_codes rec.header ≡ true → (width : Option ℕ) (part : Part)
    → length (in_places (is_number part) width (part_text half number mark rec part)) ≡ width_length width (part_length (name_lengths rec.header) rec.body part)
token_counted half number mark rec low timed codes_are (Some width) part = length-fitted width (part_text half number mark rec part)
token_counted half number mark rec low timed codes_are None Number = number_long number low
token_counted half number mark rec low timed codes_are None (Time Record part) = time_long (half Record) (unsigned_abs rec.time) (timed Record (unsigned_abs rec.time) refl) part
token_counted half number mark rec low timed codes_are None (Time Event part) = event_counted (half Event) part rec.header (timed Event)
token_counted half number mark rec low timed codes_are None Class = class_long (class_of rec.header)
token_counted half number mark rec low timed codes_are None Cut = refl
token_counted half number mark rec low timed codes_are None Body = length-map rec.body _
token_counted half number mark rec low timed codes_are None BodyBytes = length-hex_bytes rec.body
token_counted half number mark rec low timed codes_are None NotificationId = id_counted rec.header
token_counted half number mark rec low timed codes_are None EventType = event_type_counted rec.header
token_counted half number mark rec low timed codes_are None Object = object_counted rec.header
token_counted half number mark rec low timed codes_are None Notifier = notifier_counted rec.header
token_counted half number mark rec low timed codes_are None User = user_counted rec.header
token_counted half number mark rec low timed codes_are None Severity = severity_counted rec.header codes_are

pub pieces_counted : (half : Moment → Bool) (number mark : ℕ) (rec : LogRecord) → number < 2 ^ 32 → IsTimed rec → has_codes rec.header ≡ true → (pieces : List Piece)
    → length (pieces_text half number mark rec pieces) ≡ pieces_length (name_lengths rec.header) rec.body pieces
pieces_counted half number mark rec low timed codes_are [] = refl
pieces_counted half number mark rec low timed codes_are (piece ∷ pieces) =
    length-append (piece_text half number mark rec piece) (pieces_text half number mark rec pieces)
    ∙ ap (λ n. n + length (pieces_text half number mark rec pieces)) (piece_counted piece)
    ∙ ap (λ n. piece_length (name_lengths rec.header) rec.body piece + n) (pieces_counted half number mark rec low timed codes_are pieces)
    ∙ sym (sum_by-cons (piece_length (name_lengths rec.header) rec.body) piece pieces)
  where
    piece_counted : (piece : Piece) → length (piece_text half number mark rec piece) ≡ piece_length (name_lengths rec.header) rec.body piece
    piece_counted (Plain text) = refl
    piece_counted (Field token) = token_counted half number mark rec low timed codes_are token.width token.part

codes-of : (rec : LogRecord) → can_print rec ≡ true → has_codes rec.header ≡ true
codes-of rec can = (and_parts (not (is_negative rec.time)) (has_codes rec.header) can).1

-- with size 0 a printed record has the bytes that were counted
pub needed_freely : (pieces : List Piece) (number : ℕ) (rec : LogRecord) → number < 2 ^ 32 → IsTimed rec → can_print rec ≡ true
    → printed_record pieces number rec 0 ≡ printed_record pieces number rec (min (pieces_length (name_lengths rec.header) rec.body pieces) 16383 + 1)
needed_freely pieces number rec low timed can =
    printed_freely pieces number rec (min (pieces_length (name_lengths rec.header) rec.body pieces) 16383 + 1)
    (ap (λ long. min long 16383 + 1) (sym (pieces_counted (has_half pieces) number 67 rec low timed (codes-of rec can) pieces)))

pub length-freely : (pieces : List Piece) (number : ℕ) (rec : LogRecord) → number < 2 ^ 32 → IsTimed rec → can_print rec ≡ true
    → length (printed_record pieces number rec 0) ≡ min (pieces_length (name_lengths rec.header) rec.body pieces) 16383 + 1
length-freely pieces number rec low timed can =
    ap length (needed_freely pieces number rec low timed can) ∙ length-printed_record pieces number rec (min (pieces_length (name_lengths rec.header) rec.body pieces) 16383 + 1) (omega arith)

-- of a record whose names have these lengths, and a body
length-named : (pieces : List Piece) (number : ℕ) (names : NameLengths) (body : List ℕ) (rec : LogRecord) → number < 2 ^ 32 → IsTimed rec → can_print rec ≡ true
    → name_lengths rec.header ≡ names → rec.body ≡ body → length (printed_record pieces number rec 0) ≡ min (pieces_length names body pieces) 16383 + 1
length-named pieces number names body rec low timed can names_are body_is =
    length-freely pieces number rec low timed can
    ∙ ap (λ n. min (pieces_length n rec.body pieces) 16383 + 1) names_are
    ∙ ap (λ b. min (pieces_length names b pieces) 16383 + 1) body_is

-- the time of an event does not count
names-timed : (event : ℤ) (header : Header) → name_lengths (with_event_time event header) ≡ name_lengths header
names-timed event (Ntf id event_type object notifier class time) = refl
names-timed event (Generic class user severity) = refl

pub length-parts : (pieces : List Piece) (number : ℕ) (header : Header) (body : List ℕ) (rec : LogRecord) → number < 2 ^ 32 → HasParts header body rec
    → length (printed_record pieces number rec 0) ≡ min (pieces_length (name_lengths header) body pieces) 16383 + 1
length-parts pieces number header body rec low has =
    length-named pieces number (name_lengths header) body rec low has.timed has.printable (ap name_lengths has.header_is ∙ names-timed has.event header) has.body_is

-- nor does anything but its names of a notification's header
names-notified : (object notifier : List ℕ) (header : Header) → HasNames object notifier header → name_lengths header ≡ Notified (length object) (length notifier)
names-notified object notifier (Ntf id event_type one other class time) has = ap (λ n. Notified (length n) (length other)) has.0 ∙ ap (λ n. Notified (length object) (length n)) has.1
names-notified object notifier (Generic class user severity) has = absurd has

pub length-notified : (pieces : List Piece) (number : ℕ) (object notifier body : List ℕ) (rec : LogRecord) → number < 2 ^ 32 → HasNotifiedParts object notifier body rec
    → length (printed_record pieces number rec 0) ≡ min (pieces_length (Notified (length object) (length notifier)) body pieces) 16383 + 1
length-notified pieces number object notifier body rec low has =
    length-named pieces number (Notified (length object) (length notifier)) body rec low has.timed has.printable (names-notified object notifier rec.header has.names) has.body_is

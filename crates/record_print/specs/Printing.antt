-- Words of public clauses: the printed record.
use Rattle.std.specs.Prelude.{◌≡◌, ◌<◌, ◌≤◌, ℕ, zero, suc, ◌-◌, ◌*◌, ◌/◌, ◌%◌, ◌^◌, ◌∷◌, [], ◌++◌, List, length, take, map, replicate}
use Rattle.std.specs.Prelude.{slice_index_or, Bool, true, false, not}
use Rattle.std.specs.Prelude.{◌&&◌, ◌||◌, ◌==◌, nat_lt, nat_le, if◌then◌else◌, codes, Option, Some, None, unsigned_abs}
use Rattle.std.specs.Option.{option_map_or}
use Rattle.std.specs.List.{list_any, flat_map}
use Rattle.std.specs.Fmt.{decimal}
use Rattle.std.specs.Int.{is_negative}
use Rattle.ais_values.specs.Tables.{log_severity_rows, month_rows}
use Rattle.ais_values.specs.Texts.{hex_digit}
use Rattle.ais_values.specs.declared.kind.ClassId.{ClassId}
use Rattle.civil_time.specs.declared.civil.Civil.{Civil}
use Rattle.civil_time.specs.Fields.{civil_of}
use Rattle.civil_time.specs.Digits.{two_digits, four_digits}
use Rattle.format_expr.specs.declared.token.Moment.{Moment}
use Rattle.format_expr.specs.declared.token.Moment.TheVariants.{Record, Event}
use Rattle.format_expr.specs.declared.token.TimePart.{TimePart}
use Rattle.format_expr.specs.declared.token.TimePart.TheVariants.{Nanoseconds, Hour, Minute, Second, HalfDay, Month, MonthName, Day, DayName, ShortYear, Year}
use Rattle.format_expr.specs.declared.token.Part.{Part}
use Rattle.format_expr.specs.declared.token.Part.TheVariants.{Number, Time, ClassId as Class, Cut, Body, BodyBytes, NotificationId, EventType, Object, Notifier}
use Rattle.format_expr.specs.declared.token.Part.TheVariants.{User, Severity}
use Rattle.format_expr.specs.declared.piece.Piece.{Piece}
use Rattle.format_expr.specs.declared.piece.Piece.TheVariants.{Plain, Field}
use Rattle.record_print.specs.declared.record.Header.{Header}
use Rattle.record_print.specs.declared.record.Header.TheVariants.{Ntf, Generic}
use Rattle.record_print.specs.declared.record.LogRecord.{LogRecord}

-- so many spaces
abbrev pub spaces : ℕ → List ℕ
spaces count = replicate count 32

-- a text cut at the right, or padded there with spaces, to a width
abbrev pub fitted : ℕ → List ℕ → List ℕ
fitted width text = take width text ++ spaces (width - length text)

-- bytes 0 to 31 and 127 appear as `.`, the others as they are
abbrev pub shown_byte : ℕ → ℕ
shown_byte byte = if nat_lt byte 32 || byte == 127 then 46 else byte

abbrev pub shown : List ℕ → List ℕ
shown text = map shown_byte text

-- a number's last so many hexadecimal digits
unfoldable pub hex_digits : ℕ → ℕ → List ℕ
hex_digits zero number = []
hex_digits (suc places) number = hex_digit (number / 2 ^ (4 * places) % 16) ∷ hex_digits places number

-- the same behind some text
abbrev pub led_digits : List ℕ → ℕ → ℕ → List ℕ
led_digits lead places number = lead ++ hex_digits places number

-- each byte in two digits
abbrev pub hex_bytes : List ℕ → List ℕ
hex_bytes [] = []
hex_bytes (byte ∷ bytes) = hex_digit (byte / 16) ∷ hex_digit (byte % 16) ∷ hex_bytes bytes

-- the names of a table, in order
abbrev pub names_of : List (ℕ × List ℕ) → List (List ℕ)
names_of rows = map (λ (row : ℕ × List ℕ). row.1) rows

-- the names of the months, of the days from Monday on, and of the severities from 0 on
abbrev pub month_names : List (List ℕ)
month_names = names_of month_rows

abbrev pub day_names : List (List ℕ)
day_names = codes "Mon" ∷ codes "Tue" ∷ codes "Wed" ∷ codes "Thu" ∷ codes "Fri" ∷ codes "Sat" ∷ codes "Sun" ∷ []

abbrev pub severity_names : List (List ℕ)
severity_names = names_of log_severity_rows

-- 12 hours run 12, 1 to 11
abbrev pub clock_hour : Bool → ℕ → ℕ
clock_hour half hour = if half then (if hour % 12 == 0 then 12 else hour % 12) else hour

abbrev pub nanoseconds_text : ℕ → List ℕ
nanoseconds_text nanoseconds = led_digits (codes "0x") 16 nanoseconds

-- what a clock in UTC shows, of 12 hours or of 24
abbrev pub civil_text : Bool → ℕ → Civil → TimePart → List ℕ
civil_text half nanoseconds civil Nanoseconds = nanoseconds_text nanoseconds
civil_text half nanoseconds civil Hour = two_digits (clock_hour half civil.hour)
civil_text half nanoseconds civil Minute = two_digits civil.minute
civil_text half nanoseconds civil Second = two_digits civil.second
civil_text half nanoseconds civil HalfDay = if nat_lt civil.hour 12 then codes "am" else codes "pm"
civil_text half nanoseconds civil Month = two_digits civil.month
civil_text half nanoseconds civil MonthName = slice_index_or month_names (civil.month - 1) []
civil_text half nanoseconds civil Day = two_digits civil.day
civil_text half nanoseconds civil DayName = slice_index_or day_names civil.weekday []
civil_text half nanoseconds civil ShortYear = two_digits (civil.year % 100)
civil_text half nanoseconds civil Year = four_digits civil.year

abbrev pub time_text : Bool → ℕ → TimePart → List ℕ
time_text half nanoseconds part = civil_text half nanoseconds (civil_of (nanoseconds / 1_000_000_000)) part

abbrev pub class_text : ClassId → List ℕ
class_text class =
    led_digits (codes "NCI[0x") 8 class.vendor ++ led_digits (codes ",0x") 4 class.major
    ++ led_digits (codes ",0x") 4 class.minor ++ codes "]"

-- the times of a record, not negative; a generic header has no event time
abbrev pub event_time : Header → Option ℕ
event_time (Ntf id event_type object notifier class time) = Some (unsigned_abs time)
event_time (Generic class user severity) = None

abbrev pub time_of : Moment → LogRecord → Option ℕ
time_of Record rec = Some (unsigned_abs rec.time)
time_of Event rec = event_time rec.header

-- what the tokens of a header show; a header of the other kind has nothing of it
abbrev pub class_of : Header → ClassId
class_of (Ntf id event_type object notifier class time) = class
class_of (Generic class user severity) = class

abbrev pub id_text : Header → List ℕ
id_text (Ntf id event_type object notifier class time) = led_digits (codes "0x") 16 id
id_text (Generic class user severity) = []

abbrev pub event_type_text : Header → List ℕ
event_type_text (Ntf id event_type object notifier class time) = led_digits (codes "0x") 4 event_type
event_type_text (Generic class user severity) = []

abbrev pub object_text : Header → List ℕ
object_text (Ntf id event_type object notifier class time) = shown object
object_text (Generic class user severity) = []

abbrev pub notifier_text : Header → List ℕ
notifier_text (Ntf id event_type object notifier class time) = shown notifier
notifier_text (Generic class user severity) = []

abbrev pub user_text : Header → List ℕ
user_text (Ntf id event_type object notifier class time) = []
user_text (Generic class user severity) = shown user

abbrev pub severity_text : Header → List ℕ
severity_text (Ntf id event_type object notifier class time) = []
severity_text (Generic class user severity) = slice_index_or severity_names severity []

-- the text of a token without its width: half says of which times 12 hours are counted, and mark stands for whether the record is cut
abbrev pub part_text : (half : Moment → Bool) (number mark : ℕ) → LogRecord → Part → List ℕ
part_text half number mark rec Number = decimal number
part_text half number mark rec (Time moment part) = option_map_or (λ time. time_text (half moment) time part) (time_of moment rec) []
part_text half number mark rec Class = class_text (class_of rec.header)
part_text half number mark rec Cut = mark ∷ []
part_text half number mark rec Body = shown rec.body
part_text half number mark rec BodyBytes = hex_bytes rec.body
part_text half number mark rec NotificationId = id_text rec.header
part_text half number mark rec EventType = event_type_text rec.header
part_text half number mark rec Object = object_text rec.header
part_text half number mark rec Notifier = notifier_text rec.header
part_text half number mark rec User = user_text rec.header
part_text half number mark rec Severity = severity_text rec.header

abbrev pub is_number : Part → Bool
is_number Number = true
is_number _ = false

-- with a width, cut or padded at the right; without one, a record's number at the right of ten places, and all else as it is
abbrev pub in_places : Bool → Option ℕ → List ℕ → List ℕ
in_places aligned None text = if aligned then spaces (10 - length text) ++ text else text
in_places aligned (Some width) text = fitted width text

abbrev pub piece_text : (half : Moment → Bool) (number mark : ℕ) → LogRecord → Piece → List ℕ
piece_text half number mark rec (Plain text) = text
piece_text half number mark rec (Field token) =
    in_places (is_number token.part) token.width (part_text half number mark rec token.part)

abbrev pub same_moment : Moment → Moment → Bool
same_moment Record Record = true
same_moment Record Event = false
same_moment Event Record = false
same_moment Event Event = true

abbrev pub is_half : TimePart → Bool
is_half HalfDay = true
is_half _ = false

-- the token of a time's half of the day
abbrev pub shows_half : Moment → Part → Bool
shows_half moment (Time found part) = same_moment moment found && is_half part
shows_half moment _ = false

abbrev pub is_mark : Part → Bool
is_mark Cut = true
is_mark _ = false

abbrev pub has_part : (Part → Bool) → Piece → Bool
has_part test (Plain text) = false
has_part test (Field token) = test token.part

-- such a token anywhere turns the hours of its time to 12
abbrev pub has_half : List Piece → Moment → Bool
has_half pieces moment = list_any (has_part (shows_half moment)) pieces

-- a record's text: those of the pieces, one after another
abbrev pub pieces_text : (half : Moment → Bool) (number mark : ℕ) → LogRecord → List Piece → List ℕ
pieces_text half number mark rec pieces = flat_map (piece_text half number mark rec) pieces

-- how many bytes of a text there are before the line feed at most; records of size 0 have the sizes of their texts
abbrev pub places_of : (size : ℕ) → ℕ
places_of size = if size == 0 then 16383 else size - 1

-- `T` stands for a text that is cut, `C` for a whole one; a text is as long with the one as with the other
abbrev pub cut_mark : (mark_text : ℕ → List ℕ) (size : ℕ) → ℕ
cut_mark mark_text size = if nat_lt (places_of size) (length (mark_text 67)) then 84 else 67

-- a text, cut to its places, and a line feed; in records of one size spaces stand between them, up to it, and with size 0 none
abbrev pub line_of : (size : ℕ) → List ℕ → List ℕ
line_of size text = take (places_of size) text ++ spaces (size - 1 - length text) ++ 10 ∷ []

abbrev pub marked_line : (mark_text : ℕ → List ℕ) (size : ℕ) → List ℕ
marked_line mark_text size = line_of size (mark_text (cut_mark mark_text size))

-- the printed record
unfoldable pub printed_record : List Piece → (number : ℕ) → LogRecord → (size : ℕ) → List ℕ
printed_record pieces number rec size = marked_line (λ mark. pieces_text (has_half pieces) number mark rec pieces) size

-- what can be printed: times that are not negative, and a severity that there is
abbrev pub has_codes : Header → Bool
has_codes (Ntf id event_type object notifier class time) = not (is_negative time)
has_codes (Generic class user severity) = nat_le severity 6

abbrev pub can_print : LogRecord → Bool
can_print rec = not (is_negative rec.time) && has_codes rec.header

-- how many bytes a printed record has: its size, or with size 0 what its text needs
pub record HasSize (size long : ℕ) : Type 0 where
  pub some : 1 ≤ long
  pub most : long ≤ 16384
  pub own : 0 < size → long ≡ size

-- Words of public clauses: the parts of a record by which its length is known, and the lengths of times. The others are words of
-- bodies alone: how many bytes a text has, counted before it is printed.
use Rattle.std.specs.Prelude.{ℤ, IsTrue, ◌≡◌, ℕ, ◌*◌, ◌^◌, ◌<◌, ◌≤◌, List, length, Option, Some, None}
use Rattle.std.specs.List.{sum_by}
use Rattle.format_expr.specs.declared.token.Moment.{Moment}
use Rattle.format_expr.specs.declared.token.Moment.TheVariants.{Record, Event}
use Rattle.format_expr.specs.declared.token.TimePart.{TimePart}
use Rattle.format_expr.specs.declared.token.TimePart.TheVariants.{Nanoseconds, Hour, Minute, Second, HalfDay, Month, MonthName, Day, DayName, ShortYear, Year}
use Rattle.format_expr.specs.declared.token.Part.{Part}
use Rattle.format_expr.specs.declared.token.Part.TheVariants.{Number, Time, ClassId, Cut, Body, BodyBytes, NotificationId, EventType, Object, Notifier}
use Rattle.format_expr.specs.declared.token.Part.TheVariants.{User, Severity}
use Rattle.format_expr.specs.declared.piece.Piece.{Piece}
use Rattle.format_expr.specs.declared.piece.Piece.TheVariants.{Plain, Field}
use Rattle.record_print.specs.declared.record.Header.{Header}
use Rattle.record_print.specs.declared.record.Header.TheVariants.{Ntf, Generic}
use Rattle.record_print.specs.declared.record.LogRecord.{LogRecord}
use Rattle.record_print.specs.declared.length.NameLengths.{NameLengths}
use Rattle.record_print.specs.declared.length.NameLengths.TheVariants.{Notified, Written}
use Rattle.record_print.specs.Printing.{time_of, can_print, printed_record}

-- how many bytes the names of a header have
abbrev pub name_lengths : Header → NameLengths
name_lengths (Ntf id event_type object notifier class time) = Notified (length object) (length notifier)
name_lengths (Generic class user severity) = Written (length user)

-- how many bytes are shown of a time
abbrev pub time_length : TimePart → ℕ
time_length Nanoseconds = 18
time_length Hour = 2
time_length Minute = 2
time_length Second = 2
time_length HalfDay = 2
time_length Month = 2
time_length MonthName = 3
time_length Day = 2
time_length DayName = 3
time_length ShortYear = 2
time_length Year = 4

-- of what a token shows of a notification's header, and of a generic one; a token of the other kind shows nothing
abbrev pub ntf_length : (object notifier : ℕ) → Part → ℕ
ntf_length object notifier (Time moment part) = time_length part
ntf_length object notifier NotificationId = 18
ntf_length object notifier EventType = 6
ntf_length object notifier Object = object
ntf_length object notifier Notifier = notifier
ntf_length object notifier _ = 0

abbrev pub generic_length : (user : ℕ) → Part → ℕ
generic_length user User = user
generic_length user Severity = 2
generic_length user _ = 0

abbrev pub header_length : NameLengths → Part → ℕ
header_length (Notified object notifier) part = ntf_length object notifier part
header_length (Written user) part = generic_length user part

-- of a token without its width; a number has ten places
abbrev pub part_length : NameLengths → (body : List ℕ) → Part → ℕ
part_length names body Number = 10
part_length names body (Time Record part) = time_length part
part_length names body (Time Event part) = header_length names (Time Event part)
part_length names body ClassId = 29
part_length names body Cut = 1
part_length names body Body = length body
part_length names body BodyBytes = 2 * length body
part_length names body NotificationId = header_length names NotificationId
part_length names body EventType = header_length names EventType
part_length names body Object = header_length names Object
part_length names body Notifier = header_length names Notifier
part_length names body User = header_length names User
part_length names body Severity = header_length names Severity

abbrev pub width_length : Option ℕ → ℕ → ℕ
width_length None long = long
width_length (Some width) long = width

abbrev pub piece_length : NameLengths → (body : List ℕ) → Piece → ℕ
piece_length names body (Plain text) = length text
piece_length names body (Field token) = width_length token.width (part_length names body token.part)

abbrev pub pieces_length : NameLengths → (body : List ℕ) → List Piece → ℕ
pieces_length names body pieces = sum_by (piece_length names body) pieces

-- each time of the record is one that there is
abbrev pub IsTimed : LogRecord → Type 0
IsTimed rec = (moment : Moment) (time : ℕ) → time_of moment rec ≡ Some time → time ≤ 2 ^ 63

-- printed with this size a record is what it is with the other, whichever its number is
abbrev pub PrintsAs : (size other : ℕ) → List Piece → LogRecord → Type 0
PrintsAs size other pieces rec =
    (number : ℕ) → number < 2 ^ 32 → printed_record pieces number rec size ≡ printed_record pieces number rec other

-- the header with another time of its event
abbrev pub with_event_time : ℤ → Header → Header
with_event_time other (Ntf id event_type object notifier class time) = Ntf id event_type object notifier class other
with_event_time other (Generic class user severity) = Generic class user severity

-- a record with this header, but for the time of its event, and this body, that can be printed
pub record HasParts (header : Header) (body : List ℕ) (rec : LogRecord) : Type 0 where
  pub event : ℤ
  pub header_is : rec.header ≡ with_event_time event header
  pub body_is : rec.body ≡ body
  pub printable : IsTrue (can_print rec)
  pub timed : IsTimed rec

-- the header of a notification with these names
abbrev pub HasNames : (object notifier : List ℕ) → Header → Type 0
HasNames object notifier (Ntf id event_type one other class time) = (one ≡ object) × (other ≡ notifier)
HasNames object notifier (Generic class user severity) = ⊥

-- the record of a notification with these names and this body, that can be printed
pub record HasNotifiedParts (object notifier body : List ℕ) (rec : LogRecord) : Type 0 where
  pub names : HasNames object notifier rec.header
  pub body_is : rec.body ≡ body
  pub printable : IsTrue (can_print rec)
  pub timed : IsTimed rec

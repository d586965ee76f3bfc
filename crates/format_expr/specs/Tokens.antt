-- Words of public clauses: the table of tokens. Class C is for every stream, N for alarms and notifications, S for system and application streams.
use Rattle.std.specs.Prelude.{ℕ, ◌∷◌, [], ◌++◌, List, ◌&&◌, ◌==◌, if◌then◌else◌, codes, Option, Some, None, slice_index}
use Rattle.format_expr.specs.declared.token.Moment.{Moment}
use Rattle.format_expr.specs.declared.token.Moment.TheVariants.{Record, Event}
use Rattle.format_expr.specs.declared.token.TimePart.{TimePart}
use Rattle.format_expr.specs.declared.token.TimePart.TheVariants.{Nanoseconds, Hour, Minute, Second, HalfDay, Month, MonthName, Day, DayName, ShortYear, Year}
use Rattle.format_expr.specs.declared.token.Part.{Part}
use Rattle.format_expr.specs.declared.token.Part.TheVariants.{Number, Time, ClassId, Cut, Body, BodyBytes, NotificationId, EventType, Object, Notifier, User}
use Rattle.format_expr.specs.declared.token.Part.TheVariants.{Severity}

-- the class letter of a time
abbrev pub moment_letter : Moment → List ℕ
moment_letter Record = codes "C"
moment_letter Event = codes "N"

-- the field letter of what is shown of a time
abbrev pub time_letter : TimePart → List ℕ
time_letter Nanoseconds = codes "t"
time_letter Hour = codes "h"
time_letter Minute = codes "n"
time_letter Second = codes "s"
time_letter HalfDay = codes "a"
time_letter Month = codes "m"
time_letter MonthName = codes "M"
time_letter Day = codes "d"
time_letter DayName = codes "D"
time_letter ShortYear = codes "y"
time_letter Year = codes "Y"

-- the class letter and the field letter of what a token shows
abbrev pub letters : Part → List ℕ
letters Number = codes "Cr"
letters (Time moment part) = moment_letter moment ++ time_letter part
letters ClassId = codes "Cc"
letters Cut = codes "Cx"
letters Body = codes "Cb"
letters BodyBytes = codes "Ci"
letters NotificationId = codes "Ni"
letters EventType = codes "Ne"
letters Object = codes "No"
letters Notifier = codes "Ng"
letters User = codes "Sl"
letters Severity = codes "Sv"

-- all that tokens show: first those of class C, then those of N and of S
unfoldable pub shown_parts : List Part
shown_parts =
    Number ∷ Time Record Nanoseconds ∷ Time Record Hour ∷ Time Record Minute ∷ Time Record Second ∷ Time Record HalfDay
    ∷ Time Record Month ∷ Time Record MonthName ∷ Time Record Day ∷ Time Record DayName ∷ Time Record ShortYear ∷ Time Record Year
    ∷ ClassId ∷ Cut ∷ Body ∷ BodyBytes
    ∷ Time Event Nanoseconds ∷ Time Event Hour ∷ Time Event Minute ∷ Time Event Second ∷ Time Event HalfDay
    ∷ Time Event Month ∷ Time Event MonthName ∷ Time Event Day ∷ Time Event DayName ∷ Time Event ShortYear ∷ Time Event Year
    ∷ NotificationId ∷ EventType ∷ Object ∷ Notifier ∷ User ∷ Severity ∷ []

-- the first of some parts that has these letters
abbrev pub first_with : List Part → ℕ → ℕ → Option Part
first_with [] class field = None
first_with (part ∷ parts) class field =
    if slice_index (letters part) 0 == class && slice_index (letters part) 1 == field then Some part else first_with parts class field

-- what the token with these letters shows
unfoldable pub part_with : ℕ → ℕ → Option Part
part_with class field = first_with shown_parts class field

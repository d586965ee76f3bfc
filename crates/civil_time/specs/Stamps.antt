-- Words of public clauses: the text of a second in the names of files.
use Rattle.std.specs.Prelude.{ℕ, ◌++◌, List, codes}
use Rattle.civil_time.specs.declared.civil.Civil.{Civil}
use Rattle.civil_time.specs.Digits.{two_digits, four_digits}
use Rattle.civil_time.specs.Fields.{civil_of}

-- year, month and day, `_`, and hour, minute and second
abbrev pub stamp_text : Civil → List ℕ
stamp_text c =
    four_digits c.year ++ two_digits c.month ++ two_digits c.day ++ codes "_"
    ++ two_digits c.hour ++ two_digits c.minute ++ two_digits c.second

-- `YYYYMMDD_HHMMSS` of a second counted from 1970-01-01T00:00:00, in UTC
unfoldable pub stamp_of : ℕ → List ℕ
stamp_of second = stamp_text (civil_of second)

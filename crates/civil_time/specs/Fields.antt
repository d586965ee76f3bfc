-- Words of public clauses: the civil date and time of day of a second; whole years and then whole months are counted off from 1970.
use Rattle.std.specs.Prelude.{ℕ, zero, suc, ◌+◌, ◌-◌, ◌/◌, ◌%◌, ◌≤◌, pos, nat_lt, if◌then◌else◌}
use Rattle.jiff_core.specs.Calendar.{days_in_year, days_in_month}
use Rattle.civil_time.specs.declared.civil.Civil.{Civil}

-- the year of a day counted from 1 January of an earlier year, and its place in that year, from 0: at most so many years are counted off
unfoldable pub year_from : (most year days : ℕ) → ℕ × ℕ
year_from zero year days = (year, days)
year_from (suc most) year days =
    if nat_lt days (days_in_year (pos year)) then (year, days)
    else year_from most (year + 1) (days - days_in_year (pos year))

-- the month of a day counted from the first of an earlier month of the year, and its place in that month, from 0
unfoldable pub month_from : (most year month days : ℕ) → ℕ × ℕ
month_from zero year month days = (month, days)
month_from (suc most) year month days =
    if nat_lt days (days_in_month (pos year) month) then (month, days)
    else month_from most year (month + 1) (days - days_in_month (pos year) month)

-- the year of a day counted from 1970-01-01, and the day's place in it; each year has 365 days and more
unfoldable pub year_of : ℕ → ℕ × ℕ
year_of days = year_from (days / 365) 1970 days

-- the month of a day of the year, and the day's place in it
unfoldable pub month_of : ℕ × ℕ → ℕ × ℕ
month_of in_year = month_from 11 in_year.0 1 in_year.1

-- what a clock in UTC shows at a second counted from 1970-01-01T00:00:00, a Thursday
unfoldable pub civil_of : ℕ → Civil
civil_of second =
    let days = second / 86400 in
    let in_year = year_of days in
    let in_month = month_of in_year in
    record {
      year = in_year.0;
      month = in_month.0;
      day = in_month.1 + 1;
      weekday = (days + 3) % 7;
      hour = second % 86400 / 3600;
      minute = second % 3600 / 60;
      second = second % 60;
    }

-- the last second that is taken, in the year 2603
abbrev pub last_second : ℕ
last_second = 20_000_000_100

-- the fields lie where a calendar and a clock have them
pub record IsInRange (c : Civil) : Type 0 where
  pub year : c.year ≤ 9999
  pub month : (1 ≤ c.month) × (c.month ≤ 12)
  pub day : (1 ≤ c.day) × (c.day ≤ 31)
  pub weekday : c.weekday ≤ 6
  pub hour : c.hour ≤ 23
  pub minute : c.minute ≤ 59
  pub second : c.second ≤ 59

-- Counting off whole years and months keeps the day, and so finds the one date that the calendar has for it.
use Rattle.std.proofs.Common.{◌≡◌, ℕ, zero, suc, ◌+◌, ◌-◌, ◌*◌, ◌/◌, ◌%◌, ◌<◌, ◌≤◌, nat_lt, refl, sym, ap, ◌∙◌, arith, ◌^◌, ℤ, pos, unsigned_abs, to_z, of_z}
use Rattle.std.specs.Int.{Width}
use mir.Val.{hbits}
use Rattle.std.proofs.lemmas.Bool.{cond_both, ltb-true, ltb-false}
use Rattle.jiff_core.specs.Calendar.{days_in_year, days_in_month, day_count, days_from_civil}
use Rattle.jiff_core.specs.declared.civil.date.Date.{Date}
use Rattle.jiff_core.specs.declared.civil.datetime.DateTime.{DateTime}
use Rattle.jiff_core.specs.Date.{epoch_day, weekday_of}
use Rattle.jiff_core.specs.DateTime.{civil_nanos}
use Rattle.jiff_core.proofs.SignedLemmas.{signed_arith, back_small}
use Rattle.jiff_core.proofs.CalendarLemmas.{day_count-next_year, day_count-next_month, day_count-day, day_count-last_of_year, day_count-epoch, days_in_year_bounds, days_in_month_bounds, days_from_civil-day_count, weekday_number-parts}
use Rattle.jiff_core.proofs.DateLemmas.{epoch_day_injective}
use Rattle.jiff_core.proofs.DateTimeLemmas.{civil_nanos-parts, time_nanos_bound}
use Rattle.civil_time.specs.Fields.{year_from, month_from, year_of, month_of, civil_of, IsInRange}
use Rattle.civil_time.specs.declared.civil.Civil.{Civil}

-- a year and a place in it that are as many days on as another year's first day and so many more
pub record IsYearFrom (most year days : ℕ) (found : ℕ × ℕ) : Type 0 where
  pub within : found.1 < days_in_year (pos found.0)
  pub counted : day_count (pos found.0) 1 1 + found.1 ≡ day_count (pos year) 1 1 + days
  pub low : year ≤ found.0
  pub high : found.0 ≤ year + most

next_year : (y : ℕ) → day_count (pos (y + 1)) 1 1 ≡ day_count (pos y) 1 1 + days_in_year (pos y)
next_year y = day_count-next_year (pos y) (pos (y + 1)) (omega (arith, signed_arith)) (omega (arith, signed_arith))

pub year_from_is : (most year days : ℕ) → days < 365 * most + 365 → IsYearFrom most year days (year_from most year days)
unfolding year_from
year_from_is zero year days h =
    let long = days_in_year_bounds (pos year) in
    record { within = omega arith; counted = refl; low = omega arith; high = omega arith }
year_from_is (suc most) year days h =
    cond_both (nat_lt days (days_in_year (pos year))) (year, days) (year_from most (year + 1) (days - days_in_year (pos year)))
    (λ found. IsYearFrom (suc most) year days found)
    (λ e. record { within = ltb-true _ _ e; counted = refl; low = omega arith; high = omega arith })
    (λ e. let long = days_in_year_bounds (pos year) in
    let more : days_in_year (pos year) ≤ days = ltb-false _ _ e in
    let rest = year_from_is most (year + 1) (days - days_in_year (pos year)) (omega arith) in
    record {
      within = rest.within;
      counted = omega (arith, rest.counted, next_year year);
      low = omega (arith, rest.low);
      high = omega (arith, rest.high);
    })

-- a month and a place in it that are as many days on as another month's first day and so many more
pub record IsMonthFrom (most year month days : ℕ) (found : ℕ × ℕ) : Type 0 where
  pub within : found.1 < days_in_month (pos year) found.0
  pub counted : day_count (pos year) found.0 1 + found.1 ≡ day_count (pos year) month 1 + days
  pub low : month ≤ found.0
  pub high : found.0 ≤ month + most

-- the first day of each year, with so many days of it, lies before the next year's
pub month_from_is : (most year month days : ℕ) → 1 ≤ month → month + most ≡ 12 → day_count (pos year) month 1 + days < day_count (pos year) 1 1 + days_in_year (pos year) → IsMonthFrom most year month days (month_from most year month days)
unfolding month_from
month_from_is zero year month days low e h =
    let last : month ≡ 12 = omega arith in
    let first : day_count (pos year) month 1 ≡ day_count (pos year) 12 1 = ap (λ m. day_count (pos year) m 1) last in
    let long : days_in_month (pos year) month ≡ 31 = ap (days_in_month (pos year)) last in
    record {
      within = omega (arith, first, long, day_count-last_of_year (pos year), day_count-day (pos year) 12 31 1 (omega arith) (omega arith));
      counted = refl;
      low = omega arith;
      high = omega arith;
    }
month_from_is (suc most) year month days low e h =
    cond_both (nat_lt days (days_in_month (pos year) month)) (month, days) (month_from most year (month + 1) (days - days_in_month (pos year) month))
    (λ found. IsMonthFrom (suc most) year month days found)
    (λ lt. record { within = ltb-true _ _ lt; counted = refl; low = omega arith; high = omega arith })
    (λ ge. let more : days_in_month (pos year) month ≤ days = ltb-false _ _ ge in
    let next = day_count-next_month (pos year) month low in
    let rest = month_from_is most year (month + 1) (days - days_in_month (pos year) month) (omega arith) (omega arith) (omega arith) in
    record {
      within = rest.within;
      counted = omega (arith, rest.counted);
      low = omega (arith, rest.low);
      high = omega (arith, rest.high);
    })

-- the date that is found for a day is one of the calendar, and has the day's number
pub record IsDateOf (days year month day : ℕ) : Type 0 where
  pub year_high : year ≤ 2604
  pub month_low : 1 ≤ month
  pub month_high : month ≤ 12
  pub day_low : 1 ≤ day
  pub day_high : day ≤ days_in_month (pos year) month
  pub number : days_from_civil (pos year) month day ≡ pos days

year_of_is : (days : ℕ) → IsYearFrom (days / 365) 1970 days (year_of days)
unfolding year_of
year_of_is days = year_from_is (days / 365) 1970 days (omega arith)

month_of_is : (in_year : ℕ × ℕ) → in_year.1 < days_in_year (pos in_year.0) → IsMonthFrom 11 in_year.0 1 in_year.1 (month_of in_year)
unfolding month_of
month_of_is in_year h = month_from_is 11 in_year.0 1 in_year.1 (omega arith) (omega arith) (omega arith)

pub date_of_is : (days : ℕ) → days ≤ 231482 → IsDateOf days (year_of days).0 (month_of (year_of days)).0 ((month_of (year_of days)).1 + 1)
date_of_is days h =
    let year = year_of_is days in
    let month = month_of_is (year_of days) year.within in
    let first = day_count-day (pos (year_of days).0) (month_of (year_of days)).0 ((month_of (year_of days)).1 + 1) 1 (omega arith) (omega arith) in
    let total : day_count (pos (year_of days).0) (month_of (year_of days)).0 ((month_of (year_of days)).1 + 1) ≡ 4_371_953 + days =
    omega (arith, year.counted, month.counted, first, day_count-epoch) in
    record {
      year_high = omega (arith, year.high);
      month_low = month.low;
      month_high = omega (arith, month.high);
      day_low = omega arith;
      day_high = omega (arith, month.within);
      number = omega (arith, signed_arith, total, days_from_civil-day_count (pos (year_of days).0) (month_of (year_of days)).0 ((month_of (year_of days)).1 + 1));
    }

-- a date with the number of that day has those parts
pub date_is : (d : Date) (days : ℕ) → days ≤ 231482 → epoch_day d ≡ pos days → (d.year ≡ pos (year_of days).0) × (d.month ≡ (month_of (year_of days)).0) × (d.day ≡ (month_of (year_of days)).1 + 1)
date_is d days h e =
    let is = date_of_is days h in
    let found : Date = record {
      year = pos (year_of days).0;
      month = (month_of (year_of days)).0;
      day = (month_of (year_of days)).1 + 1;
      year_in = (omega (arith, signed_arith, is.year_high), omega (arith, signed_arith, is.year_high));
      month_in = (is.month_low, is.month_high);
      day_in = (is.day_low, is.day_high);
    } in
    epoch_day_injective d found (e ∙ sym is.number)

-- what a datetime shows at a second
pub record Shows (dt : DateTime) (c : Civil) : Type 0 where
  pub year : dt.date.year ≡ pos c.year
  pub month : dt.date.month ≡ c.month
  pub day : dt.date.day ≡ c.day
  pub weekday : weekday_of dt.date ≡ c.weekday
  pub hour : dt.time.hour ≡ c.hour
  pub minute : dt.time.minute ≡ c.minute
  pub second : dt.time.second ≡ c.second

pub shows_civil : (dt : DateTime) (s : ℕ) → s ≤ 20_000_000_100 → civil_nanos dt ≡ pos (s * 1_000_000_000) → Shows dt (civil_of s)
unfolding civil_of
shows_civil dt s h e =
    let parts = civil_nanos-parts dt in
    let bound = time_nanos_bound dt.time in
    let day : epoch_day dt.date ≡ pos (s / 86400) = omega (arith, signed_arith) in
    let rest : (dt.time.hour * 3600 + dt.time.minute * 60 + dt.time.second) * 1_000_000_000 + dt.time.subsec_nanosecond ≡ (s % 86400) * 1_000_000_000 = omega (arith, signed_arith) in
    let clock : dt.time.hour * 3600 + dt.time.minute * 60 + dt.time.second ≡ s % 86400 = omega arith in
    let date = date_is dt.date (s / 86400) (omega arith) day in
    record {
      year = date.0;
      month = date.1;
      day = date.2;
      weekday = omega (arith, signed_arith, weekday_number-parts (epoch_day dt.date));
      hour = omega arith;
      minute = omega arith;
      second = omega arith;
    }

-- the fields tell the value
pub same_civil : (a b : Civil) → a.year ≡ b.year → a.month ≡ b.month → a.day ≡ b.day → a.weekday ≡ b.weekday → a.hour ≡ b.hour → a.minute ≡ b.minute → a.second ≡ b.second → a ≡ b
same_civil a b year month day weekday hour minute second = rw (year, month, day, weekday, hour, minute, second)

-- a small number that was shown as a signed one, and made unsigned again
pub unsigned_part : (w : Width) (z : ℤ) (n r : ℕ) → z ≡ pos n → n < 2 ^ hbits w → r ≡ unsigned_abs (to_z w (of_z w z)) → r ≡ n
unsigned_part w z n r e small is = is ∙ ap (λ x. unsigned_abs (to_z w (of_z w x))) e ∙ ap unsigned_abs (back_small w (pos n) small)

pub day_bound : (dt : DateTime) → dt.date.day < 2 ^ 7
day_bound dt = omega (arith, dt.date.day_in, days_in_month_bounds dt.date.year dt.date.month)

-- the fields of each second are in range
pub civil_in_range : (s : ℕ) → s ≤ 20_000_000_100 → IsInRange (civil_of s)
unfolding civil_of
civil_in_range s h =
    let is = date_of_is (s / 86400) (omega arith) in
    record {
      year = omega (arith, is.year_high);
      month = (is.month_low, is.month_high);
      day = (is.day_low, omega (arith, is.day_high, days_in_month_bounds (pos (year_of (s / 86400)).0) (month_of (year_of (s / 86400))).0));
      weekday = omega arith;
      hour = omega arith;
      minute = omega arith;
      second = omega arith;
    }

-- A stamp tells its second.
use Rattle.std.proofs.Common.{◌≡◌, ℕ, ◌+◌, ◌*◌, ◌/◌, ◌%◌, ◌≤◌, drop, arith, ap, sym, ◌∙◌, pos}
use Rattle.jiff_core.specs.Calendar.{days_from_civil}
use Rattle.civil_time.proofs.Counting.{date_of_is}
use Rattle.civil_time.specs.Fields.{civil_of}
use Rattle.civil_time.specs.Digits.{two_digits}
use Rattle.civil_time.specs.Stamps.{stamp_text, stamp_of}
use Rattle.civil_time.specs.declared.civil.Civil.{Civil}

-- the same fields, all but the day of the week
pub record IsSameTime (a b : Civil) : Type 0 where
  pub year : a.year ≡ b.year
  pub month : a.month ≡ b.month
  pub day : a.day ≡ b.day
  pub hour : a.hour ≡ b.hour
  pub minute : a.minute ≡ b.minute
  pub second : a.second ≡ b.second

-- the digits tell a number
digits_tell : (m n : ℕ) → 48 + m / 10 ≡ 48 + n / 10 → 48 + m % 10 ≡ 48 + n % 10 → m ≡ n
digits_tell m n e f = omega arith

text_tells : (a b : Civil) → stamp_text a ≡ stamp_text b → IsSameTime a b
text_tells a b e =
    let century = digits_tell (a.year / 100) (b.year / 100) (cc) (cc) in
    let year = digits_tell (a.year % 100) (b.year % 100) (cc) (cc) in
    let seconds : two_digits a.second ≡ two_digits b.second = ap (drop 13) e in
    record {
      year = omega arith;
      month = digits_tell a.month b.month (cc) (cc);
      day = digits_tell a.day b.day (cc) (cc);
      hour = digits_tell a.hour b.hour (cc) (cc);
      minute = digits_tell a.minute b.minute (cc) (cc);
      second = digits_tell a.second b.second (cc) (cc);
    }

-- the day number of the civil date
days_of_civil : (s : ℕ) → s ≤ 20_000_000_100 → days_from_civil (pos (civil_of s).year) (civil_of s).month (civil_of s).day ≡ pos (s / 86400)
unfolding civil_of
days_of_civil s h = (date_of_is (s / 86400) (omega arith)).number

-- the time of day in seconds
clock_of_civil : (s : ℕ) → (civil_of s).hour * 3600 + (civil_of s).minute * 60 + (civil_of s).second ≡ s % 86400
unfolding civil_of
clock_of_civil s = omega arith

-- two seconds with the same civil date and time of day are one
civil_tells : (s t : ℕ) → s ≤ 20_000_000_100 → t ≤ 20_000_000_100 → IsSameTime (civil_of s) (civil_of t) → s ≡ t
civil_tells s t h k same =
    let days : pos (s / 86400) ≡ pos (t / 86400) = sym (days_of_civil s h) ∙ rw (same.year, same.month, same.day) (days_of_civil t k) in
    let number : s / 86400 ≡ t / 86400 = cc in
    omega (arith, same.hour, same.minute, same.second, clock_of_civil s, clock_of_civil t)

-- no two seconds have one stamp
pub stamp_tells : (s t : ℕ) → s ≤ 20_000_000_100 → t ≤ 20_000_000_100 → stamp_of s ≡ stamp_of t → s ≡ t
unfolding stamp_of
stamp_tells s t h k e = civil_tells s t h k (text_tells (civil_of s) (civil_of t) e)

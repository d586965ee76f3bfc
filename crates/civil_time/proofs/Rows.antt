-- The definitions at dates that an almanac has.
use Rattle.std.proofs.Common.{◌≡◌, refl, codes}
use Rattle.civil_time.specs.Fields.{civil_of}
use Rattle.civil_time.specs.Stamps.{stamp_of}
use Rattle.civil_time.proofs.OnLiterals.{civil_on_literals}

-- the epoch
epoch : stamp_of 0 ≡ codes "19700101_000000"
unfolding civil_on_literals
epoch = refl

-- a leap day in a year that 400 divides
leap_day : stamp_of 951_782_400 ≡ codes "20000229_000000"
unfolding civil_on_literals
leap_day = refl

-- a Monday
new_year : civil_of 1_704_067_200 ≡ record { year = 2024; month = 1; day = 1; weekday = 0; hour = 0; minute = 0; second = 0 }
unfolding civil_on_literals
new_year = refl

-- the day after 28 February in a year that 100 divides, and 400 does not
no_leap_day : stamp_of 4_107_542_400 ≡ codes "21000301_000000"
unfolding civil_on_literals
no_leap_day = refl

-- the last second that is taken
last_second : stamp_of 20_000_000_100 ≡ codes "26031011_113500"
unfolding civil_on_literals
last_second = refl

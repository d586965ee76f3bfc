-- Words of public clauses: times, in nanoseconds since the first second of 1970, and the unknown one.
use Rattle.std.specs.Prelude.{◌≡◌, ◌⊎◌, ◌^◌, ℤ, pos, neg_ℤ, ◌≤ℤ◌}

-- the time that stands for an unknown one (`SA_TIME_UNKNOWN`): the least of its type
abbrev pub unknown_time : ℤ
unknown_time = neg_ℤ (pos (2 ^ 63))

-- a time is not negative, or it is the unknown one
abbrev pub IsTime : ℤ → Type 0
IsTime time = (pos 0 ≤ℤ time) ⊎ (time ≡ unknown_time)

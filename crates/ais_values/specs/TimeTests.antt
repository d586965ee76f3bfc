-- Words of definitions above alone: the same as a test that computes. No clause of this crate names it.
use Rattle.std.specs.Prelude.{Bool, not, ◌||◌, ℤ}
use Rattle.std.specs.Int.{is_negative}
use Rattle.std.specs.Ordering.{int_eq}
use Rattle.ais_values.specs.Times.{unknown_time}

-- a time is not negative, or it is the unknown one
abbrev pub is_time : ℤ → Bool
is_time time = not (is_negative time) || int_eq time unknown_time

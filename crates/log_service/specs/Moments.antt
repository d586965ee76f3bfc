-- Words of public clauses: moments of calls, and their seconds.
use Rattle.std.specs.Prelude.{ℤ, pos, ◌≤ℤ◌}
use Rattle.ais_values.specs.Bounds.{last_moment}
pub use Rattle.log_history.specs.Times.{second_of}

-- a time at which a call can come
pub record IsTimeOfCall (now : ℤ) : Type 0 where
  pub from : pos 0 ≤ℤ now
  pub to : now ≤ℤ pos last_moment

-- a last stamp behind which there is room for those of a call, and a time at which a call can come
pub record IsMoment (last now : ℤ) : Type 0 where
  pub last_from : pos 0 ≤ℤ last
  pub last_to : last ≤ℤ pos 19999999000
  pub from : pos 0 ≤ℤ now
  pub to : now ≤ℤ pos last_moment

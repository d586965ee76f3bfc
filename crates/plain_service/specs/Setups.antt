-- Words of public clauses: what the service begins with.
use Rattle.std.specs.Prelude.{ℕ, ℤ, pos, ◌≤ℤ◌}
use Rattle.ais_values.specs.Bounds.{last_moment}
use Rattle.stream_config.specs.declared.attrs.StreamAttrs.{StreamAttrs}
use Rattle.sub_queue.specs.Queue.{IsCapacity}
use Rattle.log_history.specs.Chronicle.{LogSetup}
use Rattle.log_history.specs.Legal.{IsSetup}
use Rattle.log_history.specs.Times.{second_of}

-- the time of the start, how many items a subscription holds, and the attributes of the well-known streams
pub record Setup : Type 0 where
  pub start : ℤ
  pub capacity : ℕ
  pub alarm : StreamAttrs
  pub notification : StreamAttrs
  pub system : StreamAttrs

abbrev pub log_setup : Setup → LogSetup
log_setup setup = record {
  start = second_of setup.start;
  alarm = setup.alarm;
  notification = setup.notification;
  system = setup.system;
}

-- a time at which the service can start, and an entry be accepted, in nanoseconds since 1970
pub record IsMoment (time : ℤ) : Type 0 where
  pub from : pos 0 ≤ℤ time
  pub to : time ≤ℤ pos last_moment

-- what a service can begin with
pub record CanBegin (setup : Setup) : Type 0 where
  pub start : IsMoment setup.start
  pub capacity : IsCapacity setup.capacity
  pub streams : IsSetup (log_setup setup)

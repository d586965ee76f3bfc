-- Words of bodies alone: what the code has ready of a record before it prints it.
use Rattle.std.specs.Prelude.{◌≡◌, ℕ, ◌/◌, Bool, Some, None, unsigned_abs}
use Rattle.std.specs.Option.{MatchOption}
use Rattle.civil_time.specs.Fields.{civil_of}
use Rattle.format_expr.specs.declared.token.Moment.{Moment}
use Rattle.format_expr.specs.declared.token.Moment.TheVariants.{Record, Event}
use Rattle.record_print.specs.declared.clock.Clock.{Clock}
use Rattle.record_print.specs.declared.print.Figures.{Figures}
use Rattle.record_print.specs.declared.record.LogRecord.{LogRecord}
use Rattle.record_print.specs.Printing.{event_time}

-- the clock of a time, of 12 hours or of 24
pub record IsClock (clock : Clock) (half : Bool) (time : ℕ) : Type 0 where
  pub half_is : clock.half ≡ half
  pub time_is : clock.nanoseconds ≡ time
  pub civil_is : clock.civil ≡ civil_of (time / 1_000_000_000)

-- what is printed beside the record's own fields: the clocks of its times
pub record AreFigures (figures : Figures) (half : Moment → Bool) (rec : LogRecord) : Type 0 where
  pub recorded : IsClock figures.recorded (half Record) (unsigned_abs rec.time)
  pub event : MatchOption figures.event (event_time rec.header ≡ None)
      (λ clock. (time : ℕ) × (event_time rec.header ≡ Some time) × IsClock clock (half Event) time)

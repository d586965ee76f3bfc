-- Words of public clauses: times of records as they are stored, and the seconds of times.
use Rattle.std.specs.Prelude.{ℤ, unsigned_abs, List, ℕ, ◌/◌, if◌then◌else◌}
use Rattle.std.specs.Ordering.{int_eq}
use Rattle.ais_values.specs.Times.{unknown_time}
use Rattle.record_print.specs.declared.record.Header.{Header}
use Rattle.record_print.specs.declared.record.Header.TheVariants.{Ntf, Generic}
use Rattle.record_print.specs.declared.record.LogRecord.{LogRecord}

-- the second of a time in nanoseconds
abbrev pub second_of : ℤ → ℕ
second_of time = unsigned_abs time / 1000000000

-- the unknown time stands for the moment of acceptance
abbrev pub filled_time : (time now : ℤ) → ℤ
filled_time time now = if int_eq time unknown_time then now else time

abbrev pub filled_header : Header → (now : ℤ) → Header
filled_header (Ntf id event_type object notifier class event_time) now =
    Ntf id event_type object notifier class (filled_time event_time now)
filled_header (Generic class user severity) now = Generic class user severity

-- the record of a write that is accepted at this moment
abbrev pub record_at : (time : ℤ) → Header → (body : List ℕ) → (now : ℤ) → LogRecord
record_at time header body now =
    record { time = filled_time time now; header = filled_header header now; body = body }

-- Words of public clauses: which records may be written to a stream.
use Rattle.std.specs.Prelude.{Bool, not, ◌&&◌, nat_le, ℤ}
use Rattle.ais_values.specs.Events.{is_event_type}
use Rattle.ais_values.specs.TimeTests.{is_time}
use Rattle.ais_values.specs.declared.kind.StreamKind.{StreamKind}
use Rattle.format_expr.specs.Language.{is_notified}
use Rattle.record_print.specs.declared.record.Header.{Header}
use Rattle.record_print.specs.declared.record.Header.TheVariants.{Ntf, Generic}

-- the header is that of the kind's records, and has codes and a time that there are
abbrev pub can_have : StreamKind → Header → Bool
can_have kind (Ntf id event_type object notifier class event_time) = is_notified kind && is_time event_time && is_event_type event_type
can_have kind (Generic class user severity) = not (is_notified kind) && nat_le severity 6

-- what may be written
abbrev pub can_write : StreamKind → ℤ → Header → Bool
can_write kind time header = is_time time && can_have kind header

-- Words of bodies alone: the event types of one type of notifications, as rows of a table.
use Rattle.std.specs.Prelude.{◌≡◌, ℕ, ◌*◌, ◌/◌, map, Bool, ◌&&◌, ◌==◌, List}
use Rattle.std.specs.List.{list_any, filter}
use Rattle.ais_values.specs.declared.codes.CodeRow.{CodeRow}
use Rattle.ais_values.specs.Events.{object_events, attribute_events, state_events, alarm_events, security_events}

-- the type that an event type belongs to: its code without the last three hexadecimal digits
abbrev pub kind_of_row : {S : Type 0} → CodeRow S → ℕ
kind_of_row row = row.code / 0x1000 * 0x1000

-- whether a row is this event type, and of this type of notifications
abbrev pub has_row : {S : Type 0} → ℕ → ℕ → List (CodeRow S) → Bool
has_row {S} kind event_type rows =
    list_any (λ (row : CodeRow S). event_type == row.code && kind_of_row row == kind) rows

-- the codes of the rows of one type, in order
abbrev pub codes_in : {S : Type 0} → ℕ → List (CodeRow S) → List ℕ
codes_in {S} kind rows =
    map (λ (row : CodeRow S). row.code) (filter (λ (row : CodeRow S). kind_of_row row == kind) rows)

-- a table has the event types of each type of notifications, and no other
pub record HasEventTypes {S : Type 0} (rows : List (CodeRow S)) : Type 0 where
  pub objects : codes_in 0x1000 rows ≡ object_events
  pub attributes : codes_in 0x2000 rows ≡ attribute_events
  pub states : codes_in 0x3000 rows ≡ state_events
  pub alarms : codes_in 0x4000 rows ≡ alarm_events
  pub security : codes_in 0x5000 rows ≡ security_events

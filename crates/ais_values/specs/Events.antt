-- Words of public clauses: the event types of each type of notifications, by their codes.
use Rattle.std.specs.Prelude.{ℕ, Bool, ◌==◌, List, map}
use Rattle.std.specs.List.{list_any}
use Rattle.ais_values.specs.Tables.{object_event_rows, attribute_event_rows, state_event_rows, alarm_event_rows, security_event_rows, event_type_rows}

-- the codes of some rows
abbrev pub codes_of : List (ℕ × List ℕ) → List ℕ
codes_of rows = map (λ (row : ℕ × List ℕ). row.0) rows

-- of objects: creation, deletion
abbrev pub object_events : List ℕ
object_events = codes_of object_event_rows

-- of attributes: added, removed, changed, reset
abbrev pub attribute_events : List ℕ
attribute_events = codes_of attribute_event_rows

-- of states: state change
abbrev pub state_events : List ℕ
state_events = codes_of state_event_rows

-- of alarms: communication, quality of service, processing, equipment, environment
abbrev pub alarm_events : List ℕ
alarm_events = codes_of alarm_event_rows

-- of security alarms: integrity, operation, physical, security service, time
abbrev pub security_events : List ℕ
security_events = codes_of security_event_rows

-- whether this is the code of an event type, of whatever type of notifications
abbrev pub is_event_type : ℕ → Bool
is_event_type code = list_any (λ event. event == code) (codes_of event_type_rows)

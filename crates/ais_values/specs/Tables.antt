-- Words of public clauses: the rows of each code table, a code with its printed name.
use Rattle.std.specs.Prelude.{◌≡◌, ℕ, IsTrue, List, [], ◌∷◌, ◌++◌, map, codes}
use Rattle.ais_values.specs.declared.codes.CodeRow.{CodeRow}
use Rattle.ais_values.specs.Codes.{are_apart}

-- the answers of the services, by their numbers in `SaAisErrorT`
abbrev pub status_rows : List (ℕ × List ℕ)
status_rows =
    (1, codes "ok") ∷ (3, codes "VERSION") ∷ (6, codes "TRY_AGAIN") ∷ (7, codes "INVALID_PARAM") ∷ (9, codes "BAD_HANDLE")
    ∷ (12, codes "NOT_EXIST") ∷ (14, codes "EXIST") ∷ (15, codes "NO_SPACE") ∷ (18, codes "NO_RESOURCES") ∷ (25, codes "BAD_FLAGS")
    ∷ []

-- the severities of log records, from emergency to information
abbrev pub log_severity_rows : List (ℕ × List ℕ)
log_severity_rows =
    (0, codes "EM") ∷ (1, codes "AL") ∷ (2, codes "CR") ∷ (3, codes "ER") ∷ (4, codes "WA") ∷ (5, codes "NO") ∷ (6, codes "IN") ∷ []

abbrev pub full_action_rows : List (ℕ × List ℕ)
full_action_rows = (1, codes "WRAP") ∷ (2, codes "HALT") ∷ (3, codes "ROTATE") ∷ []

abbrev pub notification_type_rows : List (ℕ × List ℕ)
notification_type_rows =
    (0x1000, codes "objects") ∷ (0x2000, codes "attributes") ∷ (0x3000, codes "states") ∷ (0x4000, codes "alarm")
    ∷ (0x5000, codes "security") ∷ []

-- the event types of each type of notifications
abbrev pub object_event_rows : List (ℕ × List ℕ)
object_event_rows = (0x1001, codes "creation") ∷ (0x1002, codes "deletion") ∷ []

abbrev pub attribute_event_rows : List (ℕ × List ℕ)
attribute_event_rows = (0x2001, codes "added") ∷ (0x2002, codes "removed") ∷ (0x2003, codes "changed") ∷ (0x2004, codes "reset") ∷ []

abbrev pub state_event_rows : List (ℕ × List ℕ)
state_event_rows = (0x3001, codes "state change") ∷ []

abbrev pub alarm_event_rows : List (ℕ × List ℕ)
alarm_event_rows =
    (0x4001, codes "communication") ∷ (0x4002, codes "QoS") ∷ (0x4003, codes "processing") ∷ (0x4004, codes "equipment")
    ∷ (0x4005, codes "environment") ∷ []

abbrev pub security_event_rows : List (ℕ × List ℕ)
security_event_rows =
    (0x5001, codes "integrity") ∷ (0x5002, codes "operation") ∷ (0x5003, codes "physical") ∷ (0x5004, codes "security service")
    ∷ (0x5005, codes "time") ∷ []

-- all event types
abbrev pub event_type_rows : List (ℕ × List ℕ)
event_type_rows = object_event_rows ++ attribute_event_rows ++ state_event_rows ++ alarm_event_rows ++ security_event_rows

abbrev pub perceived_severity_rows : List (ℕ × List ℕ)
perceived_severity_rows =
    (0, codes "CLEARED") ∷ (1, codes "INDETERMINATE") ∷ (2, codes "WARNING") ∷ (3, codes "MINOR") ∷ (4, codes "MAJOR")
    ∷ (5, codes "CRITICAL") ∷ []

abbrev pub source_indicator_rows : List (ℕ × List ℕ)
source_indicator_rows = (1, codes "OBJECT_OPERATION") ∷ (2, codes "UNKNOWN_OPERATION") ∷ (3, codes "MANAGEMENT_OPERATION") ∷ []

abbrev pub search_mode_rows : List (ℕ × List ℕ)
search_mode_rows =
    (1, codes "BEFORE_OR_AT_TIME") ∷ (2, codes "AT_TIME") ∷ (3, codes "AT_OR_AFTER_TIME") ∷ (4, codes "BEFORE_TIME")
    ∷ (5, codes "AFTER_TIME") ∷ (6, codes "NOTIFICATION_ID") ∷ (7, codes "ONLY_FILTER") ∷ []

abbrev pub month_rows : List (ℕ × List ℕ)
month_rows =
    (1, codes "Jan") ∷ (2, codes "Feb") ∷ (3, codes "Mar") ∷ (4, codes "Apr") ∷ (5, codes "May") ∷ (6, codes "Jun")
    ∷ (7, codes "Jul") ∷ (8, codes "Aug") ∷ (9, codes "Sep") ∷ (10, codes "Oct") ∷ (11, codes "Nov") ∷ (12, codes "Dec") ∷ []

-- a table has these rows in this order, and neither two of one name nor two of one code
pub record IsTable {S : Type 0} (text : S → List ℕ) (table : List (CodeRow S)) (rows : List (ℕ × List ℕ)) : Type 0 where
  pub pairs : map (λ (row : CodeRow S). (row.code, text row.name)) table ≡ rows
  pub apart : IsTrue (are_apart text table)

-- Words of public clauses: which marks streams have, and which records they filter.
use Rattle.std.specs.Prelude.{ℕ, ◌≤◌, Bool, false, not, if◌then◌else◌, List, [], ◌∷◌, Some}
use Rattle.stream_config.specs.declared.attrs.StreamName.{StreamName}
use Rattle.stream_config.specs.declared.mark.Mark.{Mark}
use Rattle.stream_config.specs.Equality.{same_name}
use Rattle.stream_config.specs.Marks.{first_mark, made_mark, lets_pass}
use Rattle.record_print.specs.declared.record.Header.{Header}
use Rattle.record_print.specs.declared.record.Header.TheVariants.{Ntf, Generic}
use Rattle.log_history.specs.Changes.{LogChange, Opened, Filtered}

-- a header's severity, where it has one, is one of the seven
abbrev pub HasSeverity : Header → Type 0
HasSeverity (Ntf id event_type object notifier class event_time) = Unit {0}
HasSeverity (Generic class user severity) = severity ≤ 6

-- a generic header's severity does not pass
abbrev pub is_filtered : (mask : ℕ) → Header → Bool
is_filtered mask (Ntf id event_type object notifier class event_time) = false
is_filtered mask (Generic class user severity) = not (lets_pass mask severity)

-- the mark of the stream of that name: the last change that made it or set its mask decides
abbrev pub mark_after : List LogChange → StreamName → Mark
mark_after [] name = first_mark
mark_after (Opened client opened (Some attrs) second number ∷ past) name =
    if same_name name opened then made_mark number else mark_after past name
mark_after (Filtered client changed mask number ∷ past) name =
    if same_name name changed then record { since = number; mask = mask } else mark_after past name
mark_after (_ ∷ past) name = mark_after past name

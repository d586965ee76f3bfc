-- Words of public clauses, those of the laws: a stored alarm.
use Rattle.std.specs.Prelude.{◌≡◌, ℕ, List, [], ◌∷◌, ◌++◌}
use Rattle.ntf_types.specs.declared.notification.Notification.{Notification}
use Rattle.alarm_view.specs.Alarms.{kept_alarm}
use Rattle.ntf_history.specs.Changes.{NtfChange}
use Rattle.ntf_history.specs.Changes.NtfChange.{Sent}
use Rattle.ntf_history.specs.StoredAlarms.{stored_alarms}

-- the alarm that is sent stands behind those before
abbrev pub AddsAlarm : (first : ℕ) → Notification → (number : ℕ) → List NtfChange → Type 0
AddsAlarm first notification number past =
    stored_alarms first (Sent notification number ∷ past) ≡ stored_alarms first past ++ kept_alarm number notification ∷ []

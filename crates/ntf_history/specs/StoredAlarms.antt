-- Words of public clauses: which alarms are stored.
use Rattle.std.specs.Prelude.{ℕ, Bool, true, false, if◌then◌else◌, List, [], ◌∷◌, ◌++◌}
use Rattle.ntf_types.specs.declared.notification.Body.{Body}
use Rattle.ntf_types.specs.declared.notification.Body.TheVariants.{Objects, Attributes, States, Alarm, Security}
use Rattle.alarm_view.specs.declared.alarm.KeptAlarm.{KeptAlarm}
use Rattle.alarm_view.specs.Alarms.{kept_alarm, from_record}
use Rattle.ntf_history.specs.Changes.{NtfChange}
use Rattle.ntf_history.specs.Changes.NtfChange.{Sent}

-- an alarm or a security alarm
abbrev pub is_alarm : Body → Bool
is_alarm (Objects source attrs) = false
is_alarm (Attributes source changes) = false
is_alarm (States source changes) = false
is_alarm (Alarm cause severity) = true
is_alarm (Security cause severity detector user provider) = true

-- the alarms and security alarms that were sent, with the numbers of their records, in order of time
abbrev pub alarms_sent : List NtfChange → List KeptAlarm
alarms_sent [] = []
alarms_sent (Sent notification record_number ∷ past) =
    if is_alarm notification.body then alarms_sent past ++ kept_alarm record_number notification ∷ [] else alarms_sent past
alarms_sent (_ ∷ past) = alarms_sent past

-- those of them whose records stand, by the number of the first record of the alarm stream that stands
abbrev pub stored_alarms : ℕ → List NtfChange → List KeptAlarm
stored_alarms first past = from_record first (alarms_sent past)

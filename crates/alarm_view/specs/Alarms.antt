-- Words of public clauses: the alarms that are kept, in order of their records.
use Rattle.std.specs.Prelude.{ℕ, ◌+◌, ◌<◌, ◌≤◌, nat_le, ⊤, List, [], ◌∷◌, map, filter}
use Rattle.ntf_types.specs.declared.notification.Body.{Body}
use Rattle.ntf_types.specs.declared.notification.Body.TheVariants.{Objects, Attributes, States, Alarm, Security}
use Rattle.ntf_types.specs.declared.notification.Notification.{Notification}
use Rattle.alarm_view.specs.declared.alarm.KeptAlarm.{KeptAlarm}

-- the alarms, in order of their records, and for how many more there is room
pub record KeptAlarms : Type 0 where
  pub kept : List KeptAlarm
  pub spare : ℕ

-- an alarm or a security alarm
abbrev pub IsAlarm : Body → Type 0
IsAlarm (Objects source attrs) = ⊥
IsAlarm (Attributes source changes) = ⊥
IsAlarm (States source changes) = ⊥
IsAlarm (Alarm cause severity) = ⊤
IsAlarm (Security cause severity detector user provider) = ⊤

abbrev pub kept_alarm : ℕ → Notification → KeptAlarm
kept_alarm number notification = record { number = number; notification = notification }

abbrev pub notifications : List KeptAlarm → List Notification
notifications alarms = map (λ (alarm : KeptAlarm). alarm.notification) alarms

-- from this record number and this id on, each alarm has a higher record number and a higher id than those before it
abbrev pub RiseFrom : ℕ → ℕ → List KeptAlarm → Type 0
RiseFrom number id [] = number ≤ 4294967295
RiseFrom number id (alarm ∷ alarms) =
    (number ≤ alarm.number) × (id ≤ alarm.notification.id) × IsAlarm alarm.notification.body
    × RiseFrom (alarm.number + 1) (alarm.notification.id + 1) alarms

-- what holds of the alarms that are kept: they are alarms, their record numbers and their ids rise, and no record number is 4,294,967,295
abbrev pub AreInOrder : List KeptAlarm → Type 0
AreInOrder alarms = RiseFrom 0 0 alarms

-- the record number and the id are above those of each alarm
abbrev pub IsAboveAll : ℕ → ℕ → List KeptAlarm → Type 0
IsAboveAll number id [] = ⊤
IsAboveAll number id (alarm ∷ alarms) =
    (alarm.number < number) × (alarm.notification.id < id) × IsAboveAll number id alarms

-- an alarm may be added: it is one, and comes behind all others by its record's number and by its id
pub record CanAdd (number : ℕ) (notification : Notification) (alarms : List KeptAlarm) : Type 0 where
  pub alarm : IsAlarm notification.body
  pub bound : number < 4294967295
  pub above : IsAboveAll number notification.id alarms

-- the alarms of the records from this number on
abbrev pub from_record : ℕ → List KeptAlarm → List KeptAlarm
from_record number alarms = filter (λ (alarm : KeptAlarm). nat_le number alarm.number) alarms

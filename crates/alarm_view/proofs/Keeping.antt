-- The alarms stay in order when one is added and when those of early records are dropped.
use Rattle.std.proofs.Common.{ℕ, ◌+◌, ◌<◌, ◌≤◌, nat_le, Bool, true, false, cond, List, [], ◌∷◌, ◌++◌, length, arith}
use Rattle.std.specs.List.{filter}
use Rattle.ntf_types.specs.declared.notification.Notification.{Notification}
use Rattle.alarm_view.specs.declared.alarm.KeptAlarm.{KeptAlarm}
use Rattle.alarm_view.specs.Alarms.{IsAlarm, RiseFrom, IsAboveAll, CanAdd, AreInOrder, kept_alarm, from_record}

-- an alarm that comes behind all
RiseFrom-added : (number id : ℕ) (alarms : List KeptAlarm) (k : ℕ) (notification : Notification) → RiseFrom number id alarms → IsAboveAll k notification.id alarms → number ≤ k → id ≤ notification.id → k < 4294967295 → IsAlarm notification.body → RiseFrom number id (alarms ++ kept_alarm k notification ∷ [])
RiseFrom-added number id [] k notification rising above low lower bound alarm = (low, lower, alarm, omega arith)
RiseFrom-added number id (a ∷ alarms) k notification rising above low lower bound alarm =
    (rising.0, rising.1, rising.2, RiseFrom-added (a.number + 1) (a.notification.id + 1) alarms k notification rising.3 above.2 (omega (arith, above.0)) (omega (arith, above.1)) bound alarm)

pub AreInOrder-added : (k : ℕ) (notification : Notification) (alarms : List KeptAlarm) → AreInOrder alarms → CanAdd k notification alarms → AreInOrder (alarms ++ kept_alarm k notification ∷ [])
AreInOrder-added k notification alarms rising can =
    RiseFrom-added 0 0 alarms k notification rising can.above (omega arith) (omega arith) can.bound can.alarm

-- so many alarms have different numbers
length-RiseFrom : (number id : ℕ) (alarms : List KeptAlarm) → RiseFrom number id alarms → number + length alarms ≤ 4294967295
length-RiseFrom number id [] rising = omega (arith, rising)
length-RiseFrom number id (a ∷ alarms) rising =
    let rest = length-RiseFrom (a.number + 1) (a.notification.id + 1) alarms rising.3 in
    omega (arith, rest, rising.0)

pub length-AreInOrder : (alarms : List KeptAlarm) → AreInOrder alarms → length alarms ≤ 4294967295
length-AreInOrder alarms rising = omega (arith, length-RiseFrom 0 0 alarms rising)

-- what rises from a number on rises from each lower one on
RiseFrom-lower : (number lower id low : ℕ) (alarms : List KeptAlarm) → lower ≤ number → low ≤ id → RiseFrom number id alarms → RiseFrom lower low alarms
RiseFrom-lower number lower id low [] below under rising = omega (arith, rising)
RiseFrom-lower number lower id low (a ∷ alarms) below under rising =
    (omega (arith, rising.0), omega (arith, rising.1), rising.2, rising.3)

RiseFrom-filter : (number id : ℕ) (test : KeptAlarm → Bool) (alarms : List KeptAlarm) → RiseFrom number id alarms → RiseFrom number id (filter test alarms)
RiseFrom-filter number id test [] rising = rising
RiseFrom-filter number id test (a ∷ alarms) rising =
    let rest = RiseFrom-filter (a.number + 1) (a.notification.id + 1) test alarms rising.3 in
    elim (test a) as (λ b. RiseFrom number id (cond b (a ∷ filter test alarms) (filter test alarms))) [
      | true ↦ (rising.0, rising.1, rising.2, rest)
      | false ↦ RiseFrom-lower (a.number + 1) number (a.notification.id + 1) id (filter test alarms) (omega (arith, rising.0)) (omega (arith, rising.1)) rest
    ]

pub AreInOrder-from_record : (k : ℕ) (alarms : List KeptAlarm) → AreInOrder alarms → AreInOrder (from_record k alarms)
AreInOrder-from_record k alarms rising = RiseFrom-filter 0 0 (λ (alarm : KeptAlarm). nat_le k alarm.number) alarms rising

-- the next record number and the next id are above those of an alarm that was added
pub IsAboveAll-added : (number : ℕ) (notification : Notification) (alarms : List KeptAlarm) → IsAboveAll number notification.id alarms → IsAboveAll (number + 1) (notification.id + 1) (alarms ++ kept_alarm number notification ∷ [])
IsAboveAll-added number notification [] above = (omega arith, omega arith, tt)
IsAboveAll-added number notification (a ∷ alarms) above =
    (omega (arith, above.0), omega (arith, above.1), IsAboveAll-added number notification alarms above.2)

-- Of a value that is fit each queue can be made again, and its stored alarms can be added one after another.
use Rattle.std.proofs.Common.{◌≡◌, ℕ, ◌<◌, nat_lt, true, List, [], ◌∷◌, ◌++◌, map, subst, arith}
use Rattle.std.specs.Prelude.{MatchOption, slice_get}
use Rattle.std.specs.List.{AllByRecursion}
use Rattle.std.proofs.lemmas.Bool.Decides.{nat_tests}
use Rattle.client_set.specs.Rising.{IsRising, ComesFirst}
use Rattle.alarm_view.specs.Alarms.{IsAboveAll, CanAdd}
use Rattle.calls.specs.declared.saved.Saved.{Saved}
use Rattle.calls.specs.declared.saved.SavedStream.{SavedStream}
use Rattle.calls.specs.declared.saved.SavedAlarm.{SavedAlarm}
use Rattle.plain_service.specs.Fitness.{IsFit, IsFitStream, IsFitAlarm, IsStanding, is_record_before, is_id_before}
use Rattle.service_table.specs.Tables.{kept_alarm_of}

-- an alarm behind these comes after each of them

stands-later : (saved : Saved) (streams : List SavedStream) (number : ℕ) → AllByRecursion (IsFitStream saved) streams → MatchOption (slice_get streams 0) ⊥ (λ stream. IsStanding stream.state number) → number < saved.number
stands-later saved [] number each stands = absurd stands
stands-later saved (stream ∷ streams) number each stands = omega (arith, stands.below, each.0.taken)

at : {X : Type 0} (P : X → Type 0) (front : List X) (x : X) (rest : List X) → AllByRecursion P (front ++ x ∷ rest) → P x
at P [] x rest each = each.0
at P (y ∷ front) x rest each = at P front x rest each.1

module _ (alarm : SavedAlarm) (rest : List SavedAlarm) where
  record-later : (before : SavedAlarm) (front : List SavedAlarm) → ComesFirst is_record_before before (front ++ alarm ∷ rest) → before.k < alarm.k
  record-later before [] first = let less : nat_lt before.k alarm.k ≡ true = first.0 in grind (arith, nat_tests)
  record-later before (other ∷ front) first = record-later before front first.1

  id-later : (before : SavedAlarm) (front : List SavedAlarm) → ComesFirst is_id_before before (front ++ alarm ∷ rest) → before.notification.id < alarm.notification.id
  id-later before [] first = let less : nat_lt before.notification.id alarm.notification.id ≡ true = first.0 in grind (arith, nat_tests)
  id-later before (other ∷ front) first = id-later before front first.1

  above : (front : List SavedAlarm) → IsRising is_record_before (front ++ alarm ∷ rest) → IsRising is_id_before (front ++ alarm ∷ rest) → IsAboveAll alarm.k alarm.notification.id (map kept_alarm_of front)
  above [] records ids = tt
  above (before ∷ front) records ids =
      (record-later before front records.0, id-later before front ids.0, above front records.1 ids.1)

-- **each alarm can be added behind those before it**
pub alarm-fit : (saved : Saved) → IsFit saved → (front : List SavedAlarm) (alarm : SavedAlarm) (rest : List SavedAlarm) → saved.alarms ≡ front ++ alarm ∷ rest → CanAdd alarm.k alarm.notification (map kept_alarm_of front)
alarm-fit saved fit front alarm rest parts =
    let is : IsFitAlarm saved alarm = at (IsFitAlarm saved) front alarm rest (subst (AllByRecursion (IsFitAlarm saved)) parts fit.alarms.each) in
    record {
      alarm = is.body;
      bound = omega (arith, stands-later saved saved.streams alarm.k fit.streams.each is.stands, fit.counts.entries);
      above = above alarm rest front (subst (IsRising is_record_before) parts fit.alarms.records) (subst (IsRising is_id_before) parts fit.alarms.ids);
    }

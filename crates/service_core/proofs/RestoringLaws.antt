-- What is made again of a value that is fit.
use Rattle.std.proofs.Common.{◌≡◌, ℕ, List, [], ◌∷◌, ◌++◌, map, refl, ap, sym, subst, ◌∙◌, append-nil, append_assoc, arith}
use Rattle.std.proofs.lemmas.List.{map-append}
use Rattle.std.specs.Prelude.{ℤ, unsigned_abs}
use Rattle.std.specs.List.{AllByRecursion}
use Rattle.stream_config.specs.declared.mark.Mark.{Mark}
use Rattle.stream_config.specs.declared.state.StreamState.{StreamState}
use Rattle.alarm_view.specs.declared.alarm.KeptAlarm.{KeptAlarm}
use Rattle.alarm_view.specs.Alarms.{AreInOrder}
use Rattle.alarm_view.proofs.Keeping.{AreInOrder-added}
use Rattle.calls.specs.declared.saved.Saved.{Saved}
use Rattle.calls.specs.declared.saved.SavedAlarm.{SavedAlarm}
use Rattle.calls.specs.declared.saved.SavedReader.{SavedReader}
use Rattle.calls.specs.declared.saved.SavedStream.{SavedStream}
use Rattle.calls.specs.declared.saved.SavedSub.{SavedSub}
use Rattle.log_history.specs.Table.{LogTable}
use Rattle.log_service.specs.State.{IsSoundTable as IsSoundLog, joined_streams, table_with as log_with}
use Rattle.ntf_history.specs.Tables.{NtfTable, HaveQueues, IsSoundTable as IsSoundNtf, table_with as ntf_with}
use Rattle.plain_service.specs.Fitness.{IsFit}
use Rattle.service_table.specs.Tables.{ServiceTable, kept_stream_of, kept_alarm_of, kept_sub_of, kept_window, table_of_saved, saved_table}
use Rattle.service_table.specs.declared.caller.ClientWindow.{ClientWindow}
use Rattle.service_fit.proofs.RestoredParts.{ntf-fit, value-back}
use Rattle.service_core.specs.declared.kept.Kept.{Kept}
use Rattle.service_core.specs.Inside.{kept_table, IsKeptAs}
use Rattle.service_core.specs.Restoring.{states_in, openers_in, marks_in, HasSoundQueue, CanAddEach}
use Rattle.service_core.proofs.FitLog.{joined-saved, log-fit}

-- the log

-- a log that is made of parts of its streams is the one of these streams
pub log-made : (last : ℕ) (users : List ℕ) (streams : List SavedStream) (states : List StreamState) (openers : List (List ℕ)) (marks : List Mark) → states ≡ states_in streams → openers ≡ openers_in streams → marks ≡ marks_in streams → log_with last users (joined_streams states openers marks) ≡ log_with last users (map kept_stream_of streams)
log-made last users streams states openers marks states_are openers_are marks_are =
    ap (λ these. log_with last users (joined_streams these openers marks)) states_are
    ∙ ap (λ these. log_with last users (joined_streams (states_in streams) these marks)) openers_are
    ∙ ap (λ these. log_with last users (joined_streams (states_in streams) (openers_in streams) these)) marks_are
    ∙ ap (log_with last users) (joined-saved streams)

module _ (saved : Saved) (last : ℤ) (users : List ℕ) (streams : List SavedStream) (last_is : last ≡ saved.last_stamp) (users_are : users ≡ saved.log_users) (streams_are : streams ≡ saved.streams) where
  pub log-of : log_with (unsigned_abs last) users (map kept_stream_of streams) ≡ (table_of_saved saved).log
  log-of = rw (last_is, users_are, streams_are)

  pub log-sound : IsFit saved → IsSoundLog (log_with (unsigned_abs last) users (map kept_stream_of streams))
  log-sound fit = subst IsSoundLog (sym log-of) (log-fit saved fit)

-- the Notification Service

module _ (saved : Saved) (users : List ℕ) (subs : List SavedSub) (users_are : users ≡ saved.ntf_users) (subs_are : subs ≡ saved.subs) where
  pub ntf-of : ntf_with saved.capacity users saved.last_id (map (kept_sub_of saved.capacity) subs) ≡ (table_of_saved saved).ntf
  ntf-of = rw (users_are, subs_are)

  pub ntf-sound : IsFit saved → IsSoundNtf (ntf_with saved.capacity users saved.last_id (map (kept_sub_of saved.capacity) subs))
  ntf-sound fit = subst IsSoundNtf (sym ntf-of) (ntf-fit saved fit)

-- the queues of a table that is sound can be made again
pub queues-sound : (cap : ℕ) (subs : List SavedSub) → HaveQueues cap (map (kept_sub_of cap) subs) → AllByRecursion (HasSoundQueue cap) subs
queues-sound cap [] have = tt
queues-sound cap (sub ∷ subs) have = (have.1, queues-sound cap subs have.2)

-- stored alarms

-- those in front are in order, and so are all, as each can be added behind those before it
in-order-behind : (front rest alarms : List SavedAlarm) → alarms ≡ front ++ rest → CanAddEach alarms → AreInOrder (map kept_alarm_of front) → AreInOrder (map kept_alarm_of alarms)
in-order-behind front [] alarms are can order =
    subst (λ these. AreInOrder (map kept_alarm_of these)) (sym (are ∙ append-nil front)) order
in-order-behind front (alarm ∷ rest) alarms are can order =
    in-order-behind (front ++ alarm ∷ []) rest alarms (are ∙ sym (append_assoc front (alarm ∷ []) rest)) can
    (subst AreInOrder (sym (map-append kept_alarm_of front (alarm ∷ [])))
    (AreInOrder-added alarm.k alarm.notification (map kept_alarm_of front) order (can front alarm rest are)))

pub saved-in-order : (alarms : List SavedAlarm) (kept : List KeptAlarm) → CanAddEach alarms → kept ≡ map kept_alarm_of alarms → AreInOrder kept
saved-in-order alarms kept can are =
    subst AreInOrder (sym are) (in-order-behind [] alarms alarms refl can (omega arith))

-- **the service keeps what it must, and has the value**

pub restored-kept : (saved : Saved) (kept : Kept) → IsFit saved → kept_table kept ≡ table_of_saved saved → IsKeptAs (kept_table kept) saved.capacity
restored-kept saved kept fit is = record {
  fit = subst IsFit (sym (ap saved_table is ∙ value-back saved fit)) fit;
  capacity = sym (ap (λ (table : ServiceTable). table.ntf.capacity) is);
}

pub restored-value : (saved : Saved) (kept : Kept) → IsFit saved → kept_table kept ≡ table_of_saved saved → saved_table (kept_table kept) ≡ saved
restored-value saved kept fit is = ap saved_table is ∙ value-back saved fit

-- the whole

-- parts that are those of a value are, beside its number, all of it
pub parts-are : (saved : Saved) (log : LogTable) (ntf : NtfTable) (alarms : List KeptAlarm) (readers : List SavedReader) (windows : List ClientWindow) → log ≡ (table_of_saved saved).log → ntf ≡ (table_of_saved saved).ntf → alarms ≡ map kept_alarm_of saved.alarms → readers ≡ saved.readers → windows ≡ map kept_window saved.windows → (let table : ServiceTable = record { number = saved.number; log = log; ntf = ntf; alarms = alarms; readers = readers; windows = windows } in table ≡ table_of_saved saved)
parts-are saved log ntf alarms readers windows log_is ntf_is alarms_are readers_are windows_are = rw (log_is, ntf_is, alarms_are, readers_are, windows_are)

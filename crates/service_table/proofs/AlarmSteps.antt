-- The stored alarms after one more call are what the call makes of those stored before.
use Rattle.std.proofs.Common.{◌≡◌, ℕ, ◌+◌, ◌≤◌, nat_le, Bool, true, false, cond, List, [], ◌∷◌, ◌++◌, refl, ap, sym, ◌∙◌}
use Rattle.std.specs.Prelude.{Option, Some, None, option_map, ℤ}
use Rattle.std.specs.Option.{option_map_or}
use Rattle.std.specs.List.{cons_option}
use Rattle.std.proofs.lemmas.List.Elements.{filter-append}
use Rattle.ais_values.specs.declared.status.Status.{Status}
use Rattle.ais_values.specs.declared.status.Status.TheVariants as status
use Rattle.stream_config.specs.declared.attrs.StreamName.{StreamName}
use Rattle.stream_config.specs.declared.attrs.StreamName.TheVariants as name
use Rattle.stream_config.specs.Fit.{first_standing as standing_of}
use Rattle.record_print.specs.declared.record.LogRecord.{LogRecord}
use Rattle.alarm_view.specs.declared.alarm.KeptAlarm.{KeptAlarm}
use Rattle.alarm_view.specs.Alarms.{kept_alarm, from_record}
use Rattle.calls.specs.declared.call.Call.{Call}
use Rattle.calls.specs.declared.call.Call.TheVariants.{LogInit, LogOpen, LogWrite, LogFilter, LogClose, LogFini, NtfInit, NtfSend, NtfSubscribe, NtfUnsubscribe, ReaderStart, ReaderRead, ReaderEnd, NtfFini}
use Rattle.log_history.specs.Answers.{making_of}
use Rattle.log_history.specs.Changes.{LogChange}
use Rattle.log_history.specs.Changes.{LogChange as log}
use Rattle.log_history.specs.Chronicle.{chronicle}
use Rattle.log_history.specs.Legal.{IsLogHistory}
use Rattle.log_history.specs.Table.{OpenStream, open_stream, table}
use Rattle.log_history.specs.Marks.{is_filtered, mark_after}
use Rattle.log_history.specs.Times.{second_of, record_at}
use Rattle.log_history.proofs.TableLaws.{find-living}
use Rattle.ntf_history.specs.Changes.{NtfChange}
use Rattle.ntf_history.specs.Changes.{NtfChange as ntf}
use Rattle.ntf_history.specs.StoredAlarms.{is_alarm, alarms_sent, stored_alarms}
use Rattle.ntf_history.proofs.AlarmLaws.{stored-later}
use Rattle.plain_service.specs.Setups.{Setup, log_setup}
use Rattle.plain_service.specs.Pasts.{Past}
use Rattle.plain_service.specs.Alarms.{first_standing, alarms_stored}
use Rattle.plain_service.specs.Changing.{log_change, ntf_change, if_ok, past_after}
use Rattle.plain_service.proofs.FirstRecords.{first-alarm, first-beside, first-grows}
use Rattle.plain_service.proofs.WellKnown.{stored_in, living-alarm}
use Rattle.service_table.specs.Steps.{standing_from, alarms_with, alarms_after}

-- what is kept of the alarm stream tells the first record that stands
pub standing-kept : (setup : Setup) (past : List LogChange) → standing_from (table (log_setup setup) past).streams ≡ first_standing setup past
standing-kept setup past =
    ap (λ found. option_map_or (λ (stream : OpenStream). standing_of stream.state) found 0)
    (find-living name.Alarm past (chronicle (log_setup setup) past).streams ∙ ap (option_map (open_stream past)) (living-alarm (log_setup setup) past))
    ∙ sym (first-alarm setup past)

-- an alarm that is sent stands behind the others
sent-with : (change : Option NtfChange) (past : List NtfChange) → alarms_sent (cons_option change past) ≡ alarms_with change (alarms_sent past)
sent-with None past = refl
sent-with (Some (ntf.Sent notification number)) past = refl
sent-with (Some (ntf.Began client)) past = refl
sent-with (Some (ntf.Ended client)) past = refl
sent-with (Some (ntf.Subscribed sub)) past = refl
sent-with (Some (ntf.Unsubscribed client id)) past = refl
sent-with (Some (ntf.Receipted client key through)) past = refl

from-with : (first later : ℕ) (change : Option NtfChange) (past : List NtfChange) → first ≤ later → from_record later (alarms_with change (stored_alarms first past)) ≡ from_record later (alarms_with change (alarms_sent past))
from-with first later None past order = stored-later first later past order
from-with first later (Some (ntf.Sent notification number)) past order = by_case (is_alarm notification.body) where
  new : List KeptAlarm
  new = kept_alarm number notification ∷ []

  test : KeptAlarm → Bool
  test alarm = nat_le later alarm.number

  by_case : (alarm : Bool) → from_record later (cond alarm (stored_alarms first past ++ kept_alarm number notification ∷ []) (stored_alarms first past)) ≡ from_record later (cond alarm (alarms_sent past ++ kept_alarm number notification ∷ []) (alarms_sent past))
  by_case true =
      filter-append (λ (alarm : KeptAlarm). nat_le later alarm.number) (stored_alarms first past) (kept_alarm number notification ∷ [])
      ∙ ap (λ front. front ++ from_record later (kept_alarm number notification ∷ [])) (stored-later first later past order)
      ∙ sym (filter-append (λ (alarm : KeptAlarm). nat_le later alarm.number) (alarms_sent past) (kept_alarm number notification ∷ []))
  by_case false = stored-later first later past order
from-with first later (Some (ntf.Began client)) past order = stored-later first later past order
from-with first later (Some (ntf.Ended client)) past order = stored-later first later past order
from-with first later (Some (ntf.Subscribed sub)) past order = stored-later first later past order
from-with first later (Some (ntf.Unsubscribed client id)) past order = stored-later first later past order
from-with first later (Some (ntf.Receipted client key through)) past order = stored-later first later past order

-- once a record is stored
after-stored : (setup : Setup) (stream : StreamName) (rec : LogRecord) (second : ℕ) (change : Option NtfChange) (past : Past) → IsLogHistory (log_setup setup) past.log → stored_alarms (first_standing setup (log.Stored stream rec second ∷ past.log)) (cons_option change past.ntf) ≡ alarms_after (Some (log.Stored stream rec second)) change (table (log_setup setup) (log.Stored stream rec second ∷ past.log)).streams (alarms_stored setup past)
after-stored setup stream rec second change past legal =
    let first = first_standing setup past.log in
    let later = first_standing setup (log.Stored stream rec second ∷ past.log) in
    ap (from_record later) (sent-with change past.ntf)
    ∙ sym (from-with first later change past.ntf (first-grows setup (log.Stored stream rec second) past.log legal))
    ∙ ap (λ n. from_record n (alarms_with change (stored_alarms first past.ntf))) (sym (standing-kept setup (log.Stored stream rec second ∷ past.log)))

-- where no record is stored, and no alarm is sent
unstored : (setup : Setup) (past : Past) (change : LogChange) → stored_in name.Alarm (change ∷ past.log) ≡ stored_in name.Alarm past.log → stored_alarms (first_standing setup (change ∷ past.log)) past.ntf ≡ alarms_stored setup past
unstored setup past change beside = ap (λ first. stored_alarms first past.ntf) (first-beside setup change past.log beside)

pub alarms-ok : (setup : Setup) (past : Past) (client seq : ℕ) (now : ℤ) (call : Call) → IsLogHistory (log_setup setup) past.log → alarms_stored setup (past_after setup past client seq now call status.Ok) ≡ alarms_after (log_change setup past client now call) (ntf_change setup past client seq now call) (table (log_setup setup) (cons_option (log_change setup past client now call) past.log)).streams (alarms_stored setup past)
alarms-ok setup past client seq now LogInit legal = unstored setup past (log.Began client) refl
alarms-ok setup past client seq now (LogOpen stream create) legal =
    unstored setup past (log.Opened client stream (making_of (log_setup setup) past.log stream create) (second_of now) (past.number + 1)) refl
alarms-ok setup past client seq now (LogWrite stream invocation flags time header body) legal =
    by_case (is_filtered (mark_after past.log stream).mask header) where
      by_case : (filtered : Bool) → stored_alarms (first_standing setup (cons_option (cond filtered None (Some (log.Stored stream (record_at time header body now) (second_of now)))) past.log)) past.ntf ≡ alarms_after (cond filtered None (Some (log.Stored stream (record_at time header body now) (second_of now)))) None (table (log_setup setup) (cons_option (cond filtered None (Some (log.Stored stream (record_at time header body now) (second_of now)))) past.log)).streams (alarms_stored setup past)
      by_case true = refl
      by_case false = after-stored setup stream _ _ None past legal
alarms-ok setup past client seq now (LogFilter stream mask) legal = unstored setup past (log.Filtered client stream mask (past.number + 1)) refl
alarms-ok setup past client seq now (LogClose stream) legal = unstored setup past (log.Closed client stream (second_of now)) refl
alarms-ok setup past client seq now LogFini legal = unstored setup past (log.Ended client (second_of now)) refl
alarms-ok setup past client seq now NtfInit legal = refl
alarms-ok setup past client seq now (NtfSend notification) legal = after-stored setup _ _ _ (ntf_change setup past client seq now (NtfSend notification)) past legal
alarms-ok setup past client seq now (NtfSubscribe id filters) legal = refl
alarms-ok setup past client seq now (NtfUnsubscribe id) legal = refl
alarms-ok setup past client seq now (ReaderStart mode value filters) legal = refl
alarms-ok setup past client seq now (ReaderRead direction) legal = refl
alarms-ok setup past client seq now ReaderEnd legal = refl
alarms-ok setup past client seq now NtfFini legal = refl

-- **the stored alarms after a call of any status**
pub alarms-called : (setup : Setup) (past : Past) (client seq : ℕ) (now : ℤ) (call : Call) (answered : Status) → IsLogHistory (log_setup setup) past.log → alarms_stored setup (past_after setup past client seq now call answered) ≡ alarms_after (if_ok answered (log_change setup past client now call)) (if_ok answered (ntf_change setup past client seq now call)) (table (log_setup setup) (past_after setup past client seq now call answered).log).streams (alarms_stored setup past)
alarms-called setup past client seq now call status.Ok legal = alarms-ok setup past client seq now call legal
alarms-called setup past client seq now call _ legal = refl

-- What is kept after one more entry of a history is what the entry makes of what was kept before.
use Rattle.std.proofs.Common.{◌≡◌, ℕ, ◌+◌, List, [], ◌∷◌, length, map, refl, ap, sym, ◌∙◌, arith}
use Rattle.std.specs.Prelude.{ℤ, Option}
use Rattle.std.specs.Option.{option_map_or}
use Rattle.ais_values.specs.declared.status.Status.{Status}
use Rattle.ais_values.specs.declared.status.Status.TheVariants as status
use Rattle.stream_config.specs.declared.event.StreamEvent.{StreamEvent}
use Rattle.alarm_view.specs.declared.alarm.KeptAlarm.{KeptAlarm}
use Rattle.calls.specs.declared.call.Call.{Call}
use Rattle.calls.specs.declared.entry.Entry.{Entry}
use Rattle.calls.specs.declared.entry.Entry.TheVariants.{Called, Receipted}
use Rattle.calls.specs.declared.saved.SavedReader.{SavedReader}
use Rattle.log_history.specs.Changes.{LogChange}
use Rattle.log_history.specs.Table.{LogTable, table, events_of}
use Rattle.ntf_history.specs.Tables.{NtfTable, table_of}
use Rattle.ntf_history.specs.Readers.{readers}
use Rattle.plain_service.specs.Setups.{Setup, log_setup}
use Rattle.plain_service.specs.Alarms.{alarms_stored}
use Rattle.plain_service.specs.Answers.{status_of}
use Rattle.plain_service.specs.Changing.{log_change, ntf_change, if_ok, past_of}
use Rattle.plain_service.specs.Legal.{IsHistory}
use Rattle.plain_service.specs.Replies.{reply_of, callers}
use Rattle.log_history.specs.Deeds.{deeds_of_all}
use Rattle.plain_service.specs.Storing.{events_by, deeds_of}
use Rattle.plain_service.specs.Values.{saved_reader}
use Rattle.plain_service.proofs.Possible.{possible}
use Rattle.plain_service.proofs.StepLaws.{count-is, log-step, ntf-step, receipt-step}
use Rattle.service_table.specs.declared.caller.ClientWindow.{ClientWindow}
use Rattle.service_table.specs.Tables.{ServiceTable}
use Rattle.service_table.specs.Answering.{status_in, reply_in}
use Rattle.service_table.specs.Steps.{log_change_in, ntf_change_in, logged, notified, alarms_after, readers_after, where_ok, answered, after_call, after_receipt_in, events_in}
use Rattle.service_table.specs.Histories.{caller_of, table_with, service_of}
use Rattle.service_table.proofs.StatusLaws.{status-with, reply-with}
use Rattle.service_table.proofs.ChangeLaws.{log-change, ntf-change}
use Rattle.service_table.proofs.AlarmSteps.{alarms-called}
use Rattle.service_table.proofs.ReaderSteps.{readers-called}
use Rattle.service_table.proofs.WindowSteps.{windows-called}

abbrev of_parts : ℕ → LogTable → NtfTable → List KeptAlarm → List SavedReader → List ClientWindow → ServiceTable
of_parts number log ntf alarms readings windows = record {
  number = number;
  log = log;
  ntf = ntf;
  alarms = alarms;
  readers = readings;
  windows = windows;
}

same_parts : (number number' : ℕ) (log log' : LogTable) (ntf ntf' : NtfTable) (alarms alarms' : List KeptAlarm) (readings readings' : List SavedReader) (windows windows' : List ClientWindow) → number ≡ number' → log ≡ log' → ntf ≡ ntf' → alarms ≡ alarms' → readings ≡ readings' → windows ≡ windows' → of_parts number log ntf alarms readings windows ≡ of_parts number' log' ntf' alarms' readings' windows'
same_parts number number' log log' ntf ntf' alarms alarms' readings readings' windows windows' a b c d e f =
    ap (λ x. of_parts x log ntf alarms readings windows) a
    ∙ ap (λ x. of_parts number' x ntf alarms readings windows) b
    ∙ ap (λ x. of_parts number' log' x alarms readings windows) c
    ∙ ap (λ x. of_parts number' log' ntf' x readings windows) d
    ∙ ap (λ x. of_parts number' log' ntf' alarms' x windows) e
    ∙ ap (λ x. of_parts number' log' ntf' alarms' readings' x) f

-- a change counts where the answer is ok
changed-same : (answered : Status) (one other : Option LogChange) → (answered ≡ status.Ok → one ≡ other) → if_ok answered one ≡ if_ok answered other
changed-same status.Ok one other same = same refl
changed-same _ one other same = refl

module _ (setup : Setup) (entries : List Entry) (history : IsHistory setup entries) where
  pub reply-is : (client : ℕ) (now : ℤ) (call : Call) → reply_in (service_of setup entries) client now call ≡ reply_of setup entries client now call
  unfolding service_of reply_of
  reply-is client now call = reply-with setup entries (past_of setup entries) (possible setup entries history).log (count-is setup entries) client now call

  log-changed : (client : ℕ) (now : ℤ) (call : Call) → if_ok (status_in (table_with setup entries (past_of setup entries)) client now call) (log_change_in (table_with setup entries (past_of setup entries)) client now call) ≡ if_ok (status_of setup (past_of setup entries) client now call) (log_change setup (past_of setup entries) client now call)
  log-changed client now call =
      let past = past_of setup entries in
      ap (λ status. if_ok status (log_change_in (table_with setup entries past) client now call)) (status-with setup entries past (possible setup entries history).log client now call)
      ∙ changed-same (status_of setup past client now call) _ _ (log-change setup entries past (possible setup entries history).log (count-is setup entries) client now call)

  ntf-changed : (client seq : ℕ) (now : ℤ) (call : Call) → if_ok (status_in (table_with setup entries (past_of setup entries)) client now call) (ntf_change_in (table_with setup entries (past_of setup entries)) client seq now call) ≡ if_ok (status_of setup (past_of setup entries) client now call) (ntf_change setup (past_of setup entries) client seq now call)
  ntf-changed client seq now call =
      let past = past_of setup entries in
      ap (λ status. if_ok status (ntf_change_in (table_with setup entries past) client seq now call)) (status-with setup entries past (possible setup entries history).log client now call)
      ∙ ap (if_ok (status_of setup past client now call)) (ntf-change setup entries past client seq now call)

  -- what an entry does to streams
  pub events-is : (client seq : ℕ) (now : ℤ) (call : Call) → events_in (service_of setup entries) client now call ≡ events_by setup (past_of setup entries) (Called client seq now call)
  unfolding service_of
  events-is client seq now call =
      let past = past_of setup entries in
      let nothing : List StreamEvent = [] in
      ap (λ change. option_map_or (λ c. events_of c (table (log_setup setup) past.log)) change nothing) (log-changed client now call)

  pub deeds-is : (client seq : ℕ) (now : ℤ) (call : Call) → deeds_of_all (events_in (service_of setup entries) client now call) ≡ deeds_of setup entries (Called client seq now call)
  unfolding deeds_of
  deeds-is client seq now call = ap deeds_of_all (events-is client seq now call)

-- **a call**
pub call-step : (setup : Setup) (client seq : ℕ) (now : ℤ) (call : Call) (entries : List Entry) → IsHistory setup (Called client seq now call ∷ entries) → service_of setup (Called client seq now call ∷ entries) ≡ after_call (service_of setup entries) client seq now call
unfolding service_of reply_of
call-step setup client seq now call entries history =
    let past = past_of setup entries in
    let later = past_of setup (Called client seq now call ∷ entries) in
    let kept = table_with setup entries past in
    let status = status_of setup past client now call in
    let old = status-with setup entries past (possible setup entries history.1).log client now call in
    let changing = log-changed setup entries history.1 client now call in
    let sending = ntf-changed setup entries history.1 client seq now call in
    let log_is : table (log_setup setup) later.log ≡ logged (if_ok (status_in kept client now call) (log_change_in kept client now call)) kept.log =
    log-step setup (Called client seq now call) entries history ∙ ap (λ change. logged change kept.log) (sym changing) in
    let ntf_is : table_of setup.capacity later.ntf ≡ notified (if_ok (status_in kept client now call) (ntf_change_in kept client seq now call)) kept.ntf =
    ntf-step setup client seq now call entries history ∙ ap (λ change. notified change kept.ntf) (sym sending) in
    let alarms_are : alarms_stored setup later ≡ alarms_after (if_ok (status_in kept client now call) (log_change_in kept client now call)) (if_ok (status_in kept client now call) (ntf_change_in kept client seq now call)) (logged (if_ok (status_in kept client now call) (log_change_in kept client now call)) kept.log).streams kept.alarms =
    alarms-called setup past client seq now call status (possible setup entries history.1).log
    ∙ ap (λ change. alarms_after change (if_ok status (ntf_change setup past client seq now call)) (table (log_setup setup) later.log).streams kept.alarms) (sym changing)
    ∙ ap (λ change. alarms_after (if_ok (status_in kept client now call) (log_change_in kept client now call)) change (table (log_setup setup) later.log).streams kept.alarms) (sym sending)
    ∙ ap (λ (log : LogTable). alarms_after (if_ok (status_in kept client now call) (log_change_in kept client now call)) (if_ok (status_in kept client now call) (ntf_change_in kept client seq now call)) log.streams kept.alarms) log_is in
    let readers_are : map saved_reader (readers later.readings) ≡ where_ok (status_in kept client now call) (readers_after kept.alarms client call kept.readers) kept.readers =
    readers-called setup past client call status
    ∙ ap (λ s. where_ok s (readers_after kept.alarms client call kept.readers) kept.readers) (sym old) in
    let windows_are : map (caller_of setup (Called client seq now call ∷ entries)) (callers (Called client seq now call ∷ entries)) ≡ answered client (reply_in kept client now call) kept.windows =
    windows-called setup client seq now call entries
    ∙ ap (λ reply. answered client reply kept.windows) (sym (reply-with setup entries past (possible setup entries history.1).log (count-is setup entries) client now call)) in
    let number_is : length (Called client seq now call ∷ entries) ≡ length entries + 1 = omega arith in
    same_parts _ _ _ _ _ _ _ _ _ _ _ _ number_is log_is ntf_is alarms_are readers_are windows_are

-- **a receipt**
pub receipt-taken : (setup : Setup) (client key through : ℕ) (now : ℤ) (entries : List Entry) → IsHistory setup (Receipted client key through now ∷ entries) → service_of setup (Receipted client key through now ∷ entries) ≡ after_receipt_in (service_of setup entries) client key through
unfolding service_of
receipt-taken setup client key through now entries history =
    let past = past_of setup entries in
    let kept = table_with setup entries past in
    let number_is : length (Receipted client key through now ∷ entries) ≡ length entries + 1 = omega arith in
    same_parts _ _ kept.log kept.log _ _ kept.alarms kept.alarms kept.readers kept.readers kept.windows kept.windows number_is refl (receipt-step setup client key through now entries history) refl refl refl

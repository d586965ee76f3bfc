-- What a call changes, read of what is kept of a history, is what it changes after the history.
use Rattle.std.proofs.Common.{◌≡◌, ℕ, ◌+◌, cond, List, length, refl, ap, sym, ◌∙◌}
use Rattle.std.specs.Prelude.{Option, Some, None, ℤ}
use Rattle.ais_values.specs.declared.status.Status.TheVariants as status
use Rattle.stream_config.specs.declared.attrs.StreamAttrs.{StreamAttrs}
use Rattle.stream_config.specs.declared.mark.Mark.{Mark}
use Rattle.calls.specs.declared.call.Call.{Call}
use Rattle.calls.specs.declared.call.Call.TheVariants.{LogInit, LogOpen, LogWrite, LogFilter, LogClose, LogFini, NtfInit, NtfSend, NtfSubscribe, NtfUnsubscribe, ReaderStart, ReaderRead, ReaderEnd, NtfFini}
use Rattle.calls.specs.declared.entry.Entry.{Entry}
use Rattle.log_history.specs.Changes.{LogChange as log}
use Rattle.log_history.specs.KeptAnswers.{making_in}
use Rattle.log_history.specs.Legal.{IsLogHistory}
use Rattle.log_history.specs.Marks.{is_filtered}
use Rattle.log_history.specs.Table.{table}
use Rattle.log_history.specs.Times.{second_of, record_at}
use Rattle.log_history.proofs.KeptLaws as kept
use Rattle.ntf_history.specs.Changes.{NtfChange as ntf}
use Rattle.plain_service.specs.Setups.{Setup, log_setup}
use Rattle.plain_service.specs.Pasts.{Past}
use Rattle.plain_service.specs.Alarms.{accepted_notification, stream_for}
use Rattle.plain_service.specs.Answers.{status_of}
use Rattle.plain_service.specs.Changing.{log_change, ntf_change}
use Rattle.service_table.specs.Steps.{log_change_in, ntf_change_in}
use Rattle.service_table.specs.Histories.{table_with}
use Rattle.service_table.proofs.StatusLaws.{taken-kept, written-lives}

module _ (setup : Setup) (entries : List Entry) (past : Past) where
  -- of a call that is answered ok
  pub log-change : IsLogHistory (log_setup setup) past.log → past.number ≡ length entries → (client : ℕ) (now : ℤ) (call : Call) → status_of setup past client now call ≡ status.Ok → log_change_in (table_with setup entries past) client now call ≡ log_change setup past client now call
  log-change legal counted client now (LogOpen name create) ok =
      ap (λ number. Some (log.Opened client name (making_in (table (log_setup setup) past.log).streams name create) (second_of now) (number + 1))) (sym counted)
      ∙ ap (λ (making : Option StreamAttrs). Some (log.Opened client name making (second_of now) (past.number + 1))) (kept.making-in (log_setup setup) past.log name create)
  log-change legal counted client now (LogWrite name invocation flags time header body) ok =
      ap (λ (mark : Mark). cond (is_filtered mark.mask header) None (Some (log.Stored name (record_at time header body now) (second_of now))))
      (kept.kept-mark (log_setup setup) past.log name (written-lives setup entries past legal client now name invocation flags time header body ok))
  log-change legal counted client now (LogFilter name mask) ok = ap (λ number. Some (log.Filtered client name mask (number + 1))) (sym counted)
  log-change legal counted client now LogInit ok = refl
  log-change legal counted client now (LogClose name) ok = refl
  log-change legal counted client now LogFini ok = refl
  log-change legal counted client now NtfInit ok = refl
  log-change legal counted client now (NtfSend notification) ok = refl
  log-change legal counted client now (NtfSubscribe id filters) ok = refl
  log-change legal counted client now (NtfUnsubscribe id) ok = refl
  log-change legal counted client now (ReaderStart mode value filters) ok = refl
  log-change legal counted client now (ReaderRead direction) ok = refl
  log-change legal counted client now ReaderEnd ok = refl
  log-change legal counted client now NtfFini ok = refl

  pub ntf-change : (client seq : ℕ) (now : ℤ) (call : Call) → ntf_change_in (table_with setup entries past) client seq now call ≡ ntf_change setup past client seq now call
  ntf-change client seq now (NtfSend notification) =
      ap (λ (number : ℕ). Some (ntf.Sent (accepted_notification past now notification) number)) (taken-kept setup entries past (stream_for notification.body))
  ntf-change client seq now LogInit = refl
  ntf-change client seq now (LogOpen name create) = refl
  ntf-change client seq now (LogWrite name invocation flags time header body) = refl
  ntf-change client seq now (LogFilter name mask) = refl
  ntf-change client seq now (LogClose name) = refl
  ntf-change client seq now LogFini = refl
  ntf-change client seq now NtfInit = refl
  ntf-change client seq now (NtfSubscribe id filters) = refl
  ntf-change client seq now (NtfUnsubscribe id) = refl
  ntf-change client seq now (ReaderStart mode value filters) = refl
  ntf-change client seq now (ReaderRead direction) = refl
  ntf-change client seq now ReaderEnd = refl
  ntf-change client seq now NtfFini = refl

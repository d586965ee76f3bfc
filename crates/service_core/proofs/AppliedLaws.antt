-- What an entry makes of a service, by what a call made of its parts.
use Rattle.std.proofs.Common.{◌≡◌, ℕ, ◌+◌, List, [], refl, ap, sym, ◌∙◌}
use Rattle.std.specs.Prelude.{Option, ℤ}
use Rattle.std.specs.Option.{option_map_or}
use Rattle.ais_values.specs.declared.status.Status.{Status}
use Rattle.calls.specs.declared.call.Call.{Call}
use Rattle.calls.specs.declared.call.Call.TheVariants.{LogInit, LogOpen, LogWrite, LogFilter, LogClose, LogFini, NtfInit, NtfSend, NtfSubscribe, NtfUnsubscribe, ReaderStart, ReaderRead, ReaderEnd, NtfFini}
use Rattle.stream_config.specs.declared.event.StreamEvent.{StreamEvent}
use Rattle.log_history.specs.Changes.{LogChange}
use Rattle.log_history.specs.Table.{events_of}
use Rattle.ntf_history.specs.Changes.{NtfChange}
use Rattle.plain_service.specs.Changing.{if_ok}
use Rattle.plain_service.specs.Replies.{reply_by}
use Rattle.service_table.specs.declared.caller.ClientWindow.{ClientWindow}
use Rattle.service_table.specs.Tables.{ServiceTable}
use Rattle.service_table.specs.Answering.{status_in, told_in, reply_in}
use Rattle.service_core.specs.declared.parts.Parts.{Parts}
use Rattle.service_core.specs.declared.parts.Acted.{Acted}
use Rattle.service_core.specs.Acting.{table_with_parts, table_of, HasActed}
use Rattle.service_table.specs.Steps.{log_change_in, ntf_change_in, logged, notified, alarms_after, readers_after, where_ok, answered, changed, replied, after_call, events_in}

-- the same parts with another number of entries and other windows
abbrev pub with_rest : ℕ → List ClientWindow → ServiceTable → ServiceTable
with_rest number windows kept = record {
  number = number;
  log = kept.log;
  ntf = kept.ntf;
  alarms = kept.alarms;
  readers = kept.readers;
  windows = windows;
}

-- the same parts with other windows
abbrev pub with_windows : List ClientWindow → ServiceTable → ServiceTable
with_windows windows kept = with_rest kept.number windows kept

module _ (windows : List ClientWindow) (kept : ServiceTable) where
  pub same-status : (client : ℕ) (moment : ℤ) (call : Call) → status_in (with_windows windows kept) client moment call ≡ status_in kept client moment call
  same-status client moment LogInit = refl
  same-status client moment (LogOpen stream create) = refl
  same-status client moment (LogWrite stream invocation flags time header body) = refl
  same-status client moment (LogClose stream) = refl
  same-status client moment LogFini = refl
  same-status client moment NtfInit = refl
  same-status client moment (NtfSend notification) = refl
  same-status client moment (NtfSubscribe id filters) = refl
  same-status client moment (NtfUnsubscribe id) = refl
  same-status client moment (ReaderStart mode value filters) = refl
  same-status client moment (ReaderRead direction) = refl
  same-status client moment ReaderEnd = refl
  same-status client moment NtfFini = refl
  same-status client moment (LogFilter stream mask) = refl

  pub same-told : (client : ℕ) (call : Call) → told_in (with_windows windows kept) client call ≡ told_in kept client call
  same-told client LogInit = refl
  same-told client (LogOpen stream create) = refl
  same-told client (LogWrite stream invocation flags time header body) = refl
  same-told client (LogClose stream) = refl
  same-told client LogFini = refl
  same-told client NtfInit = refl
  same-told client (NtfSend notification) = refl
  same-told client (NtfSubscribe id filters) = refl
  same-told client (NtfUnsubscribe id) = refl
  same-told client (ReaderStart mode value filters) = refl
  same-told client (ReaderRead direction) = refl
  same-told client ReaderEnd = refl
  same-told client NtfFini = refl
  same-told client (LogFilter stream mask) = refl

  pub same-log : (client : ℕ) (moment : ℤ) (call : Call) → log_change_in (with_windows windows kept) client moment call ≡ log_change_in kept client moment call
  same-log client moment LogInit = refl
  same-log client moment (LogOpen stream create) = refl
  same-log client moment (LogWrite stream invocation flags time header body) = refl
  same-log client moment (LogClose stream) = refl
  same-log client moment LogFini = refl
  same-log client moment NtfInit = refl
  same-log client moment (NtfSend notification) = refl
  same-log client moment (NtfSubscribe id filters) = refl
  same-log client moment (NtfUnsubscribe id) = refl
  same-log client moment (ReaderStart mode value filters) = refl
  same-log client moment (ReaderRead direction) = refl
  same-log client moment ReaderEnd = refl
  same-log client moment NtfFini = refl
  same-log client moment (LogFilter stream mask) = refl

  pub same-ntf : (client seq : ℕ) (moment : ℤ) (call : Call) → ntf_change_in (with_windows windows kept) client seq moment call ≡ ntf_change_in kept client seq moment call
  same-ntf client seq moment LogInit = refl
  same-ntf client seq moment (LogOpen stream create) = refl
  same-ntf client seq moment (LogWrite stream invocation flags time header body) = refl
  same-ntf client seq moment (LogClose stream) = refl
  same-ntf client seq moment LogFini = refl
  same-ntf client seq moment NtfInit = refl
  same-ntf client seq moment (NtfSend notification) = refl
  same-ntf client seq moment (NtfSubscribe id filters) = refl
  same-ntf client seq moment (NtfUnsubscribe id) = refl
  same-ntf client seq moment (ReaderStart mode value filters) = refl
  same-ntf client seq moment (ReaderRead direction) = refl
  same-ntf client seq moment ReaderEnd = refl
  same-ntf client seq moment NtfFini = refl
  same-ntf client seq moment (LogFilter stream mask) = refl

  pub same-reply : (client : ℕ) (moment : ℤ) (call : Call) → reply_in (with_windows windows kept) client moment call ≡ reply_in kept client moment call
  same-reply client moment call =
      ap (λ s. reply_by s (told_in (with_windows windows kept) client call)) (same-status client moment call)
      ∙ ap (reply_by (status_in kept client moment call)) (same-told client call)

  pub same-events : (client : ℕ) (moment : ℤ) (call : Call) → events_in (with_windows windows kept) client moment call ≡ events_in kept client moment call
  same-events client moment call =
      let done = λ (change : Option LogChange). let nothing : List StreamEvent = [] in option_map_or (λ c. events_of c kept.log) change nothing in
      ap (λ s. done (if_ok s (log_change_in (with_windows windows kept) client moment call))) (same-status client moment call)
      ∙ ap (λ change. done (if_ok (status_in kept client moment call) change)) (same-log client moment call)

  abbrev changed_parts : Option LogChange → Option NtfChange → (client : ℕ) → Call → Status → ServiceTable
  changed_parts log_change ntf_change client call answer = record {
    number = kept.number;
    log = logged log_change kept.log;
    ntf = notified ntf_change kept.ntf;
    alarms = alarms_after log_change ntf_change (logged log_change kept.log).streams kept.alarms;
    readers = where_ok answer (readers_after kept.alarms client call kept.readers) kept.readers;
    windows = windows;
  }

  -- what a call changes does not depend on the rest
  pub same-changed : (client seq : ℕ) (moment : ℤ) (call : Call) (answer : Status) → changed (with_windows windows kept) client seq moment call answer ≡ with_windows windows (changed kept client seq moment call answer)
  same-changed client seq moment call answer =
      ap (λ c. changed_parts (if_ok answer c) (if_ok answer (ntf_change_in (with_windows windows kept) client seq moment call)) client call answer) (same-log client moment call)
      ∙ ap (λ c. changed_parts (if_ok answer (log_change_in kept client moment call)) (if_ok answer c) client call answer) (same-ntf client seq moment call)

-- **a service after a call**
pub after-acted : (windows : List ClientWindow) (kept later : ServiceTable) (client seq : ℕ) (moment : ℤ) (call : Call) → later ≡ changed kept client seq moment call (status_in kept client moment call) → with_rest (kept.number + 1) (answered client (reply_in kept client moment call) windows) later ≡ after_call (with_windows windows kept) client seq moment call
after-acted windows kept later client seq moment call is =
    let whole = with_windows windows kept in
    let step : changed whole client seq moment call (status_in whole client moment call) ≡ with_windows windows later =
    ap (changed whole client seq moment call) (same-status windows kept client moment call)
    ∙ same-changed windows kept client seq moment call (status_in kept client moment call)
    ∙ ap (with_windows windows) (sym is) in
    let count : later.number ≡ kept.number = ap (λ (t : ServiceTable). t.number) is in
    ap (λ n. with_rest (n + 1) (answered client (reply_in kept client moment call) windows) later) (sym count)
    ∙ ap (λ reply. replied client reply (with_windows windows later)) (sym (same-reply windows kept client moment call))
    ∙ ap (replied client (reply_in whole client moment call)) (sym step)

-- what an entry makes of a service, by what its call made of the parts
pub acted-now : (parts later : Parts) (windows given : List ClientWindow) (client seq : ℕ) (moment : ℤ) (call : Call) (acted : Acted) → HasActed (table_of parts) client seq moment call (table_of later) acted → given ≡ answered client acted.told.kept windows → table_with_parts (parts.number + 1) later given ≡ after_call (table_with_parts parts.number parts windows) client seq moment call
acted-now parts later windows given client seq moment call acted has is =
    ap (table_with_parts (parts.number + 1) later) (is ∙ ap (λ reply. answered client reply windows) has.told.kept)
    ∙ after-acted windows (table_of parts) (table_of later) client seq moment call has.now

-- A call or a receipt leaves a fit value.
use Rattle.std.proofs.Common.{◌≡◌, ℕ, ◌+◌, ◌<◌, ◌≤◌, Bool, true, false, cond, refl, arith}
use Rattle.std.specs.Prelude.{Option, Some, None, ℤ}
use Rattle.ais_values.specs.declared.status.Status.{Status}
use Rattle.ais_values.specs.declared.status.Status.TheVariants as status
use Rattle.client_set.specs.Members.{has}
use Rattle.log_history.specs.Changes.{LogChange, Opened}
use Rattle.log_history.specs.KeptAnswers.{is_filled, kept_mark, making_in}
use Rattle.log_history.specs.Marks.{is_filtered}
use Rattle.log_history.specs.Stamps.{second_in}
use Rattle.log_history.specs.Times.{second_of, record_at}
use Rattle.log_history.specs.Table.{LogTable}
use Rattle.ntf_types.specs.SoundTests.{is_sound}
use Rattle.ntf_history.specs.Changes.{NtfChange}
use Rattle.ntf_history.specs.Changes.NtfChange.{Receipted}
use Rattle.calls.specs.declared.call.Call.{Call}
use Rattle.calls.specs.declared.call.Call.TheVariants.{LogInit, LogOpen, LogWrite, LogFilter, LogClose, LogFini, NtfInit, NtfSend, NtfSubscribe, NtfUnsubscribe, ReaderStart, ReaderRead, ReaderEnd, NtfFini}
use Rattle.calls.specs.declared.reply.Reply.{Reply}
use Rattle.plain_service.specs.Setups.{IsMoment}
use Rattle.plain_service.specs.Alarms.{stream_for, record_for}
use Rattle.plain_service.specs.Fitness.{IsFit}
use Rattle.plain_service.specs.Legal.{IsClient}
use Rattle.plain_service.proofs.HistoryEvents.{second-bound}
use Rattle.plain_service.proofs.OkAnswers.{send-ok}
use Rattle.service_table.specs.Tables.{ServiceTable, saved_table}
use Rattle.service_table.specs.Answering.{accepted_in, status_in, reply_in}
use Rattle.service_table.specs.Steps.{log_change_in, ntf_change_in, logged, notified, alarms_after, window_for, answered, changed, replied, after_call, after_receipt_in}
use Rattle.service_fit.specs.Laws.{CanGoOn, CanComeNext}
use Rattle.service_fit.proofs.AlarmsFit.{AreFitAlarms, alarms-same, alarms-written, alarms-sent}
use Rattle.service_fit.proofs.LogFit.{IsFitInside, alarm-first}
use Rattle.service_fit.proofs.LogSteps.{IsEntered, same-log, fit-log}
use Rattle.service_fit.proofs.NtfFit.{IsFitNtf, ntf-same, fit-ntf}
use Rattle.service_fit.proofs.OkCalls.{CanOption, JoinsOption, NotifiesOption, call-can, call-joins, call-notifies}
use Rattle.service_fit.proofs.ReadersFit.{fit-readers}
use Rattle.service_fit.proofs.ValueFit.{IsFitTable, table-of, value-of}
use Rattle.service_fit.proofs.WindowsFit.{called-later, callers-later, callers-answered}

-- the log

-- a change comes at such a second, by such an entry
abbrev IsTimely : (number : ℕ) → Option LogChange → Type 0
IsTimely number None = Unit {0}
IsTimely number (Some change) = (second_in change ≤ 9000000000) × IsEntered number change

timely-call : (kept : ServiceTable) (client : ℕ) (now : ℤ) (call : Call) → second_of now ≤ 9000000000 → IsTimely (kept.number + 1) (log_change_in kept client now call)
timely-call kept client now LogInit early = (omega arith, tt)
timely-call kept client now (LogOpen stream create) early = (early, omega arith)
timely-call kept client now (LogWrite stream invocation flags time header body) early =
    by_case (is_filtered (kept_mark kept.log.streams stream).mask header) where
      by_case : (filtered : Bool) → IsTimely (kept.number + 1) (cond filtered None (Some (LogChange.Stored stream (record_at time header body now) (second_of now))))
      by_case true = tt
      by_case false = (early, tt)
timely-call kept client now (LogFilter stream mask) early = (omega arith, omega arith)
timely-call kept client now (LogClose stream) early = (early, tt)
timely-call kept client now LogFini early = (early, tt)
timely-call kept client now NtfInit early = tt
timely-call kept client now (NtfSend notification) early = (early, tt)
timely-call kept client now (NtfSubscribe id filters) early = tt
timely-call kept client now (NtfUnsubscribe id) early = tt
timely-call kept client now (ReaderStart mode value filters) early = tt
timely-call kept client now (ReaderRead direction) early = tt
timely-call kept client now ReaderEnd early = tt
timely-call kept client now NtfFini early = tt

fit-logged : (number : ℕ) (kept : LogTable) (change : Option LogChange) → IsTimely (number + 1) change → CanOption kept change → JoinsOption kept change → IsFitInside number kept → IsFitInside (number + 1) (logged change kept)
fit-logged number kept None timely can joins fit = same-log number kept fit
fit-logged number kept (Some change) timely can joins fit = fit-log number kept fit change timely.0 can joins timely.1

-- the notifications

fit-notified : (kept : ServiceTable) (client : ℕ) (reply : Reply) (change : Option NtfChange) → kept.number ≤ 4000000000 → NotifiesOption kept.ntf (answered client reply kept.windows) change → IsFitNtf kept.number kept.windows kept.ntf → IsFitNtf (kept.number + 1) (answered client reply kept.windows) (notified change kept.ntf)
fit-notified kept client reply None few can fit =
    ntf-same kept.number few kept.windows (answered client reply kept.windows) (called-later client reply kept.windows) kept.ntf fit
fit-notified kept client reply (Some change) few can fit =
    fit-ntf kept.number few kept.windows (answered client reply kept.windows) (called-later client reply kept.windows) kept.ntf fit change can

-- the alarms

fit-alarms : (kept : ServiceTable) (client seq : ℕ) (now : ℤ) (call : Call) → IsFitTable kept → IsMoment now → status_in kept client now call ≡ status.Ok → let later = logged (log_change_in kept client now call) kept.log in IsFitInside (kept.number + 1) later → AreFitAlarms later.streams (notified (ntf_change_in kept client seq now call) kept.ntf).last_id (alarms_after (log_change_in kept client now call) (ntf_change_in kept client seq now call) later.streams kept.alarms)
fit-alarms kept client seq now LogInit fit moment ok log = fit.alarms
fit-alarms kept client seq now (LogOpen stream create) fit moment ok log =
    alarms-same kept.log (Opened client stream (making_in kept.log.streams stream create) (second_of now) (kept.number + 1)) kept.ntf.last_id kept.alarms fit.log.order tt fit.alarms
fit-alarms kept client seq now (LogWrite stream invocation flags time header body) fit moment ok log =
    by_case (is_filtered (kept_mark kept.log.streams stream).mask header) log where
      by_case : (filtered : Bool) → IsFitInside (kept.number + 1) (logged (cond filtered None (Some (LogChange.Stored stream (record_at time header body now) (second_of now)))) kept.log) → AreFitAlarms (logged (cond filtered None (Some (LogChange.Stored stream (record_at time header body now) (second_of now)))) kept.log).streams kept.ntf.last_id (alarms_after (cond filtered None (Some (LogChange.Stored stream (record_at time header body now) (second_of now)))) None (logged (cond filtered None (Some (LogChange.Stored stream (record_at time header body now) (second_of now)))) kept.log).streams kept.alarms)
      by_case true later = fit.alarms
      by_case false later =
          alarms-written kept.log stream (record_at time header body now) (second_of now) kept.ntf.last_id kept.alarms
          (alarm-first (kept.number + 1) (logged (Some (LogChange.Stored stream (record_at time header body now) (second_of now))) kept.log) later) fit.alarms
fit-alarms kept client seq now (LogFilter stream mask) fit moment ok log =
    alarms-same kept.log (LogChange.Filtered client stream mask (kept.number + 1)) kept.ntf.last_id kept.alarms fit.log.order tt fit.alarms
fit-alarms kept client seq now (LogClose stream) fit moment ok log =
    alarms-same kept.log (LogChange.Closed client stream (second_of now)) kept.ntf.last_id kept.alarms fit.log.order tt fit.alarms
fit-alarms kept client seq now LogFini fit moment ok log =
    alarms-same kept.log (LogChange.Ended client (second_of now)) kept.ntf.last_id kept.alarms fit.log.order tt fit.alarms
fit-alarms kept client seq now (NtfSend notification) fit moment ok log =
    let told = send-ok (has client kept.ntf.users) (is_sound notification) (is_filled kept.log.streams (stream_for notification.body) (record_for now (accepted_in kept.ntf now notification))) ok in
    alarms-sent kept now notification kept.number fit.few moment told.1 (alarm-first kept.number kept.log fit.log)
    (alarm-first (kept.number + 1) (logged (log_change_in kept client now (NtfSend notification)) kept.log) log) fit.log.each fit.alarms
fit-alarms kept client seq now NtfInit fit moment ok log = fit.alarms
fit-alarms kept client seq now (NtfSubscribe id filters) fit moment ok log = fit.alarms
fit-alarms kept client seq now (NtfUnsubscribe id) fit moment ok log = fit.alarms
fit-alarms kept client seq now (ReaderStart mode value filters) fit moment ok log = fit.alarms
fit-alarms kept client seq now (ReaderRead direction) fit moment ok log = fit.alarms
fit-alarms kept client seq now ReaderEnd fit moment ok log = fit.alarms
fit-alarms kept client seq now NtfFini fit moment ok log = fit.alarms

-- the whole

module _ (kept : ServiceTable) (client seq : ℕ) (now : ℤ) (call : Call) (reply : Reply) (fit : IsFitTable kept) (few : kept.number < 4000000000) (caller : IsClient client) (moment : IsMoment now) (next : seq ≡ (window_for client kept.windows).next) where
  fit-ok : status_in kept client now call ≡ status.Ok → IsFitTable (replied client reply (changed kept client seq now call status.Ok))
  fit-ok ok =
      let change = log_change_in kept client now call in
      let sent = ntf_change_in kept client seq now call in
      let log = fit-logged kept.number kept.log change (timely-call kept client now call (second-bound now moment)) (call-can kept client now call ok) (call-joins kept client now call caller ok) fit.log in
      record {
        few = omega (arith, few);
        log = log;
        ntf = fit-notified kept client reply sent fit.few (call-notifies kept client seq now call reply caller next ok) fit.ntf;
        alarms = fit-alarms kept client seq now call fit moment ok log;
        readers = fit-readers kept client seq now call caller ok fit.readers;
        windows = callers-answered kept.number client reply kept.windows caller fit.windows;
      }

  fit-refused : IsFitTable (replied client reply kept)
  fit-refused = record {
    few = omega (arith, few);
    log = same-log kept.number kept.log fit.log;
    ntf = fit-notified kept client reply None fit.few tt fit.ntf;
    alarms = fit.alarms;
    readers = fit.readers;
    windows = callers-answered kept.number client reply kept.windows caller fit.windows;
  }

  pub fit-status : (answer : Status) → status_in kept client now call ≡ answer → IsFitTable (replied client reply (changed kept client seq now call answer))
  fit-status status.Ok is = fit-ok is
  fit-status _ is = fit-refused

-- **a call leaves a fit value**
pub fit-call : (kept : ServiceTable) (client seq : ℕ) (now : ℤ) (call : Call) → CanComeNext kept client seq now → IsFit (saved_table (after_call kept client seq now call))
fit-call kept client seq now call can =
    value-of (after_call kept client seq now call)
    (fit-status kept client seq now call (reply_in kept client now call) (table-of kept can.table.queues can.table.fit) can.table.few can.caller can.moment can.next (status_in kept client now call) refl)

-- a receipt
pub fit-received : (kept : ServiceTable) (client key through : ℕ) → IsFitTable kept → kept.number < 4000000000 → IsFitTable (after_receipt_in kept client key through)
fit-received kept client key through fit few = record {
  few = omega (arith, few);
  log = same-log kept.number kept.log fit.log;
  ntf = fit-ntf kept.number fit.few kept.windows kept.windows (λ other number called. called) kept.ntf fit.ntf (Receipted client key through) tt;
  alarms = fit.alarms;
  readers = fit.readers;
  windows = callers-later kept.number kept.windows fit.windows;
}

-- **a receipt leaves a fit value**
pub fit-receipt : (kept : ServiceTable) (client key through : ℕ) → CanGoOn kept → IsFit (saved_table (after_receipt_in kept client key through))
fit-receipt kept client key through can =
    value-of (after_receipt_in kept client key through) (fit-received kept client key through (table-of kept can.queues can.fit) can.few)

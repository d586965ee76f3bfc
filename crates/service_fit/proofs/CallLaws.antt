-- What the parts ask of their calls, and what each call makes of the whole.
use Rattle.std.proofs.Common.{◌≡◌, ◌≢◌, ℕ, ◌<◌, ◌≤◌, List, [], refl, sym, subst, arith}
use Rattle.std.specs.Prelude.{Some, ℤ}
use Rattle.std.specs.Option.{option_map_or}
use Rattle.std.specs.List.{AllByRecursion}
use Rattle.ais_values.specs.declared.status.Status.{Status}
use Rattle.ais_values.specs.declared.status.Status.TheVariants as status
use Rattle.stream_config.specs.declared.attrs.StreamName.{StreamName}
use Rattle.stream_config.specs.declared.event.StreamEvent.{StreamEvent}
use Rattle.stream_layout.specs.Carrying.{IsFitEvent}
use Rattle.log_history.specs.Changes.{LogChange}
use Rattle.log_history.specs.Stamps.{second_in}
use Rattle.log_history.specs.Table.{OpenStream, LogTable, table_after, events_of}
use Rattle.log_history.specs.KeptAnswers.{kept_stream}
use Rattle.ntf_history.specs.Changes.{NtfChange}
use Rattle.ntf_history.specs.Tables.{NtfTable, after_change}
use Rattle.calls.specs.declared.call.Call.{Call}
use Rattle.calls.specs.declared.call.Call.TheVariants.{LogInit, LogOpen, LogWrite, LogFilter, LogClose, LogFini, NtfInit, NtfSend, NtfSubscribe, NtfUnsubscribe, ReaderStart, ReaderRead, ReaderEnd, NtfFini}
use Rattle.plain_service.specs.Setups.{IsMoment}
use Rattle.plain_service.specs.Changing.{if_ok}
use Rattle.service_table.specs.Tables.{ServiceTable}
use Rattle.service_table.specs.Steps.{log_change_in, logged, notified, window_for, changed}
use Rattle.service_fit.specs.Conditions.{CanCallLog, CanCall, with_log}
use Rattle.service_fit.proofs.AlarmsFit.{were-stored}
use Rattle.service_fit.proofs.EventsFit.{find-fit, events-fit}
use Rattle.service_fit.proofs.LogFit.{inside, outside}
use Rattle.service_fit.proofs.LogSteps.{CanChange}
use Rattle.service_fit.proofs.NtfFit.{can-send, key-above}
use Rattle.service_fit.proofs.ValueFit.{IsFitTable}

-- conditions

pub last-bound : (kept : LogTable) (now : ℤ) → CanCallLog kept now → kept.last ≤ 19999999000
last-bound kept now can = omega (arith, (inside can.number kept can.fit).room, can.few)

pub numbers-left : (kept : LogTable) (now : ℤ) (stream : StreamName) → CanCallLog kept now → (s : OpenStream) → kept_stream kept.streams stream ≡ Some s → s.state.taken < 4294967294
numbers-left kept now stream can s is =
    let fit = find-fit kept.last can.number stream kept.streams s (inside can.number kept can.fit).each is in
    omega (arith, fit.taken, can.few)

pub change-fit : (kept : LogTable) (now : ℤ) (change : LogChange) → CanCallLog kept now → second_in change ≤ 9000000000 → CanChange kept change → AllByRecursion IsFitEvent (events_of change kept)
change-fit kept now change can early may = events-fit can.number kept change can.few early may (inside can.number kept can.fit)

-- **what a call asks of all parts**
pub call-can-come : (kept : ServiceTable) (client seq : ℕ) (now : ℤ) → IsFitTable kept → kept.number < 4000000000 → IsMoment now → seq ≡ (window_for client kept.windows).next → CanCall kept client seq now
call-can-come kept client seq now fit few moment next = record {
  log = record { number = kept.number; few = few; fit = outside kept.number kept.log fit.log; moment = moment };
  sending = can-send kept.number kept.windows kept.ntf fit.few fit.ntf;
  key = key-above kept.number client seq kept.windows kept.ntf.users kept.ntf.subs next fit.ntf.each;
  alarms = were-stored kept.log.streams kept.ntf.last_id kept.alarms fit.alarms;
}

-- by the status of a call

pub logged-by : (answered : Status) (change : LogChange) (kept later : LogTable) → (answered ≡ status.Ok → later ≡ table_after change kept) → (answered ≢ status.Ok → later ≡ kept) → later ≡ logged (if_ok answered (Some change)) kept
logged-by status.Ok change kept later ok refused = ok refl
logged-by _ change kept later ok refused = refused (λ e. cc)

pub notified-by : (answered : Status) (change : NtfChange) (kept later : NtfTable) → (answered ≡ status.Ok → later ≡ after_change change kept) → (answered ≢ status.Ok → later ≡ kept) → later ≡ notified (if_ok answered (Some change)) kept
notified-by status.Ok change kept later ok refused = ok refl
notified-by _ change kept later ok refused = refused (λ e. cc)

pub events-by : (answered : Status) (change : LogChange) (kept : LogTable) (events : List StreamEvent) → (answered ≡ status.Ok → events ≡ events_of change kept) → (answered ≢ status.Ok → events ≡ []) → events ≡ option_map_or (λ c. events_of c kept) (if_ok answered (Some change)) []
events-by status.Ok change kept events ok refused = ok refl
events-by _ change kept events ok refused = refused (λ e. cc)

pub fit-by : (answered : Status) (change : LogChange) (kept : LogTable) (events : List StreamEvent) → (answered ≡ status.Ok → events ≡ events_of change kept) → (answered ≢ status.Ok → events ≡ []) → (answered ≡ status.Ok → AllByRecursion IsFitEvent (events_of change kept)) → AllByRecursion IsFitEvent events
fit-by status.Ok change kept events ok refused fit = subst (AllByRecursion IsFitEvent) (sym (ok refl)) (fit refl)
fit-by _ change kept events ok refused fit = let none : events ≡ [] = refused (λ e. cc) in subst (AllByRecursion IsFitEvent) (sym none) tt

-- calls that change the log alone
abbrev pub IsLogOnly : Call → Type 0
IsLogOnly LogInit = Unit {0}
IsLogOnly (LogOpen stream create) = Unit {0}
IsLogOnly (LogFilter stream mask) = Unit {0}
IsLogOnly (LogClose stream) = Unit {0}
IsLogOnly LogFini = Unit {0}
IsLogOnly _ = ⊥

log-ok : (kept : ServiceTable) (client seq : ℕ) (now : ℤ) (call : Call) → IsLogOnly call → with_log kept (logged (log_change_in kept client now call) kept.log) ≡ changed kept client seq now call status.Ok
log-ok kept client seq now LogInit alone = refl
log-ok kept client seq now (LogOpen stream create) alone = refl
log-ok kept client seq now (LogFilter stream mask) alone = refl
log-ok kept client seq now (LogClose stream) alone = refl
log-ok kept client seq now LogFini alone = refl
log-ok kept client seq now (LogWrite stream invocation flags time header body) alone = absurd alone
log-ok kept client seq now NtfInit alone = absurd alone
log-ok kept client seq now (NtfSend notification) alone = absurd alone
log-ok kept client seq now (NtfSubscribe id filters) alone = absurd alone
log-ok kept client seq now (NtfUnsubscribe id) alone = absurd alone
log-ok kept client seq now (ReaderStart mode value filters) alone = absurd alone
log-ok kept client seq now (ReaderRead direction) alone = absurd alone
log-ok kept client seq now ReaderEnd alone = absurd alone
log-ok kept client seq now NtfFini alone = absurd alone

pub log-only : (kept : ServiceTable) (client seq : ℕ) (now : ℤ) (call : Call) (answered : Status) → IsLogOnly call → with_log kept (logged (if_ok answered (log_change_in kept client now call)) kept.log) ≡ changed kept client seq now call answered
log-only kept client seq now call status.Ok alone = log-ok kept client seq now call alone
log-only kept client seq now call _ alone = refl

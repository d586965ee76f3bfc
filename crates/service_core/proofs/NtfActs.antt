-- What a call of the Notification Service came to that changes no stream.
use Rattle.std.proofs.Common.{◌≡◌, ℕ, List, [], refl, ap, sym, ◌∙◌}
use Rattle.std.specs.Prelude.{None, ℤ}
use Rattle.std.specs.Option.{option_map_or}
use Rattle.ais_values.specs.declared.status.Status.{Status}
use Rattle.ais_values.specs.declared.status.Status.TheVariants as status
use Rattle.stream_config.specs.declared.event.StreamEvent.{StreamEvent}
use Rattle.calls.specs.declared.call.Call.{Call}
use Rattle.calls.specs.declared.call.Call.TheVariants.{LogInit, LogOpen, LogWrite, LogFilter, LogClose, LogFini, NtfInit, NtfSend, NtfSubscribe, NtfUnsubscribe, ReaderStart, ReaderRead, ReaderEnd, NtfFini}
use Rattle.calls.specs.declared.reply.Reply.{Reply}
use Rattle.calls.specs.declared.saved.SavedReader.{SavedReader}
use Rattle.log_history.specs.Deeds.{deeds_of_all}
use Rattle.log_history.specs.Table.{LogTable, events_of}
use Rattle.ntf_history.specs.Tables.{NtfTable}
use Rattle.plain_service.specs.Changing.{if_ok}
use Rattle.plain_service.specs.Replies.{reply_by}
use Rattle.service_table.specs.Tables.{ServiceTable}
use Rattle.service_table.specs.Answering.{status_in, told_in}
use Rattle.service_table.specs.Steps.{ntf_change_in, notified, readers_after, where_ok, changed, events_in}
use Rattle.service_parts.specs.Telling.{IsTold}
use Rattle.service_core.specs.declared.parts.Acted.{Acted}
use Rattle.service_core.specs.Acting.{HasActed}

abbrev pub with_ntf : ServiceTable → NtfTable → List SavedReader → ServiceTable
with_ntf kept ntf readers = record {
  number = kept.number;
  log = kept.log;
  ntf = ntf;
  alarms = kept.alarms;
  readers = readers;
  windows = kept.windows;
}

-- calls that change no stream
abbrev pub IsQuiet : Call → Type 0
IsQuiet NtfInit = Unit {0}
IsQuiet (NtfSubscribe id filters) = Unit {0}
IsQuiet (NtfUnsubscribe id) = Unit {0}
IsQuiet NtfFini = Unit {0}
IsQuiet (ReaderStart mode value filters) = Unit {0}
IsQuiet (ReaderRead direction) = Unit {0}
IsQuiet ReaderEnd = Unit {0}
IsQuiet _ = ⊥

quiet-ok : (kept : ServiceTable) (client seq : ℕ) (moment : ℤ) (call : Call) → IsQuiet call → with_ntf kept (notified (ntf_change_in kept client seq moment call) kept.ntf) (readers_after kept.alarms client call kept.readers) ≡ changed kept client seq moment call status.Ok
quiet-ok kept client seq moment NtfInit quiet = refl
quiet-ok kept client seq moment (NtfSubscribe id filters) quiet = refl
quiet-ok kept client seq moment (NtfUnsubscribe id) quiet = refl
quiet-ok kept client seq moment NtfFini quiet = refl
quiet-ok kept client seq moment (ReaderStart mode value filters) quiet = refl
quiet-ok kept client seq moment (ReaderRead direction) quiet = refl
quiet-ok kept client seq moment ReaderEnd quiet = refl
quiet-ok kept client seq moment LogInit quiet = absurd quiet
quiet-ok kept client seq moment (LogOpen stream create) quiet = absurd quiet
quiet-ok kept client seq moment (LogWrite stream invocation flags time header body) quiet = absurd quiet
quiet-ok kept client seq moment (LogFilter stream mask) quiet = absurd quiet
quiet-ok kept client seq moment (LogClose stream) quiet = absurd quiet
quiet-ok kept client seq moment LogFini quiet = absurd quiet
quiet-ok kept client seq moment (NtfSend notification) quiet = absurd quiet

quiet-changed : (kept : ServiceTable) (client seq : ℕ) (moment : ℤ) (call : Call) (answered : Status) → IsQuiet call → with_ntf kept (notified (if_ok answered (ntf_change_in kept client seq moment call)) kept.ntf) (where_ok answered (readers_after kept.alarms client call kept.readers) kept.readers) ≡ changed kept client seq moment call answered
quiet-changed kept client seq moment call status.Ok quiet = quiet-ok kept client seq moment call quiet
quiet-changed kept client seq moment call _ quiet = refl

none-done : (answered : Status) (kept : LogTable) → let nothing : List StreamEvent = [] in option_map_or (λ c. events_of c kept) (if_ok answered None) nothing ≡ nothing
none-done status.Ok kept = refl
none-done _ kept = refl

no-events : (kept : ServiceTable) (client : ℕ) (moment : ℤ) (call : Call) → IsQuiet call → events_in kept client moment call ≡ []
no-events kept client moment NtfInit quiet = none-done (status_in kept client moment NtfInit) kept.log
no-events kept client moment (NtfSubscribe id filters) quiet = none-done (status_in kept client moment (NtfSubscribe id filters)) kept.log
no-events kept client moment (NtfUnsubscribe id) quiet = none-done (status_in kept client moment (NtfUnsubscribe id)) kept.log
no-events kept client moment NtfFini quiet = none-done (status_in kept client moment NtfFini) kept.log
no-events kept client moment (ReaderStart mode value filters) quiet = none-done (status_in kept client moment (ReaderStart mode value filters)) kept.log
no-events kept client moment (ReaderRead direction) quiet = none-done (status_in kept client moment (ReaderRead direction)) kept.log
no-events kept client moment ReaderEnd quiet = none-done (status_in kept client moment ReaderEnd) kept.log
no-events kept client moment LogInit quiet = absurd quiet
no-events kept client moment (LogOpen stream create) quiet = absurd quiet
no-events kept client moment (LogWrite stream invocation flags time header body) quiet = absurd quiet
no-events kept client moment (LogFilter stream mask) quiet = absurd quiet
no-events kept client moment (LogClose stream) quiet = absurd quiet
no-events kept client moment LogFini quiet = absurd quiet
no-events kept client moment (NtfSend notification) quiet = absurd quiet

-- **a call that changes no stream**
pub quiet-acted : (kept : ServiceTable) (client seq : ℕ) (moment : ℤ) (call : Call) (answered : Status) (told : Reply) (later : NtfTable) (readers : List SavedReader) (acted : Acted) → IsQuiet call → answered ≡ status_in kept client moment call → told ≡ told_in kept client call → later ≡ notified (if_ok answered (ntf_change_in kept client seq moment call)) kept.ntf → readers ≡ where_ok answered (readers_after kept.alarms client call kept.readers) kept.readers → IsTold answered told acted.told → acted.deeds ≡ [] → HasActed kept client seq moment call (with_ntf kept later readers) acted
quiet-acted kept client seq moment call answered told later readers acted quiet same tells ntf_is readers_are twice none =
    let plain = ap (λ s. reply_by s told) same ∙ ap (reply_by (status_in kept client moment call)) tells in
    record {
      now = ap (λ n. with_ntf kept n readers) ntf_is ∙ ap (with_ntf kept (notified (if_ok answered (ntf_change_in kept client seq moment call)) kept.ntf)) readers_are ∙ quiet-changed kept client seq moment call answered quiet ∙ ap (changed kept client seq moment call) same;
      told = record { reply = twice.reply ∙ plain; kept = twice.kept ∙ plain };
      deeds = none ∙ ap deeds_of_all (sym (no-events kept client moment call quiet));
    }

-- where nothing changes in a part

pub same-notified : (answered : Status) (kept : NtfTable) → kept ≡ notified (if_ok answered None) kept
same-notified status.Ok kept = refl
same-notified _ kept = refl

pub same-readers : (answered : Status) (readers : List SavedReader) → readers ≡ where_ok answered readers readers
same-readers status.Ok readers = refl
same-readers _ readers = refl

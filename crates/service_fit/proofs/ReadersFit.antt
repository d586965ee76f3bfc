-- The readers of a fit value stay fit.
use Rattle.std.proofs.Common.{◌≡◌, ℕ, ◌<◌, ◌≤◌, ◌==◌, nat_le, nat_lt, true, not, ◌&&◌, List, length, map, refl, arith}
use Rattle.std.specs.Prelude.{ℤ, pos, int_lt, Option, Some, None, is_some, is_none}
use Rattle.std.specs.Option.{option_map_or}
use Rattle.std.specs.List.{AllByRecursion}
use Rattle.std.proofs.lemmas.Bool.{leb-false}
use Rattle.std.proofs.lemmas.List.{length-map}
use Rattle.ais_values.specs.declared.status.Status.TheVariants as status
use Rattle.client_set.specs.Members.{has}
use Rattle.client_set.specs.Rising.{put, without, IsRising}
use Rattle.client_set.proofs.RisingLaws.{IsRising-put, IsRising-without}
use Rattle.ntf_types.specs.declared.notification.Notification.{Notification}
use Rattle.ntf_filters.specs.declared.filter.FilterSet.{FilterSet}
use Rattle.ntf_filters.specs.Fit as filters
use Rattle.ntf_filters.specs.FitTests.{is_fit}
use Rattle.ntf_filters.proofs.Meaning.{is_fit-decides}
use Rattle.alarm_view.specs.Modes.{mode_of}
use Rattle.ntf_history.specs.Rows.{asks_for_alarms, start_by}
use Rattle.ntf_history.proofs.FitLaws.{length-put, length-without}
use Rattle.calls.specs.declared.call.Call.{Call}
use Rattle.calls.specs.declared.call.Call.TheVariants.{LogInit, LogOpen, LogWrite, LogFilter, LogClose, LogFini, NtfInit, NtfSend, NtfSubscribe, NtfUnsubscribe, ReaderStart, ReaderRead, ReaderEnd, NtfFini}
use Rattle.calls.specs.declared.saved.SavedReader.{SavedReader}
use Rattle.plain_service.specs.Fitness.{IsAmong}
use Rattle.plain_service.specs.Legal.{IsClient}
use Rattle.plain_service.proofs.ListLaws.{each-weaker, each-put, each-without, each-mapped}
use Rattle.plain_service.proofs.OkAnswers.{start-ok}
use Rattle.service_table.specs.Tables.{ServiceTable, is_reader_for, reader_for, reader_before}
use Rattle.service_table.specs.Answering.{read_in, status_in}
use Rattle.service_table.specs.Steps.{ntf_change_in, notified, started_at, told_alarm, readers_after}
use Rattle.service_fit.proofs.KeptStreams.{among-put, among-without}
use Rattle.service_fit.proofs.NtfFit.{each-left}
use Rattle.service_fit.proofs.RisingMaps.{rising-mapped}
use Rattle.service_fit.proofs.WindowsFit.{IsOrder-by}

-- a reader of a fit value, by its users
pub record IsFitReaderOf (using : List ℕ) (reader : SavedReader) : Type 0 where
  pub client : IsClient reader.client
  pub user : IsAmong using reader.client
  pub filters : filters.IsFit reader.filters
  pub alarms : asks_for_alarms reader.filters ≡ true

pub record AreFitReaders (using : List ℕ) (readers : List SavedReader) : Type 0 where
  pub order : IsRising reader_before readers
  pub few : length readers ≤ 16
  pub each : AllByRecursion (IsFitReaderOf using) readers

readers-begun : (client : ℕ) (using : List ℕ) (readers : List SavedReader) → AreFitReaders using readers → AreFitReaders (put nat_lt client using) readers
readers-begun client using readers fit = record {
  order = fit.order;
  few = fit.few;
  each = each-weaker (IsFitReaderOf using) (IsFitReaderOf (put nat_lt client using)) (λ reader is. record { client = is.client; user = among-put client using reader.client is.user; filters = is.filters; alarms = is.alarms }) readers fit.each;
}

readers-ended : (client : ℕ) (using : List ℕ) (readers : List SavedReader) → AreFitReaders using readers → AreFitReaders (without (λ other. other == client) using) (without (is_reader_for client) readers)
readers-ended client using readers fit = record {
  order = IsRising-without reader_before (is_reader_for client) readers fit.order;
  few = omega (arith, length-without (is_reader_for client) readers, fit.few);
  each = each-left (IsFitReaderOf using) (IsFitReaderOf (without (λ other. other == client) using)) (is_reader_for client)
      (λ reader is stays. record { client = is.client; user = among-without client using reader.client is.user stays; filters = is.filters; alarms = is.alarms }) readers fit.each;
}

reader-stopped : (client : ℕ) (using : List ℕ) (readers : List SavedReader) → AreFitReaders using readers → AreFitReaders using (without (is_reader_for client) readers)
reader-stopped client using readers fit = record {
  order = IsRising-without reader_before (is_reader_for client) readers fit.order;
  few = omega (arith, length-without (is_reader_for client) readers, fit.few);
  each = each-without (IsFitReaderOf using) (is_reader_for client) readers fit.each;
}

reader-told : (client : ℕ) (using : List ℕ) (readers : List SavedReader) (found : Option Notification) → AreFitReaders using readers → AreFitReaders using (option_map_or (λ alarm. map (told_alarm client alarm) readers) found readers)
reader-told client using readers None fit = fit
reader-told client using readers (Some alarm) fit = record {
  order = rising-mapped (told_alarm client alarm) reader_before reader_before (λ _ _. refl) readers fit.order;
  few = omega (arith, length-map readers (told_alarm client alarm), fit.few);
  each = each-mapped (IsFitReaderOf using) (told_alarm client alarm) readers
      (each-weaker (IsFitReaderOf using) (λ reader. IsFitReaderOf using (told_alarm client alarm reader)) (λ reader is. record { client = is.client; user = is.user; filters = is.filters; alarms = is.alarms }) readers fit.each);
}

reader-started : (kept : ServiceTable) (client : ℕ) (asked : FilterSet) (found : Option Notification) → IsClient client → has client kept.ntf.users ≡ true → filters.IsFit asked → asks_for_alarms asked ≡ true → length kept.readers < 16 → AreFitReaders kept.ntf.users kept.readers → AreFitReaders kept.ntf.users (option_map_or (λ alarm. put reader_before (started_at client asked alarm) kept.readers) found kept.readers)
reader-started kept client asked None caller user right alarms room fit = fit
reader-started kept client asked (Some alarm) caller user right alarms room fit =
    let new = started_at client asked alarm in
    record {
      order = IsRising-put reader_before (IsOrder-by (λ (reader : SavedReader). reader.client)) new kept.readers fit.order;
      few = omega (arith, room, length-put reader_before new kept.readers);
      each = each-put (IsFitReaderOf kept.ntf.users) reader_before new kept.readers (record { client = caller; user = user; filters = right; alarms = alarms }) fit.each;
    }

-- **the readers after an ok call**
pub fit-readers : (kept : ServiceTable) (client seq : ℕ) (now : ℤ) (call : Call) → IsClient client → status_in kept client now call ≡ status.Ok → AreFitReaders kept.ntf.users kept.readers → AreFitReaders (notified (ntf_change_in kept client seq now call) kept.ntf).users (readers_after kept.alarms client call kept.readers)
fit-readers kept client seq now (ReaderStart mode value asked) caller ok fit =
    let found = start_by (mode_of mode) value asked kept.alarms in
    let is = start-ok (has client kept.ntf.users) (is_none (mode_of mode)) (int_lt value (pos 0) && not (mode == 7)) (is_fit asked) (asks_for_alarms asked) (is_some (reader_for client kept.readers)) (nat_le 16 (length kept.readers)) (is_none found) ok in
    reader-started kept client asked found caller is.0 ((is_fit-decides asked).0 is.1) is.2 (leb-false 16 (length kept.readers) is.4) fit
fit-readers kept client seq now (ReaderRead direction) caller ok fit =
    reader-told client kept.ntf.users kept.readers (read_in (reader_for client kept.readers) direction kept.alarms) fit
fit-readers kept client seq now ReaderEnd caller ok fit = reader-stopped client kept.ntf.users kept.readers fit
fit-readers kept client seq now NtfFini caller ok fit = readers-ended client kept.ntf.users kept.readers fit
fit-readers kept client seq now NtfInit caller ok fit = readers-begun client kept.ntf.users kept.readers fit
fit-readers kept client seq now LogInit caller ok fit = fit
fit-readers kept client seq now (LogOpen stream create) caller ok fit = fit
fit-readers kept client seq now (LogWrite stream invocation flags time header body) caller ok fit = fit
fit-readers kept client seq now (LogFilter stream mask) caller ok fit = fit
fit-readers kept client seq now (LogClose stream) caller ok fit = fit
fit-readers kept client seq now LogFini caller ok fit = fit
fit-readers kept client seq now (NtfSend notification) caller ok fit = fit
fit-readers kept client seq now (NtfSubscribe id asked) caller ok fit = fit
fit-readers kept client seq now (NtfUnsubscribe id) caller ok fit = fit

-- What an ok answer tells of what is kept.
use Rattle.std.proofs.Common.{◌≡◌, ℕ, ◌+◌, ◌≤◌, nat_le, nat_lt, Bool, true, false, ◌||◌, cond, List, length, refl, ap, sym, ◌∙◌, arith}
use Rattle.std.specs.Prelude.{Option, Some, None, option_map, is_none, ℤ}
use Rattle.std.specs.Option.{option_map_or}
use Rattle.std.specs.List.{list_any, count_by}
use Rattle.std.proofs.lemmas.Bool.{leb-false, or_parts}
use Rattle.std.proofs.lemmas.Bool.Decides.{nat_tests}
use Rattle.std.proofs.lemmas.List.Sums.{length-filter}
use Rattle.ais_values.specs.declared.status.Status.TheVariants as status
use Rattle.client_set.specs.Members.{has}
use Rattle.stream_config.specs.declared.attrs.StreamAttrs.{StreamAttrs}
use Rattle.stream_config.specs.declared.attrs.StreamName.{StreamName}
use Rattle.format_expr.specs.Language.{is_notified}
use Rattle.stream_config.specs.Attributes.{kind_of, PassesAttrs}
use Rattle.stream_config.specs.AttributeTests.{passes_attrs}
use Rattle.stream_config.proofs.AttributeLaws.{decides_attrs}
use Rattle.record_print.specs.Records.{can_write}
use Rattle.log_history.specs.Changes.{LogChange}
use Rattle.log_history.specs.Changes.{LogChange as log}
use Rattle.log_history.specs.Names.{is_application}
use Rattle.log_history.specs.Answers.{answer, open_rows}
use Rattle.log_history.specs.Marks.{is_filtered}
use Rattle.log_history.specs.Times.{second_of, record_at}
use Rattle.log_history.specs.Table.{OpenStream, LogTable}
use Rattle.log_history.specs.KeptAnswers.{kept_stream, kept_attrs, has_place, is_of_application, is_crowd, has_opener, is_filled, kept_mark, open_status, making_in}
use Rattle.log_history.proofs.AnswerLaws.{open-rows}
use Rattle.ntf_types.specs.SoundTests.{is_sound}
use Rattle.ntf_filters.specs.FitTests.{is_fit}
use Rattle.ntf_filters.proofs.Meaning.{is_fit-decides}
use Rattle.ntf_history.specs.Changes.{NtfChange}
use Rattle.ntf_history.specs.Tables.{NtfTable, is_kept_under}
use Rattle.calls.specs.declared.call.Call.{Call}
use Rattle.calls.specs.declared.call.Call.TheVariants.{LogInit, LogOpen, LogWrite, LogFilter, LogClose, LogFini, NtfInit, NtfSend, NtfSubscribe, NtfUnsubscribe, ReaderStart, ReaderRead, ReaderEnd, NtfFini}
use Rattle.calls.specs.declared.reply.Reply.{Reply}
use Rattle.plain_service.specs.Alarms.{stream_for, record_for}
use Rattle.plain_service.specs.Legal.{IsClient}
use Rattle.plain_service.proofs.OkAnswers.{open-ok, create-ok, write-ok, filter-ok, send-ok, subscribe-ok}
use Rattle.service_table.specs.declared.caller.ClientWindow.{ClientWindow}
use Rattle.service_table.specs.Tables.{ServiceTable}
use Rattle.service_table.specs.Answering.{accepted_in, status_in}
use Rattle.service_table.specs.Steps.{log_change_in, ntf_change_in, window_for, answered}
use Rattle.service_fit.proofs.LogSteps.{CanChange, CanJoin}
use Rattle.service_fit.proofs.NtfFit.{CanNotify}
use Rattle.service_fit.proofs.WindowsFit.{called-now}

-- an ok open of a stream that does not live makes it with attributes that pass, in its own place, while there is room
record Makes (kept : LogTable) (client : ℕ) (stream : StreamName) (attrs : StreamAttrs) : Type 0 where
  user : has client kept.users ≡ true
  named : is_application stream ≡ true
  passes : PassesAttrs (kind_of stream) attrs
  free : has_place kept.streams attrs ≡ false
  room : is_crowd kept.streams ≡ false

makes : (kept : LogTable) (client : ℕ) (stream : StreamName) (attrs : StreamAttrs) → kept_stream kept.streams stream ≡ None → open_status kept client stream (Some attrs) ≡ status.Ok → Makes kept client stream attrs
makes kept client stream attrs is answered =
    let using = has client kept.users in
    let taken = has_place kept.streams attrs in
    let crowded = is_crowd kept.streams in
    let none : kept_attrs kept.streams stream ≡ None = ap (option_map (λ (s : OpenStream). s.state.attrs)) is in
    let told = open-rows using (is_application stream) (passes_attrs (kind_of stream) attrs) taken crowded
    (ap (λ living. answer (open_rows using living taken crowded stream (Some attrs))) (sym none) ∙ answered) in
    record { user = told.0; named = told.1; passes = (decides_attrs (kind_of stream) attrs).0 told.2; free = told.3; room = told.4 }

pub opening-can : (kept : LogTable) (client second entry : ℕ) (stream : StreamName) (create : Option StreamAttrs) → open_status kept client stream create ≡ status.Ok → CanChange kept (log.Opened client stream (making_in kept.streams stream create) second entry)
opening-can kept client second entry stream create ok = by_case (kept_stream kept.streams stream) refl create ok where
  by_case : (found : Option OpenStream) → kept_stream kept.streams stream ≡ found → (making : Option StreamAttrs) → open_status kept client stream making ≡ status.Ok → CanChange kept (log.Opened client stream (option_map_or (λ (_ : OpenStream). None) found making) second entry)
  by_case (Some found) is making answered = tt
  by_case None is None answered = tt
  by_case None is (Some attrs) answered = (makes kept client stream attrs is answered).passes

-- whoever opens a stream uses the service
opening-user : (kept : LogTable) (client : ℕ) (stream : StreamName) (create : Option StreamAttrs) → open_status kept client stream create ≡ status.Ok → has client kept.users ≡ true
opening-user kept client stream None ok =
    (open-ok (has client kept.users) (is_none (kept_attrs kept.streams stream)) ok).0
opening-user kept client stream (Some attrs) ok =
    create-ok (has client kept.users) (kept_attrs kept.streams stream) (has_place kept.streams attrs) (is_crowd kept.streams) stream attrs ok

opening-joins : (kept : LogTable) (client second entry : ℕ) (stream : StreamName) (create : Option StreamAttrs) → IsClient client → open_status kept client stream create ≡ status.Ok → CanJoin kept (log.Opened client stream (making_in kept.streams stream create) second entry)
opening-joins kept client second entry stream create caller ok = by_case (kept_stream kept.streams stream) refl create ok where
  by_case : (found : Option OpenStream) → kept_stream kept.streams stream ≡ found → (making : Option StreamAttrs) → open_status kept client stream making ≡ status.Ok → CanJoin kept (log.Opened client stream (option_map_or (λ (_ : OpenStream). None) found making) second entry)
  by_case (Some found) is making answered = (caller, opening-user kept client stream making answered)
  by_case None is None answered = (caller, opening-user kept client stream None answered)
  by_case None is (Some attrs) answered =
      let told = makes kept client stream attrs is answered in
      let few = leb-false 64 (count_by is_of_application kept.streams) told.room in
      record {
        caller = caller;
        user = told.user;
        named = told.named;
        new = is;
        room = omega (arith, length-filter is_of_application kept.streams, few);
        free = told.free;
      }

-- **an ok call can change the log as it does**

abbrev pub CanOption : LogTable → Option LogChange → Type 0
CanOption kept None = Unit {0}
CanOption kept (Some change) = CanChange kept change

abbrev pub JoinsOption : LogTable → Option LogChange → Type 0
JoinsOption kept None = Unit {0}
JoinsOption kept (Some change) = CanJoin kept change

pub call-can : (kept : ServiceTable) (client : ℕ) (now : ℤ) (call : Call) → status_in kept client now call ≡ status.Ok → CanOption kept.log (log_change_in kept client now call)
call-can kept client now LogInit ok = tt
call-can kept client now (LogOpen stream create) ok = opening-can kept.log client (second_of now) (kept.number + 1) stream create ok
call-can kept client now (LogWrite stream invocation flags time header body) ok =
    by_case (is_filtered (kept_mark kept.log.streams stream).mask header)
    (write-ok (has client kept.log.users) (has_opener kept.log.streams stream client) (nat_lt 1 flags) (can_write (kind_of stream) time header) (is_filtered (kept_mark kept.log.streams stream).mask header) (is_filled kept.log.streams stream (record_at time header body now)) ok).3 where
      by_case : (filtered : Bool) → (filtered ≡ false → is_filled kept.log.streams stream (record_at time header body now) ≡ false) → CanOption kept.log (cond filtered None (Some (log.Stored stream (record_at time header body now) (second_of now))))
      by_case true fits = tt
      by_case false fits = fits refl
call-can kept client now (LogFilter stream mask) ok = tt
call-can kept client now (LogClose stream) ok = tt
call-can kept client now LogFini ok = tt
call-can kept client now NtfInit ok = tt
call-can kept client now (NtfSend notification) ok =
    (send-ok (has client kept.ntf.users) (is_sound notification) (is_filled kept.log.streams (stream_for notification.body) (record_for now (accepted_in kept.ntf now notification))) ok).2
call-can kept client now (NtfSubscribe id filters) ok = tt
call-can kept client now (NtfUnsubscribe id) ok = tt
call-can kept client now (ReaderStart mode value filters) ok = tt
call-can kept client now (ReaderRead direction) ok = tt
call-can kept client now ReaderEnd ok = tt
call-can kept client now NtfFini ok = tt

pub call-joins : (kept : ServiceTable) (client : ℕ) (now : ℤ) (call : Call) → IsClient client → status_in kept client now call ≡ status.Ok → JoinsOption kept.log (log_change_in kept client now call)
call-joins kept client now LogInit caller ok = caller
call-joins kept client now (LogOpen stream create) caller ok = opening-joins kept.log client (second_of now) (kept.number + 1) stream create caller ok
call-joins kept client now (LogWrite stream invocation flags time header body) caller ok =
    by_case (is_filtered (kept_mark kept.log.streams stream).mask header) where
      by_case : (filtered : Bool) → JoinsOption kept.log (cond filtered None (Some (log.Stored stream (record_at time header body now) (second_of now))))
      by_case true = tt
      by_case false = tt
call-joins kept client now (LogFilter stream mask) caller ok =
    let refused = (filter-ok (has client kept.log.users) (has_opener kept.log.streams stream client) (is_notified (kind_of stream) || nat_lt 127 mask) ok).2 in
    let both = or_parts (is_notified (kind_of stream)) (nat_lt 127 mask) refused in
    (both.0, low mask both.1) where
      low : (n : ℕ) → nat_lt 127 n ≡ false → n ≤ 127
      low n is = grind (arith, nat_tests)
call-joins kept client now (LogClose stream) caller ok = tt
call-joins kept client now LogFini caller ok = tt
call-joins kept client now NtfInit caller ok = tt
call-joins kept client now (NtfSend notification) caller ok = tt
call-joins kept client now (NtfSubscribe id filters) caller ok = tt
call-joins kept client now (NtfUnsubscribe id) caller ok = tt
call-joins kept client now (ReaderStart mode value filters) caller ok = tt
call-joins kept client now (ReaderRead direction) caller ok = tt
call-joins kept client now ReaderEnd caller ok = tt
call-joins kept client now NtfFini caller ok = tt

-- and the notifications

abbrev pub NotifiesOption : NtfTable → List ClientWindow → Option NtfChange → Type 0
NotifiesOption kept later None = Unit {0}
NotifiesOption kept later (Some change) = CanNotify kept later change

pub call-notifies : (kept : ServiceTable) (client seq : ℕ) (now : ℤ) (call : Call) (reply : Reply) → IsClient client → seq ≡ (window_for client kept.windows).next → status_in kept client now call ≡ status.Ok → NotifiesOption kept.ntf (answered client reply kept.windows) (ntf_change_in kept client seq now call)
call-notifies kept client seq now (NtfSubscribe id filters) reply caller next ok =
    let told = subscribe-ok (has client kept.ntf.users) (is_fit filters) (list_any (is_kept_under client id) kept.ntf.subs) (nat_le 64 (length kept.ntf.subs)) ok in
    record {
      user = told.0;
      key = called-now client reply kept.windows seq next;
      filters = (is_fit-decides filters).0 told.1;
      new = told.2;
      room = leb-false 64 (length kept.ntf.subs) told.3;
    }
call-notifies kept client seq now NtfInit reply caller next ok = caller
call-notifies kept client seq now LogInit reply caller next ok = tt
call-notifies kept client seq now (LogOpen stream create) reply caller next ok = tt
call-notifies kept client seq now (LogWrite stream invocation flags time header body) reply caller next ok = tt
call-notifies kept client seq now (LogFilter stream mask) reply caller next ok = tt
call-notifies kept client seq now (LogClose stream) reply caller next ok = tt
call-notifies kept client seq now LogFini reply caller next ok = tt
call-notifies kept client seq now (NtfSend notification) reply caller next ok = tt
call-notifies kept client seq now (NtfUnsubscribe id) reply caller next ok = tt
call-notifies kept client seq now (ReaderStart mode value filters) reply caller next ok = tt
call-notifies kept client seq now (ReaderRead direction) reply caller next ok = tt
call-notifies kept client seq now ReaderEnd reply caller next ok = tt
call-notifies kept client seq now NtfFini reply caller next ok = tt

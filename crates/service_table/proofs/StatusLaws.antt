-- The answers read of what is kept of a history are those of the history.
use Rattle.std.proofs.Common.{◌≡◌, ℕ, ◌+◌, nat_lt, nat_le, Bool, true, false, cond, List, ◌∷◌, length, map, refl, ap, sym, ◌∙◌}
use Rattle.std.specs.Prelude.{Option, Some, None, option_map, is_some, is_none, ℤ}
use Rattle.std.specs.Option.{option_map_or}
use Rattle.std.specs.List.{cons_option}
use Rattle.std.proofs.lemmas.List.{length-map}
use Rattle.ais_values.specs.declared.status.Status.{Status}
use Rattle.ais_values.specs.declared.status.Status.TheVariants as status
use Rattle.stream_config.specs.declared.attrs.StreamAttrs.{StreamAttrs}
use Rattle.stream_config.specs.declared.attrs.StreamName.{StreamName}
use Rattle.stream_config.specs.declared.mark.Mark.{Mark}
use Rattle.stream_config.specs.Attributes.{kind_of}
use Rattle.stream_config.proofs.Equalities.{decides_name}
use Rattle.record_print.specs.declared.record.Header.{Header}
use Rattle.record_print.specs.Records.{can_write}
use Rattle.ntf_types.specs.declared.notification.Notification.{Notification}
use Rattle.ntf_types.specs.SoundTests.{is_sound}
use Rattle.ntf_filters.specs.declared.filter.FilterSet.{FilterSet}
use Rattle.alarm_view.specs.declared.alarm.KeptAlarm.{KeptAlarm}
use Rattle.alarm_view.specs.Modes.{mode_of}
use Rattle.calls.specs.declared.call.Call.{Call}
use Rattle.calls.specs.declared.call.Call.TheVariants.{LogInit, LogOpen, LogWrite, LogFilter, LogClose, LogFini, NtfInit, NtfSend, NtfSubscribe, NtfUnsubscribe, ReaderStart, ReaderRead, ReaderEnd, NtfFini}
use Rattle.calls.specs.declared.reply.Reply.{Reply}
use Rattle.calls.specs.declared.reply.Reply.TheVariants.{Marked}
use Rattle.calls.specs.declared.entry.Entry.{Entry}
use Rattle.log_history.specs.Answers as log
use Rattle.log_history.specs.Changes.{Opened, Stored}
use Rattle.log_history.specs.Handles as log_handles
use Rattle.log_history.specs.Marks.{is_filtered, mark_after}
use Rattle.log_history.specs.Times.{record_at, second_of}
use Rattle.log_history.specs.Chronicle.{Stream, chronicle}
use Rattle.log_history.specs.Legal.{IsLogHistory}
use Rattle.log_history.specs.KeptAnswers.{is_filled, kept_mark, opened_mark, making_in}
use Rattle.log_history.specs.Table.{OpenStream, open_stream, table}
use Rattle.log_history.proofs.FirstLaws.{find-map}
use Rattle.log_history.proofs.TableLaws.{find-living}
use Rattle.log_history.proofs.KeptLaws as kept
use Rattle.ntf_history.specs.Changes as ntf
use Rattle.ntf_history.specs.Readers.{Reader, ReaderChange, reader_of, is_reader_of, readers}
use Rattle.ntf_history.specs.Rows.{answer, send_by, start_rows_by, read_rows_by, stop_rows_by, start_by, read_by}
use Rattle.ntf_history.proofs.FitLaws.{has-users}
use Rattle.ntf_history.proofs.ReaderLaws.{find-reader}
use Rattle.ntf_service.proofs.HistoryLaws as service
use Rattle.plain_service.specs.Setups.{Setup, log_setup}
use Rattle.plain_service.specs.Pasts.{Past}
use Rattle.plain_service.specs.Alarms.{accepted_notification, stream_for, record_for, alarms_stored, taken_by}
use Rattle.plain_service.specs.Answers.{status_of}
use Rattle.plain_service.specs.Replies.{found_reply, reply_by, ok_reply, reply_after}
use Rattle.plain_service.specs.Values.{saved_reader}
use Rattle.plain_service.proofs.OkAnswers.{write-ok, open-ok}
use Rattle.plain_service.proofs.Possible.{some-attrs}
use Rattle.service_table.specs.Tables.{is_reader_for, reader_for}
use Rattle.service_table.specs.Answering.{read_in, status_in, told_in, reply_in}
use Rattle.service_table.specs.Steps.{taken_in}
use Rattle.service_table.specs.Histories.{table_with}

-- the reader that is kept is the one that history tells
pub kept-reader : (readings : List ReaderChange) (client : ℕ) → reader_for client (map saved_reader (readers readings)) ≡ option_map saved_reader (reader_of readings client)
kept-reader readings client =
    find-map saved_reader (is_reader_of client) (is_reader_for client) (λ _. refl) (readers readings)
    ∙ ap (option_map saved_reader) (find-reader readings client)

some-mapped : (found : Option Reader) → is_some (option_map saved_reader found) ≡ is_some found
some-mapped None = refl
some-mapped (Some reader) = refl

none-mapped : (found : Option Reader) → is_none (option_map saved_reader found) ≡ is_none found
none-mapped None = refl
none-mapped (Some reader) = refl

read-mapped : (found : Option Reader) (code : ℕ) (stored : List KeptAlarm) → read_in (option_map saved_reader found) code stored ≡ read_by found code stored
read-mapped None code stored = refl
read-mapped (Some reader) code stored = refl

pub read-kept : (readings : List ReaderChange) (client code : ℕ) (stored : List KeptAlarm) → read_in (reader_for client (map saved_reader (readers readings))) code stored ≡ read_by (reader_of readings client) code stored
read-kept readings client code stored =
    ap (λ found. read_in found code stored) (kept-reader readings client) ∙ read-mapped (reader_of readings client) code stored

-- what is told counts where the answer is ok
reply-same : (answered : Status) (one other : Reply) → (answered ≡ status.Ok → one ≡ other) → reply_by answered one ≡ reply_by answered other
reply-same status.Ok one other same = same refl
reply-same _ one other same = refl

module _ (setup : Setup) (entries : List Entry) (past : Past) where
  -- how many records a kept stream has taken
  pub taken-kept : (name : StreamName) → taken_in (table (log_setup setup) past.log).streams name ≡ taken_by (log_setup setup) past.log name
  taken-kept name =
      ap (λ found. option_map_or (λ (stream : OpenStream). stream.state.taken) found 0) (find-living name past.log (chronicle (log_setup setup) past.log).streams)
      ∙ elim (log.living_stream (log_setup setup) past.log name) as (λ found. option_map_or (λ (stream : OpenStream). stream.state.taken) (option_map (open_stream past.log) found) 0 ≡ option_map_or (λ (stream : Stream). length stream.records) found 0) [
        | None ↦ refl
        | Some stream ↦ refl
      ]

  send-status : IsLogHistory (log_setup setup) past.log → (client : ℕ) (now : ℤ) (notification : Notification) → status_in (table_with setup entries past) client now (NtfSend notification) ≡ status_of setup past client now (NtfSend notification)
  send-status legal client now notification =
      let rec = record_for now (accepted_notification past now notification) in
      let full = is_filled (table (log_setup setup) past.log).streams (stream_for notification.body) rec in
      ap (λ using. answer (send_by using (is_sound notification) full)) (has-users past.ntf client)
      ∙ ap (λ filled. answer (send_by (ntf.is_using past.ntf client) (is_sound notification) filled)) (kept.is-filled (log_setup setup) past.log legal (stream_for notification.body) rec)

  start-status : (client code : ℕ) (now value : ℤ) (filters : FilterSet) → status_in (table_with setup entries past) client now (ReaderStart code value filters) ≡ status_of setup past client now (ReaderStart code value filters)
  start-status client code now value filters =
      let kept_ones = map saved_reader (readers past.readings) in
      let found = is_none (start_by (mode_of code) value filters (alarms_stored setup past)) in
      ap (λ using. answer (start_rows_by using (is_some (reader_for client kept_ones)) (nat_le 16 (length kept_ones)) found code value filters)) (has-users past.ntf client)
      ∙ ap (λ has_one. answer (start_rows_by (ntf.is_using past.ntf client) has_one (nat_le 16 (length kept_ones)) found code value filters)) (ap is_some (kept-reader past.readings client) ∙ some-mapped (reader_of past.readings client))
      ∙ ap (λ count. answer (start_rows_by (ntf.is_using past.ntf client) (is_some (reader_of past.readings client)) (nat_le 16 count) found code value filters)) (length-map (readers past.readings) saved_reader)

  read-status : (client code : ℕ) (now : ℤ) → status_in (table_with setup entries past) client now (ReaderRead code) ≡ status_of setup past client now (ReaderRead code)
  read-status client code now =
      let kept_ones = map saved_reader (readers past.readings) in
      let stored = alarms_stored setup past in
      ap (λ using. answer (read_rows_by using (is_none (reader_for client kept_ones)) (is_none (read_in (reader_for client kept_ones) code stored)) code)) (has-users past.ntf client)
      ∙ ap (λ missing. answer (read_rows_by (ntf.is_using past.ntf client) missing (is_none (read_in (reader_for client kept_ones) code stored)) code)) (ap is_none (kept-reader past.readings client) ∙ none-mapped (reader_of past.readings client))
      ∙ ap (λ found. answer (read_rows_by (ntf.is_using past.ntf client) (is_none (reader_of past.readings client)) (is_none found) code)) (read-kept past.readings client code stored)

  stop-status : (client : ℕ) (now : ℤ) → status_in (table_with setup entries past) client now ReaderEnd ≡ status_of setup past client now ReaderEnd
  stop-status client now =
      ap (λ using. answer (stop_rows_by using (is_none (reader_for client (map saved_reader (readers past.readings)))))) (has-users past.ntf client)
      ∙ ap (λ missing. answer (stop_rows_by (ntf.is_using past.ntf client) missing)) (ap is_none (kept-reader past.readings client) ∙ none-mapped (reader_of past.readings client))

  -- **the statuses**
  pub status-with : IsLogHistory (log_setup setup) past.log → (client : ℕ) (now : ℤ) (call : Call) → status_in (table_with setup entries past) client now call ≡ status_of setup past client now call
  status-with legal client now LogInit = kept.begin-status (log_setup setup) past.log client
  status-with legal client now (LogOpen name create) = kept.open-status (log_setup setup) past.log client name create
  status-with legal client now (LogWrite name invocation flags time header body) =
      kept.write-status (log_setup setup) past.log legal client name flags time header body now
  status-with legal client now (LogFilter name mask) = kept.filter-status (log_setup setup) past.log legal client name mask
  status-with legal client now (LogClose name) = kept.close-status (log_setup setup) past.log legal client name
  status-with legal client now LogFini = kept.end-status (log_setup setup) past.log client
  status-with legal client now NtfInit = service.begin-rows setup.capacity past.ntf client
  status-with legal client now (NtfSend notification) = send-status legal client now notification
  status-with legal client now (NtfSubscribe id filters) = service.subscribe-rows setup.capacity past.ntf client id filters
  status-with legal client now (NtfUnsubscribe id) = service.unsubscribe-rows setup.capacity past.ntf client id
  status-with legal client now (ReaderStart mode value filters) = start-status client mode now value filters
  status-with legal client now (ReaderRead direction) = read-status client direction now
  status-with legal client now ReaderEnd = stop-status client now
  status-with legal client now NtfFini = service.end-rows setup.capacity past.ntf client

  -- the marks, of streams that live

  open-mark : (name : StreamName) (create : Option StreamAttrs) (client second number : ℕ) → (create ≡ None → is_some (log.living_stream (log_setup setup) past.log name) ≡ true) → opened_mark (making_in (table (log_setup setup) past.log).streams name create) number (kept_mark (table (log_setup setup) past.log).streams name) ≡ mark_after (Opened client name (log.making_of (log_setup setup) past.log name create) second number ∷ past.log) name
  open-mark name create client second number lives =
      ap (λ making. opened_mark making number (kept_mark (table (log_setup setup) past.log).streams name)) (kept.making-in (log_setup setup) past.log name create)
      ∙ by_case (log.living_stream (log_setup setup) past.log name) refl create lives where
        by_case : (living : Option Stream) → log.living_stream (log_setup setup) past.log name ≡ living → (asked : Option StreamAttrs) → (asked ≡ None → is_some living ≡ true) → opened_mark (option_map_or (λ (_ : Stream). None) living asked) number (kept_mark (table (log_setup setup) past.log).streams name) ≡ mark_after (Opened client name (option_map_or (λ (_ : Stream). None) living asked) second number ∷ past.log) name
        by_case (Some stream) is asked found = kept.kept-mark (log_setup setup) past.log name (ap is_some is)
        by_case None is None found = let none : false ≡ true = found refl in absurd cc
        by_case None is (Some attrs) found =
            let new : Mark = record { since = number; mask = 127 } in
            sym (ap (λ same. cond same new (mark_after past.log name)) ((decides_name name name).1 refl))

  -- a stream that is written lives
  pub written-lives : IsLogHistory (log_setup setup) past.log → (client : ℕ) (now : ℤ) (name : StreamName) (invocation flags : ℕ) (time : ℤ) (header : Header) (body : List ℕ) → status_of setup past client now (LogWrite name invocation flags time header body) ≡ status.Ok → is_some (log.living_stream (log_setup setup) past.log name) ≡ true
  written-lives legal client now name invocation flags time header body ok =
      let told = write-ok (log_handles.is_using past.log client) (log_handles.is_open past.log name client) (nat_lt 1 flags) (can_write (kind_of name) time header) (is_filtered (mark_after past.log name).mask header) (log.is_full (log_setup setup) past.log name (record_at time header body now)) ok in
      kept.open-living (log_setup setup) past.log legal name client told.1

  write-told : (client : ℕ) (now : ℤ) (name : StreamName) (invocation flags : ℕ) (time : ℤ) (header : Header) (body : List ℕ) → is_some (log.living_stream (log_setup setup) past.log name) ≡ true → told_in (table_with setup entries past) client (LogWrite name invocation flags time header body) ≡ ok_reply setup past client now (LogWrite name invocation flags time header body)
  write-told client now name invocation flags time header body lives =
      ap (λ (mark : Mark). Marked (is_filtered mark.mask header) mark) (kept.kept-mark (log_setup setup) past.log name lives)
      ∙ ap (Marked (is_filtered (mark_after past.log name).mask header)) (sym (unset (is_filtered (mark_after past.log name).mask header))) where
        unset : (filtered : Bool) → mark_after (cons_option (cond filtered None (Some (Stored name (record_at time header body now) (second_of now)))) past.log) name ≡ mark_after past.log name
        unset true = refl
        unset false = refl

  filter-told : (client : ℕ) (now : ℤ) (name : StreamName) (mask : ℕ) → past.number ≡ length entries → told_in (table_with setup entries past) client (LogFilter name mask) ≡ ok_reply setup past client now (LogFilter name mask)
  filter-told client now name mask counted =
      let marked : ℕ → Mark = λ number. record { since = number + 1; mask = mask } in
      ap (λ number. Marked false (marked number)) (sym counted)
      ∙ sym (ap (λ same. Marked false (cond same (marked past.number) (mark_after past.log name))) ((decides_name name name).1 refl))

  open-told : (client : ℕ) (now : ℤ) (name : StreamName) (create : Option StreamAttrs) → past.number ≡ length entries → (create ≡ None → is_some (log.living_stream (log_setup setup) past.log name) ≡ true) → told_in (table_with setup entries past) client (LogOpen name create) ≡ ok_reply setup past client now (LogOpen name create)
  open-told client now name create counted lives =
      ap (λ number. Marked false (opened_mark (making_in (table (log_setup setup) past.log).streams name create) (number + 1) (kept_mark (table (log_setup setup) past.log).streams name))) (sym counted)
      ∙ ap (Marked false) (open-mark name create client (second_of now) (past.number + 1) lives)

  told-with : IsLogHistory (log_setup setup) past.log → past.number ≡ length entries → (client : ℕ) (now : ℤ) (call : Call) → status_of setup past client now call ≡ status.Ok → told_in (table_with setup entries past) client call ≡ ok_reply setup past client now call
  told-with legal counted client now (ReaderRead direction) ok = ap found_reply (read-kept past.readings client direction (alarms_stored setup past))
  told-with legal counted client now LogInit ok = refl
  told-with legal counted client now (LogOpen name None) ok =
      let told = open-ok (log_handles.is_using past.log client) (is_none (option_map (λ (stream : Stream). stream.attrs) (log.living_stream (log_setup setup) past.log name))) ok in
      open-told client now name None counted (λ _. some-attrs (log.living_stream (log_setup setup) past.log name) told.1)
  told-with legal counted client now (LogOpen name (Some attrs)) ok = open-told client now name (Some attrs) counted (λ none. absurd (cc))
  told-with legal counted client now (LogWrite name invocation flags time header body) ok =
      write-told client now name invocation flags time header body (written-lives legal client now name invocation flags time header body ok)
  told-with legal counted client now (LogFilter name mask) ok = filter-told client now name mask counted
  told-with legal counted client now (LogClose name) ok = refl
  told-with legal counted client now LogFini ok = refl
  told-with legal counted client now NtfInit ok = refl
  told-with legal counted client now (NtfSend notification) ok = refl
  told-with legal counted client now (NtfSubscribe id filters) ok = refl
  told-with legal counted client now (NtfUnsubscribe id) ok = refl
  told-with legal counted client now (ReaderStart mode value filters) ok = refl
  told-with legal counted client now ReaderEnd ok = refl
  told-with legal counted client now NtfFini ok = refl

  -- **the replies**
  pub reply-with : IsLogHistory (log_setup setup) past.log → past.number ≡ length entries → (client : ℕ) (now : ℤ) (call : Call) → reply_in (table_with setup entries past) client now call ≡ reply_after setup past client now call
  reply-with legal counted client now call =
      ap (λ status. reply_by status (told_in (table_with setup entries past) client call)) (status-with legal client now call)
      ∙ reply-same (status_of setup past client now call) _ _ (told-with legal counted client now call)

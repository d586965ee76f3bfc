-- The readers after one more call are what the call makes of those before.
use Rattle.std.proofs.Common.{◌≡◌, ℕ, ◌==◌, Bool, true, false, cond, List, [], ◌∷◌, map, refl, ap, sym, ◌∙◌}
use Rattle.std.specs.Prelude.{Option, Some, None, option_map}
use Rattle.std.specs.Option.{option_map_or}
use Rattle.std.specs.List.{cons_option}
use Rattle.ais_values.specs.declared.status.Status.{Status}
use Rattle.ais_values.specs.declared.status.Status.TheVariants as status
use Rattle.ntf_types.specs.declared.notification.Notification.{Notification}
use Rattle.ntf_filters.specs.declared.filter.FilterSet.{FilterSet}
use Rattle.alarm_view.specs.Modes.{mode_of}
use Rattle.alarm_view.specs.Nearest.{cursor_before, cursor_after}
use Rattle.client_set.specs.Rising.{put, without}
use Rattle.client_set.proofs.RisingLaws.{map-put, map-without}
use Rattle.calls.specs.declared.call.Call.{Call}
use Rattle.calls.specs.declared.call.Call.TheVariants.{LogInit, LogOpen, LogWrite, LogFilter, LogClose, LogFini, NtfInit, NtfSend, NtfSubscribe, NtfUnsubscribe, ReaderStart, ReaderRead, ReaderEnd, NtfFini}
use Rattle.calls.specs.declared.saved.SavedReader.{SavedReader}
use Rattle.ntf_history.specs.Readers.{Reader, ReaderChange, reader_of, reader_first, is_reader_of, move, readers}
use Rattle.ntf_history.specs.Readers.{ReaderChange as reading}
use Rattle.ntf_history.specs.Rows.{start_by, read_by}
use Rattle.plain_service.specs.Setups.{Setup}
use Rattle.plain_service.specs.Pasts.{Past}
use Rattle.plain_service.specs.Alarms.{alarms_stored}
use Rattle.plain_service.specs.Changing.{reader_change, if_ok}
use Rattle.plain_service.specs.Values.{saved_reader}
use Rattle.service_table.specs.Tables.{is_reader_for, reader_before}
use Rattle.service_table.specs.Steps.{started_at, told_alarm, readers_after, where_ok}
use Rattle.service_table.proofs.StatusLaws.{read-kept}

moved-told : (client : ℕ) (alarm : Notification) (xs : List Reader) → map saved_reader (map (move client (cursor_after alarm)) xs) ≡ map (told_alarm client alarm) (map saved_reader xs)
moved-told client alarm [] = refl
moved-told client alarm (x ∷ xs) =
    ap (λ y. y ∷ map saved_reader (map (move client (cursor_after alarm)) xs)) (one x)
    ∙ ap (λ ys. told_alarm client alarm (saved_reader x) ∷ ys) (moved-told client alarm xs) where
      one : (reader : Reader) → saved_reader (move client (cursor_after alarm) reader) ≡ told_alarm client alarm (saved_reader reader)
      one reader = by_case (reader.client == client) where
        by_case : (mine : Bool) → let moved : Reader = record { client = reader.client; filters = reader.filters; cursor = cond mine (cursor_after alarm) reader.cursor } in let told : SavedReader = record { client = reader.client; filters = reader.filters; time = cond mine alarm.event_time reader.cursor.time; id = cond mine alarm.id reader.cursor.id; fresh = cond mine false reader.cursor.fresh } in saved_reader moved ≡ told
        by_case true = refl
        by_case false = refl

stopped : (client : ℕ) (past : List ReaderChange) → map saved_reader (readers (reading.Stopped client ∷ past)) ≡ without (is_reader_for client) (map saved_reader (readers past))
stopped client past = map-without saved_reader (is_reader_of client) (is_reader_for client) (λ _. refl) (readers past)

started : (client : ℕ) (filters : FilterSet) (past : List ReaderChange) (found : Option Notification) → map saved_reader (readers (cons_option (option_map (λ alarm. reading.Started client filters (cursor_before alarm)) found) past)) ≡ option_map_or (λ alarm. put reader_before (started_at client filters alarm) (map saved_reader (readers past))) found (map saved_reader (readers past))
started client filters past None = refl
started client filters past (Some alarm) =
    map-put saved_reader reader_first reader_before (λ _ _. refl) (record { client = client; filters = filters; cursor = cursor_before alarm }) (readers past)

told : (client : ℕ) (past : List ReaderChange) (found : Option Notification) → map saved_reader (readers (cons_option (option_map (λ alarm. reading.Told client (cursor_after alarm)) found) past)) ≡ option_map_or (λ alarm. map (told_alarm client alarm) (map saved_reader (readers past))) found (map saved_reader (readers past))
told client past None = refl
told client past (Some alarm) = moved-told client alarm (readers past)

pub readers-ok : (setup : Setup) (past : Past) (client : ℕ) (call : Call) → map saved_reader (readers (cons_option (reader_change setup past client call) past.readings)) ≡ readers_after (alarms_stored setup past) client call (map saved_reader (readers past.readings))
readers-ok setup past client (ReaderStart mode value filters) =
    started client filters past.readings (start_by (mode_of mode) value filters (alarms_stored setup past))
readers-ok setup past client (ReaderRead direction) =
    let kept = map saved_reader (readers past.readings) in
    let stored = alarms_stored setup past in
    told client past.readings (read_by (reader_of past.readings client) direction stored)
    ∙ ap (λ found. option_map_or (λ alarm. map (told_alarm client alarm) kept) found kept) (sym (read-kept past.readings client direction stored))
readers-ok setup past client ReaderEnd = stopped client past.readings
readers-ok setup past client NtfFini = stopped client past.readings
readers-ok setup past client LogInit = refl
readers-ok setup past client (LogOpen stream create) = refl
readers-ok setup past client (LogWrite stream invocation flags time header body) = refl
readers-ok setup past client (LogFilter stream mask) = refl
readers-ok setup past client (LogClose stream) = refl
readers-ok setup past client LogFini = refl
readers-ok setup past client NtfInit = refl
readers-ok setup past client (NtfSend notification) = refl
readers-ok setup past client (NtfSubscribe id filters) = refl
readers-ok setup past client (NtfUnsubscribe id) = refl

-- **the readers after a call of any status**
pub readers-called : (setup : Setup) (past : Past) (client : ℕ) (call : Call) (answered : Status) → map saved_reader (readers (cons_option (if_ok answered (reader_change setup past client call)) past.readings)) ≡ where_ok answered (readers_after (alarms_stored setup past) client call (map saved_reader (readers past.readings))) (map saved_reader (readers past.readings))
readers-called setup past client call status.Ok = readers-ok setup past client call
readers-called setup past client call _ = refl

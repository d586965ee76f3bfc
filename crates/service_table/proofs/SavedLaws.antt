-- A table and its value tell each other; the table of a history has the history's value.
use Rattle.std.proofs.Common.{◌≡◌, ℕ, ◌+◌, List, [], ◌∷◌, take, map, reverse, refl, ap, sym, ◌∙◌}
use Rattle.std.proofs.lemmas.List.{reverse-reverse}
use Rattle.sub_queue.specs.Queue.{queue_of_parts}
use Rattle.alarm_view.specs.declared.alarm.KeptAlarm.{KeptAlarm}
use Rattle.calls.specs.declared.reply.Reply.{Reply}
use Rattle.calls.specs.declared.entry.Entry.{Entry}
use Rattle.calls.specs.declared.saved.Saved.{Saved}
use Rattle.calls.specs.declared.saved.SavedWindow.{SavedWindow}
use Rattle.calls.specs.declared.saved.SavedSub.{SavedSub}
use Rattle.log_history.specs.Table.{OpenStream}
use Rattle.ntf_history.specs.Kept.{Subscription}
use Rattle.ntf_history.specs.Changes.{Sub, NtfChange}
use Rattle.ntf_history.specs.Subscriptions.{subs}
use Rattle.ntf_history.specs.Tables.{HaveQueues, kept_of}
use Rattle.plain_service.specs.Setups.{Setup}
use Rattle.plain_service.specs.Pasts.{Past}
use Rattle.plain_service.specs.Changing.{past_of}
use Rattle.plain_service.specs.Replies.{replies_to, callers, window_of as saved_window_of, windows_of}
use Rattle.plain_service.specs.Values.{saved_stream, saved_alarm, saved_sub, saved_with, saved_of, StandsFor}
use Rattle.plain_service.proofs.ReplyLaws.{length-replies}
use Rattle.service_table.specs.declared.caller.ClientWindow.{ClientWindow}
use Rattle.service_table.specs.Tables.{ServiceTable, saved_window, saved_queue, saved_table, kept_window, kept_stream_of, kept_alarm_of, kept_sub_of, table_of_saved}
use Rattle.service_table.specs.Histories.{caller_of, table_with, service_of}
use Rattle.ais_values.proofs.Basics.{map-map_back}

-- the table of a value's table

window-back : (caller : ClientWindow) → kept_window (saved_window caller) ≡ caller
window-back caller =
    ap (λ (replies : List Reply). let kept : ClientWindow = record { client = caller.client; window = record { next = caller.window.next; replies = replies } } in kept) (reverse-reverse caller.window.replies)

subs-back : (capacity : ℕ) (kept : List Subscription) → HaveQueues capacity kept → map (kept_sub_of capacity) (map saved_queue kept) ≡ kept
subs-back capacity [] queues = refl
subs-back capacity (sub ∷ kept) queues =
    ap (λ n. let first : Subscription = record { client = sub.client; key = sub.key; id = sub.id; filters = sub.filters; queue = queue_of_parts n sub.queue.first sub.queue.held sub.queue.lost } in first ∷ map (kept_sub_of capacity) (map saved_queue kept)) (sym queues.0)
    ∙ ap (λ rest. sub ∷ rest) (subs-back capacity kept queues.2)

pub table-back : (kept : ServiceTable) → HaveQueues kept.ntf.capacity kept.ntf.subs → table_of_saved (saved_table kept) ≡ kept
table-back kept queues =
    let made : List OpenStream → List Subscription → List KeptAlarm → List ClientWindow → ServiceTable =
    λ streams held alarms windows. record {
      number = kept.number;
      log = record { last = kept.log.last; users = kept.log.users; streams = streams };
      ntf = record { capacity = kept.ntf.capacity; users = kept.ntf.users; last_id = kept.ntf.last_id; subs = held };
      alarms = alarms;
      readers = kept.readers;
      windows = windows;
    } in
    let streams = map kept_stream_of (map saved_stream kept.log.streams) in
    let held = map (kept_sub_of kept.ntf.capacity) (map saved_queue kept.ntf.subs) in
    let alarms = map kept_alarm_of (map saved_alarm kept.alarms) in
    let windows = map kept_window (map saved_window kept.windows) in
    ap (λ x. made x held alarms windows) (map-map_back saved_stream kept_stream_of (λ _. refl) kept.log.streams)
    ∙ ap (λ x. made kept.log.streams x alarms windows) (subs-back kept.ntf.capacity kept.ntf.subs queues)
    ∙ ap (λ x. made kept.log.streams kept.ntf.subs x windows) (map-map_back saved_alarm kept_alarm_of (λ _. refl) kept.alarms)
    ∙ ap (made kept.log.streams kept.ntf.subs kept.alarms) (map-map_back saved_window kept_window window-back kept.windows)

-- the value of a history's table

windows-saved : (setup : Setup) (entries : List Entry) (clients : List ℕ) → map saved_window (map (caller_of setup entries) clients) ≡ map (saved_window_of setup entries) clients
windows-saved setup entries [] = refl
windows-saved setup entries (client ∷ clients) =
    ap (λ count. let first : SavedWindow = record { client = client; next = count + 1; replies = reverse (take 32 (replies_to setup client entries)) } in first ∷ map saved_window (map (caller_of setup entries) clients)) (length-replies setup client entries)
    ∙ ap (λ rest. saved_window_of setup entries client ∷ rest) (windows-saved setup entries clients)

subs-saved : (capacity : ℕ) (past : List NtfChange) (lasting : List Sub) → map saved_queue (map (kept_of capacity past) lasting) ≡ map (saved_sub capacity past) lasting
subs-saved capacity past [] = refl
subs-saved capacity past (sub ∷ lasting) = ap (λ rest. saved_sub capacity past sub ∷ rest) (subs-saved capacity past lasting)

value-with : (setup : Setup) (entries : List Entry) (past : Past) → saved_table (table_with setup entries past) ≡ saved_with setup entries past (table_with setup entries past).log
value-with setup entries past =
    let kept = table_with setup entries past in
    let made : List SavedWindow → List SavedSub → Saved =
    λ windows held. record {
      number = kept.number;
      last_stamp = (saved_table kept).last_stamp;
      last_id = kept.ntf.last_id;
      capacity = setup.capacity;
      log_users = kept.log.users;
      ntf_users = kept.ntf.users;
      windows = windows;
      streams = map saved_stream kept.log.streams;
      alarms = map saved_alarm kept.alarms;
      subs = held;
      readers = kept.readers;
    } in
    ap (λ x. made x (map saved_queue kept.ntf.subs)) (windows-saved setup entries (callers entries))
    ∙ ap (made (windows_of setup entries)) (subs-saved setup.capacity past.ntf (subs past.ntf))

pub value-is : (setup : Setup) (entries : List Entry) → saved_table (service_of setup entries) ≡ saved_of setup entries
unfolding service_of saved_of
value-is setup entries = value-with setup entries (past_of setup entries)

same-queues : (capacity : ℕ) (past : List NtfChange) (lasting : List Sub) → map (kept_sub_of capacity) (map saved_queue (map (kept_of capacity past) lasting)) ≡ map (kept_of capacity past) lasting
same-queues capacity past [] = refl
same-queues capacity past (sub ∷ lasting) = ap (λ rest. kept_of capacity past sub ∷ rest) (same-queues capacity past lasting)

-- a history's table is told by its value
pub history-back : (setup : Setup) (entries : List Entry) → table_of_saved (saved_table (service_of setup entries)) ≡ service_of setup entries
unfolding service_of
history-back setup entries =
    let past = past_of setup entries in
    let kept = table_with setup entries past in
    let made : List OpenStream → List Subscription → List KeptAlarm → List ClientWindow → ServiceTable =
    λ streams held alarms windows. record {
      number = kept.number;
      log = record { last = kept.log.last; users = kept.log.users; streams = streams };
      ntf = record { capacity = setup.capacity; users = kept.ntf.users; last_id = kept.ntf.last_id; subs = held };
      alarms = alarms;
      readers = kept.readers;
      windows = windows;
    } in
    let streams = map kept_stream_of (map saved_stream kept.log.streams) in
    let held = map (kept_sub_of setup.capacity) (map saved_queue kept.ntf.subs) in
    let alarms = map kept_alarm_of (map saved_alarm kept.alarms) in
    let windows = map kept_window (map saved_window kept.windows) in
    ap (λ x. made x held alarms windows) (map-map_back saved_stream kept_stream_of (λ _. refl) kept.log.streams)
    ∙ ap (λ x. made kept.log.streams x alarms windows) (same-queues setup.capacity past.ntf (subs past.ntf))
    ∙ ap (λ x. made kept.log.streams kept.ntf.subs x windows) (map-map_back saved_alarm kept_alarm_of (λ _. refl) kept.alarms)
    ∙ ap (made kept.log.streams kept.ntf.subs kept.alarms) (map-map_back saved_window kept_window window-back kept.windows)

-- **a table whose value stands for a history is the history's**
pub stands-table : (setup : Setup) (entries : List Entry) (kept : ServiceTable) → HaveQueues kept.ntf.capacity kept.ntf.subs → StandsFor setup entries (saved_table kept) → kept ≡ service_of setup entries
stands-table setup entries kept queues stands =
    sym (table-back kept queues) ∙ ap table_of_saved (stands ∙ sym (value-is setup entries)) ∙ history-back setup entries

pub table-stands : (setup : Setup) (entries : List Entry) (kept : ServiceTable) → kept ≡ service_of setup entries → StandsFor setup entries (saved_table kept)
table-stands setup entries kept is = ap saved_table is ∙ value-is setup entries

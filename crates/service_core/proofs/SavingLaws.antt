-- The value of what is kept, part by part.
use Rattle.std.proofs.Common.{◌≡◌, ℕ, ℤ, pos, List, map, ap, ◌∙◌}
use Rattle.ntf_filters.specs.declared.filter.FilterSet.{FilterSet}
use Rattle.sub_queue.specs.declared.item.Content.{Content}
use Rattle.sub_queue.specs.declared.item.Lost.{Lost}
use Rattle.calls.specs.declared.saved.Saved.{Saved}
use Rattle.calls.specs.declared.saved.SavedAlarm.{SavedAlarm}
use Rattle.calls.specs.declared.saved.SavedReader.{SavedReader}
use Rattle.calls.specs.declared.saved.SavedStream.{SavedStream}
use Rattle.calls.specs.declared.saved.SavedSub.{SavedSub}
use Rattle.calls.specs.declared.saved.SavedWindow.{SavedWindow}
use Rattle.ntf_history.specs.Kept.{Subscription}
use Rattle.plain_service.specs.Values.{saved_stream, saved_alarm}
use Rattle.service_table.specs.Tables.{ServiceTable, saved_window, saved_queue, saved_table}

-- a subscription, from its parts
pub sub-as : (sub : Subscription) (filters : FilterSet) (first : ℕ) (held : List Content) (lost : List Lost) → filters ≡ sub.filters → first ≡ sub.queue.first → held ≡ sub.queue.held → lost ≡ sub.queue.lost → (let saved : SavedSub = record { client = sub.client; key = sub.key; id = sub.id; filters = filters; first = first; held = held; lost = lost } in saved ≡ saved_queue sub)
sub-as sub filters first held lost filters_are first_is held_are lost_are =
    let made : FilterSet → ℕ → List Content → List Lost → SavedSub =
    λ a b c d. record { client = sub.client; key = sub.key; id = sub.id; filters = a; first = b; held = c; lost = d } in
    ap (λ x. made x first held lost) filters_are
    ∙ ap (λ x. made sub.filters x held lost) first_is
    ∙ ap (λ x. made sub.filters sub.queue.first x lost) held_are
    ∙ ap (made sub.filters sub.queue.first sub.queue.held) lost_are

-- parts that are those of a table are, beside its number, the value of it
pub saved-parts : (table : ServiceTable) (stamp : ℤ) (id capacity : ℕ) (log_users ntf_users : List ℕ) (windows : List SavedWindow) (streams : List SavedStream) (alarms : List SavedAlarm) (subs : List SavedSub) (readers : List SavedReader) → stamp ≡ pos table.log.last → id ≡ table.ntf.last_id → capacity ≡ table.ntf.capacity → log_users ≡ table.log.users → ntf_users ≡ table.ntf.users → windows ≡ map saved_window table.windows → streams ≡ map saved_stream table.log.streams → alarms ≡ map saved_alarm table.alarms → subs ≡ map saved_queue table.ntf.subs → readers ≡ table.readers → (let saved : Saved = record { number = table.number; last_stamp = stamp; last_id = id; capacity = capacity; log_users = log_users; ntf_users = ntf_users; windows = windows; streams = streams; alarms = alarms; subs = subs; readers = readers } in saved ≡ saved_table table)
saved-parts table stamp id capacity log_users ntf_users windows streams alarms subs readers a b c d e f g h i j = rw (a, b, c, d, e, f, g, h, i, j)

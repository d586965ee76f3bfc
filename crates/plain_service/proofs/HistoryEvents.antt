-- Each event that an entry of a history brings to a stream can happen to it.
use Rattle.std.proofs.Common.{◌≡◌, ℕ, ◌<◌, ◌≤◌, Bool, true, false, cond, List, [], ◌∷◌, length, refl, arith, leb→le}
use Rattle.std.specs.Prelude.{Option, Some, None, filter, ℤ, pos, negsuc}
use Rattle.std.specs.Option.{option_map_or}
use Rattle.std.specs.List.{cons_option, AllByRecursion}
use Rattle.std.proofs.lemmas.List.{length-map}
use Rattle.ais_values.specs.declared.status.Status.{Status}
use Rattle.ais_values.specs.declared.status.Status.TheVariants as status
use Rattle.stream_layout.specs.Carrying.{IsFitEvent}
use Rattle.calls.specs.declared.call.Call.{Call}
use Rattle.calls.specs.declared.call.Call.TheVariants.{LogInit, LogOpen, LogWrite, LogFilter, LogClose, LogFini, NtfSend}
use Rattle.calls.specs.declared.entry.Entry.{Entry}
use Rattle.calls.specs.declared.entry.Entry.TheVariants.{Called, Receipted}
use Rattle.log_history.specs.Changes.{LogChange}
use Rattle.log_history.specs.Changes.{LogChange as log}
use Rattle.log_history.specs.Chronicle.{lives, chronicle}
use Rattle.log_history.specs.Legal.{IsLogHistory}
use Rattle.log_history.specs.Table.{open_stream, table, events_of}
use Rattle.log_history.specs.Marks.{is_filtered, mark_after}
use Rattle.log_history.specs.Times.{second_of, record_at}
use Rattle.plain_service.specs.Setups.{Setup, log_setup, IsMoment}
use Rattle.plain_service.specs.Pasts.{Past}
use Rattle.plain_service.specs.Answers.{status_of}
use Rattle.plain_service.specs.Changing.{past_after, past_of, log_change, if_ok}
use Rattle.plain_service.specs.Legal.{IsHistory}
use Rattle.plain_service.specs.Storing.{events_by}
use Rattle.plain_service.proofs.Possible.{past_after-by, log-follows, possible}
use Rattle.log_history.specs.Stamps.{second_in, CanStamp}
use Rattle.log_history.proofs.StampLaws.{AreTimely, stamp-room}
use Rattle.log_history.proofs.EventLaws.{events-fit}

pub second-bound : (now : ℤ) → IsMoment now → second_of now ≤ 9000000000
second-bound (pos n) is = omega (arith, leb→le n 9000000000000000000 is.to.le)
second-bound (negsuc n) is = absurd is.from.le

timely-called : (setup : Setup) (past : Past) (client seq : ℕ) (now : ℤ) (call : Call) → second_of now ≤ 9000000000 → AreTimely past.log → AreTimely (past_after setup past client seq now call status.Ok).log
timely-called setup past client seq now LogInit early timely = (omega arith, timely)
timely-called setup past client seq now (LogOpen name create) early timely = (early, timely)
timely-called setup past client seq now (LogWrite name invocation flags time header body) early timely =
    by_case (is_filtered (mark_after past.log name).mask header) where
      by_case : (filtered : Bool) → AreTimely (cons_option (cond filtered None (Some (log.Stored name (record_at time header body now) (second_of now)))) past.log)
      by_case true = timely
      by_case false = (early, timely)
timely-called setup past client seq now (LogFilter name mask) early timely = (omega arith, timely)
timely-called setup past client seq now (LogClose name) early timely = (early, timely)
timely-called setup past client seq now LogFini early timely = (early, timely)
timely-called setup past client seq now (NtfSend notification) early timely = (early, timely)
timely-called setup past client seq now _ early timely = timely

-- the seconds of a history's changes
pub timely : (setup : Setup) (entries : List Entry) → IsHistory setup entries → AreTimely (past_of setup entries).log
timely setup [] history = tt
timely setup (Called client seq now call ∷ entries) history =
    past_after-by (λ after. AreTimely after.log) setup (past_of setup entries) client seq now call (status_of setup (past_of setup entries) client now call)
    (timely setup entries history.1)
    (λ ok. timely-called setup (past_of setup entries) client seq now call (second-bound now history.0.0.time) (timely setup entries history.1))
timely setup (Receipted client key through now ∷ entries) history = timely setup entries history.1

pub starts-early : (setup : Setup) (entries : List Entry) → IsHistory setup entries → second_of setup.start ≤ 9000000000
starts-early setup [] history = second-bound setup.start history.start
starts-early setup (entry ∷ entries) history = starts-early setup entries history.1

-- what is left of the last stamp after a history
pub can-stamp : (setup : Setup) (entries : List Entry) (second : ℕ) → IsHistory setup entries → length entries < 4000000000 → second ≤ 9000000000 → CanStamp (log_setup setup) (past_of setup entries).log second
can-stamp setup entries second history few early =
    let log = (past_of setup entries).log in
    let count = (possible setup entries history).log_count in
    let room = stamp-room (log_setup setup) log (starts-early setup entries history) (timely setup entries history) in
    let living : length (table (log_setup setup) log).streams ≡ length (filter lives (chronicle (log_setup setup) log).streams) =
    length-map (filter lives (chronicle (log_setup setup) log).streams) (open_stream log) in
    record { last = omega (arith, room.bound, living, count, few); early = omega (arith, room.few, living, count, few, early) }

fit-option : (setup : Setup) (log : List LogChange) (change : Option LogChange) → IsLogHistory (log_setup setup) (cons_option change log) → AreTimely (cons_option change log) → ((second : ℕ) → second ≤ 9000000000 → CanStamp (log_setup setup) log second) → AllByRecursion IsFitEvent (option_map_or (λ c. events_of c (table (log_setup setup) log)) change [])
fit-option setup log None legal early can = tt
fit-option setup log (Some change) legal early can =
    events-fit (log_setup setup) log change legal (can (second_in change) early.0)

fit-answered : (setup : Setup) (past : Past) (answered : Status) (change : Option LogChange) → (answered ≡ status.Ok → IsLogHistory (log_setup setup) (cons_option change past.log)) → AreTimely (cons_option change past.log) → ((second : ℕ) → second ≤ 9000000000 → CanStamp (log_setup setup) past.log second) → AllByRecursion IsFitEvent (option_map_or (λ c. events_of c (table (log_setup setup) past.log)) (if_ok answered change) [])
fit-answered setup past status.Ok change legal early can = fit-option setup past.log change (legal refl) early can
fit-answered setup past _ change legal early can = tt

-- **each event of an entry can happen**
pub entry-events-fit : (setup : Setup) (entry : Entry) (entries : List Entry) → IsHistory setup (entry ∷ entries) → AllByRecursion IsFitEvent (events_by setup (past_of setup entries) entry)
entry-events-fit setup (Called client seq now call) entries history =
    let past = past_of setup entries in
    fit-answered setup past (status_of setup past client now call) (log_change setup past client now call)
    (λ ok. log-follows setup past client seq now call (possible setup entries history.1).log ok)
    (timely-called setup past client seq now call (second-bound now history.0.0.time) (timely setup entries history.1))
    (λ second early. can-stamp setup entries second history.1 history.0.0.few early)
entry-events-fit setup (Receipted client key through now) entries history = tt

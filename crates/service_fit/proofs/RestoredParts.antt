-- Of a value that is fit both services can be made again, and its table has that value.
use Rattle.std.proofs.Common.{◌≡◌, ℕ, ◌≤◌, nat_lt, Bool, true, false, ◌&&◌, List, [], ◌∷◌, length, take, drop, map, refl, ap, ◌∙◌, arith, length-drop}
use Rattle.std.specs.Prelude.{◌≢◌, ℤ}
use Rattle.std.specs.List.{AllByRecursion}
use Rattle.std.proofs.lemmas.List.{length-map, reverse-reverse}
use Rattle.ais_values.proofs.Basics.{pos-unsigned_abs, map-map_back}
use Rattle.client_set.specs.Rising.{IsRising}
use Rattle.stream_config.specs.declared.attrs.StreamName.{StreamName}
use Rattle.stream_config.specs.declared.attrs.StreamName.TheVariants as name
use Rattle.stream_config.specs.Attributes.{kind_of, PassesAttrs}
use Rattle.stream_config.specs.Fit.{HasFitFiles}
use Rattle.log_history.specs.Names.{is_application}
use Rattle.log_history.specs.Chronicle.{is_empty}
use Rattle.log_history.specs.Table.{OpenStream, has_nobody}
use Rattle.log_history.specs.KeptAnswers.{is_of_application}
use Rattle.ntf_history.specs.Tables.{HaveQueues, IsSoundTable, kept_first}
use Rattle.calls.specs.declared.reply.Reply.{Reply}
use Rattle.calls.specs.declared.saved.Saved.{Saved}
use Rattle.calls.specs.declared.saved.SavedWindow.{SavedWindow}
use Rattle.calls.specs.declared.saved.SavedStream.{SavedStream}
use Rattle.calls.specs.declared.saved.SavedAlarm.{SavedAlarm}
use Rattle.calls.specs.declared.saved.SavedSub.{SavedSub}
use Rattle.plain_service.specs.Values.{saved_stream, saved_alarm}
use Rattle.plain_service.specs.Fitness.{IsFit, IsFitStream, IsFitSub, IsOfApplication, is_sub_before}
use Rattle.service_table.specs.Tables.{kept_window, kept_stream_of, kept_alarm_of, kept_sub_of, table_of_saved, saved_window, saved_queue, saved_table}
use Rattle.service_fit.proofs.RisingMaps.{rising-mapped}

-- streams: the well-known ones need no opener, and each of the others has one

abbrev IsOccupied : SavedStream → Type 0
IsOccupied stream = has_nobody (kept_stream_of stream) ≡ false

occupied-other : (stream : SavedStream) → IsOfApplication stream → IsOccupied stream
occupied-other stream is = by_case (is_application stream.state.name) stream.openers is.opened where
  by_case : (named : Bool) (openers : List ℕ) → openers ≢ [] → (named && is_empty openers) ≡ false
  by_case false openers opened = refl
  by_case true [] opened = absurd (opened refl)
  by_case true (client ∷ openers) opened = refl

occupied-known : (stream : SavedStream) (known : StreamName) → stream.state.name ≡ known → is_application known ≡ false → IsOccupied stream
occupied-known stream known named own =
    ap (λ name. is_application name && is_empty stream.openers) named ∙ ap (λ b. b && is_empty stream.openers) own

occupied-others : (streams : List SavedStream) → AllByRecursion IsOfApplication streams → AllByRecursion IsOccupied streams
occupied-others [] others = tt
occupied-others (stream ∷ streams) others = (occupied-other stream others.0, occupied-others streams others.1)

abbrev AreKnown : List StreamName → Type 0
AreKnown names = names ≡ name.Alarm ∷ name.Notification ∷ name.System ∷ []

pub occupied : (streams : List SavedStream) → AreKnown (map (λ (stream : SavedStream). stream.state.name) (take 3 streams)) → AllByRecursion IsOfApplication (drop 3 streams) → AllByRecursion IsOccupied streams
occupied [] known others = tt
occupied (one ∷ []) known others = absurd cc
occupied (one ∷ two ∷ []) known others = absurd cc
occupied (one ∷ two ∷ three ∷ streams) known others =
    let first : one.state.name ≡ name.Alarm = cc in
    let second : two.state.name ≡ name.Notification = cc in
    let third : three.state.name ≡ name.System = cc in
    let others_too : AllByRecursion IsOccupied streams = occupied-others streams others in
    (occupied-known one name.Alarm first refl, (occupied-known two name.Notification second refl, (occupied-known three name.System third refl, others_too)))

module _ (Q : OpenStream → Type 0) (sound : (stream : OpenStream) → PassesAttrs (kind_of stream.state.name) stream.state.attrs → IsRising nat_lt stream.openers → has_nobody stream ≡ false → HasFitFiles stream.state → Q stream) where
  each-sound : (saved : Saved) (streams : List SavedStream) → AllByRecursion (IsFitStream saved) streams → AllByRecursion IsOccupied streams → AllByRecursion Q (map kept_stream_of streams)
  each-sound saved [] each busy = tt
  each-sound saved (stream ∷ streams) each busy = (
    sound (kept_stream_of stream) each.0.attributes each.0.openers.rising busy.0 each.0.files,
    each-sound saved streams each.1 busy.1,
  )

  -- **each stream passes, has openers that rise, is open for somebody where it is an application's, and its files are fit**
  pub streams-fit : (saved : Saved) → IsFit saved → AllByRecursion Q (table_of_saved saved).log.streams
  streams-fit saved fit =
      each-sound saved saved.streams fit.streams.each
      (occupied saved.streams fit.streams.well_known fit.streams.others)

-- the streams of the table, by their names

names-of : (streams : List SavedStream) → AreKnown (map (λ (stream : SavedStream). stream.state.name) (take 3 streams)) → AreKnown (map (λ (stream : OpenStream). stream.state.name) (take 3 (map kept_stream_of streams)))
names-of [] known = known
names-of (one ∷ []) known = known
names-of (one ∷ two ∷ []) known = known
names-of (one ∷ two ∷ three ∷ streams) known = known

abbrev AreApplications : List OpenStream → Type 0
AreApplications streams = AllByRecursion (λ stream. is_of_application stream ≡ true) streams

applications : (streams : List SavedStream) → AllByRecursion IsOfApplication streams → AreApplications (map kept_stream_of streams)
applications [] others = tt
applications (stream ∷ streams) others = (others.0.named, applications streams others.1)

others-of : (streams : List SavedStream) → AllByRecursion IsOfApplication (drop 3 streams) → AreApplications (drop 3 (map kept_stream_of streams))
others-of [] others = tt
others-of (one ∷ []) others = tt
others-of (one ∷ two ∷ []) others = tt
others-of (one ∷ two ∷ three ∷ streams) others = applications streams others

pub names-fit : (saved : Saved) → IsFit saved → map (λ (stream : OpenStream). stream.state.name) (take 3 (table_of_saved saved).log.streams) ≡ name.Alarm ∷ name.Notification ∷ name.System ∷ []
names-fit saved fit = names-of saved.streams fit.streams.well_known

pub others-fit : (saved : Saved) → IsFit saved → AllByRecursion (λ (stream : OpenStream). is_of_application stream ≡ true) (drop 3 (table_of_saved saved).log.streams)
others-fit saved fit = others-of saved.streams fit.streams.others

pub few-fit : (saved : Saved) → IsFit saved → length (drop 3 (table_of_saved saved).log.streams) ≤ 64
few-fit saved fit =
    let streams = saved.streams in
    let mapped : length (map kept_stream_of streams) ≡ length streams = length-map streams kept_stream_of in
    omega (arith, mapped, length-drop 3 streams, length-drop 3 (map kept_stream_of streams), fit.streams.few)

-- subscriptions

queues-fit : (saved : Saved) (subs : List SavedSub) → IsFit saved → AllByRecursion (IsFitSub saved) subs → HaveQueues saved.capacity (map (kept_sub_of saved.capacity) subs)
queues-fit saved [] fit each = tt
queues-fit saved (sub ∷ subs) fit each = (
  refl,
  record { capacity = fit.counts.capacity; first = each.0.first; numbers = omega (arith, each.0.numbers, fit.counts.entries); places = each.0.places; lost = each.0.lost },
  queues-fit saved subs fit each.1,
)

-- **the Notification Service can be made again**
pub ntf-fit : (saved : Saved) → IsFit saved → IsSoundTable (table_of_saved saved).ntf
ntf-fit saved fit =
    let mapped : length (map (kept_sub_of saved.capacity) saved.subs) ≡ length saved.subs = length-map saved.subs (kept_sub_of saved.capacity) in
    record {
      capacity = fit.counts.capacity;
      users = fit.subs.users.rising;
      order = rising-mapped (kept_sub_of saved.capacity) kept_first is_sub_before (λ _ _. refl) saved.subs fit.subs.order;
      queues = queues-fit saved saved.subs fit fit.subs.each;
      few = omega (arith, mapped, fit.subs.few);
    }

-- the value of a value's table

window-again : (window : SavedWindow) → saved_window (kept_window window) ≡ window
window-again window =
    ap (λ (replies : List Reply). let saved : SavedWindow = record { client = window.client; next = window.next; replies = replies } in saved) (reverse-reverse window.replies)

-- **the table of a value that is fit has this value**
pub value-back : (saved : Saved) → IsFit saved → saved_table (table_of_saved saved) ≡ saved
value-back saved fit =
    let made : ℤ → List SavedWindow → List SavedStream → List SavedAlarm → List SavedSub → Saved =
    λ last windows streams alarms held. record {
      number = saved.number;
      last_stamp = last;
      last_id = saved.last_id;
      capacity = saved.capacity;
      log_users = saved.log_users;
      ntf_users = saved.ntf_users;
      windows = windows;
      streams = streams;
      alarms = alarms;
      subs = held;
      readers = saved.readers;
    } in
    let windows = map saved_window (map kept_window saved.windows) in
    let streams = map saved_stream (map kept_stream_of saved.streams) in
    let alarms = map saved_alarm (map kept_alarm_of saved.alarms) in
    let held = map saved_queue (map (kept_sub_of saved.capacity) saved.subs) in
    ap (λ x. made x windows streams alarms held) (pos-unsigned_abs saved.last_stamp fit.stamp.from)
    ∙ ap (λ x. made saved.last_stamp x streams alarms held) (map-map_back kept_window saved_window window-again saved.windows)
    ∙ ap (λ x. made saved.last_stamp saved.windows x alarms held) (map-map_back kept_stream_of saved_stream (λ _. refl) saved.streams)
    ∙ ap (λ x. made saved.last_stamp saved.windows saved.streams x held) (map-map_back kept_alarm_of saved_alarm (λ _. refl) saved.alarms)
    ∙ ap (made saved.last_stamp saved.windows saved.streams saved.alarms) (map-map_back (kept_sub_of saved.capacity) saved_queue (λ _. refl) saved.subs)

-- A service that nobody has used stands for the empty history.
use Rattle.std.proofs.Common.{◌≡◌, ℕ, ◌≤◌, List, [], ◌∷◌, map, refl, ap, sym, subst, ◌∙◌, arith}
use Rattle.std.specs.Prelude.{ℤ}
use Rattle.std.specs.List.{AllByRecursion}
use Rattle.stream_config.specs.declared.attrs.StreamAttrs.{StreamAttrs}
use Rattle.stream_config.specs.declared.attrs.StreamName.TheVariants as name
use Rattle.stream_config.specs.declared.state.StreamState.{StreamState}
use Rattle.stream_config.specs.declared.event.StreamEvent.{StreamEvent}
use Rattle.stream_config.specs.declared.event.StreamEvent.TheVariants as event
use Rattle.stream_config.specs.Stamps.{stamp_after}
use Rattle.stream_layout.specs.declared.deed.Deed.{Deed}
use Rattle.stream_layout.specs.Carrying.{IsFitEvent}
use Rattle.log_history.specs.Chronicle.{LogSetup, new_stream, beginning}
use Rattle.log_history.specs.Deeds.{made_stream, deeds_of_all, opening_deeds}
use Rattle.log_history.specs.Legal.{IsSetup}
use Rattle.log_history.specs.Table.{LogTable, state_of, new_state, table}
use Rattle.log_history.specs.Times.{second_of}
use Rattle.log_history.proofs.EventLaws.{fit-making}
use Rattle.log_history.proofs.StreamLaws.{made-is}
use Rattle.log_service.specs.State.{BeginsWith, HasBegun as HasBegunLog, made_event}
use Rattle.plain_service.specs.Setups.{Setup, log_setup}
use Rattle.plain_service.specs.Storing.{opening_of}
use Rattle.plain_service.specs.Fitness.{IsFit}
use Rattle.service_table.specs.Tables.{ServiceTable}
use Rattle.service_table.specs.Histories.{service_of}
use Rattle.service_table.proofs.SavedLaws.{table-stands}
use Rattle.service_fit.proofs.HistoryFit.{history-fit}
use Rattle.service_core.specs.declared.kept.Kept.{Kept}
use Rattle.service_core.specs.Beginning.{BeginsAs, CanBeginAs}
use Rattle.service_core.specs.Inside.{kept_table, IsKeptAs}
use Rattle.service_core.specs.Opening.{unused_table, HasOpened}
use Rattle.plain_service.proofs.HistoryEvents.{second-bound}

-- the events of the start are those by which the well-known streams are made
opening-events : (setup : LogSetup) → IsSetup setup → map made_event (table setup []).streams ≡ map made_stream (beginning setup).streams
opening-events setup passes =
    let alarm = setup.start in
    let notification = stamp_after alarm setup.start in
    let system = stamp_after notification setup.start in
    let made : StreamState → StreamState → StreamState → List StreamEvent =
    λ one two three. event.Made one ∷ event.Made two ∷ event.Made three ∷ [] in
    let one = made-is name.Alarm setup.alarm alarm passes.alarm.some_rotated in
    let two = made-is name.Notification setup.notification notification passes.notification.some_rotated in
    let three = made-is name.System setup.system system passes.system.some_rotated in
    ap (λ s. made s (state_of (new_stream name.Notification setup.notification notification)) (state_of (new_stream name.System setup.system system))) one
    ∙ ap (λ s. made (new_state name.Alarm setup.alarm alarm) s (state_of (new_stream name.System setup.system system))) two
    ∙ ap (made (new_state name.Alarm setup.alarm alarm) (new_state name.Notification setup.notification notification)) three

opening-fit : (setup : LogSetup) → IsSetup setup → setup.start ≤ 20000000000 → AllByRecursion IsFitEvent (map made_stream (beginning setup).streams)
opening-fit setup passes early =
    let alarm = setup.start in
    let notification = stamp_after alarm setup.start in
    let system = stamp_after notification setup.start in
    (fit-making name.Alarm setup.alarm alarm (omega (arith, early)) passes.alarm, (fit-making name.Notification setup.notification notification (omega (arith, early)) passes.notification, (fit-making name.System setup.system system (omega (arith, early)) passes.system, tt)))

-- what the log asks as it begins

begins-log : (setup : Setup) (start : ℤ) (cap : ℕ) (wells : List StreamAttrs) → BeginsAs setup start cap wells → BeginsWith (log_setup setup) start wells
begins-log setup start cap wells begins =
    record { second = ap second_of begins.start_is; attributes = begins.attributes; sound = begins.sound.streams }

-- what the log begins with
abbrev pub LogBegins : ℤ → List StreamAttrs → LogTable → List StreamEvent → Type 0
LogBegins start wells log events = (setup : LogSetup) → BeginsWith setup start wells → HasBegunLog setup (log, events)

-- the events can happen
pub begun-fit : (start : ℤ) (cap : ℕ) (wells : List StreamAttrs) (log : LogTable) (events slice : List StreamEvent) → CanBeginAs start cap wells → LogBegins start wells log events → slice ≡ events → AllByRecursion IsFitEvent slice
begun-fit start cap wells log events slice can begun same =
    let setup = can.0 in
    let sound = can.1.sound in
    let is = begun (log_setup setup) (begins-log setup start cap wells can.1) in
    subst (AllByRecursion IsFitEvent) (sym (same ∙ is.done ∙ opening-events (log_setup setup) sound.streams))
    (opening-fit (log_setup setup) sound.streams (omega (arith, second-bound setup.start sound.start)))

unused-is : (setup : Setup) → unused_table setup.capacity (table (log_setup setup) []) ≡ service_of setup []
unfolding service_of
unused-is setup = refl

opening-is : (setup : Setup) → opening_deeds (log_setup setup) ≡ opening_of setup
unfolding opening_of
opening-is setup = refl

-- **what is kept is the table of the empty history**
pub opened-as : (start : ℤ) (cap : ℕ) (wells : List StreamAttrs) (log : LogTable) (events slice : List StreamEvent) (deeds : List Deed) (kept : Kept) → LogBegins start wells log events → slice ≡ events → deeds ≡ deeds_of_all slice → kept_table kept ≡ unused_table cap log → (setup : Setup) → BeginsAs setup start cap wells → HasOpened setup kept deeds
opened-as start cap wells log events slice deeds kept begun same done unused setup begins =
    let is = begun (log_setup setup) (begins-log setup start cap wells begins) in
    record {
      now = unused ∙ ap (λ c. unused_table c log) (sym begins.capacity_is) ∙ ap (unused_table setup.capacity) is.now ∙ unused-is setup;
      done = done ∙ ap deeds_of_all (same ∙ is.done ∙ opening-events (log_setup setup) begins.sound.streams) ∙ opening-is setup;
    }

capacity-of : (setup : Setup) → (service_of setup []).ntf.capacity ≡ setup.capacity
unfolding service_of
capacity-of setup = refl

-- what the service begins with
abbrev pub Opens : ℤ → ℕ → List StreamAttrs → Kept → List Deed → Type 0
Opens start cap wells kept deeds = (setup : Setup) → BeginsAs setup start cap wells → HasOpened setup kept deeds

-- **the service keeps what it must**
pub opened-kept : (start : ℤ) (cap : ℕ) (wells : List StreamAttrs) (kept : Kept) (deeds : List Deed) → CanBeginAs start cap wells → Opens start cap wells kept deeds → IsKeptAs (kept_table kept) cap
opened-kept start cap wells kept deeds can opened =
    let setup = can.0 in
    let is = opened setup can.1 in
    record {
      fit = subst IsFit (sym (table-stands setup [] (kept_table kept) is.now)) (history-fit setup [] can.1.sound);
      capacity = sym (ap (λ (whole : ServiceTable). whole.ntf.capacity) is.now ∙ capacity-of setup ∙ can.1.capacity_is);
    }

-- Each event that a change of the log brings to a stream can happen to it, so that its deeds are defined.
use Rattle.std.proofs.Common.{◌≡◌, ℕ, ◌+◌, ◌<◌, ◌≤◌, Bool, true, false, cond, List, [], ◌∷◌, length, refl, subst, arith}
use Rattle.std.specs.Prelude.{Option, Some, None, pos}
use Rattle.std.specs.Option.{option_map_or}
use Rattle.std.specs.List.{AllByRecursion}
use Rattle.std.proofs.lemmas.List.{length-map}
use Rattle.stream_config.specs.declared.attrs.StreamName.{StreamName}
use Rattle.stream_config.specs.declared.event.StreamEvent.TheVariants as event
use Rattle.stream_config.specs.Fit.{stamps_of}
use Rattle.stream_config.specs.Marks.{first_mark}
use Rattle.stream_config.specs.Stamps.{stamp_after}
use Rattle.stream_layout.specs.Carrying.{IsFitStream, IsFitEvent}
use Rattle.record_print.specs.declared.record.LogRecord.{LogRecord}
use Rattle.log_history.specs.Changes.{LogChange, Began, Opened, Stored, Filtered, Closed, Ended}
use Rattle.log_history.specs.Table.{OpenStream, LogTable, is_named, without_opener, is_changing, storing, has_nobody, ends_in, closed_streams, left_streams, events_of, new_state}
use Rattle.log_history.specs.KeptAnswers.{kept_stream, lacks_room_in}
use Rattle.log_history.proofs.EventLaws.{length-changed, stamps-are, due-stamps}
use Rattle.log_history.proofs.StreamLaws.{stamp-is}
use Rattle.log_history.specs.Stamps.{second_in}
use Rattle.plain_service.proofs.ListLaws.{each-weaker, each-mapped, each-change_first}
use Rattle.service_fit.specs.Fit.{IsFitState}
use Rattle.service_fit.proofs.FileSteps.{can-take}
use Rattle.service_fit.proofs.LogFit.{IsFitInside, few-streams}
use Rattle.service_fit.proofs.LogSteps.{CanChange, fit-new, first-fits, filled-is}

fit-state : (last number : ℕ) (stream : OpenStream) → last ≤ 20000000100 → IsFitState last number stream → IsFitStream stream.state
fit-state last number stream le fit = record {
  attributes = fit.attributes;
  standing = fit.files;
  stamps = stamps-are last le (stamps_of stream.state.files) fit.stamps;
}

fit-storing : (last second number : ℕ) (rec : LogRecord) (stream : OpenStream) → last + 2 ≤ 20000000100 → second < 20000000100 → lacks_room_in stream.state rec ≡ false → IsFitState last number stream → IsFitEvent (storing last second rec stream.state)
fit-storing last second number rec stream le early room fit =
    let can = can-take last second number rec stream fit room in
    record {
      stream = fit-state last number stream (omega (arith, le)) fit;
      size = can.size;
      room = can.room;
      changes = can.changes;
      new_stamps = due-stamps (is_changing stream.state rec) last second le early;
    }

fit-ends : (last number second most : ℕ) (streams : List OpenStream) → most ≤ 20000000100 → last + length streams ≤ 20000000100 → second + length streams ≤ 20000000100 → AllByRecursion (IsFitState most number) streams → AllByRecursion IsFitEvent (ends_in last second streams)
fit-ends last number second most [] up le early each = tt
fit-ends last number second most (stream ∷ streams) up le early each =
    by_case (has_nobody stream) (λ l more. fit-ends l number second most streams up more (omega (arith, early)) each.1) where
      by_case : (b : Bool) → ((l : ℕ) → l + length streams ≤ 20000000100 → AllByRecursion IsFitEvent (ends_in l second streams)) → AllByRecursion IsFitEvent (cond b (event.Ended stream.state (pos (stamp_after last second)) ∷ ends_in (stamp_after last second) second streams) (ends_in last second streams))
      by_case true behind =
          (record { stream = fit-state most number stream up each.0; stamp = stamp-is (stamp_after last second) (omega (arith, le, early)) }, behind (stamp_after last second) (omega (arith, le, early)))
      by_case false behind = behind last (omega (arith, le))

unopened : (last number client : ℕ) (stream : OpenStream) → IsFitState last number stream → IsFitState last number (without_opener client stream)
unopened last number client stream is =
    record { attributes = is.attributes; files = is.files; stamps = is.stamps; taken = is.taken; mark = is.mark }

-- what holds of each stream holds of the one of a name
pub find-fit : (last number : ℕ) (stream : StreamName) (streams : List OpenStream) (s : OpenStream) → AllByRecursion (IsFitState last number) streams → kept_stream streams stream ≡ Some s → IsFitState last number s
find-fit last number stream [] s each is = cc
find-fit last number stream (one ∷ streams) s each is = by_case (is_named stream one) is (find-fit last number stream streams s each.1) where
  by_case : (named : Bool) → cond named (Some one) (kept_stream streams stream) ≡ Some s → (kept_stream streams stream ≡ Some s → IsFitState last number s) → IsFitState last number s
  by_case true same on = let e : one ≡ s = cc in subst (IsFitState last number) e each.0
  by_case false same on = on same

stored-fit : (number second : ℕ) (rec : LogRecord) (kept : LogTable) (stream : StreamName) → number < 4000000000 → second ≤ 9000000000 → CanChange kept (Stored stream rec second) → IsFitInside number kept → (found : Option OpenStream) → kept_stream kept.streams stream ≡ found → AllByRecursion (IsFitState kept.last number) kept.streams → AllByRecursion IsFitEvent (option_map_or (λ (s : OpenStream). storing kept.last second rec s.state ∷ []) found [])
stored-fit number second rec kept stream few early can fit None is each = tt
stored-fit number second rec kept stream few early can fit (Some s) is each =
    (fit-storing kept.last second number rec s (omega (arith, fit.room, few)) (omega (arith, early)) (filled-is kept.streams stream rec s can is) (find-fit kept.last number stream kept.streams s each is), tt)

-- **the events of a change can happen**
pub events-fit : (number : ℕ) (kept : LogTable) (change : LogChange) → number < 4000000000 → second_in change ≤ 9000000000 → CanChange kept change → IsFitInside number kept → AllByRecursion IsFitEvent (events_of change kept)
events-fit number kept (Began client) few early can fit = tt
events-fit number kept (Opened client stream None second entry) few early can fit = tt
events-fit number kept (Opened client stream (Some attrs) second entry) few early can fit =
    let last = stamp_after kept.last second in
    let new : OpenStream = record { state = new_state stream attrs last; openers = client ∷ []; mark = first_mark } in
    (record { stream = fit-state last number new (omega (arith, fit.room, few, early)) (fit-new client last last number stream attrs first_mark (omega arith) can (first-fits number stream)); fresh = refl }, tt)
events-fit number kept (Filtered client stream mask entry) few early can fit = tt
events-fit number kept (Stored stream rec second) few early can fit =
    stored-fit number second rec kept stream few early can fit (kept_stream kept.streams stream) refl fit.each
events-fit number kept (Closed client stream second) few early can fit =
    let left = closed_streams client stream kept.streams in
    let same = length-changed (is_named stream) (without_opener client) kept.streams in
    fit-ends kept.last number second kept.last left (omega (arith, fit.room, few)) (omega (arith, fit.room, few, same)) (omega (arith, few-streams number kept fit, few, early, same))
    (each-change_first (IsFitState kept.last number) (is_named stream) (without_opener client) (unopened kept.last number client) kept.streams fit.each)
events-fit number kept (Ended client second) few early can fit =
    let left = left_streams client kept.streams in
    let same : length left ≡ length kept.streams = length-map kept.streams (without_opener client) in
    fit-ends kept.last number second kept.last left (omega (arith, fit.room, few)) (omega (arith, fit.room, few, same)) (omega (arith, few-streams number kept fit, few, early, same))
    (each-mapped (IsFitState kept.last number) (without_opener client) kept.streams
    (each-weaker (IsFitState kept.last number) (λ s. IsFitState kept.last number (without_opener client s)) (unopened kept.last number client) kept.streams fit.each))

-- Each event that an entry brings to a stream can happen to it, so that its deeds are defined.
use Rattle.std.proofs.Common.{◌≡◌, ℕ, suc, ◌+◌, ◌<◌, ◌≤◌, Bool, true, false, cond, List, [], ◌∷◌, length, map, refl, ap, sym, subst, arith, leb→le}
use Rattle.std.specs.Prelude.{Option, Some, None, option_map, filter, ℤ, pos, negsuc, IfSome, All}
use Rattle.std.specs.Option.{option_map_or}
use Rattle.std.specs.List.{AllByRecursion}
use Rattle.std.proofs.lemmas.List.Elements.{All-nil, All-cons}
use Rattle.std.proofs.lemmas.Bool.{and_parts}
use Rattle.std.proofs.lemmas.List.{length-map}
use Rattle.stream_config.specs.declared.attrs.StreamAttrs.{StreamAttrs}
use Rattle.stream_config.specs.declared.attrs.StreamName.{StreamName}
use Rattle.stream_config.specs.declared.event.Stamps.{Stamps}
use Rattle.stream_config.specs.declared.event.StreamEvent.TheVariants as event
use Rattle.stream_config.specs.Attributes.{kind_of, PassesAttrs}
use Rattle.stream_config.specs.Fit.{stamps_of}
use Rattle.stream_config.specs.Stamps.{stamp_after}
use Rattle.stream_layout.specs.Carrying.{IsStamp, IsFitStream, IsFitEvent}
use Rattle.record_print.specs.declared.record.LogRecord.{LogRecord}
use Rattle.log_history.specs.Firsts.{change_first}
use Rattle.log_history.specs.Changes.{LogChange, Began, Opened, Stored, Filtered, Closed, Ended}
use Rattle.log_history.specs.Chronicle.{LogSetup, Stream, lives, is_living, files_had, length_next, chronicle}
use Rattle.log_history.specs.Answers.{living_stream, lacks_room}
use Rattle.log_history.specs.Rounds.{last_of}
use Rattle.log_history.specs.Legal.{IsLogHistory}
use Rattle.log_history.specs.Table.{OpenStream, state_of, open_stream, table, is_named, without_opener, new_state, is_changing, storing, has_nobody, ends_in, closed_streams, left_streams, events_of}
use Rattle.log_history.proofs.FirstLaws.{Each, Each-find, Each-filter, Each-change_first, Each-weaker}
use Rattle.log_history.proofs.AnswerLaws.{makes-stream}
use Rattle.log_history.proofs.Reaching.{Passes, reached}
use Rattle.log_history.proofs.TableLaws.{find-living}
use Rattle.log_history.specs.Stamps.{IsStampUpTo, second_in, CanStamp}
use Rattle.log_history.proofs.StreamLaws.{IsSoundStream, fit-stamps, stamp-is, can-store-next, fit-made}
use Rattle.log_history.proofs.SoundStreams.{Each-both, sound}
use Rattle.ais_values.proofs.Basics.{none_from}

-- stamps that names can show

pub up-to-is : (last : ℕ) → last ≤ 20000000100 → (stamp : ℤ) → IsStampUpTo (pos last) stamp → IsStamp stamp
up-to-is last le (pos n) is = stamp-is n (omega (arith, leb→le n last is.to.le, le))
up-to-is last le (negsuc n) is = absurd is.from.le

pub stamps-are : (last : ℕ) → last ≤ 20000000100 → (stamps : List ℤ) → AllByRecursion (IsStampUpTo (pos last)) stamps → All IsStamp stamps
stamps-are last le [] each = All-nil IsStamp
stamps-are last le (stamp ∷ stamps) each =
    All-cons IsStamp stamp stamps (up-to-is last le stamp each.0) (stamps-are last le stamps each.1)

-- a living stream of a history
pub fit-state : (last : ℕ) (stream : Stream) → last ≤ 20000000100 → Passes stream → stream.ended ≡ None → IsSoundStream last stream → IsFitStream (state_of stream)
fit-state last stream le passes living is = record {
  attributes = passes;
  standing = is.fit living;
  stamps = stamps-are last le (stamps_of (state_of stream).files) (fit-stamps last stream passes.some_rotated living is);
}

-- a stream that is found by its name
record IsFound (last : ℕ) (stream : Stream) : Type 0 where
  passes : Passes stream
  sound : IsSoundStream last stream
  living : stream.ended ≡ None

found : (setup : LogSetup) (past : List LogChange) → IsLogHistory setup past → (name : StreamName) (stream : Stream) → living_stream setup past name ≡ Some stream → IsFound (chronicle setup past).last stream
found setup past legal name stream is =
    let streams = (chronicle setup past).streams in
    let last = (chronicle setup past).last in
    let each = Each-both Passes (IsSoundStream last) streams (reached setup past legal).passing (sound setup past legal) in
    let here = Each-find (λ s. Passes s × IsSoundStream last s) (is_living name) streams stream each is in
    record { passes = here.0.0; sound = here.0.1; living = none_from stream.ended (and_parts (lives stream) _ here.1).0 }

-- a record that is stored

pub due-stamps : (b : Bool) (last second : ℕ) → last + 2 ≤ 20000000100 → second < 20000000100 → IfSome (cond b (Some (record { closed = pos (stamp_after last second); created = pos (stamp_after (stamp_after last second) second) })) None) (λ (two : Stamps). IsStamp two.closed × IsStamp two.created)
due-stamps true last second le early = (stamp-is (stamp_after last second) (omega (arith, le, early)), stamp-is (stamp_after (stamp_after last second) second) (omega (arith, le, early)))
due-stamps false last second le early = tt

fit-storing : (last second : ℕ) (rec : LogRecord) (stream : Stream) → last + 2 ≤ 20000000100 → second < 20000000100 → IsFound last stream → lacks_room stream.attrs (last_of (files_had stream)).bytes (length_next stream rec) ≡ false → IsFitEvent (storing last second rec (state_of stream))
fit-storing last second rec stream le early is room =
    let can = can-store-next last second rec stream is.passes is.living room (is.sound.fit is.living) in
    record {
      stream = fit-state last stream (omega (arith, le)) is.passes is.living is.sound;
      size = can.size;
      room = can.room;
      changes = can.changes;
      new_stamps = due-stamps (is_changing (state_of stream) rec) last second le early;
    }

-- a stream that is made

pub fit-making : (name : StreamName) (attrs : StreamAttrs) (created : ℕ) → created ≤ 20000000100 → PassesAttrs (kind_of name) attrs → IsFitEvent (event.Made (new_state name attrs created))
fit-making name attrs created le passes = record {
  stream = record {
    attributes = passes;
    standing = fit-made name attrs created passes.some_rotated;
    stamps = All-cons IsStamp (pos created) [] (stamp-is created le) (All-nil IsStamp);
  };
  fresh = refl;
}

-- streams that end

abbrev HasFitState : OpenStream → Type 0
HasFitState stream = IsFitStream stream.state

fit-ends : (last second : ℕ) (streams : List OpenStream) → last + length streams ≤ 20000000100 → second + length streams ≤ 20000000100 → Each HasFitState streams → AllByRecursion IsFitEvent (ends_in last second streams)
fit-ends last second [] le early each = tt
fit-ends last second (stream ∷ streams) le early each =
    by_case (has_nobody stream)
    (λ l more. fit-ends l second streams more (omega (arith, early)) each.1) where
      by_case : (b : Bool) → ((l : ℕ) → l + length streams ≤ 20000000100 → AllByRecursion IsFitEvent (ends_in l second streams)) → AllByRecursion IsFitEvent (cond b (event.Ended stream.state (pos (stamp_after last second)) ∷ ends_in (stamp_after last second) second streams) (ends_in last second streams))
      by_case true behind =
          (record { stream = each.0; stamp = stamp-is (stamp_after last second) (omega (arith, le, early)) }, behind (stamp_after last second) (omega (arith, le, early)))
      by_case false behind = behind last (omega (arith, le))

pub length-changed : {X : Type 0} (test : X → Bool) (change : X → X) (xs : List X) → length (change_first test change xs) ≡ length xs
length-changed test change [] = refl
length-changed {X} test change (x ∷ xs) = by_case (test x) (length-changed test change xs) where
  by_case : (b : Bool) → length (change_first test change xs) ≡ length xs → length (cond b (change x ∷ xs) (x ∷ change_first test change xs)) ≡ length (x ∷ xs)
  by_case true rest = refl
  by_case false rest = ap suc rest

Each-mapped : {X Y : Type 0} (P : Y → Type 0) (f : X → Y) (xs : List X) → Each (λ x. P (f x)) xs → Each P (map f xs)
Each-mapped P f [] each = tt
Each-mapped P f (x ∷ xs) each = (each.0, Each-mapped P f xs each.1)

-- the kept streams
pub fit-kept : (setup : LogSetup) (past : List LogChange) → IsLogHistory setup past → (chronicle setup past).last ≤ 20000000100 → Each HasFitState (table setup past).streams
fit-kept setup past legal le =
    let streams = (chronicle setup past).streams in
    let last = (chronicle setup past).last in
    let each = Each-both Passes (IsSoundStream last) streams (reached setup past legal).passing (sound setup past legal) in
    Each-mapped HasFitState (open_stream past) (filter lives streams)
    (Each-weaker (λ s. (Passes s × IsSoundStream last s) × (lives s ≡ true)) (λ s. HasFitState (open_stream past s))
    (λ stream is. fit-state last stream le is.0.0 (none_from stream.ended is.1) is.0.1) (filter lives streams)
    (Each-filter (λ s. Passes s × IsSoundStream last s) lives streams each))

stored-fit : (setup : LogSetup) (past : List LogChange) → IsLogHistory setup past → (name : StreamName) (rec : LogRecord) (second : ℕ) → CanStamp setup past second → (living : Option Stream) → living_stream setup past name ≡ living → option_map_or (λ (s : Stream). lacks_room s.attrs (last_of (files_had s)).bytes (length_next s rec)) living false ≡ false → AllByRecursion IsFitEvent (option_map_or (λ (stream : OpenStream). storing (chronicle setup past).last second rec stream.state ∷ []) (option_map (open_stream past) living) [])
stored-fit setup past legal name rec second can None is room = tt
stored-fit setup past legal name rec second can (Some stream) is room =
    (fit-storing (chronicle setup past).last second rec stream (omega (arith, can.last)) (omega (arith, can.early)) (found setup past legal name stream is) room, tt)

-- **each event that a change brings can happen**
pub events-fit : (setup : LogSetup) (past : List LogChange) (change : LogChange) → IsLogHistory setup (change ∷ past) → CanStamp setup past (second_in change) → AllByRecursion IsFitEvent (events_of change (table setup past))
events-fit setup past (Began client) legal can = tt
events-fit setup past (Opened client name None at number) legal can = tt
events-fit setup past (Opened client name (Some attrs) at number) legal can =
    (fit-making name attrs (stamp_after (chronicle setup past).last at) (omega (arith, can.last, can.early)) (makes-stream setup past client name attrs legal.0.0 legal.0.1).passes, tt)
events-fit setup past (Stored name rec at) legal can =
    subst (λ (found : Option OpenStream). AllByRecursion IsFitEvent (option_map_or (λ (stream : OpenStream). storing (chronicle setup past).last at rec stream.state ∷ []) found []))
    (sym (find-living name past (chronicle setup past).streams))
    (stored-fit setup past legal.1 name rec at can (living_stream setup past name) refl legal.0.1)
events-fit setup past (Filtered client name mask number) legal can = tt
events-fit setup past (Closed client name at) legal can =
    let streams = (table setup past).streams in
    let kept = fit-kept setup past legal.1 (omega (arith, can.last)) in
    let count = length-changed (is_named name) (without_opener client) streams in
    fit-ends (chronicle setup past).last at (closed_streams client name streams) (omega (arith, count, can.last)) (omega (arith, count, can.early))
    (Each-change_first HasFitState (is_named name) (without_opener client) (λ stream is. is) streams kept)
events-fit setup past (Ended client at) legal can =
    let streams = (table setup past).streams in
    let kept = fit-kept setup past legal.1 (omega (arith, can.last)) in
    let count = length-map streams (without_opener client) in
    fit-ends (chronicle setup past).last at (left_streams client streams) (omega (arith, count, can.last)) (omega (arith, count, can.early))
    (Each-mapped HasFitState (without_opener client) streams kept)

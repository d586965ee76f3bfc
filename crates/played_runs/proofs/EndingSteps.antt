-- Ends of parts are ends of the whole.
use Rattle.std.proofs.Common.{◌≡◌, ℕ, List, [], ◌∷◌, ◌++◌, length, Option, Some, None, Result, Ok, Err, refl, ap, sym, ◌∙◌, subst, append-nil}
use Rattle.std.specs.Prelude.{IfOk, IfSome}
use Rattle.std.specs.FinMap as files
use Rattle.std.specs.Io.KnownBytes.{Appends}
use Rattle.std.proofs.KnownBytes.{Appends-nil}
use Rattle.std.proofs.lemmas.List.{length-map}
use Rattle.disk_model.specs.Counts.{Counters, read_more}
use Rattle.disk_model.specs.Disk.{Files}
use Rattle.disk_model.specs.Seen.{DiskSeen}
use Rattle.plain_service.specs.Setups.{Setup}
use Rattle.played_runs.specs.declared.ending.End.{End}
use Rattle.played_runs.specs.declared.ending.Status8.{Status8}
use Rattle.played_runs.specs.declared.ending.Status8.TheVariants.{Done, ScriptRefused, Usage, Memory, ReadFault, WriteFault, DiskFault, RootNotEmpty, TooLong, JournalRefused, Inseparable}
use Rattle.played_runs.specs.Edges.{Edge, edge, before, Stage, stage}
use Rattle.played_runs.specs.Ends.{PlayEnds, PlayLacks, InEvent, StoodUpTo, AtEvent}
use Rattle.played_runs.specs.Games.{Game}
use Rattle.played_runs.specs.Playing.{Goes, PlaysFront}
use Rattle.played_runs.specs.Steps.{EventsEnd, LacksBehind}
use Rattle.played_runs.specs.Views.{HoldsNone, behind_opening, counters_of, names_told}
use Rattle.played_runs.specs.Writing.{EndWritten, IsNever, IsText, Reaching, Written, Lacked}
use Rattle.played_runs.proofs.WritingSteps.{written-as}

-- the end of a text
pub text-ends : (E : Reaching) (status : Status8) (whole : List ℕ) → E (Some status) whole → (reached : Option Status8) (text : List ℕ) → IsText status whole reached text → E reached text
text-ends E status whole ends reached text is =
    let T : List ℕ → Type 0 = λ one. E (Some status) one in
    let R : Option Status8 → Type 0 = λ one. E one text in
    subst R (sym is.0) (subst T (sym is.1) ends)

pub text-written : {K : Type 0} (E : Reaching) (L : List ℕ → Type 0) (status : Status8) (whole : List ℕ) (sink : Edge K (List ℕ)) (result : Status8) → E (Some status) whole → Written (IsText status whole) IsNever sink result → Written E L sink result
text-written E L status whole sink result ends written =
    written-as (IsText status whole) E IsNever L sink result (text-ends E status whole ends) (λ text never. absurd never) written

-- nothing was written, and memory was wanting
pub lacked : {K : Type 0} (E : Reaching) (L : List ℕ → Type 0) (sink : Edge K (List ℕ)) → L [] → sink.new ≡ sink.old → Written E L sink Memory
lacked {K} E L sink lacks same =
    let A : K → Type 0 = λ new. Appends (before sink) (sink.told new) [] in
    Lacked refl (ap (λ one. sink.faults one) same) [] lacks (subst A (sym same) (Appends-nil (before sink)))

-- the end that was written, or none for want of memory
pub end-written : {K X : Type 0} (E : Reaching) (L : List ℕ → Type 0) (end : Result End X) (sink : Edge K (List ℕ)) (status : Status8) → EndWritten end sink status → IfOk end (λ one. E (Some one.status) one.text.items) → L [] → Written E L sink status
end-written E L (Ok end) sink status written ends lacks = text-written E L end.status end.text.items sink status ends written
end-written E L (Err e) sink status written ends lacks =
    let W : Status8 → Type 0 = λ one. Written E L sink one in
    subst W (sym written.0) (lacked E L sink lacks written.1)

-- a disk that lists no name holds no file
pub held-none : (old : Option Files) (names : List (List ℕ)) → IfSome old (λ f. names ≡ files.keys f) → length names ≡ 0 → HoldsNone old
held-none None names listed none = tt
held-none (Some f) names listed none =
    files.empty_of_len f (files.len-entries f ∙ sym (length-map (files.entries f) (λ e. e.0)) ∙ ap length (sym listed) ∙ none)

-- a disk that told its names
pub names-told : (held left : DiskSeen) → left.files ≡ held.files → left.tally ≡ read_more 1 held.tally → left.faults ≡ held.faults → left.stops ≡ held.stops → left ≡ names_told held
names-told held left same counted stood stopped = λ i. record { files = same i; tally = counted i; faults = stood i; stops = stopped i }

module _ {P L S W : Type 0} (game : Game P L S W) where
  -- Lines behind the opening, and the whole script.

  -- the beginning of a script that was played
  abbrev pub front-of : (held : Option Files) (first : Counters) (opening : L) (events done rest : List L) (setup : Setup) (places : ℕ) (text : List ℕ) → game.Begins opening setup places → HoldsNone held → events ≡ done ++ rest → (Goes game) setup places held (behind_opening setup first) done text → (PlaysFront game) held first (opening ∷ events) done rest text
  front-of held first opening events done rest setup places text begins empty parts goes = record {
    opening = opening;
    parts = ap (λ (behind : List L). opening ∷ behind) parts;
    empty = empty;
    setup = setup;
    places = places;
    begins = begins;
    goes = goes;
  }

  module _ {K D : Type 0} (told : K → Option (List ℕ)) (sink_faults : K → ℕ) (out out_after : K) (shows : D → DiskSeen) (world world_after : W) where
    -- where a script is played between these values of the disk
    abbrev Played : D → D → Stage W K D
    Played old new = stage (edge told sink_faults out out_after) shows old new world world_after

    events-of : (old new : D) (opening : L) (events : List L) (setup : Setup) (places : ℕ) → game.Begins opening setup places → HoldsNone (shows old).files → (reached : Option Status8) (text : List ℕ) → (EventsEnd game) setup places (shows old).files (behind_opening setup (counters_of (shows old))) (shows new) (StoodUpTo shows) world_after events reached text → PlayEnds game (opening ∷ events) (Played old new) reached text
    events-of old new opening events setup places begins empty None text ends = (
      ends.0,
      ends.1,
      record {
        front = front-of (shows old).files (counters_of (shows old)) opening events ends.0 ends.1 setup places text begins empty ends.2 ends.3.goes;
        now = ends.3.now;
      },
    )
    events-of old new opening events setup places begins empty (Some Done) text ends = (
      events,
      record {
        front = front-of (shows old).files (counters_of (shows old)) opening events events [] setup places text begins empty (sym (append-nil events)) ends.goes;
        now = ends.now;
      },
    )
    events-of old new opening events setup places begins empty (Some DiskFault) text ends =
        let behind = ends.behind in
        let front = front-of (shows old).files (counters_of (shows old)) opening events behind.done (behind.next ∷ behind.rest) setup places ends.front begins empty behind.parts behind.goes in
        AtEvent behind.done behind.next behind.rest ends.front front ends.lines ends.fault ends.since ends.written
    events-of old new opening events setup places begins empty (Some ScriptRefused) text ends = absurd ends
    events-of old new opening events setup places begins empty (Some Usage) text ends = absurd ends
    events-of old new opening events setup places begins empty (Some Memory) text ends = absurd ends
    events-of old new opening events setup places begins empty (Some ReadFault) text ends = absurd ends
    events-of old new opening events setup places begins empty (Some WriteFault) text ends = absurd ends
    events-of old new opening events setup places begins empty (Some RootNotEmpty) text ends = absurd ends
    events-of old new opening events setup places begins empty (Some TooLong) text ends = absurd ends
    events-of old new opening events setup places begins empty (Some JournalRefused) text ends = absurd ends
    events-of old new opening events setup places begins empty (Some Inseparable) text ends = absurd ends

    -- the names were asked for before and the cluster was begun, and the disk counted what that counts
    pub events-play : (old mid new : D) (opening : L) (events : List L) (setup : Setup) (places : ℕ) → game.Begins opening setup places → HoldsNone (shows old).files → counters_of (shows mid) ≡ behind_opening setup (counters_of (shows old)) → (reached : Option Status8) (text : List ℕ) → (EventsEnd game) setup places (shows old).files (counters_of (shows mid)) (shows new) (StoodUpTo shows) world_after events reached text → PlayEnds game (opening ∷ events) (Played old new) reached text
    events-play old mid new opening events setup places begins empty counted reached text ends =
        let E : Counters → Type 0 = λ first. (EventsEnd game) setup places (shows old).files first (shows new) (StoodUpTo shows) world_after events reached text in
        events-of old new opening events setup places begins empty reached text (subst E counted ends)

    pub events-lack : (old mid new : D) (opening : L) (events : List L) (setup : Setup) (places : ℕ) → game.Begins opening setup places → HoldsNone (shows old).files → counters_of (shows mid) ≡ behind_opening setup (counters_of (shows old)) → (text : List ℕ) → (LacksBehind game) setup places (shows old).files (counters_of (shows mid)) (shows new) world_after events text → PlayLacks game (opening ∷ events) (Played old new) text
    events-lack old mid new opening events setup places begins empty counted text broke =
        let Lacked : Counters → Type 0 = λ first. (LacksBehind game) setup places (shows old).files first (shows new) world_after events text in
        let moved = subst Lacked counted broke in
        let behind = moved.behind in
        InEvent behind.done behind.next behind.rest (front-of (shows old).files (counters_of (shows old)) opening events behind.done (behind.next ∷ behind.rest) setup places text begins empty behind.parts behind.goes) moved.broken moved.lacks

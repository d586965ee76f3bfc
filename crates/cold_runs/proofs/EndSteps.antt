-- Ends of parts are ends of a script that is played on one server and its journal.
use Rattle.std.proofs.Common.{◌≡◌, ℕ, ℤ, ◌≤ℤ◌, ◌⊎◌, inl, inr, true, false, Option, Some, None, List, [], ◌∷◌, ◌++◌, Ok, Err, refl, ap, sym, ◌∙◌, subst, arith, append_assoc, append-nil}
use Rattle.std.specs.Prelude.{int_lt}
use Rattle.std.proofs.lemmas.Int.{ints}
use Rattle.std.specs.Io.KnownBytes.{Appends}
use Rattle.std.proofs.KnownBytes.{Appends-nil, Appends-trans}
use Rattle.ais_values.specs.Causes.{RoseExactlyOn}
use Rattle.io_edge.specs.Writes.{AppendsFront}
use Rattle.io_edge.specs.declared.answers.SinkAnswer.{SinkAnswer}
use Rattle.io_edge.specs.declared.answers.SinkAnswer.TheVariants as sink_answer
use Rattle.script_lines.specs.declared.line.Line.{Line}
use Rattle.script_lines.specs.declared.line.Line.TheVariants as line
use Rattle.plain_service.specs.Setups.{Setup}
use Rattle.cluster_events.specs.Runs.RunBy.{Started}
use Rattle.cluster_lines.specs.Lines.{CanPlay}
use Rattle.cold_servers.specs.ColdKit.{cold_script}
use Rattle.cold_servers.specs.ColdLaws.{cold_laws}
use Rattle.cold_servers.specs.ColdSeen.{ColdSeen, LeavesBoth, Outlives, Rises}
use Rattle.cluster_lines.specs.Beginning.{Begins}
use Rattle.command_journal.specs.Beginning.{Begun, LeavesStart, start_of}
use Rattle.command_journal.specs.Playing.{DoesEvent, EventBroken, RisesInEvent}
use Rattle.command_journal.specs.Worlds.{HasCold}
use Rattle.command_journal.specs.declared.answer.EventAnswer.{EventAnswer}
use Rattle.command_journal.specs.declared.answer.EventAnswer.TheVariants.{Memory, DiskFault, Journal}
use Rattle.command_journal.specs.declared.world.ColdWorld.{ColdWorld}
use Rattle.played_runs.specs.Edges.{Edge, edge, after, before}
use Rattle.played_runs.specs.Ends.{fault_line}
use Rattle.played_runs.specs.Steps.{time_behind}
use Rattle.played_runs.specs.Views.{HoldsNone}
use Rattle.played_runs.specs.Writing.{IsNone, IsText, Reaching, Whole, Written, joined_lines, sink_status}
use Rattle.played_runs.specs.declared.ending.Status8.{Status8}
use Rattle.played_runs.specs.declared.ending.Status8.TheVariants as status
use Rattle.played_runs.proofs.EndingSteps.{lacked, text-ends, text-written}
use Rattle.played_runs.proofs.WritingSteps.{unwritten, written-as, written-behind}
use Rattle.cold_runs.specs.Ends.{AtOpening, ColdEnds, ColdLacks, GoesOn, GoesUntold, OpensCold, Opening, PlayedCold, PlaysCold, RisesCold, both_named, refused_line}
use Rattle.cold_runs.specs.Stages.{cold_scene}
use Rattle.cold_runs.specs.Steps.{AnswerWritten, CanComeCold, CanFollowCold, GoesCold, GoingCold, PlaysEvents, PlaysLine, PlaysOne, PlaysTo, is_late}
use Rattle.cold_runs.proofs.LineSteps.{goes-fault, goes-lacks, goes-next, goes-refused, late-lacks, refused-lacks}

-- What can be played.

pub can-next : (now : ℤ) (next : Line) (lines : List Line) → CanFollowCold now (next ∷ lines) → CanComeCold (next ∷ [])
can-next now next lines follows = (now, (follows.0, follows.1, tt))

pub can-later : (next : Line) (lines : List Line) → CanComeCold (next ∷ lines) → CanComeCold lines
can-later next lines can = (time_behind can.0 (Some next), can.1.2)

-- a line that can be played at some time, and sets none below that in force
pub can-now : (now at : ℤ) (next : Line) → CanPlay cold_script at next → is_late next now ≡ false → CanPlay cold_script now next
can-now now at (line.Time later) can late = not-below late
  where
    not-below : int_lt later now ≡ false → now ≤ℤ later
    not-below none = omega (arith, ints, none)
can-now now at (line.Cluster start queue callbacks alarm ntf sys) can late = can
can-now now at (line.Crash server) can late = tt
can-now now at (line.Arm server count) can late = tt
can-now now at line.Disarm can late = tt
can-now now at (line.Restart server) can late = tt
can-now now at _ can late = tt

-- Where lines stand, or ended.

pub goes-ends : (held : ColdSeen) (script done rest : List Line) (text : List ℕ) (left : ColdSeen) (first world : ColdWorld) → GoesCold held script done rest text left world → HasCold world left → ColdEnds script (cold_scene held left first world) None text
goes-ends held script done rest text left first world goes stands = by goes.goes
  where
    by : GoingCold held script done rest text left world ⊎ GoesUntold script held [] text → ((one two : List Line) × PlayedCold (cold_scene held left first world) script one two text) ⊎ GoesOn script (cold_scene held left first world) text
    by (inl going) = inl (done, rest, record { front = going.front; now = going.now })
    by (inr untold) = inr (record { goes = untold; stands = stands })

goes-done : (held : ColdSeen) (script done : List Line) (text : List ℕ) (left : ColdSeen) (first world : ColdWorld) → GoesCold held script done [] text left world → HasCold world left → ColdEnds script (cold_scene held left first world) (Some status.Done) text
goes-done held script done text left first world goes stands = by goes.goes
  where
    by : GoingCold held script done [] text left world ⊎ GoesUntold script held [] text → ((one : List Line) × PlayedCold (cold_scene held left first world) script one [] text) ⊎ GoesOn script (cold_scene held left first world) text
    by (inl going) = inl (done, record { front = going.front; now = going.now })
    by (inr untold) = inr (record { goes = untold; stands = stands })

-- One line.

module _ {K : Type 0} (next : Line) (mid left : ColdSeen) (old new : ColdWorld) where
  -- its lines were written
  pub line-done : (lines : List (List ℕ)) (sink : Edge K (List ℕ)) → sink.faults sink.new ≡ sink.faults sink.old → Appends (before sink) (after sink) (joined_lines lines) → HasCold new left → DoesEvent next lines old new mid left → Outlives mid left → PlaysLine next old new mid left sink
  line-done lines sink stood appended stands does rises = record {
    text = joined_lines lines;
    stood = stood;
    appended = appended;
    stands = stands;
    goes = λ held script done rest front goes. goes-next held script done rest front next mid left old new new lines does rises goes;
  }

  -- or the sink did not take them
  pub line-unwritten : (lines : List (List ℕ)) (sink : Edge K (List ℕ)) (answer : SinkAnswer) → RoseExactlyOn {T = Unit} (sink.faults sink.old) (sink.faults sink.new) (Err answer) sink_answer.Failed → AppendsFront (before sink) (after sink) (joined_lines lines) → HasCold new left → DoesEvent next lines old new mid left → Outlives mid left → PlaysOne next old new mid left sink (Err (sink_status answer))
  line-unwritten lines sink answer cause part stands does rises held script done rest front first goes =
      let scene = cold_scene held left first new in
      let further = goes-next held script done rest front next mid left old new new lines does rises goes in
      let ends = goes-ends held script (done ++ next ∷ []) rest (front ++ joined_lines lines) left first new further stands in
      unwritten (λ reached behind. ColdEnds script scene reached (front ++ behind) × RisesCold reached scene) (λ behind. ColdLacks script scene (front ++ behind) × Outlives held left) sink answer None (joined_lines lines) (ends, further.rises) cause part

  -- or it was not done
  pub line-broken : (answer : EventAnswer) (sink : Edge K (List ℕ)) (ended : Status8) → EventBroken answer next old new mid left → RisesInEvent {T = List (List ℕ)} mid left (Err answer) → AnswerWritten answer sink ended → PlaysOne next old new mid left sink (Err ended)
  line-broken Memory sink ended broken cause written held script done rest front first goes =
      let scene = cold_scene held left first new in
      let E : Reaching = λ reached behind. ColdEnds script scene reached (front ++ behind) × RisesCold reached scene in
      let L : List ℕ → Type 0 = λ behind. ColdLacks script scene (front ++ behind) × Outlives held left in
      let lacks = subst (λ (text : List ℕ). ColdLacks script scene text) (sym (append-nil front)) (goes-lacks held script done rest front next mid left old new first broken goes) in
      subst (λ (one : Status8). Written E L sink one) (sym written.0) (lacked E L sink (lacks, cold_laws.further held mid left goes.rises cause) written.1)
  line-broken (DiskFault lines) sink ended broken cause written held script done rest front first goes =
      let scene = cold_scene held left first new in
      let E : Reaching = λ reached behind. ColdEnds script scene reached (front ++ behind) × RisesCold reached scene in
      let L : List ℕ → Type 0 = λ behind. ColdLacks script scene (front ++ behind) × Outlives held left in
      text-written E L status.DiskFault (joined_lines lines ++ fault_line) sink ended (goes-fault held script done rest front next mid left old new first lines broken goes, cold_laws.rises held mid left goes.rises cause) written
  line-broken (Journal place) sink ended broken cause written held script done rest front first goes =
      let scene = cold_scene held left first new in
      let E : Reaching = λ reached behind. ColdEnds script scene reached (front ++ behind) × RisesCold reached scene in
      let L : List ℕ → Type 0 = λ behind. ColdLacks script scene (front ++ behind) × Outlives held left in
      let further = cold_laws.further held mid left goes.rises cause in
      let refused = goes-refused held script done rest front next mid left old new first place broken goes in
      let lacks = subst (λ (text : List ℕ). ColdLacks script scene text) (sym (append-nil front)) (refused-lacks held script done rest front next mid left old new first broken goes) in
      written-as (IsText status.JournalRefused (refused_line place)) E IsNone L sink ended
      (text-ends E status.JournalRefused (refused_line place) (refused, further))
      (λ text none. subst L (sym none) (lacks, further))
      written

-- or it was not begun
pub line-late : {K : Type 0} (next : Line) (mid : ColdSeen) (old : ColdWorld) (sink : Edge K (List ℕ)) → is_late next old.now ≡ true → sink.new ≡ sink.old → PlaysOne next old old mid mid sink (Err status.Memory)
line-late next mid old sink late same held script done rest front first goes =
    let scene = cold_scene held mid first old in
    let lacks = subst (λ (text : List ℕ). ColdLacks script scene text) (sym (append-nil front)) (late-lacks held script done rest front next mid mid old old first late goes) in
    lacked (λ reached behind. ColdEnds script scene reached (front ++ behind) × RisesCold reached scene) (λ behind. ColdLacks script scene (front ++ behind) × Outlives held mid) sink (lacks, goes.rises) same

-- Lines one after another.

module _ {K : Type 0} (told : K → Option (List ℕ)) (faults : K → ℕ) (events : List Line) (start : ColdSeen) (begun : ColdWorld) (out : K) where
  pub plays-start : PlaysTo events events begun begun start start (edge told faults out out)
  plays-start = record {
    text = [];
    stood = refl;
    appended = Appends-nil (told out);
    goes = λ held script done front goes. (done, subst (λ (text : List ℕ). GoesCold held script done events text start begun) (sym (append-nil front)) goes);
  }

  module _ (mid left : ColdSeen) (old new : ColdWorld) (now later : K) (next : Line) (others : List Line) where
    pub plays-next : PlaysTo events (next ∷ others) begun old start mid (edge told faults out now) → PlaysLine next old new mid left (edge told faults now later) → PlaysTo events others begun new start left (edge told faults out later)
    plays-next earlier one = record {
      text = earlier.text ++ one.text;
      stood = one.stood ∙ earlier.stood;
      appended = Appends-trans (told out) (told now) (told later) earlier.text one.text earlier.appended one.appended;
      goes = λ held script done front goes.
          let so_far = earlier.goes held script done front goes in
          (so_far.0 ++ next ∷ [], subst (λ (text : List ℕ). GoesCold held script (so_far.0 ++ next ∷ []) others text left new) (append_assoc front earlier.text one.text) (one.goes held script so_far.0 others (front ++ earlier.text) so_far.1));
    }

    pub plays-broken : (ended : Status8) → PlaysTo events (next ∷ others) begun old start mid (edge told faults out now) → PlaysOne next old new mid left (edge told faults now later) (Err ended) → PlaysEvents events begun new start left (edge told faults out later) ended
    plays-broken ended earlier one held script done front first goes =
        let scene = cold_scene held left first new in
        let so_far = earlier.goes held script done front goes in
        let ends = one held script so_far.0 others (front ++ earlier.text) first so_far.1 in
        written-behind told faults out now later (λ reached behind. ColdEnds script scene reached ((front ++ earlier.text) ++ behind) × RisesCold reached scene) (λ reached behind. ColdEnds script scene reached (front ++ behind) × RisesCold reached scene) (λ behind. ColdLacks script scene ((front ++ earlier.text) ++ behind) × Outlives held left) (λ behind. ColdLacks script scene (front ++ behind) × Outlives held left) earlier.text ended earlier.appended earlier.stood
        (λ reached text end. (subst (λ (all : List ℕ). ColdEnds script scene reached all) (append_assoc front earlier.text text) end.0, end.1))
        (λ text lacks. (subst (λ (all : List ℕ). ColdLacks script scene all) (append_assoc front earlier.text text) lacks.0, lacks.1))
        ends

  pub plays-done : (left : ColdSeen) (new : ColdWorld) (later : K) (rest : List Line) → rest ≡ [] → HasCold new left → PlaysTo events rest begun new start left (edge told faults out later) → PlaysEvents events begun new start left (edge told faults out later) status.Done
  plays-done left new later rest none stands played held script done front first goes =
      let so_far = played.goes held script done front goes in
      let at = subst (λ (lines : List Line). GoesCold held script so_far.0 lines (front ++ played.text) left new) none so_far.1 in
      Whole played.text (goes-done held script so_far.0 (front ++ played.text) left first new at stands, at.rises) played.stood played.appended

-- The start.

-- a world that was begun stands for a state of which both disks tell
pub begun-stands : (setup : Setup) (places : ℕ) (held left : ColdSeen) (world : ColdWorld) → Begun setup places held left world → HasCold world left
begun-stands setup places held left world begun = inl (record {
  setup = setup;
  state = start_of setup places;
  good = begun.good;
  shows = begun.shows;
  count = begun.count;
  tells = cold_laws.left_told setup (start_of setup places) held left begun.leaves;
})

named-leaves : (setup : Setup) (places : ℕ) (held left : ColdSeen) → LeavesBoth setup (start_of setup places) (both_named held) left → LeavesBoth setup (start_of setup places) held left
named-leaves setup places held left leaves = record { beside = leaves.beside; disk = leaves.disk; journal = leaves.journal }

named-outlives : (held left : ColdSeen) → Outlives (both_named held) left → Outlives held left
named-outlives held left rises = record { disk = rises.disk; journal = rises.journal }

named-rises : (held left : ColdSeen) → Rises (both_named held) left → Rises held left
named-rises held left rises = record { later = named-outlives held left rises.later; rose = rises.rose }

module _ (held mid left : ColdSeen) (asked : mid ≡ both_named held) (opening : Line) (events : List Line) (setup : Setup) (places : ℕ) (begins : Begins opening setup places) (empty : HoldsNone mid.disk.files) (empty_too : HoldsNone mid.journal.files) where
  abbrev bare : HoldsNone held.disk.files
  bare = subst HoldsNone (ap (λ (seen : ColdSeen). seen.disk.files) asked) empty

  abbrev bare-too : HoldsNone held.journal.files
  bare-too = subst HoldsNone (ap (λ (seen : ColdSeen). seen.journal.files) asked) empty_too

  abbrev opens : OpensCold (opening ∷ events) held
  opens = record { opening = opening; events = events; parts = refl; empty = bare; empty_too = bare-too; setup = setup; places = places; begins = begins }

  -- both stand at their start
  pub begun-goes : (world : ColdWorld) → Begun setup places mid left world → LeavesStart {T = Unit {0}} setup mid left (Ok tt) → RisesInEvent {T = Unit {0}} mid left (Ok tt) → CanFollowCold setup.start events → GoesCold held (opening ∷ events) [] events [] left world
  begun-goes world begun leaves cause follows =
      let leaves_named = subst (λ (seen : ColdSeen). LeavesBoth setup (start_of setup places) seen left) asked begun.leaves in
      let counted = subst (λ (seen : ColdSeen). LeavesStart {T = Unit {0}} setup seen left (Ok tt)) asked leaves in
      let rises = named-outlives held left (subst (λ (seen : ColdSeen). Outlives seen left) asked cause) in
      record {
        rises = rises;
        goes = inl (record {
          front = record {
            opening = opening;
            parts = refl;
            empty = bare;
            empty_too = bare-too;
            setup = setup;
            places = places;
            begins = begins;
            first = left;
            opened = record { count = begun.count; leaves = named-leaves setup places held left leaves_named; disk = counted.0; journal = counted.1; rises = rises };
            state = start_of setup places;
            told = [];
            seen = left;
            run = Started;
            good = begun.good;
            written = refl;
          };
          now = record { shows = begun.shows; seen = refl };
          follows = follows;
        });
      }

  -- or the start broke off
  pub start-broken : {K : Type 0} (answer : EventAnswer) (sink : Edge K (List ℕ)) (ended : Status8) (old new : ColdWorld) → new ≡ old → LeavesStart {T = Unit {0}} setup mid left (Err answer) → RisesInEvent {T = Unit {0}} mid left (Err answer) → AnswerWritten answer sink ended → PlaysCold (opening ∷ events) (cold_scene held left old new) sink ended
  start-broken Memory sink ended old new same leaves cause written =
      let scene = cold_scene held left old new in
      let script = opening ∷ events in
      let E : Reaching = λ reached text. ColdEnds script scene reached text × RisesCold reached scene in
      let L : List ℕ → Type 0 = λ text. ColdLacks script scene text × Outlives held left in
      let from = subst (λ (seen : ColdSeen). LeavesStart {T = Unit {0}} setup seen left (Err Memory)) asked leaves in
      let rises = named-outlives held left (subst (λ (seen : ColdSeen). Outlives seen left) asked cause) in
      subst (λ (one : Status8). Written E L sink one) (sym written.0) (lacked E L sink (Opening refl opens from same, rises) written.1)
  start-broken (DiskFault lines) sink ended old new same leaves cause written =
      let scene = cold_scene held left old new in
      let script = opening ∷ events in
      let E : Reaching = λ reached text. ColdEnds script scene reached text × RisesCold reached scene in
      let L : List ℕ → Type 0 = λ text. ColdLacks script scene text × Outlives held left in
      let from = subst (λ (seen : ColdSeen). LeavesStart {T = Unit {0}} setup seen left (Err (DiskFault []))) asked (refl, leaves.1) in
      let rises = named-rises held left (subst (λ (seen : ColdSeen). Rises seen left) asked cause) in
      text-written E L status.DiskFault (joined_lines lines ++ fault_line) sink ended (inl (AtOpening opens from same (ap (λ (all : List (List ℕ)). joined_lines all ++ fault_line) leaves.0)), rises) written
  start-broken (Journal place) sink ended old new same leaves cause written = absurd leaves

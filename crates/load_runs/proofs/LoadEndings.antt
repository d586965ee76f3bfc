-- The ends of a large run on its stage.
use Rattle.std.proofs.Common.{◌≡◌, ℕ, ◌≤◌, ◌⊎◌, inl, inr, Bool, true, false, List, [], ◌∷◌, Option, Some, None, refl, ap, sym, subst, arith, append-nil}
use Rattle.disk_model.specs.Counts.{Counters}
use Rattle.disk_model.specs.Disk.{Files}
use Rattle.disk_model.specs.Seen.{DiskSeen}
use Rattle.script_lines.specs.declared.line.Line.{Line}
use Rattle.plain_service.specs.Setups.{Setup}
use Rattle.played_runs.specs.Counts.{HasRisen, HasStood}
use Rattle.played_runs.specs.Edges.{Stage, edge, stage}
use Rattle.played_runs.specs.Ends.{StoodUpTo, fault_line}
use Rattle.played_runs.specs.Views.{HoldsNone, behind_opening, counters_of, seen_as}
use Rattle.played_runs.specs.Writing.{Counting, Standing, unasked}
use Rattle.played_runs.proofs.CountSteps.{risen-later}
use Rattle.played_runs.proofs.EndingSteps.{events-lack, events-play, front-of}
use Rattle.played_runs.proofs.GoingSteps.{going-goes, going-stand}
use Rattle.played_runs.specs.Ends.{PlayLacks, PlayedTo}
use Rattle.played_runs.specs.Games.{Game}
use Rattle.played_runs.specs.Laws.{IsGame}
use Rattle.played_runs.specs.Steps.{EventsEnd, Going, LacksBehind}
use Rattle.played_runs.specs.declared.ending.Status8.{Status8}
use Rattle.played_runs.specs.declared.ending.Status8.TheVariants.{Done, ScriptRefused, Usage, Memory, ReadFault, WriteFault, DiskFault, RootNotEmpty, TooLong, JournalRefused, Inseparable}
use Rattle.load_runs.specs.Loading.{AtCount, CountedBehind, FilesCounted, InPlay, LineOf, LoadFails, TellsLoad, counting_faults}
use Rattle.load_runs.specs.LoadSteps.{CountedSince, LoadEnds, LoadWants, RunEnds, RunWants, TellEnds, TellLacks}

module _ {P S W : Type 0} (game : Game P Line S W) (is_game : IsGame game) (line_of : LineOf game) where
  -- memory was wanting before all lines were played
  pub wants-halted : (setup : Setup) (places : ℕ) (held : Option Files) (first : Counters) (left : DiskSeen) (Since : Option Files → Counters → Type 0) (world : W) (events : List Line) (unwritten : List ℕ) → (LacksBehind game) setup places held first left world events unwritten ⊎ (EventsEnd game) setup places held first left Since world events None unwritten → (LacksBehind game) setup places held first left world events unwritten ⊎ ((EventsEnd game) setup places held first left Since world events None unwritten ⊎ ((since : (CountedSince game) false setup places held first left world events unwritten) × HasStood (since.goes.counts.faults, left.faults)))
  wants-halted setup places held first left Since world events unwritten (inl lacks) = inl lacks
  wants-halted setup places held first left Since world events unwritten (inr ends) = inr (inl ends)

  -- What is told behind all lines. The files of the disk are counted for it.

  module _ (setup : Setup) (places : ℕ) (held : Option Files) (first : Counters) (mid left : DiskSeen) (Since : Option Files → Counters → Type 0) (world : W) (events : List Line) (unwritten : List ℕ) (going : (Going game) setup places held first mid world events unwritten) where
    abbrev since : (done : Bool) → FilesCounted done mid left → (CountedSince game) done setup places held first left world events unwritten
    since done counted = record {
      goes = going-goes game is_game setup places held first mid world events unwritten going;
      shows = going.shows;
      counted = subst (λ (one : DiskSeen). FilesCounted done one left) (ap (λ (files : Option Files). seen_as files (counters_of mid)) (going-stand game is_game setup places held first mid world events unwritten going)) counted;
    }

    pub tells-run : (start : ℕ) → start ≤ mid.faults → (reached : Option Status8) (text : List ℕ) → (TellEnds game line_of) mid left going.state reached text → Counting unasked (start, left.faults) ((RunEnds game line_of) setup places held first left Since world events) reached text
    tells-run start before (Some Done) text ends =
        let told = subst (λ (files : Option Files). TellsLoad game line_of going.state files text) (sym ends.1.files) ends.0 in
        ((unwritten, since true ends.1, ends.2, told), (refl, let stood : left.faults ≡ mid.faults = ends.2 in omega (arith, before, stood)))
    tells-run start before (Some DiskFault) text ends =
        ((ends.0, inr (unwritten, since false ends.1, ends.2)), (refl, risen-later start mid.faults left.faults before ends.2))
    tells-run start before None text ends = absurd ends
    tells-run start before (Some ScriptRefused) text ends = absurd ends
    tells-run start before (Some Usage) text ends = absurd ends
    tells-run start before (Some Memory) text ends = absurd ends
    tells-run start before (Some ReadFault) text ends = absurd ends
    tells-run start before (Some WriteFault) text ends = absurd ends
    tells-run start before (Some RootNotEmpty) text ends = absurd ends
    tells-run start before (Some TooLong) text ends = absurd ends
    tells-run start before (Some JournalRefused) text ends = absurd ends
    tells-run start before (Some Inseparable) text ends = absurd ends

    pub tells-lack : (start : ℕ) → start ≤ mid.faults → (text : List ℕ) → TellLacks mid left text → Standing unasked (start, left.faults) ((RunWants game) setup places held first left Since world events) text
    tells-lack start before text lacks =
        ((lacks.0, (unwritten, inr (inr (since false lacks.1, lacks.2)))), refl, let stood : left.faults ≡ mid.faults = lacks.2 in omega (arith, before, stood))

  -- The whole script: the names were asked for before and the cluster was begun, and the disk counted what that counts.

  module _ {K D : Type 0} (told : K → Option (List ℕ)) (sink_faults : K → ℕ) (out out_after : K) (shows : D → DiskSeen) (world world_after : W) (old mid new : D) (opening : Line) (events : List Line) (setup : Setup) (places : ℕ) (begins : game.Begins opening setup places) (empty : HoldsNone (shows old).files) (opened : counters_of (shows mid) ≡ behind_opening setup (counters_of (shows old))) where
    abbrev On : Stage W K D
    On = stage (edge told sink_faults out out_after) shows old new world world_after

    abbrev counts-behind : (done : Bool) (unwritten : List ℕ) → (CountedSince game) done setup places (shows old).files (behind_opening setup (counters_of (shows old))) (shows new) world_after events unwritten → CountedBehind game done On (opening ∷ events) events unwritten
    counts-behind done unwritten since = record {
      front = front-of game (shows old).files (counters_of (shows old)) opening events events [] setup places unwritten begins empty (sym (append-nil events)) since.goes;
      shows = since.shows;
      counted = since.counted;
    }

    fails-load : (text : List ℕ) → text ≡ fault_line → ((unwritten : List ℕ) × (EventsEnd game) setup places (shows old).files (counters_of (shows mid)) (shows new) (StoodUpTo shows) world_after events (Some DiskFault) unwritten) ⊎ ((unwritten : List ℕ) × (since : (CountedSince game) false setup places (shows old).files (counters_of (shows mid)) (shows new) world_after events unwritten) × HasRisen (since.goes.counts.faults, (shows new).faults)) → LoadFails game (opening ∷ events) On text
    fails-load text is (inl ends) =
        InPlay ends.0 (events-play game told sink_faults out out_after shows world world_after old mid new opening events setup places begins empty opened (Some DiskFault) ends.0 ends.1) is
    fails-load text is (inr ends) =
        let Q : Counters → Type 0 = λ first. (unwritten : List ℕ) × (since : (CountedSince game) false setup places (shows old).files first (shows new) world_after events unwritten) × HasRisen (since.goes.counts.faults, (shows new).faults) in
        let all = subst Q opened ends in
        AtCount events all.0 (counts-behind false all.0 all.1) all.2 is

    pub run-load : (reached : Option Status8) (text : List ℕ) → (RunEnds game line_of) setup places (shows old).files (counters_of (shows mid)) (shows new) (StoodUpTo shows) world_after events reached text → (LoadEnds game line_of) (opening ∷ events) On reached text
    run-load (Some Done) text ends =
        let P : Counters → Type 0 = λ first. (unwritten : List ℕ) × (since : (CountedSince game) true setup places (shows old).files first (shows new) world_after events unwritten) × HasStood (since.goes.counts.faults, (shows new).faults) × TellsLoad game line_of since.goes.state (shows new).files text in
        let all = subst P opened ends in
        (events, all.0, counts-behind true all.0 all.1, all.2, all.3)
    run-load (Some DiskFault) text ends = fails-load text ends.0 ends.1
    run-load None text ends = absurd ends
    run-load (Some ScriptRefused) text ends = absurd ends
    run-load (Some Usage) text ends = absurd ends
    run-load (Some Memory) text ends = absurd ends
    run-load (Some ReadFault) text ends = absurd ends
    run-load (Some WriteFault) text ends = absurd ends
    run-load (Some RootNotEmpty) text ends = absurd ends
    run-load (Some TooLong) text ends = absurd ends
    run-load (Some JournalRefused) text ends = absurd ends
    run-load (Some Inseparable) text ends = absurd ends

    wants-by : (unwritten : List ℕ) → (LacksBehind game) setup places (shows old).files (counters_of (shows mid)) (shows new) world_after events unwritten ⊎ ((EventsEnd game) setup places (shows old).files (counters_of (shows mid)) (shows new) (StoodUpTo shows) world_after events None unwritten ⊎ ((since : (CountedSince game) false setup places (shows old).files (counters_of (shows mid)) (shows new) world_after events unwritten) × HasStood (since.goes.counts.faults, (shows new).faults))) → PlayLacks game (opening ∷ events) On unwritten ⊎ (((done rest : List Line) × PlayedTo game On (opening ∷ events) done rest unwritten) ⊎ ((done : List Line) × (behind : CountedBehind game false On (opening ∷ events) done unwritten) × HasStood (counting_faults behind)))
    wants-by unwritten (inl lacks) =
        inl (events-lack game told sink_faults out out_after shows world world_after old mid new opening events setup places begins empty opened unwritten lacks)
    wants-by unwritten (inr (inl ends)) =
        let played = events-play game told sink_faults out out_after shows world world_after old mid new opening events setup places begins empty opened None unwritten ends in
        inr (inl (played.0, played.1, played.2))
    wants-by unwritten (inr (inr counts)) =
        let Q : Counters → Type 0 = λ first. (since : (CountedSince game) false setup places (shows old).files first (shows new) world_after events unwritten) × HasStood (since.goes.counts.faults, (shows new).faults) in
        let all = subst Q opened counts in
        inr (inr (events, counts-behind false unwritten all.0, all.1))

    pub run-wants : (text : List ℕ) → (RunWants game) setup places (shows old).files (counters_of (shows mid)) (shows new) (StoodUpTo shows) world_after events text → (LoadWants game) (opening ∷ events) On text
    run-wants text wants = (wants.0, (wants.1.0, wants-by wants.1.0 wants.1.1))

-- One line of a script that is played on one server and its journal, behind those that were done.
use Rattle.std.proofs.Common.{◌≡◌, ℕ, ℤ, ◌≤ℤ◌, ◌⊎◌, inl, inr, Bool, true, false, Option, Some, None, List, [], ◌∷◌, ◌++◌, reverse, refl, ap, sym, ◌∙◌, subst, arith, append_assoc, append-nil}
use Rattle.std.specs.Prelude.{IsSome}
use Rattle.std.proofs.lemmas.Int.{ints}
use Rattle.disk_model.specs.Disk.{Files}
use Rattle.script_lines.specs.declared.line.Line.{Line}
use Rattle.script_lines.specs.declared.line.Line.TheVariants as line
use Rattle.script_lines.specs.declared.line.Server.TheVariants.{A, B, C}
use Rattle.plain_service.specs.Setups.{Setup}
use Rattle.service_laws.specs.PlainOf.{plain_of}
use Rattle.service_laws.proofs.ServiceLaws.{is_plain}
use Rattle.cluster_events.specs.Outcomes.{Outcome}
use Rattle.cluster_events.specs.Running.{Shelf}
use Rattle.cluster_events.specs.Runs.RunBy.{Went}
use Rattle.cluster_events.specs.Servers.{State}
use Rattle.cluster_events.specs.Serving.{IsSteady}
use Rattle.cluster_lines.specs.Lines.{CanPlay, shows_files}
use Rattle.cluster_lines.specs.Playing.{ShowFails}
use Rattle.cluster_rounds.specs.declared.cluster.Cluster.{Cluster}
use Rattle.cluster_rounds.specs.Kits.{device_by}
use Rattle.cluster_rounds.specs.Worlds as clusters
use Rattle.cold_cluster.specs.Cold.{Alone, IsCold}
use Rattle.cold_cluster.specs.Lines.{ColdHappens}
use Rattle.cold_servers.specs.declared.solo.Solo.{Solo}
use Rattle.cold_servers.specs.ColdKit.{cold_kit, cold_script}
use Rattle.cold_servers.specs.ColdLaws.{cold_laws}
use Rattle.cold_servers.specs.ColdSeen.{ColdSeen, Outlives}
use Rattle.command_journal.specs.Playing.{CannotStart, DoesEvent, EndedBy, FindsBy, LacksBy, LineDone, LineFailsBy, LineLacks}
use Rattle.command_journal.specs.Worlds.{Shows, parts_of}
use Rattle.command_journal.specs.declared.world.ColdWorld.{ColdWorld}
use Rattle.played_runs.specs.Ends.{fault_line}
use Rattle.played_runs.specs.Kinds.{InTime}
use Rattle.played_runs.specs.Playing.{text_of}
use Rattle.played_runs.specs.Steps.{time_behind}
use Rattle.played_runs.specs.Writing.{joined_lines}
use Rattle.played_runs.specs.declared.ending.Status8.TheVariants as status
use Rattle.played_runs.proofs.GoingSteps.{reverse-push, text-append}
use Rattle.played_runs.proofs.TimeLaws.{in_time-by-kind, in_time-cored, in_time-told, time-by}
use Rattle.cold_runs.specs.Ends.{AtEvent, ColdEnds, ColdLacks, ColdRefused, Ending, GoesUntold, InEvent, Showing, Untold, refused_line}
use Rattle.cold_runs.specs.Playing.{ColdFront, ColdStep, Ran}
use Rattle.cold_runs.specs.Stages.{cold_scene}
use Rattle.cold_runs.specs.Steps.{CanFollowCold, GoesCold, GoingCold, is_late}
use Rattle.cold_runs.proofs.RunSteps.{SeenAt, front-silent, run-seen}
use Rattle.cold_runs.proofs.WalkSteps.{cold-walks}

-- The time in force.

-- the time in force behind a line
line-now : (setup : Setup) (shelf : Shelf) (next : Line) (state : State Alone) (outcome : Outcome (State Alone)) → IsSteady (plain_of setup) IsCold state → ColdHappens (plain_of setup) shelf (device_by setup (λ number. 0)) next state outcome → outcome.state.world.now ≡ time_behind state.world.now (Some next)
line-now setup shelf next state outcome steady happens =
    let plain = plain_of setup in
    let walks = (cold-walks plain (is_plain setup) shelf (device_by setup (λ number. 0)) InTime (in_time-told plain) in_time-cored (in_time-by-kind plain) next state outcome steady happens).1 in
    walks.now ∙ time-by state.world.now (Some next)

not-late : (now : ℤ) (next : Line) → CanPlay cold_script now next → is_late next now ≡ true → ⊥
not-late now (line.Time later) can late = let above : now ≤ℤ later = can in omega (arith, ints, late)
not-late now _ can late = cc

-- `restart a` over a journal's disk that tells no files.

pub record StartsUntold (up : Bool) (next : Line) (seen : ColdSeen) : Type 0 where
  pub line : next ≡ line.Restart A
  pub down : up ≡ false
  pub silent : seen.journal.files ≡ None

start-or : (seen : ColdSeen) (files : Option Files) → seen.journal.files ≡ files → FindsBy false (line.Restart A) seen ⊎ StartsUntold false (line.Restart A) seen
start-or seen None is = inr (record { line = refl; down = refl; silent = is })
start-or seen (Some files) is = inl (subst IsSome (sym is) refl)

-- what is found is told, or it is such a line
finds-or : (up : Bool) (next : Line) (seen : ColdSeen) → FindsBy up next seen ⊎ StartsUntold up next seen
finds-or false (line.Restart A) seen = start-or seen seen.journal.files refl
finds-or false (line.Restart B) seen = inl tt
finds-or false (line.Restart C) seen = inl tt
finds-or up next seen = inl tt

-- a script that goes on there
untold-from : (held : ColdSeen) (script done rest : List Line) (text last more whole : List ℕ) (next : Line) (front : ColdFront held script done (next ∷ rest) text) → next ≡ line.Restart A → front.state.peers.up ≡ false → front.seen.journal.files ≡ None → whole ≡ more ++ last → GoesUntold script held last (text ++ whole)
untold-from held script done rest text last more whole next front is down silent parts =
    let M : Line → Type 0 = λ one. (now : ColdFront held script done (one ∷ rest) text) → now.state.peers.up ≡ false → now.seen.journal.files ≡ None → GoesUntold script held last (text ++ whole) in
    let at : M (line.Restart A) = λ now off none. record {
      done = done;
      rest = rest;
      before = text;
      front = now;
      down = off;
      silent = front-silent now none;
      behind = more;
      printed = ap (λ (behind : List ℕ). text ++ behind) parts;
    } in
    subst M (sym is) at front down silent

-- and further on
untold-more : (held : ColdSeen) (script : List Line) (text last more whole : List ℕ) → GoesUntold script held [] text → whole ≡ more ++ last → GoesUntold script held last (text ++ whole)
untold-more held script text last more whole goes parts = record {
  done = goes.done;
  rest = goes.rest;
  before = goes.before;
  front = goes.front;
  down = goes.down;
  silent = goes.silent;
  behind = goes.behind ++ more;
  printed =
      ap (λ (front : List ℕ). front ++ whole) (goes.printed ∙ ap (λ (behind : List ℕ). goes.before ++ behind) (append-nil goes.behind))
      ∙ append_assoc goes.before goes.behind whole
      ∙ ap (λ (all : List ℕ). goes.before ++ (goes.behind ++ all)) parts
      ∙ ap (λ (behind : List ℕ). goes.before ++ behind) (sym (append_assoc goes.behind more last));
}

module _ (held : ColdSeen) (script done rest : List Line) (text : List ℕ) (next : Line) (mid left : ColdSeen) (old new first : ColdWorld) where
  abbrev Stood : Type 0
  Stood = GoingCold held script done (next ∷ rest) text mid old

  abbrev Goes : Type 0
  Goes = GoesCold held script done (next ∷ rest) text mid old

  abbrev seen-at : (going : Stood) → SeenAt going.front.setup going.front.state mid
  seen-at going =
      subst (λ (seen : ColdSeen). SeenAt going.front.setup going.front.state seen) (sym going.now.seen) (run-seen going.front.opened going.front.run)

  still-silent : (going : Stood) → mid.journal.files ≡ None → going.front.seen.journal.files ≡ None
  still-silent going none = sym (ap (λ (seen : ColdSeen). seen.journal.files) going.now.seen) ∙ none

  -- Done.

  step-of : (lines : List (List ℕ)) → (going : Stood) → FindsBy going.front.state.peers.up next mid → (did : LineDone going.front.setup going.front.state next (parts_of new) [] lines mid left) → Outlives mid left → ColdStep going.front.setup mid next going.front.state did.outcome left
  step-of lines going finds did rises = record {
    shelf = did.shelf;
    shown = did.shown;
    finds = finds;
    found = did.found;
    leads = did.leads;
    uses = did.uses;
    count = did.count;
    leaves = did.leaves;
    rises = rises;
  }

  front-next : (lines : List (List ℕ)) → (going : Stood) → FindsBy going.front.state.peers.up next mid → LineDone going.front.setup going.front.state next (parts_of new) [] lines mid left → Outlives mid left → GoingCold held script (done ++ next ∷ []) rest (text ++ joined_lines lines) left new
  front-next lines going finds did rises =
      let front = going.front in
      let setup = front.setup in
      let outcome = did.outcome in
      let step = step-of lines going finds did rises in
      let ran = subst (λ (seen : ColdSeen). Ran setup front.places front.first (reverse done) front.state front.told seen) (sym going.now.seen) front.run in
      let R : List Line → Type 0 = λ all. Ran setup front.places front.first all outcome.state (outcome.told ++ front.told) left in
      let later = line-now setup did.shelf next front.state outcome front.good.steady did.leads in
      record {
        front = record {
          opening = front.opening;
          parts = front.parts ∙ ap (λ (behind : List Line). front.opening ∷ behind) (sym (append_assoc done (next ∷ []) rest));
          empty = front.empty;
          empty_too = front.empty_too;
          setup = setup;
          places = front.places;
          begins = front.begins;
          first = front.first;
          opened = front.opened;
          state = outcome.state;
          told = outcome.told ++ front.told;
          seen = left;
          run = subst R (sym (reverse-push done next)) (Went next outcome left ran step);
          good = did.is.1;
          written =
              ap (λ (earlier : List ℕ). earlier ++ joined_lines lines) front.written
              ∙ ap (λ (all : List (List ℕ)). text_of front.told ++ joined_lines all) did.is.2
              ∙ sym (text-append outcome.told front.told);
        };
        now = record { shows = did.is.0; seen = refl };
        follows = subst (λ now. CanFollowCold now rest) (sym later) going.follows.2;
      }

  going-on : (lines : List (List ℕ)) → DoesEvent next lines old new mid left → Outlives mid left → (going : Stood) → FindsBy going.front.state.peers.up next mid ⊎ StartsUntold going.front.state.peers.up next mid → GoingCold held script (done ++ next ∷ []) rest (text ++ joined_lines lines) left new ⊎ GoesUntold script held [] (text ++ joined_lines lines)
  going-on lines does rises going (inl finds) =
      let front = going.front in
      let at = seen-at going in
      inl (front-next lines going finds (does front.setup front.state front.good going.now.shows at.count at.tells finds) rises)
  going-on lines does rises going (inr starts) =
      inr (untold-from held script done rest text [] (joined_lines lines) (joined_lines lines) next going.front starts.line starts.down (still-silent going starts.silent) (sym (append-nil (joined_lines lines))))

  -- **each front of a script has a line more**
  pub goes-next : (lines : List (List ℕ)) → DoesEvent next lines old new mid left → Outlives mid left → Goes → GoesCold held script (done ++ next ∷ []) rest (text ++ joined_lines lines) left new
  goes-next lines does rises goes = record { rises = cold_laws.further held mid left goes.rises rises; goes = by goes.goes }
    where
      by : Stood ⊎ GoesUntold script held [] text → GoingCold held script (done ++ next ∷ []) rest (text ++ joined_lines lines) left new ⊎ GoesUntold script held [] (text ++ joined_lines lines)
      by (inl going) = going-on lines does rises going (finds-or going.front.state.peers.up next mid)
      by (inr untold) = inr (untold-more held script text [] (joined_lines lines) (joined_lines lines) untold (sym (append-nil (joined_lines lines))))

  -- Not done.

  -- a line that starts untold leaves a script untold, whatever became of it
  nothing-more : GoesUntold script held [] (text ++ []) → GoesUntold script held [] text
  nothing-more goes = subst (λ (one : List ℕ). GoesUntold script held [] one) (append-nil text) goes

  starts-untold : (going : Stood) → StartsUntold going.front.state.peers.up next mid → GoesUntold script held [] text
  starts-untold going starts =
      nothing-more (untold-from held script done rest text [] [] [] next going.front starts.line starts.down (still-silent going starts.silent) refl)

  -- memory was wanting
  lacks-on : LineLacks next (parts_of old) (parts_of new) mid left → (going : Stood) → FindsBy going.front.state.peers.up next mid ⊎ StartsUntold going.front.state.peers.up next mid → ColdLacks script (cold_scene held left first new) text
  lacks-on lacks going (inl finds) =
      let front = going.front in
      let at = seen-at going in
      InEvent done next rest front (subst (λ (seen : ColdSeen). LacksBy front.state.peers.up next front.setup front.state (parts_of new) seen left) going.now.seen (lacks front.setup front.state front.good going.now.shows at.count at.tells finds))
  lacks-on lacks going (inr starts) = Untold (starts-untold going starts)

  pub goes-lacks : LineLacks next (parts_of old) (parts_of new) mid left → Goes → ColdLacks script (cold_scene held left first new) text
  goes-lacks lacks goes = by goes.goes
    where
      by : Stood ⊎ GoesUntold script held [] text → ColdLacks script (cold_scene held left first new) text
      by (inl going) = lacks-on lacks going (finds-or going.front.state.peers.up next mid)
      by (inr untold) = Untold untold

  -- a disk had a fault
  abbrev AtFault : List (List ℕ) → Type 0
  AtFault lines = ColdEnds script (cold_scene held left first new) (Some status.DiskFault) (text ++ (joined_lines lines ++ fault_line))

  shows-fault : (lines : List (List ℕ)) → (going : Stood) → shows_files next ≡ true → LineFailsBy true next (parts_of old) (parts_of new) [] lines mid left → AtFault lines
  shows-fault lines going is leaves =
      let front = going.front in
      let shows = subst (λ (parts : Cluster Solo). clusters.Shows cold_kit front.setup front.state parts) (sym leaves.0) going.now.shows in
      let read = subst (λ (seen : ColdSeen). ShowFails cold_kit cold_script seen left) going.now.seen leaves.2 in
      inl (AtEvent done next rest text (joined_lines lines) front (Showing is shows read (ap joined_lines leaves.1)) refl)

  ends-fault : (lines : List (List ℕ)) → shows_files next ≡ false → LineFailsBy false next (parts_of old) (parts_of new) [] lines mid left → (going : Stood) → FindsBy going.front.state.peers.up next mid ⊎ StartsUntold going.front.state.peers.up next mid → AtFault lines
  ends-fault lines is leaves going (inl finds) =
      let front = going.front in
      let at = seen-at going in
      let ended = subst (λ (seen : ColdSeen). EndedBy front.state.peers.up front.setup front.state next (parts_of new) [] lines seen left) going.now.seen (leaves front.setup front.state front.good going.now.shows at.count at.tells finds) in
      inl (AtEvent done next rest text (joined_lines lines) front (Ending is lines ended refl) refl)
  ends-fault lines is leaves going (inr starts) =
      inr (untold-from held script done rest text fault_line (joined_lines lines) (joined_lines lines ++ fault_line) next going.front starts.line starts.down (still-silent going starts.silent) refl)

  fault-by : (lines : List (List ℕ)) (shows : Bool) → shows_files next ≡ shows → LineFailsBy shows next (parts_of old) (parts_of new) [] lines mid left → Stood → AtFault lines
  fault-by lines true is leaves going = shows-fault lines going is leaves
  fault-by lines false is leaves going = ends-fault lines is leaves going (finds-or going.front.state.peers.up next mid)

  pub goes-fault : (lines : List (List ℕ)) → LineFailsBy (shows_files next) next (parts_of old) (parts_of new) [] lines mid left → Goes → AtFault lines
  goes-fault lines leaves goes = by goes.goes
    where
      by : Stood ⊎ GoesUntold script held [] text → AtFault lines
      by (inl going) = fault-by lines (shows_files next) refl leaves going
      by (inr untold) = inr (untold-more held script text fault_line (joined_lines lines) (joined_lines lines ++ fault_line) untold refl)

  -- there was no journal to start from
  refused-at : (place : Option ℕ) → CannotStart next (parts_of old) (parts_of new) mid left → Stood → ColdRefused script (cold_scene held left first new) (text ++ refused_line place)
  refused-at place cannot going =
      let front = going.front in
      let scene = cold_scene held left first new in
      let M : Line → Type 0 = λ one. (now : ColdFront held script done (one ∷ rest) text) → now.state.peers.up ≡ false → now.seen.journal.files ≡ None → Shows now.setup now.state new → left.disk.files ≡ now.seen.disk.files → ColdRefused script scene (text ++ refused_line place) in
      let at : M (line.Restart A) = λ now off none shows same. record {
        done = done;
        rest = rest;
        before = text;
        front = now;
        down = off;
        silent = front-silent now none;
        shows = shows;
        disk = same;
        place = place;
        printed = refl;
      } in
      let shows = subst (λ (parts : Cluster Solo). clusters.Shows cold_kit front.setup front.state parts) (sym cannot.world) going.now.shows in
      let same = cannot.disk ∙ ap (λ (seen : ColdSeen). seen.disk.files) going.now.seen in
      subst M (sym cannot.line) at front (cannot.down.states front.setup front.state front.good going.now.shows) (still-silent going cannot.silent) shows same

  pub goes-refused : (place : Option ℕ) → CannotStart next (parts_of old) (parts_of new) mid left → Goes → ColdEnds script (cold_scene held left first new) (Some status.JournalRefused) (text ++ refused_line place)
  goes-refused place cannot goes = by goes.goes
    where
      by : Stood ⊎ GoesUntold script held [] text → ColdRefused script (cold_scene held left first new) (text ++ refused_line place) ⊎ ((at : Option ℕ) × GoesUntold script held (refused_line at) (text ++ refused_line place))
      by (inl going) = inl (refused-at place cannot going)
      by (inr untold) = inr (place, untold-more held script text (refused_line place) [] (refused_line place) untold refl)

  -- and memory was wanting to tell it
  pub refused-lacks : CannotStart next (parts_of old) (parts_of new) mid left → Goes → ColdLacks script (cold_scene held left first new) text
  refused-lacks cannot goes = by goes.goes
    where
      by : Stood ⊎ GoesUntold script held [] text → ColdLacks script (cold_scene held left first new) text
      by (inl going) =
          let front = going.front in
          let down = cannot.down.states front.setup front.state front.good going.now.shows in
          Untold (starts-untold going (record { line = cannot.line; down = down; silent = cannot.silent }))
      by (inr untold) = Untold untold

  -- a time below that in force comes where nothing is known of that
  pub late-lacks : is_late next old.now ≡ true → Goes → ColdLacks script (cold_scene held mid first old) text
  late-lacks late goes = by goes.goes
    where
      by : Stood ⊎ GoesUntold script held [] text → ColdLacks script (cold_scene held mid first old) text
      by (inl going) =
          absurd (not-late going.front.state.world.now next going.follows.1 (subst (λ now. is_late next now ≡ true) going.now.shows.now late))
      by (inr untold) = Untold untold

-- Lines that are played one after another.
use Rattle.std.proofs.Common.{◌≡◌, ℕ, suc, ◌+◌, ◌<◌, ◌≤◌, ℤ, Bool, true, false, List, [], ◌∷◌, ◌++◌, length, drop, get_or, reverse, Option, Some, None, refl, ap, sym, ◌∙◌, subst, append_assoc, append-nil, add-one, drop-cons}
use Rattle.std.specs.Prelude.{IfSome, option_map}
use Rattle.std.specs.Io.KnownBytes.{Appends}
use Rattle.std.proofs.KnownBytes.{Appends-nil, Appends-trans}
use Rattle.std.proofs.lemmas.List.{reverse-append}
use Rattle.std.proofs.lemmas.Grind.{flat_map-append}
use Rattle.disk_model.specs.Counts.{Counters}
use Rattle.disk_model.specs.Disk.{Files, no_files}
use Rattle.disk_model.specs.Seen.{DiskSeen}
use Rattle.plain_service.specs.Setups.{Setup}
use Rattle.plain_service.specs.Storing.{files_of}
use Rattle.cluster_facts.specs.Storage.{all_applied}
use Rattle.cluster_facts.specs.World.{World}
use Rattle.cluster_events.specs.Lines.{Told}
use Rattle.cluster_events.specs.OnDisk.{performed}
use Rattle.cluster_events.specs.Servers.{State}
use Rattle.cluster_events.specs.Runs.RunBy.{Started, Went}
use Rattle.event_text.specs.Texts.{printed}
use Rattle.service_laws.specs.Disks.{service_disk}
use Rattle.service_laws.specs.StorageOf.{storage_of}
use Rattle.cluster_clients.proofs.ToldLines.{printed-append}
use Rattle.cluster_rounds.specs.Worlds.{TellsFiles}
use Rattle.played_runs.specs.declared.ending.Status8.{Status8}
use Rattle.played_runs.specs.declared.ending.Status8.TheVariants.{Done, ScriptRefused, Usage, Memory, ReadFault, WriteFault, DiskFault, RootNotEmpty, TooLong, JournalRefused, Inseparable}
use Rattle.played_runs.specs.Counts.{HasGoneOn, HasRisen, RisesBefore}
use Rattle.played_runs.specs.Edges.{edge}
use Rattle.played_runs.specs.Ends.{FaultLeft, Showing, Ending}
use Rattle.played_runs.specs.Games.{Begun, Broken, EventDone, FaultLeaves, FaultLeavesBy, Game, HasState, IsArmedBy, IsGood, Lacks, Shows, shows_files}
use Rattle.played_runs.specs.Laws.{IsGame}
use Rattle.played_runs.specs.Playing.{Goes, Played, seen_behind, text_of}
use Rattle.played_runs.specs.Steps.{Behind, CanFollow, EventsEnd, Going, LacksBehind, LineEnds, LineLacks, Plays, time_behind}
use Rattle.played_runs.specs.Views.{counters_of, files_told, seen_as}
use Rattle.played_runs.specs.Writing.{Counting, Ended, Standing, Whole, joined_lines, unasked}
use Rattle.played_runs.proofs.CountSteps.{on-behind, risen-later}
use Rattle.played_runs.proofs.PlayLaws.{answered-range, played-files}
use Rattle.played_runs.proofs.TimeLaws.{line-now}
use Rattle.played_runs.proofs.WritingSteps.{written-behind}

pub text-append : (later earlier : List Told) → text_of (later ++ earlier) ≡ text_of earlier ++ text_of later
text-append later earlier =
    ap joined_lines (printed-append later earlier) ∙ flat_map-append (λ (line : List ℕ). line) (printed earlier) (printed later)

pub reverse-push : {L : Type 0} (lines : List L) (next : L) → reverse (lines ++ next ∷ []) ≡ next ∷ reverse lines
reverse-push lines next = reverse-append lines (next ∷ [])

pub told-same : (held left : Option Files) (files : Files) → left ≡ option_map (λ _. files) held → IfSome left (λ f. f ≡ files)
told-same None left files is = subst (λ (o : Option Files). IfSome o (λ f. f ≡ files)) (sym is) tt
told-same (Some f) left files is = subst (λ (o : Option Files). IfSome o (λ g. g ≡ files)) (sym is) refl

told-again : (held mid left : Option Files) (one two : Files) → mid ≡ option_map (λ _. one) held → left ≡ option_map (λ _. two) mid → left ≡ option_map (λ _. two) held
told-again None mid left one two first second = second ∙ ap (option_map (λ (_ : Files). two)) first
told-again (Some f) mid left one two first second = second ∙ ap (option_map (λ (_ : Files). two)) first

-- the lines from a place on
pub from-place : {L : Type 0} (lines : List L) (place : ℕ) (next : L) → place < length lines → next ≡ get_or lines place next → drop place lines ≡ next ∷ drop (place + 1) lines
from-place {L} lines place next inside is = rw add-one (drop-cons lines place next inside ∙ ap (λ (one : L). one ∷ drop (suc place) lines) (sym is))

module _ {P L S W : Type 0} (game : Game P L S W) (is_game : IsGame game) where
  -- a cluster that was begun
  pub going-start : (setup : Setup) (places : ℕ) (held : Option Files) (left : DiskSeen) (world : W) → (Begun game) setup places held left world → (Going game) setup places held (counters_of left) left world [] []
  going-start setup places held left world begun = record {
    state = game.start setup places;
    told = [];
    files = all_applied service_disk (storage_of setup).opening no_files;
    run = Started;
    good = begun.good;
    shows = begun.shows;
    armed = begun.armed ∙ sym (is_game.unarmed setup places);
    tells = begun.files;
    written = refl;
  }

  module _ (setup : Setup) (places : ℕ) (held : Option Files) (first : Counters) where
    -- the world stands for a state whose files the disk tells
    pub going-tells : (left : DiskSeen) (world : W) (lines : List L) (text : List ℕ) → (going : (Going game) setup places held first left world lines text) → TellsFiles setup going.state left.files
    going-tells left world lines text going =
        told-same held left.files (files_of setup going.state.world.core.answered) going.tells

    -- one line more
    pub going-next : (mid left : DiskSeen) (old new : W) (lines : List L) (text : List ℕ) (next : L) (printed_lines : List (List ℕ)) → (going : (Going game) setup places held first mid old lines text) → (EventDone game) setup going.state next printed_lines mid left new → (Going game) setup places held first left new (lines ++ next ∷ []) (text ++ joined_lines printed_lines)
    going-next mid left old new lines text next printed_lines going event =
        let state = going.state in
        let outcome = event.outcome in
        let done = event.done in
        let more = (is_game.done setup mid.files (counters_of mid) next state outcome (counters_of left) going.good.steady done).keeps.1.answers in
        let told : game.Step setup (files_told (files_of setup state.world.core.answered) held) (counters_of mid) next state outcome (counters_of left) = subst (λ (one : Option Files). game.Step setup one (counters_of mid) next state outcome (counters_of left)) going.tells done in
        let played : game.Step setup held (counters_of mid) next state outcome (counters_of left) = is_game.retold setup held (files_of setup state.world.core.answered) (counters_of mid) next state outcome (counters_of left) told in
        let files = performed service_disk (storage_of setup) more.0 state.world.core.answered going.files in
        let R : List L → Type 0 = λ all. (Played game) setup places held first all outcome.state (outcome.told ++ going.told) files (counters_of left) in
        record {
          state = outcome.state;
          told = outcome.told ++ going.told;
          files = files;
          run = subst R (sym (reverse-push lines next)) (Went next outcome (files, counters_of left) going.run (record { step = played; more = more.0; grown = more.1; files = refl }));
          good = event.good;
          shows = event.shows;
          armed = event.armed;
          tells = told-again held mid.files left.files (files_of setup state.world.core.answered) (files_of setup outcome.state.world.core.answered) going.tells event.files;
          written = ap (λ front. front ++ joined_lines printed_lines) going.written ∙ ap (λ all. text_of going.told ++ joined_lines all) event.text ∙ sym (text-append outcome.told going.told);
        }

    abbrev pub going-goes : (left : DiskSeen) (world : W) (lines : List L) (text : List ℕ) → (Going game) setup places held first left world lines text → (Goes game) setup places held first lines text
    going-goes left world lines text going = record {
      state = going.state;
      told = going.told;
      files = going.files;
      counts = counters_of left;
      run = going.run;
      good = going.good;
      armed = going.armed;
      written = going.written;
    }

    -- the disk has the files that the deeds of the run make
    pub going-stand : (left : DiskSeen) (world : W) (lines : List L) (text : List ℕ) → (going : (Going game) setup places held first left world lines text) → left.files ≡ files_told going.files held
    going-stand left world lines text going =
        let core = going.state.world.core in
        let range = answered-range core.answered core.hand going.good.range in
        going.tells ∙ ap (λ (files : Files). files_told files held) (sym (played-files game is_game setup places held first going.good.begins going.run range))

    -- and it tells what it would tell behind these lines
    going-seen : (left : DiskSeen) (world : W) (lines : List L) (text : List ℕ) → (going : (Going game) setup places held first left world lines text) → left ≡ (seen_behind game) (going-goes left world lines text going)
    going-seen left world lines text going =
        ap (λ (files : Option Files). seen_as files (counters_of left)) (going-stand left world lines text going)

    pub going-plays : (left : DiskSeen) (world : W) (lines : List L) (text : List ℕ) → (Going game) setup places held first left world lines text → (Plays game) setup places held first left world lines text
    going-plays left world lines text going = record {
      goes = going-goes left world lines text going;
      now = record { shows = going.shows; stand = going-stand left world lines text going; armed = going.armed; count = refl };
    }

    pub going-state : (left : DiskSeen) (world : W) (lines : List L) (text : List ℕ) → (Going game) setup places held first left world lines text → (HasState game) world left.tally.armed
    going-state left world lines text going =
        record { setup = setup; state = going.state; good = going.good; shows = going.shows; count = going.armed }

    -- what one line comes to is what all lines come to
    pub line-events : (mid left : DiskSeen) (Since : Option Files → Counters → Type 0) (old new : W) (done : List L) (next : L) (others : List L) (front : List ℕ) → (going : (Going game) setup places held first mid old done front) → Since mid.files (counters_of mid) → (reached : Option Status8) (text : List ℕ) → (LineEnds game) setup going.state next mid left new reached text → (EventsEnd game) setup places held first left Since new (done ++ next ∷ others) reached (front ++ text)
    line-events mid left Since old new done next others front going since None text ends =
        let further = going-next mid left old new done front next ends.0 going ends.2 in
        let P : List ℕ → Type 0 = λ one. (Plays game) setup places held first left new (done ++ next ∷ []) one in
        (done ++ next ∷ [], others, sym (append_assoc done (next ∷ []) others), subst P (ap (λ (behind : List ℕ). front ++ behind) (sym ends.1)) (going-plays left new (done ++ next ∷ []) (front ++ joined_lines ends.0) further))
    line-events mid left Since old new done next others front going since (Some DiskFault) text ends =
        let F : DiskSeen → Type 0 = λ one. FaultLeft game setup going.state next one left new ends.0 in
        record {
          front = front;
          behind = record { done = done; next = next; rest = others; parts = refl; goes = going-goes mid old done front going };
          lines = ends.0;
          fault = subst F (going-seen mid old done front going) ends.1;
          since = subst (λ (one : Option Files). Since one (counters_of mid)) (going-stand mid old done front going) since;
          written = ap (λ (behind : List ℕ). front ++ behind) ends.2;
        }
    line-events mid left Since old new done next others front going since (Some Done) text ends = absurd ends
    line-events mid left Since old new done next others front going since (Some ScriptRefused) text ends = absurd ends
    line-events mid left Since old new done next others front going since (Some Usage) text ends = absurd ends
    line-events mid left Since old new done next others front going since (Some Memory) text ends = absurd ends
    line-events mid left Since old new done next others front going since (Some ReadFault) text ends = absurd ends
    line-events mid left Since old new done next others front going since (Some WriteFault) text ends = absurd ends
    line-events mid left Since old new done next others front going since (Some RootNotEmpty) text ends = absurd ends
    line-events mid left Since old new done next others front going since (Some TooLong) text ends = absurd ends
    line-events mid left Since old new done next others front going since (Some JournalRefused) text ends = absurd ends
    line-events mid left Since old new done next others front going since (Some Inseparable) text ends = absurd ends

    -- memory that was wanting in a line was wanting behind those before it
    pub line-lacks : (mid left : DiskSeen) (old new : W) (done : List L) (next : L) (others : List L) (front : List ℕ) → (going : (Going game) setup places held first mid old done front) → (text : List ℕ) → (LineLacks game) setup going.state next mid left new text → (LacksBehind game) setup places held first left new (done ++ next ∷ others) (front ++ text)
    line-lacks mid left old new done next others front going text lacks =
        let seen = going-seen mid old done front going in
        let B : DiskSeen → Type 0 = λ one. (Broken game) setup going.state one left new in
        let S : DiskSeen → Type 0 = λ one. (Lacks game) setup going.state next one left new in
        let Lacked : List ℕ → Type 0 = λ one. (LacksBehind game) setup places held first left new (done ++ next ∷ others) one in
        let whole : Lacked front =
        record {
          behind = record { done = done; next = next; rest = others; parts = refl; goes = going-goes mid old done front going };
          broken = subst B seen lacks.1;
          lacks = subst S seen lacks.2;
        } in
        subst Lacked (sym (ap (λ (more : List ℕ). front ++ more) lacks.0 ∙ append-nil front)) whole

    -- the counts of a line that ends, behind those of the lines before it
    line-counts : (start between later : ℕ) → start ≤ between → (mid left : DiskSeen) (state : State P) (next : L) (new : W) (reached : Option Status8) (text : List ℕ) → (LineEnds game) setup state next mid left new reached text → RisesBefore reached unasked (between, later) → RisesBefore reached unasked (start, later)
    line-counts start between later before mid left state next new None text ends rises = (rises.0, on-behind start between later before rises.1)
    line-counts start between later before mid left state next new (Some DiskFault) text ends rises = (rises.0, risen-later start between later before rises.1)
    line-counts start between later before mid left state next new (Some Done) text ends rises = absurd ends
    line-counts start between later before mid left state next new (Some ScriptRefused) text ends rises = absurd ends
    line-counts start between later before mid left state next new (Some Usage) text ends rises = absurd ends
    line-counts start between later before mid left state next new (Some Memory) text ends rises = absurd ends
    line-counts start between later before mid left state next new (Some ReadFault) text ends rises = absurd ends
    line-counts start between later before mid left state next new (Some WriteFault) text ends rises = absurd ends
    line-counts start between later before mid left state next new (Some RootNotEmpty) text ends rises = absurd ends
    line-counts start between later before mid left state next new (Some TooLong) text ends rises = absurd ends
    line-counts start between later before mid left state next new (Some JournalRefused) text ends rises = absurd ends
    line-counts start between later before mid left state next new (Some Inseparable) text ends rises = absurd ends

    module _ {K : Type 0} (told : K → Option (List ℕ)) (faults : K → ℕ) where
      -- one line more is behind
      pub behind-next : (one mid last : K) (disk left : DiskSeen) (old new : W) (events : List L) (next : L) (others : List L) (text : List ℕ) (printed_lines : List (List ℕ)) → (so_far : (Behind game) setup places held first disk old (edge told faults one mid) events (next ∷ others)) → text ≡ joined_lines printed_lines → (EventDone game) setup so_far.going.state next printed_lines disk left new → Appends (told mid) (told last) text → (Behind game) setup places held first left new (edge told faults one last) events others
      behind-next one mid last disk left old new events next others text printed_lines so_far is event appended = record {
        done = so_far.done ++ next ∷ [];
        parts = so_far.parts ∙ sym (append_assoc so_far.done (next ∷ []) others);
        text = so_far.text ++ joined_lines printed_lines;
        going = going-next disk left old new so_far.done so_far.text next printed_lines so_far.going event;
        appended = Appends-trans (told one) (told mid) (told last) so_far.text (joined_lines printed_lines) so_far.appended (subst (Appends (told mid) (told last)) is appended);
      }

      -- behind the last line
      pub behind-last : (one last : K) (left : DiskSeen) (disk : ℕ × ℕ) (Since : Option Files → Counters → Type 0) (world : W) (events rest : List L) → rest ≡ [] → faults last ≡ faults one → HasGoneOn disk → (Behind game) setup places held first left world (edge told faults one last) events rest → Ended unasked disk ((EventsEnd game) setup places held first left Since world events) ((LacksBehind game) setup places held first left world events) (edge told faults one last) Done
      behind-last one last left disk Since world events rest none sink_stood disk_on behind =
          let all : events ≡ behind.done = behind.parts ∙ ap (λ (others : List L). behind.done ++ others) none ∙ append-nil behind.done in
          let P : List L → Type 0 = λ lines. (Plays game) setup places held first left world lines behind.text in
          Whole behind.text (subst P (sym all) (going-plays left world behind.done behind.text behind.going), (refl, disk_on)) sink_stood behind.appended

      -- a line that ended the run
      pub behind-ends : (one mid last : K) (disk left : DiskSeen) (start between later : ℕ) (Since : Option Files → Counters → Type 0) (old new : W) (events : List L) (next : L) (others : List L) (status : Status8) → (behind : (Behind game) setup places held first disk old (edge told faults one mid) events (next ∷ others)) → faults mid ≡ faults one → start ≤ between → Since disk.files (counters_of disk) → Ended unasked (between, later) ((LineEnds game) setup behind.going.state next disk left new) ((LineLacks game) setup behind.going.state next disk left new) (edge told faults mid last) status → Ended unasked (start, later) ((EventsEnd game) setup places held first left Since new events) ((LacksBehind game) setup places held first left new events) (edge told faults one last) status
      behind-ends one mid last disk left start between later Since old new events next others status behind sink before since ended =
          let all = behind.done ++ next ∷ others in
          let front = behind.text in
          let E = Counting unasked (between, later) ((LineEnds game) setup behind.going.state next disk left new) in
          let F = Counting unasked (start, later) ((EventsEnd game) setup places held first left Since new all) in
          let Before = Standing unasked (between, later) ((LineLacks game) setup behind.going.state next disk left new) in
          let M = Standing unasked (start, later) ((LacksBehind game) setup places held first left new all) in
          let W : List L → Type 0 = λ lines. Ended unasked (start, later) ((EventsEnd game) setup places held first left Since new lines) ((LacksBehind game) setup places held first left new lines) (edge told faults one last) status in
          subst W (sym behind.parts) (written-behind told faults one mid last E F Before M front status behind.appended sink (λ reached text ends. (line-events disk left Since old new behind.done next others front behind.going since reached text ends.0, line-counts start between later before disk left behind.going.state next new reached text ends.0 ends.1)) (λ text lacks. (line-lacks disk left old new behind.done next others front behind.going text lacks.0, lacks.1, on-behind start between later before lacks.2)) ended)

  -- before the first line
  pub behind-start : {K : Type 0} (told : K → Option (List ℕ)) (faults : K → ℕ) (sink : K) (setup : Setup) (places : ℕ) (held : Option Files) (left : DiskSeen) (world : W) (events : List L) → (Begun game) setup places held left world → (Behind game) setup places held (counters_of left) left world (edge told faults sink sink) events events
  behind-start told faults sink setup places held left world events begun = record {
    done = [];
    parts = refl;
    text = [];
    going = going-start setup places held left world begun;
    appended = Appends-nil (told sink);
  }

  -- the lines behind the first one can follow
  pub begun-follows : (setup : Setup) (places : ℕ) (held : Option Files) (left : DiskSeen) (world : W) (events : List L) → (Begun game) setup places held left world → (CanFollow game) setup.start events → (CanFollow game) (game.now world) events
  begun-follows setup places held left world events begun follows =
      let start : (game.start setup places).world.now ≡ setup.start = ap (λ (one : World). one.now) (is_game.empty setup places) in
      let at : game.now world ≡ setup.start = sym (is_game.clock (game.start setup places).peers world) ∙ begun.shows.now ∙ start in
      subst (λ (now : ℤ). (CanFollow game) now events) (sym at) follows

  -- the lines behind can still follow
  pub follow-next : (setup : Setup) (state : State P) (held left : DiskSeen) (old new : W) (next : L) (others : List L) (printed_lines : List (List ℕ)) → (IsGood game) setup state → (Shows game) setup state old → (EventDone game) setup state next printed_lines held left new → (CanFollow game) (time_behind (game.now old) (game.shared next)) others → (CanFollow game) (game.now new) others
  follow-next setup state held left old new next others printed_lines good shows event follows =
      let outcome = event.outcome in
      let done = event.done in
      let before = sym (is_game.clock state.peers old) ∙ shows.now in
      let after = sym (is_game.clock outcome.state.peers new) ∙ event.shows.now in
      let same : time_behind (game.now old) (game.shared next) ≡ game.now new =
      ap (λ (now : ℤ). time_behind now (game.shared next)) before ∙ sym (line-now game is_game setup held.files (counters_of held) next state outcome (counters_of left) good.steady done) ∙ sym after in
      subst (λ (now : ℤ). (CanFollow game) now others) same follows

  -- what a disk fault in a line left
  fault-by : (shows : Bool) (setup : Setup) (state : State P) (next : L) (held left : DiskSeen) (old new : W) (lines : List (List ℕ)) → shows_files (game.shared next) ≡ shows → (IsGood game) setup state → (Shows game) setup state old → (IsArmedBy game) state held.tally.armed → HasRisen (held.faults, left.faults) → (FaultLeavesBy game) shows next old new [] lines held left → FaultLeft game setup state next held left new (joined_lines lines)
  fault-by true setup state next held left old new lines is good shows armed risen leaves =
      Showing is (subst (λ (world : W). (Shows game) setup state world) (sym leaves.0) shows) leaves.2 risen (ap joined_lines leaves.1)
  fault-by false setup state next held left old new lines is good shows armed risen leaves =
      let fault = leaves setup state good shows armed in
      Ending fault.0 fault.1 (ap joined_lines fault.2)

  pub fault-left : (setup : Setup) (state : State P) (next : L) (held left : DiskSeen) (old new : W) (lines : List (List ℕ)) → (IsGood game) setup state → (Shows game) setup state old → (IsArmedBy game) state held.tally.armed → HasRisen (held.faults, left.faults) → (FaultLeaves game) next old new [] lines held left → FaultLeft game setup state next held left new (joined_lines lines)
  fault-left setup state next held left old new lines good shows armed risen leaves =
      fault-by (shows_files (game.shared next)) setup state next held left old new lines refl good shows armed risen leaves

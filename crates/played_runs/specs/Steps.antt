-- Words of bodies alone: what each line that is played leads to, and lines one after another.
use Rattle.std.specs.Prelude.{◌≡◌, ℕ, ℤ, List, [], ◌∷◌, ◌++◌, reverse, Option, Some, None, Result, Ok, Err, IfSome}
use Rattle.std.specs.FinMap as files
use Rattle.std.specs.Io.KnownBytes.{Appends}
use Rattle.disk_model.specs.Counts.{Counters}
use Rattle.disk_model.specs.Disk.{Files}
use Rattle.disk_model.specs.Seen.{DiskSeen}
use Rattle.script_lines.specs.declared.line.Line.{Line}
use Rattle.script_lines.specs.declared.line.Line.TheVariants as line
use Rattle.plain_service.specs.Setups.{Setup}
use Rattle.cluster_events.specs.Lines.{Told}
use Rattle.cluster_events.specs.Servers.{State}
use Rattle.cluster_rounds.specs.Worlds.{LeavesFiles, TellsFiles}
use Rattle.played_runs.specs.declared.ending.Status8.{Status8}
use Rattle.played_runs.specs.declared.ending.Status8.TheVariants.{Done, DiskFault}
use Rattle.played_runs.specs.Counts.{HasGoneOn, HasStood}
use Rattle.played_runs.specs.Edges.{Edge, Stage, after, before, fault_count}
use Rattle.played_runs.specs.Ends.{FaultLeft, PlayEnds, PlayLacks, fault_line}
use Rattle.played_runs.specs.Games.{Begun, Broken, EventDone, Game, IsArmedBy, IsGood, Lacks, Shows}
use Rattle.played_runs.specs.Playing.{Goes, Played, StandsAt, seen_behind, text_of}
use Rattle.played_runs.specs.Views.{HoldsNone, counters_of, files_told}
use Rattle.played_runs.specs.Writing.{Ended, Reaching, joined_lines, unasked}

-- the disk holds no file, or this is the least name
abbrev pub FindsNames : Option Files → Option (List ℕ) → Type 0
FindsNames held None = HoldsNone held
FindsNames held (Some name) = IfSome held (λ f. (others : List (List ℕ)) × (files.keys f ≡ name ∷ others))

-- the time in force behind a line, by what is shared of it
abbrev pub time_behind : ℤ → Option Line → ℤ
time_behind now (Some (line.Time later)) = later
time_behind now _ = now

-- what the playing of a line gives
abbrev pub LineGives : {K : Type 0} → (disk : ℕ × ℕ) → Reaching → (List ℕ → Type 0) → Edge K (List ℕ) → Result Unit Status8 → Type 0
LineGives disk E L sink (Ok done) =
    (text : List ℕ) × E None text × HasGoneOn disk × HasStood (fault_count sink) × Appends (before sink) (after sink) text
LineGives disk E L sink (Err status) = Ended unasked disk E L sink status

module _ {P L S W : Type 0} (game : Game P L S W) where
  -- these lines can be played one after another from a time on
  abbrev pub CanFollow : ℤ → List L → Type 0
  CanFollow now [] = Unit {0}
  CanFollow now (next ∷ lines) =
      ((raw : List ℕ) × game.Spells next raw) × game.Follows now next × CanFollow (time_behind now (game.shared next)) lines

  -- an opening and the lines behind it can be played
  pub record CanPlay (opening : L) (events : List L) : Type 0 where
    pub spelled : (raw : List ℕ) × game.Spells opening raw
    pub begins : (setup : Setup) × (places : ℕ) × game.Begins opening setup places
    pub follows : (setup : Setup) (places : ℕ) → game.Begins opening setup places → CanFollow setup.start events

  -- the lines of a script can be played
  abbrev pub IsPlayable : List L → Type 0
  IsPlayable [] = ⊥
  IsPlayable (opening ∷ events) = CanPlay opening events

  -- how a script that can be played ends on its stage
  abbrev pub PlayedOn : {K D : Type 0} → List L → Stage W K D → Status8 → Type 0
  PlayedOn lines scene status =
      Ended unasked (fault_count scene.disk) (PlayEnds game lines scene) (PlayLacks game lines scene) scene.sink status

  -- some lines were played from what the disk had counted on
  pub record Going (setup : Setup) (places : ℕ) (held : Option Files) (first : Counters) (left : DiskSeen) (world : W) (lines : List L)
      (text : List ℕ) : Type 0 where
    pub state : State P
    pub told : List Told
    pub files : Files
    pub run : (Played game) setup places held first (reverse lines) state told files (counters_of left)
    pub good : (IsGood game) setup state
    pub shows : (Shows game) setup state world
    pub armed : (IsArmedBy game) state left.tally.armed
    pub tells : LeavesFiles setup state held left.files
    pub written : text ≡ text_of told

  -- where one line that is played ends: its event is done, or the disk failed behind some lines
  abbrev pub LineEnds : Setup → State P → L → DiskSeen → DiskSeen → W → Reaching
  LineEnds setup state next held left world None text =
      (lines : List (List ℕ)) × (text ≡ joined_lines lines) × (EventDone game) setup state next lines held left world
  LineEnds setup state next held left world (Some DiskFault) text =
      (lines : List ℕ) × FaultLeft game setup state next held left world lines × (text ≡ lines ++ fault_line)
  LineEnds setup state next held left world _ text = ⊥

  -- memory was wanting as a line was played, before anything of it was written
  abbrev pub LineLacks : Setup → State P → L → DiskSeen → DiskSeen → W → List ℕ → Type 0
  LineLacks setup state next held left world text =
      (text ≡ []) × (Broken game) setup state held left world × (Lacks game) setup state next held left world

  -- a line was played, over each good state that the world and the disk stood for
  abbrev pub PlaysLine : {K : Type 0} → L → DiskSeen → DiskSeen → W → W → Edge K (List ℕ) → Result Unit Status8 → Type 0
  PlaysLine next held left old new sink result =
      (setup : Setup) (state : State P) → (IsGood game) setup state → (Shows game) setup state old → (IsArmedBy game) state held.tally.armed
      → TellsFiles setup state held.files
      → LineGives (held.faults, left.faults) (LineEnds setup state next held left new) (LineLacks setup state next held left new) sink result

  -- lines were played, and world and disk stand where they led
  pub record Plays (setup : Setup) (places : ℕ) (held : Option Files) (first : Counters) (left : DiskSeen) (world : W) (lines : List L)
      (text : List ℕ) : Type 0 where
    pub goes : (Goes game) setup places held first lines text
    pub now : (StandsAt game) setup goes.state goes.files goes.counts held left world

  -- an event broke off behind those that were done
  pub record BreaksBehind (setup : Setup) (places : ℕ) (held : Option Files) (first : Counters) (events : List L) (front : List ℕ) : Type 0 where
    pub done : List L
    pub next : L
    pub rest : List L
    pub parts : events ≡ done ++ next ∷ rest
    pub goes : (Goes game) setup places held first done front

  -- for want of memory
  pub record LacksBehind (setup : Setup) (places : ℕ) (held : Option Files) (first : Counters) (left : DiskSeen) (world : W) (events : List L)
      (front : List ℕ) : Type 0 where
    pub behind : BreaksBehind setup places held first events front
    pub broken : (Broken game) setup behind.goes.state ((seen_behind game) behind.goes) left world
    pub lacks : (Lacks game) setup behind.goes.state behind.next ((seen_behind game) behind.goes) left world

  -- by a fault of the disk, which told the files of the events before and counted what they counted
  pub record FaultsBehind (setup : Setup) (places : ℕ) (held : Option Files) (first : Counters) (left : DiskSeen)
      (Since : Option Files → Counters → Type 0) (world : W) (events : List L) (text : List ℕ) : Type 0 where
    pub front : List ℕ
    pub behind : BreaksBehind setup places held first events front
    pub lines : List ℕ
    pub fault : FaultLeft game setup behind.goes.state behind.next ((seen_behind game) behind.goes) left world lines
    pub since : Since (files_told behind.goes.files held) behind.goes.counts
    pub written : text ≡ front ++ (lines ++ fault_line)

  -- where the lines behind the opening end
  abbrev pub EventsEnd : Setup → ℕ → Option Files → Counters → DiskSeen → (Option Files → Counters → Type 0) → W → List L → Reaching
  EventsEnd setup places held first left Since world events None text =
      (done : List L) × (rest : List L) × (events ≡ done ++ rest) × Plays setup places held first left world done text
  EventsEnd setup places held first left Since world events (Some Done) text = Plays setup places held first left world events text
  EventsEnd setup places held first left Since world events (Some DiskFault) text =
      FaultsBehind setup places held first left Since world events text
  EventsEnd setup places held first left Since world events _ text = ⊥

  -- behind some of the lines, of which these are left: the text so far is written, and no fault was lost
  pub record Behind {K : Type 0} (setup : Setup) (places : ℕ) (held : Option Files) (first : Counters) (left : DiskSeen) (world : W)
      (sink : Edge K (List ℕ)) (events rest : List L) : Type 0 where
    pub done : List L
    pub parts : events ≡ done ++ rest
    pub text : List ℕ
    pub going : Going setup places held first left world done text
    pub appended : Appends (before sink) (after sink) text

  -- a cluster was begun, and the disk has its first files
  abbrev pub HasBegun : DiskSeen → W → Type 0
  HasBegun left world = (setup : Setup) × (places : ℕ) × (held : Option Files) × (Begun game) setup places held left world

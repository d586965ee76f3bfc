-- Words of public clauses: a world that plays the lines of scripts, and what its events are to it.
use Rattle.std.specs.Prelude.{◌≡◌, ℕ, ◌≤◌, ℤ, Bool, true, false, Option, Some, None, List, [], ◌++◌, Result, Ok, Err}
use Rattle.ais_values.specs.Causes.{Rose}
use Rattle.disk_model.specs.Counts.{Counters}
use Rattle.disk_model.specs.Disk.{Files}
use Rattle.disk_model.specs.Seen.{DiskSeen, none_seen}
use Rattle.script_lines.specs.declared.line.Line.{Line}
use Rattle.script_lines.specs.declared.line.Line.TheVariants as line
use Rattle.plain_service.specs.Setups.{Setup}
use Rattle.cluster_events.specs.Lines.{Told}
use Rattle.cluster_events.specs.Outcomes.{Outcome}
use Rattle.cluster_events.specs.Servers.{State}
use Rattle.cluster_events.specs.Runs.{StepBy}
use Rattle.event_text.specs.Texts.{printed}
use Rattle.cluster_clients.specs.declared.answer.EventAnswer.{EventAnswer}
use Rattle.cluster_clients.specs.declared.answer.EventAnswer.TheVariants.{Memory, DiskFault}
use Rattle.cluster_rounds.specs.declared.cluster.Cluster.{Cluster}
use Rattle.cluster_rounds.specs.Kits.{Kit}
use Rattle.cluster_rounds.specs.Broken as cluster
use Rattle.cluster_rounds.specs.Seen.{IsRead}
use Rattle.cluster_rounds.specs.Worlds as clusters
use Rattle.cluster_rounds.specs.Worlds.{LeavesFiles, TellsFiles}
use Rattle.played_runs.specs.Views.{FailedDeeds, LackedDeeds, behind_deeds, counters_of}

-- a world that is W in the code and plays the lines L, whose servers keep P beside the world of the definitions and are S in the code
pub record Game (P L S W : Type 0) : Type 1 where
  pub kit : Kit P S
  -- the texts that spell a line; the line that all worlds share, where it is one: what is promised of settling, of refusals, of time and of
  -- files that are shown is asked of such lines alone; and whether a server goes down in a line with no entry in work
  pub Spells : L → List ℕ → Type 0
  pub shared : L → Option Line
  pub crashes : L → Bool
  -- the state at the start of a setup with so many places for callbacks, and the lines that begin one
  pub start : Setup → ℕ → State P
  pub Begins : L → Setup → ℕ → Type 0
  -- a line can be played behind the first one, at this time
  pub Follows : ℤ → L → Type 0
  -- a line was done, over a disk that told these files before the run, with what the disk counted before and after the line
  pub Step : Setup → Option Files → StepBy Counters L P
  -- a world before its first line; the time in force in one; and its parts, where its servers keep this
  pub empty : W
  pub now : W → ℤ
  pub parts : P → W → Cluster S
  -- how many changing calls are left until the disk stops, where it is armed
  pub armed : P → Option ℕ
  -- a fault of the disk ended the event of a line, which told these lines, and left the disk and the world so; and where it ended
  pub Ended : Setup → State P → L → List Told → DiskSeen → DiskSeen → W → Type 0
  pub end :
      (setup : Setup) (state : State P) (next : L) (told : List Told) (held left : DiskSeen) (world : W)
      → Ended setup state next told held left world → Outcome (State P)

-- lines that show files, by what is shared of them
abbrev pub shows_files : Option Line → Bool
shows_files (Some line.Files) = true
shows_files (Some (line.Cat name)) = true
shows_files _ = false

-- what the start left: its deeds were done, and no other calls were made; memory was wanting in them; or one of their calls failed, and
-- nothing is printed
abbrev pub LeavesOpening : {T : Type 0} → Setup → DiskSeen → DiskSeen → Result T EventAnswer → Type 0
LeavesOpening setup held left (Ok begun) = counters_of left ≡ behind_deeds setup (counters_of held)
LeavesOpening setup held left (Err Memory) = LackedDeeds setup held left
LeavesOpening setup held left (Err (DiskFault lines)) = (lines ≡ []) × FailedDeeds setup held left

-- the disk's count of faults does not fall in an event, and rises where a fault ends it
abbrev pub RisesInEvent : {T : Type 0} → ℕ → ℕ → Result T EventAnswer → Type 0
RisesInEvent before now (Ok done) = before ≤ now
RisesInEvent before now (Err Memory) = before ≤ now
RisesInEvent before now (Err (DiskFault lines)) = (before ≤ now) × Rose before now

module _ {P L S W : Type 0} (game : Game P L S W) where
  -- the world of the code stands for a state of the definitions
  abbrev pub Shows : Setup → State P → W → Type 0
  Shows setup state world = (clusters.Shows game.kit) setup state (game.parts state.peers world)

  -- what holds of a state at all times
  abbrev pub IsGood : Setup → State P → Type 0
  IsGood setup state = (clusters.IsGood game.kit) setup state

  -- the disk's armed count is the one that the servers keep
  abbrev pub IsArmedBy : State P → Option ℕ → Type 0
  IsArmedBy state armed = armed ≡ game.armed state.peers

  -- the world stands for a good state, of which a disk of this armed count tells
  pub record HasState (world : W) (armed : Option ℕ) : Type 0 where
    pub setup : Setup
    pub state : State P
    pub good : IsGood setup state
    pub shows : Shows setup state world
    pub count : IsArmedBy state armed

  -- the cluster of a setup stands at its start: the world is good, a disk that told its files tells those of the empty history, and it is
  -- not armed
  pub record Begun (setup : Setup) (places : ℕ) (held : Option Files) (left : DiskSeen) (world : W) : Type 0 where
    pub good : IsGood setup (game.start setup places)
    pub shows : Shows setup (game.start setup places) world
    pub files : LeavesFiles setup (game.start setup places) held left.files
    pub armed : left.tally.armed ≡ None

  -- a line was done: the world and the disk stand for the state after it, and the lines are those of the event
  pub record EventDone (setup : Setup) (state : State P) (next : L) (lines : List (List ℕ)) (held left : DiskSeen) (world : W) : Type 0 where
    pub outcome : Outcome (State P)
    pub done : game.Step setup held.files (counters_of held) next state outcome (counters_of left)
    pub good : IsGood setup outcome.state
    pub shows : Shows setup outcome.state world
    pub armed : IsArmedBy outcome.state left.tally.armed
    pub text : lines ≡ printed outcome.told
    pub files : LeavesFiles setup outcome.state held.files left.files

  -- so it is over each good state that the world and the disk stood for
  abbrev pub DoesEvent : L → List (List ℕ) → W → W → DiskSeen → DiskSeen → Type 0
  DoesEvent next lines old new held left =
      (setup : Setup) (state : State P) → IsGood setup state → Shows setup state old → IsArmedBy state held.tally.armed
      → TellsFiles setup state held.files → EventDone setup state next lines held left new

  -- an event broke off for want of memory, and left the parts of the world so
  abbrev pub Broken : Setup → State P → DiskSeen → DiskSeen → W → Type 0
  Broken setup state held left world =
      (cluster.Broken game.kit) setup state (game.kit.see held none_seen) (game.kit.see left none_seen) (game.parts state.peers world)

  -- and history, servers and disk are as that leaves them
  abbrev pub Lacks : Setup → State P → L → DiskSeen → DiskSeen → W → Type 0
  Lacks setup state next held left world =
      game.kit.Lacks (game.crashes next) setup state (game.parts state.peers world).history.entries (game.parts state.peers world).servers
      (game.kit.see held none_seen) (game.kit.see left none_seen)

  -- so it is over each good state that the world and the disk stood for
  abbrev pub BreaksOn : L → W → W → DiskSeen → DiskSeen → Type 0
  BreaksOn next old new held left =
      (setup : Setup) (state : State P) → IsGood setup state → Shows setup state old → IsArmedBy state held.tally.armed
      → Broken setup state held left new × Lacks setup state next held left new

  -- the disk had a fault that left no server active: over each good state that the world and the disk stood for the event ended there, and
  -- these lines were printed
  abbrev pub EndsEvent : L → W → W → List (List ℕ) → List (List ℕ) → DiskSeen → DiskSeen → Type 0
  EndsEvent next old new before after held left =
      (setup : Setup) (state : State P) → IsGood setup state → Shows setup state old → IsArmedBy state held.tally.armed → (told : List Told)
      × game.Ended setup state next told held left new × (after ≡ before ++ printed told)

  -- A line that shows files leaves all as it was where the disk has a fault, which was only read. Any other line ended.
  abbrev pub FaultLeavesBy : Bool → L → W → W → List (List ℕ) → List (List ℕ) → DiskSeen → DiskSeen → Type 0
  FaultLeavesBy true next old new before after held left = (new ≡ old) × (after ≡ before) × IsRead held left
  FaultLeavesBy false next old new before after held left = EndsEvent next old new before after held left

  abbrev pub FaultLeaves : L → W → W → List (List ℕ) → List (List ℕ) → DiskSeen → DiskSeen → Type 0
  FaultLeaves next old new before after held left = FaultLeavesBy (shows_files (game.shared next)) next old new before after held left

  -- what a line left that was not done, by the answer
  abbrev pub EventBroken : EventAnswer → L → W → W → DiskSeen → DiskSeen → Type 0
  EventBroken Memory next old new held left = BreaksOn next old new held left
  EventBroken (DiskFault lines) next old new held left = FaultLeaves next old new [] lines held left

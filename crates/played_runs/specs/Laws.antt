-- Words of laws: what is asked of a world that plays the lines of scripts.
use Rattle.std.specs.Prelude.{◌≡◌, ℕ, false, Option, Some, None, List}
use Rattle.disk_model.specs.Counts.{Counters}
use Rattle.disk_model.specs.Disk.{Files}
use Rattle.disk_model.specs.Seen.{DiskSeen}
use Rattle.script_lines.specs.declared.line.Line.TheVariants as line
use Rattle.plain_service.specs.Setups.{Setup}
use Rattle.cluster_facts.specs.Messages.{messages_in}
use Rattle.cluster_facts.specs.History.{Empty, accepted, committed}
use Rattle.cluster_facts.specs.Ranges.{AreInRange}
use Rattle.cluster_facts.specs.World.{empty_world}
use Rattle.cluster_events.specs.Lines.{Told}
use Rattle.cluster_events.specs.Outcomes.{Outcome}
use Rattle.cluster_events.specs.Servers.{State}
use Rattle.cluster_events.specs.Ending.{LacksLast}
use Rattle.cluster_events.specs.Saying.{Says}
use Rattle.cluster_events.specs.Serving.{IsSteady}
use Rattle.cluster_events.specs.Settled.{IsSettled}
use Rattle.cluster_rounds.specs.Broken.{LeavesBetween}
use Rattle.cluster_rounds.specs.Timely.{AreTimely}
use Rattle.cluster_rounds.specs.Worlds.{TellsFiles}
use Rattle.service_laws.specs.PlainOf.{plain_of}
use Rattle.played_runs.specs.Games.{Game}
use Rattle.played_runs.specs.Kinds.{InTime, Refuses, Waits, kind_by}
use Rattle.played_runs.specs.Views.{files_told}

-- the facts hold of a state, and lines say what led there from another one
abbrev pub Keeps : {P L S W : Type 0} → Game P L S W → Setup → (old new : State P) → List Told → Type 0
Keeps game setup old new told = IsSteady (plain_of setup) game.kit.Good new × Says (plain_of setup) old.world new.world told

-- what a line that was done makes of a state of which the facts hold
pub record DoneFacts {P L S W : Type 0} (game : Game P L S W) (setup : Setup) (next : L) (state : State P) (outcome : Outcome (State P)) : Type 0 where
  pub keeps : Keeps game setup state outcome.state outcome.told
  pub in_time : InTime (kind_by (game.shared next)) state.world outcome.state.world outcome.told
  pub refuses : Refuses (kind_by (game.shared next)) state.world outcome.state.world outcome.told
  pub waits : Waits (kind_by (game.shared next)) state.world outcome.state.world outcome.told

-- and where a fault of the disk ended it: what it committed is of the time in force, or waited before it; nothing is in hand, and no reply
-- is posted to the last call, whose work failed, but behind a crash
pub record EndFacts {P L S W : Type 0} (game : Game P L S W) (setup : Setup) (next : L) (state : State P) (end : Outcome (State P)) : Type 0 where
  pub keeps : Keeps game setup state end.state end.told
  pub times : AreTimely state.world end.told
  pub idle : end.state.world.core.hand ≡ Empty
  pub lacks : game.crashes next ≡ false → LacksLast end.state.world.core.answered (messages_in end.state.world.net)

-- an end is one of its event's lines, in range, and the files are between
pub record EndStands {P L S W : Type 0} (game : Game P L S W) (setup : Setup) (state : State P) (told : List Told) (held left : Option Files)
    (end : Outcome (State P)) : Type 0 where
  pub printed : told ≡ end.told
  pub range : AreInRange (accepted end.state.world.core)
  pub files : TellsFiles setup state held → LeavesBetween setup (committed end.state.world.core) held left

pub record IsGame {P L S W : Type 0} (game : Game P L S W) : Type 0 where
  -- at the start of a setup the facts hold, the clients' world is empty, and the disk is not armed
  pub steady : (setup : Setup) (places : ℕ) → IsSteady (plain_of setup) game.kit.Good (game.start setup places)
  pub empty : (setup : Setup) (places : ℕ) → (game.start setup places).world ≡ empty_world setup.start places
  pub unarmed : (setup : Setup) (places : ℕ) → game.armed (game.start setup places).peers ≡ None
  pub clock : (peers : P) (world : W) → (game.parts peers world).now ≡ game.now world
  -- what is said of files that the disk told before a line is said of those that it told before the run
  pub retold : (setup : Setup) (held : Option Files) (files : Files) (before : Counters) (next : L) (state : State P)
      (outcome : Outcome (State P)) (after : Counters)
      → game.Step setup (files_told files held) before next state outcome after → game.Step setup held before next state outcome after
  pub done : (setup : Setup) (held : Option Files) (before : Counters) (next : L) (state : State P) (outcome : Outcome (State P)) (after : Counters)
      → IsSteady (plain_of setup) game.kit.Good state → game.Step setup held before next state outcome after
      → DoneFacts game setup next state outcome
  pub settles : (setup : Setup) (held : Option Files) (before : Counters) (next : L) (state : State P) (outcome : Outcome (State P)) (after : Counters)
      → game.shared next ≡ Some line.Settle → IsSteady (plain_of setup) game.kit.Good state → game.Step setup held before next state outcome after
      → IsSettled (plain_of setup) outcome.state.world
  pub stands : (setup : Setup) (state : State P) (next : L) (told : List Told) (held left : DiskSeen) (world : W)
      → (ended : game.Ended setup state next told held left world)
      → EndStands game setup state told held.files left.files (game.end setup state next told held left world ended)
  pub ends : (setup : Setup) (state : State P) (next : L) (told : List Told) (held left : DiskSeen) (world : W)
      → (ended : game.Ended setup state next told held left world) → IsSteady (plain_of setup) game.kit.Good state
      → EndFacts game setup next state (game.end setup state next told held left world ended)

-- Words of public clauses: what each line of a script does to a server and its journal, and what it leaves where it is not done.
use Rattle.std.specs.Prelude.{◌≡◌, ℕ, Bool, true, false, Option, None, IfSome, IsSome, List, [], Result, Ok, Err}
use Rattle.disk_model.specs.Disk.{Files}
use Rattle.script_lines.specs.declared.line.Line.{Line}
use Rattle.script_lines.specs.declared.line.Line.TheVariants as line
use Rattle.script_lines.specs.declared.line.Server.TheVariants.{A}
use Rattle.plain_service.specs.Setups.{Setup}
use Rattle.service_laws.specs.PlainOf.{plain_of}
use Rattle.cluster_facts.specs.Types.{Entry}
use Rattle.cluster_facts.specs.History.{committed}
use Rattle.cluster_events.specs.Ending.{is_crash}
use Rattle.cluster_events.specs.Outcomes.{Outcome}
use Rattle.cluster_events.specs.Servers.{State}
use Rattle.cluster_events.specs.Running.{Shelf}
use Rattle.cluster_rounds.specs.declared.cluster.Cluster.{Cluster}
use Rattle.cluster_rounds.specs.Broken.{Broken}
use Rattle.cluster_rounds.specs.Kits.{device_by}
use Rattle.cluster_rounds.specs.Worlds.{Happened, IsGood, Shows}
use Rattle.cluster_lines.specs.Lines.{shows_files}
use Rattle.cluster_lines.specs.Playing.{LineEnded, ShowFails}
use Rattle.cluster_lines.specs.Shelves.{shelf_at}
use Rattle.journal_start.specs.declared.cold.ColdAnswer.{ColdAnswer}
use Rattle.journal_start.specs.declared.cold.ColdAnswer.TheVariants as cold
use Rattle.cold_cluster.specs.Cold.{Alone}
use Rattle.cold_cluster.specs.Lines.{ColdHappens}
use Rattle.cold_servers.specs.declared.solo.Solo.{Solo}
use Rattle.cold_servers.specs.ColdCounts.{Stood}
use Rattle.cold_servers.specs.Down.{IsFound, restart_kit}
use Rattle.cold_servers.specs.Steps.{AreDown}
use Rattle.cold_servers.specs.ColdKit.{cold_kit, cold_script}
use Rattle.cold_servers.specs.ColdSeen.{ArmsBoth, ColdSeen, LeavesBoth, Outlives, Rises, TellsBoth}
use Rattle.command_journal.specs.declared.answer.EventAnswer.{EventAnswer}
use Rattle.command_journal.specs.declared.answer.EventAnswer.TheVariants.{Memory, DiskFault, Journal}
use Rattle.command_journal.specs.declared.world.ColdWorld.{ColdWorld}
use Rattle.command_journal.specs.Worlds.{parts_of}

-- what `restart a` comes to while the server is down is what the journal held, where its disk tells that
abbrev pub FoundBy : Bool → Line → Setup → List Entry → Option Files → Type 0
FoundBy false (line.Restart A) setup past held = IsFound setup past held
FoundBy up next setup past held = Unit {0}

-- What a line led to and printed, with what the disks counted and hold: the parts stand for the state after it. `files` and `cat` show what
-- stands on the record disk, where that tells its files.
pub record LineDone (setup : Setup) (state : State Alone) (next : Line) (new : Cluster Solo) (before after : List (List ℕ)) (held left : ColdSeen)
    : Type 0 where
  pub shelf : Shelf
  pub shown : shows_files next ≡ true → IfSome held.disk.files (λ files. shelf ≡ shelf_at files)
  pub outcome : Outcome (State Alone)
  pub leads : ColdHappens (plain_of setup) shelf (device_by setup (λ number. 0)) next state outcome
  pub uses : cold_script.Uses next setup (λ number. 0) state outcome held left
  pub is : Happened cold_kit setup outcome new before after
  pub count : ArmsBoth outcome.state.peers left
  pub leaves : LeavesBoth setup outcome.state held left
  pub found : FoundBy state.peers.up next setup (committed outcome.state.world.core) held.journal.files

-- what `restart a` finds while the server is down is told where the journal's disk tells its files; any other line asks nothing of that
abbrev pub FindsBy : Bool → Line → ColdSeen → Type 0
FindsBy false (line.Restart A) held = IsSome held.journal.files
FindsBy up next held = Unit {0}

-- so it is over each good state that the parts stood for, and of which both disks told what they hold, and their armed counts
abbrev pub OverStates : (Setup → State Alone → Type 0) → Line → Cluster Solo → ColdSeen → Type 0
OverStates P next old held =
    (setup : Setup) (state : State Alone) → IsGood cold_kit setup state → Shows cold_kit setup state old → ArmsBoth state.peers held
    → TellsBoth setup state held → FindsBy state.peers.up next held → P setup state

abbrev pub DoesLine : Line → Cluster Solo → Cluster Solo → List (List ℕ) → List (List ℕ) → ColdSeen → ColdSeen → Type 0
DoesLine next old new before after held left =
    OverStates (λ setup state. LineDone setup state next new before after held left) next old held

-- What a line left that was not done.

-- Memory was wanting: some of the line happened, with lines that nobody sees. The history is legal, and what the disks hold is between. Where
-- the server was to come back both disks may have been asked for it, none failed or stopped, and of an entry that was found too any attempt at
-- its deeds may have been made.
abbrev pub LacksBy : Bool → Line → Setup → State Alone → Cluster Solo → ColdSeen → ColdSeen → Type 0
LacksBy false (line.Restart A) setup state new held left = Broken restart_kit setup state held left new × Stood held left
LacksBy up next setup state new held left =
    Broken cold_kit setup state held left new × cold_kit.Lacks (is_crash next) setup state new.history.entries new.servers held left

abbrev pub LineLacks : Line → Cluster Solo → Cluster Solo → ColdSeen → ColdSeen → Type 0
LineLacks next old new held left = OverStates (λ setup state. LacksBy state.peers.up next setup state new held left) next old held

-- A fault ended the event of a line: the server is down, and the lines are those of all that happened up to it.
abbrev pub EndedBy : Bool → Setup → State Alone → Line → Cluster Solo → List (List ℕ) → List (List ℕ) → ColdSeen → ColdSeen → Type 0
EndedBy false setup state (line.Restart A) new before after held left =
    LineEnded restart_kit cold_script setup state (line.Restart A) new before after held left
EndedBy up setup state next new before after held left = LineEnded cold_kit cold_script setup state next new before after held left

-- a line that shows files leaves all as it was where the record disk has a fault, which was only read; any other ended there
abbrev pub LineFailsBy : Bool → Line → Cluster Solo → Cluster Solo → List (List ℕ) → List (List ℕ) → ColdSeen → ColdSeen → Type 0
LineFailsBy true next old new before after held left = (new ≡ old) × (after ≡ before) × ShowFails cold_kit cold_script held left
LineFailsBy false next old new before after held left =
    OverStates (λ setup state. EndedBy state.peers.up setup state next new before after held left) next old held

-- `restart a` found no journal to start from: the server stays down, and nothing changed. A journal's disk that tells its files has one
pub record CannotStart (next : Line) (old new : Cluster Solo) (held left : ColdSeen) : Type 0 where
  pub line : next ≡ line.Restart A
  pub down : AreDown old
  pub silent : held.journal.files ≡ None
  pub world : new ≡ old
  pub disk : left.disk.files ≡ held.disk.files
  pub journal : left.journal.files ≡ held.journal.files

-- by the answer: no line of a state ends as a disk stops, which takes the server down and is told
abbrev pub BreaksLine : ColdAnswer → Line → Cluster Solo → Cluster Solo → List (List ℕ) → List (List ℕ) → ColdSeen → ColdSeen → Type 0
BreaksLine cold.Memory next old new before after held left = LineLacks next old new held left
BreaksLine cold.Failed next old new before after held left = LineFailsBy (shows_files next) next old new before after held left
BreaksLine cold.Stopped next old new before after held left = OverStates (λ setup state. ⊥) next old held
BreaksLine cold.NoJournal next old new before after held left = CannotStart next old new held left
BreaksLine (cold.Refused place) next old new before after held left = CannotStart next old new held left

-- Of the world.

abbrev pub DoesEvent : Line → List (List ℕ) → ColdWorld → ColdWorld → ColdSeen → ColdSeen → Type 0
DoesEvent next lines old new held left = DoesLine next (parts_of old) (parts_of new) [] lines held left

abbrev pub EventBroken : EventAnswer → Line → ColdWorld → ColdWorld → ColdSeen → ColdSeen → Type 0
EventBroken Memory next old new held left = BreaksLine cold.Memory next (parts_of old) (parts_of new) [] [] held left
EventBroken (DiskFault lines) next old new held left = BreaksLine cold.Failed next (parts_of old) (parts_of new) [] lines held left
EventBroken (Journal place) next old new held left = CannotStart next (parts_of old) (parts_of new) held left

-- no count of faults falls in an event, and one of them rises where a fault ends it
abbrev pub RisesInEvent : {T : Type 0} → ColdSeen → ColdSeen → Result T EventAnswer → Type 0
RisesInEvent held left (Ok done) = Outlives held left
RisesInEvent held left (Err Memory) = Outlives held left
RisesInEvent held left (Err (DiskFault lines)) = Rises held left
RisesInEvent held left (Err (Journal place)) = Outlives held left

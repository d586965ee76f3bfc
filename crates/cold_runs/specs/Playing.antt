-- Words of public clauses: how the lines of a script are played on one server and its journal.
use Rattle.std.specs.Prelude.{◌≡◌, ℕ, true, IfSome, List, ◌∷◌, ◌++◌, reverse}
use Rattle.script_lines.specs.declared.line.Line.{Line}
use Rattle.plain_service.specs.Setups.{Setup}
use Rattle.service_laws.specs.PlainOf.{plain_of}
use Rattle.cluster_facts.specs.History.{committed}
use Rattle.cluster_events.specs.Lines.{Told}
use Rattle.cluster_events.specs.Outcomes.{Outcome}
use Rattle.cluster_events.specs.Running.{Shelf}
use Rattle.cluster_events.specs.Runs.{RunBy, StepBy}
use Rattle.cluster_events.specs.Servers.{State}
use Rattle.cluster_lines.specs.Lines.{shows_files}
use Rattle.cluster_lines.specs.Shelves.{shelf_at}
use Rattle.cluster_rounds.specs.Kits.{device_by}
use Rattle.cold_cluster.specs.Cold.{Alone}
use Rattle.cold_cluster.specs.Lines.{ColdHappens}
use Rattle.cold_servers.specs.ColdKit.{cold_script}
use Rattle.cold_servers.specs.ColdSeen.{ArmsBoth, ColdSeen, LeavesBoth, Outlives}
use Rattle.cluster_lines.specs.Beginning.{Begins}
use Rattle.command_journal.specs.Beginning.{behind_make, start_of}
use Rattle.command_journal.specs.Playing.{FindsBy, FoundBy}
use Rattle.command_journal.specs.Worlds.{IsGood, Shows}
use Rattle.command_journal.specs.declared.world.ColdWorld.{ColdWorld}
use Rattle.played_runs.specs.Playing.{text_of}
use Rattle.played_runs.specs.Views.{HoldsNone, behind_opening, counters_of, names_told}

-- The start: both disks were asked for their names, once each; then the deeds of the start were done on the record disk, and the journal was
-- made on the other one. No other calls were made, and no count of faults fell.
pub record Opened (setup : Setup) (places : ℕ) (held first : ColdSeen) : Type 0 where
  pub count : ArmsBoth (start_of setup places).peers first
  pub leaves : LeavesBoth setup (start_of setup places) held first
  pub disk : counters_of first.disk ≡ behind_opening setup (counters_of held.disk)
  pub journal : counters_of first.journal ≡ behind_make setup (counters_of (names_told held.journal))
  pub rises : Outlives held first

-- A line was done: where it led, what both disks counted, and what they hold then. `files` and `cat` show what stands on the record disk.
pub record ColdStep (setup : Setup) (held : ColdSeen) (next : Line) (state : State Alone) (outcome : Outcome (State Alone)) (left : ColdSeen)
    : Type 0 where
  pub shelf : Shelf
  pub shown : shows_files next ≡ true → IfSome held.disk.files (λ files. shelf ≡ shelf_at files)
  pub finds : FindsBy state.peers.up next held
  pub found : FoundBy state.peers.up next setup (committed outcome.state.world.core) held.journal.files
  pub leads : ColdHappens (plain_of setup) shelf (device_by setup (λ number. 0)) next state outcome
  pub uses : cold_script.Uses next setup (λ number. 0) state outcome held left
  pub count : ArmsBoth outcome.state.peers left
  pub leaves : LeavesBoth setup outcome.state held left
  pub rises : Outlives held left

-- what is seen of both disks goes along with the lines
abbrev pub StepsCold : Setup → StepBy ColdSeen Line Alone
StepsCold setup held next state outcome left = ColdStep setup held next state outcome left

abbrev pub Ran : Setup → ℕ → ColdSeen → List Line → State Alone → List Told → ColdSeen → Type 0
Ran setup places first lines state told left = RunBy (StepsCold setup) (start_of setup places) first lines state told left

-- the first line of a script began a server and its journal on two disks without files, and these events of the others were done
pub record ColdFront (held : ColdSeen) (script done rest : List Line) (text : List ℕ) : Type 0 where
  pub opening : Line
  pub parts : script ≡ opening ∷ (done ++ rest)
  pub empty : HoldsNone held.disk.files
  pub empty_too : HoldsNone held.journal.files
  pub setup : Setup
  pub places : ℕ
  pub begins : Begins opening setup places
  pub first : ColdSeen
  pub opened : Opened setup places held first
  pub state : State Alone
  pub told : List Told
  pub seen : ColdSeen
  pub run : Ran setup places first (reverse done) state told seen
  pub good : IsGood setup state
  pub written : text ≡ text_of told

-- the world stands where the lines led, and the disks are as they were then
pub record StandsCold {held : ColdSeen} {script done rest : List Line} {text : List ℕ} (front : ColdFront held script done rest text)
    (left : ColdSeen) (world : ColdWorld) : Type 0 where
  pub shows : Shows front.setup front.state world
  pub seen : left ≡ front.seen

-- Words of public clauses: how a script ends that is played on one server and its journal.
use Rattle.std.specs.Prelude.{◌≡◌, ◌⊎◌, ℕ, false, true, Option, Some, None, List, [], ◌∷◌, ◌++◌, codes, Err}
use Rattle.std.specs.Fmt.{decimal}
use Rattle.script_lines.specs.declared.line.Line.{Line}
use Rattle.script_lines.specs.declared.line.Line.TheVariants as line
use Rattle.script_lines.specs.declared.line.Server.TheVariants.{A}
use Rattle.plain_service.specs.Setups.{Setup}
use Rattle.cluster_events.specs.Servers.{State}
use Rattle.cluster_lines.specs.Lines.{shows_files}
use Rattle.cluster_lines.specs.Playing.{ShowFails}
use Rattle.cold_cluster.specs.Cold.{Alone}
use Rattle.cold_servers.specs.ColdKit.{cold_kit, cold_script}
use Rattle.cold_servers.specs.ColdSeen.{ColdSeen}
use Rattle.cluster_lines.specs.Beginning.{Begins}
use Rattle.command_journal.specs.Beginning.{LeavesStart}
use Rattle.command_journal.specs.Playing.{EndedBy, LacksBy}
use Rattle.command_journal.specs.Worlds.{HasCold, Shows, parts_of}
use Rattle.command_journal.specs.declared.answer.EventAnswer.TheVariants.{Memory, DiskFault}
use Rattle.command_journal.specs.declared.world.ColdWorld.{ColdWorld}
use Rattle.played_runs.specs.Edges.{Edge}
use Rattle.played_runs.specs.Ends.{fault_line}
use Rattle.played_runs.specs.Steps.{FindsNames}
use Rattle.played_runs.specs.Views.{HoldsNone, NamesFailed, names_told}
use Rattle.played_runs.specs.Writing.{Reaching, Written, joined_lines}
use Rattle.played_runs.specs.declared.ending.Status8.{Status8}
use Rattle.played_runs.specs.declared.ending.Status8.TheVariants as status
use Rattle.cold_runs.specs.Playing.{ColdFront, StandsCold}
use Rattle.cold_runs.specs.Stages.{BothGoneOn, BothStood, ColdScene, OneRisen}

-- both disks told their names, or the record disk alone
abbrev pub both_named : ColdSeen → ColdSeen
both_named seen = record { disk = names_told seen.disk; journal = names_told seen.journal }

abbrev pub record_named : ColdSeen → ColdSeen
record_named seen = record { disk = names_told seen.disk; journal = seen.journal }

-- The record disk held files at the start; or it held none, and the journal's did. The least name is told, and the world stays.
pub data RootsHold (scene : ColdScene) (text : List ℕ) : Type 0 where
  OfRecords :
      (name : List ℕ) → FindsNames scene.held.disk.files (Some name) → scene.left ≡ record_named scene.held
      → scene.world_after ≡ scene.world → text ≡ codes "root not empty: " ++ (name ++ codes "\n") → RootsHold scene text
  OfJournal :
      (name : List ℕ) → HoldsNone scene.held.disk.files → FindsNames scene.held.journal.files (Some name)
      → scene.left ≡ both_named scene.held → scene.world_after ≡ scene.world
      → text ≡ codes "root not empty: " ++ (name ++ codes "\n") → RootsHold scene text

-- the first line of a script begins a server and its journal, on two disks without files
pub record OpensCold (script : List Line) (held : ColdSeen) : Type 0 where
  pub opening : Line
  pub events : List Line
  pub parts : script ≡ opening ∷ events
  pub empty : HoldsNone held.disk.files
  pub empty_too : HoldsNone held.journal.files
  pub setup : Setup
  pub places : ℕ
  pub begins : Begins opening setup places

-- what a fault in the event of a line left: a line that shows files left all as it was; any other ended there, with these lines, and the
-- server is down
pub data ColdFaultLeft (setup : Setup) (state : State Alone) (next : Line) (held left : ColdSeen) (world : ColdWorld) (lines : List ℕ) : Type 0 where
  Showing :
      shows_files next ≡ true → Shows setup state world → ShowFails cold_kit cold_script held left → lines ≡ []
      → ColdFaultLeft setup state next held left world lines
  Ending :
      shows_files next ≡ false → (told : List (List ℕ)) → EndedBy state.peers.up setup state next (parts_of world) [] told held left
      → lines ≡ joined_lines told → ColdFaultLeft setup state next held left world lines

-- A disk failed: as its names were asked for; in the start; or in an event behind those that were done.
pub data ColdFails (script : List Line) (scene : ColdScene) (text : List ℕ) : Type 0 where
  AtNames :
      NamesFailed scene.held.disk scene.left.disk → scene.left.journal ≡ scene.held.journal → scene.world_after ≡ scene.world
      → text ≡ fault_line → ColdFails script scene text
  AtNamesToo :
      scene.left.disk ≡ names_told scene.held.disk → NamesFailed scene.held.journal scene.left.journal → scene.world_after ≡ scene.world
      → text ≡ fault_line → ColdFails script scene text
  AtOpening :
      (opens : OpensCold script scene.held)
      → LeavesStart {T = Unit {0}} opens.setup (both_named scene.held) scene.left (Err (DiskFault []))
      → scene.world_after ≡ scene.world → text ≡ fault_line → ColdFails script scene text
  AtEvent :
      (done : List Line) (next : Line) (rest : List Line) (text_before lines : List ℕ)
      (front : ColdFront scene.held script done (next ∷ rest) text_before)
      → ColdFaultLeft front.setup front.state next front.seen scene.left scene.world_after lines
      → text ≡ text_before ++ (lines ++ fault_line) → ColdFails script scene text

-- what is printed where there is no journal to start from, or the open gate at a place has no whole frame behind it
abbrev pub refused_line : Option ℕ → List ℕ
refused_line None = codes "no journal\n"
refused_line (Some place) = codes "journal " ++ (decimal place ++ codes "\n")

-- `restart a` found no journal to start from, and the server stays down: a journal's disk that tells its files has one
pub record ColdRefused (script : List Line) (scene : ColdScene) (text : List ℕ) : Type 0 where
  pub done : List Line
  pub rest : List Line
  pub before : List ℕ
  pub front : ColdFront scene.held script done (line.Restart A ∷ rest) before
  pub down : front.state.peers.up ≡ false
  pub silent : scene.held.journal.files ≡ None
  pub shows : Shows front.setup front.state scene.world_after
  pub disk : scene.left.disk.files ≡ front.seen.disk.files
  pub place : Option ℕ
  pub printed : text ≡ before ++ refused_line place

-- A script went on behind a `restart a` over a journal's disk that tells no files: what was found there is not known, and of what was printed
-- nothing more is said than what stood before it, and how it ends.
pub record GoesUntold (script : List Line) (held : ColdSeen) (last text : List ℕ) : Type 0 where
  pub done : List Line
  pub rest : List Line
  pub before : List ℕ
  pub front : ColdFront held script done (line.Restart A ∷ rest) before
  pub down : front.state.peers.up ≡ false
  pub silent : held.journal.files ≡ None
  pub behind : List ℕ
  pub printed : text ≡ before ++ (behind ++ last)

-- so it did, and world and disks can go on
pub record GoesOn (script : List Line) (scene : ColdScene) (text : List ℕ) : Type 0 where
  pub goes : GoesUntold script scene.held [] text
  pub stands : HasCold scene.world_after scene.left

-- these events were done, and world and disks stand where they led
pub record PlayedCold (scene : ColdScene) (script done rest : List Line) (text : List ℕ) : Type 0 where
  pub front : ColdFront scene.held script done rest text
  pub now : StandsCold front scene.left scene.world_after

-- how a script that was read ends on its stage, and its text; or how far it came
abbrev pub ColdEnds : List Line → ColdScene → Reaching
ColdEnds lines scene None text = ((done rest : List Line) × PlayedCold scene lines done rest text) ⊎ GoesOn lines scene text
ColdEnds lines scene (Some status.Done) text = ((done : List Line) × PlayedCold scene lines done [] text) ⊎ GoesOn lines scene text
ColdEnds lines scene (Some status.RootNotEmpty) text = RootsHold scene text
ColdEnds lines scene (Some status.DiskFault) text = ColdFails lines scene text ⊎ GoesUntold lines scene.held fault_line text
ColdEnds lines scene (Some status.JournalRefused) text =
    ColdRefused lines scene text ⊎ ((place : Option ℕ) × GoesUntold lines scene.held (refused_line place) text)
ColdEnds lines scene _ text = ⊥

-- Memory was wanting: before both disks had told that they hold no file, in the start, or in an event; what is written is the text of the
-- events that were done.
pub data ColdLacks (script : List Line) (scene : ColdScene) (text : List ℕ) : Type 0 where
  Unopened :
      text ≡ [] → (scene.left ≡ record_named scene.held) ⊎ (scene.left ≡ both_named scene.held) → scene.world_after ≡ scene.world
      → ColdLacks script scene text
  Opening :
      text ≡ [] → (opens : OpensCold script scene.held)
      → LeavesStart {T = Unit {0}} opens.setup (both_named scene.held) scene.left (Err Memory)
      → scene.world_after ≡ scene.world → ColdLacks script scene text
  InEvent :
      (done : List Line) (next : Line) (rest : List Line) (front : ColdFront scene.held script done (next ∷ rest) text)
      → LacksBy front.state.peers.up next front.setup front.state (parts_of scene.world_after) front.seen scene.left
      → ColdLacks script scene text
  Untold : GoesUntold script scene.held [] text → ColdLacks script scene text

-- which counts of faults rose: one of both disks' exactly where a disk failed
abbrev pub RisesCold : Option Status8 → ColdScene → Type 0
RisesCold (Some status.DiskFault) scene = OneRisen scene
RisesCold (Some status.RootNotEmpty) scene = BothStood scene
RisesCold reached scene = BothGoneOn scene

-- how a script that can be played ends, by what is written
abbrev pub PlaysCold : {K : Type 0} → List Line → ColdScene → Edge K (List ℕ) → Status8 → Type 0
PlaysCold lines scene sink ended =
    Written (λ reached text. ColdEnds lines scene reached text × RisesCold reached scene) (λ text. ColdLacks lines scene text × BothGoneOn scene)
    sink ended

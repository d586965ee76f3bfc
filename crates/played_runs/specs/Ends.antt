-- Words of public clauses: how the playing of a script ends.
use Rattle.std.specs.Prelude.{◌≡◌, ℕ, true, List, [], ◌∷◌, ◌++◌, codes, Option, Some, None, IfSome}
use Rattle.std.specs.FinMap as files
use Rattle.disk_model.specs.Counts.{Counters}
use Rattle.disk_model.specs.Disk.{Files}
use Rattle.disk_model.specs.Seen.{DiskSeen}
use Rattle.plain_service.specs.Setups.{Setup}
use Rattle.cluster_events.specs.Lines.{Told}
use Rattle.cluster_events.specs.Servers.{State}
use Rattle.cluster_rounds.specs.Seen.{IsRead}
use Rattle.played_runs.specs.declared.ending.Status8.{Status8}
use Rattle.played_runs.specs.declared.ending.Status8.TheVariants.{Done, DiskFault, RootNotEmpty}
use Rattle.played_runs.specs.Counts.{HasRisen}
use Rattle.played_runs.specs.Edges.{Stage, before, disk_held, disk_left, first_count}
use Rattle.played_runs.specs.Games.{Broken, Game, Lacks, Shows, shows_files}
use Rattle.played_runs.specs.Playing.{PlaysFront, StandsAt, seen_behind, text_of}
use Rattle.played_runs.specs.Views.{FailedDeeds, HoldsNone, LackedDeeds, NamesFailed, counters_of, files_told, names_told}

-- the disk held a file at the start: the least name is printed, the disk was asked for nothing else, and the world stays
pub record RootHolds {W K D : Type 0} (scene : Stage W K D) (text : List ℕ) : Type 0 where
  pub name : List ℕ
  pub least : IfSome (before scene.disk) (λ f. (others : List (List ℕ)) × (files.keys f ≡ name ∷ others))
  pub same : disk_left scene ≡ names_told (disk_held scene)
  pub world : scene.world_after ≡ scene.world
  pub printed : text ≡ codes "root not empty: " ++ (name ++ codes "\n")

unfoldable pub fault_line : List ℕ
fault_line = codes "disk fault\n"

-- the first line of a script begins a cluster, on a disk that holds no file
pub record Opens {P L S W : Type 0} (game : Game P L S W) (script : List L) (held : Option Files) : Type 0 where
  pub opening : L
  pub events : List L
  pub parts : script ≡ opening ∷ events
  pub empty : HoldsNone held
  pub setup : Setup
  pub places : ℕ
  pub begins : game.Begins opening setup places

-- what a fault in the event of a line left: a line that shows files left all as it was; any other, which is `work`, `settle` or a `crash`
-- of the active server, ended where no server was left that is active
pub data FaultLeft {P L S W : Type 0} (game : Game P L S W) (setup : Setup) (state : State P) (next : L) (held left : DiskSeen) (world : W)
    (lines : List ℕ) : Type 0 where
  Showing :
      shows_files (game.shared next) ≡ true → (Shows game) setup state world → IsRead held left → HasRisen (held.faults, left.faults) → lines ≡ []
      → FaultLeft game setup state next held left world lines
  Ending :
      (told : List Told) → game.Ended setup state next told held left world → lines ≡ text_of told
      → FaultLeft game setup state next held left world lines

-- there is a value of the disk that tells these files and counted so. That the run passed through it is not said: of a disk a contract
-- knows the values before a call and after it, and no steps between
pub record StoodUpTo {D : Type 0} (shows : D → DiskSeen) (held : Option Files) (counts : Counters) : Type 0 where
  pub mid : D
  pub told : (shows mid).files ≡ held
  pub count : counters_of (shows mid) ≡ counts

-- the disk failed: as its names were asked for, in the deeds of the start, or in an event behind those that were done, of which
-- some lines were printed; its counts go along with these from the first on, so that the one in the event came where no other
-- server was in service
pub data DiskFails {P L S W K D : Type 0} (game : Game P L S W) (script : List L) (scene : Stage W K D) (text : List ℕ) : Type 0 where
  AtNames :
      NamesFailed (disk_held scene) (disk_left scene) → scene.world_after ≡ scene.world → text ≡ fault_line → DiskFails game script scene text
  AtOpening :
      (opens : Opens game script (before scene.disk)) → FailedDeeds opens.setup (names_told (disk_held scene)) (disk_left scene)
      → scene.world_after ≡ scene.world → text ≡ fault_line → DiskFails game script scene text
  AtEvent :
      (done : List L) (next : L) (rest : List L) (text_before : List ℕ)
      (front : (PlaysFront game) (before scene.disk) (first_count scene) script done (next ∷ rest) text_before)
      (lines : List ℕ)
      → FaultLeft game front.setup front.goes.state next ((seen_behind game) front.goes) (disk_left scene) scene.world_after lines
      → StoodUpTo scene.shows (files_told front.goes.files (before scene.disk)) front.goes.counts → text ≡ text_before ++ (lines ++ fault_line)
      → DiskFails game script scene text

-- these events of a script were done, and world and disk stand where they led
pub record PlayedTo {P L S W K D : Type 0} (game : Game P L S W) (scene : Stage W K D) (script done rest : List L) (text : List ℕ) : Type 0 where
  pub front : (PlaysFront game) (before scene.disk) (first_count scene) script done rest text
  pub now : (StandsAt game) front.setup front.goes.state front.goes.files front.goes.counts (before scene.disk) (disk_left scene) scene.world_after

-- how a script that was read ends on its stage, and its text; or how far it came
abbrev pub PlayEnds : {P L S W K D : Type 0} → Game P L S W → List L → Stage W K D → Option Status8 → List ℕ → Type 0
PlayEnds {L = L} game lines scene None text = (done rest : List L) × PlayedTo game scene lines done rest text
PlayEnds {L = L} game lines scene (Some Done) text = (done : List L) × PlayedTo game scene lines done [] text
PlayEnds game lines scene (Some RootNotEmpty) text = RootHolds scene text
PlayEnds game lines scene (Some DiskFault) text = DiskFails game lines scene text
PlayEnds game lines scene _ text = ⊥

-- memory was wanting: before the disk had told that it holds no file, in the deeds of the start, or in an event; what is written
-- is the text of the events that were done
pub data PlayLacks {P L S W K D : Type 0} (game : Game P L S W) (script : List L) (scene : Stage W K D) (text : List ℕ) : Type 0 where
  Unopened :
      text ≡ [] → disk_left scene ≡ names_told (disk_held scene) → scene.world_after ≡ scene.world → PlayLacks game script scene text
  Opening :
      text ≡ [] → (opens : Opens game script (before scene.disk)) → LackedDeeds opens.setup (names_told (disk_held scene)) (disk_left scene)
      → scene.world_after ≡ scene.world → PlayLacks game script scene text
  InEvent :
      (done : List L) (next : L) (rest : List L)
      (front : (PlaysFront game) (before scene.disk) (first_count scene) script done (next ∷ rest) text)
      → (Broken game) front.setup front.goes.state ((seen_behind game) front.goes) (disk_left scene) scene.world_after
      → (Lacks game) front.setup front.goes.state next ((seen_behind game) front.goes) (disk_left scene) scene.world_after
      → PlayLacks game script scene text

-- Words of public clauses: the one line that the command `load` prints, by where the lines of its script led and the files of the disk; and
-- where the disk failed in it. They are over any world that plays the lines.
use Rattle.std.specs.Prelude.{◌≡◌, ℕ, Bool, false, List, [], length, sum_by, Option, IfSome}
use Rattle.std.specs.FinMap as map
use Rattle.disk_model.specs.Disk.{Files}
use Rattle.disk_model.specs.Seen.{DiskSeen}
use Rattle.script_lines.specs.declared.line.Line.{Line}
use Rattle.cluster_events.specs.Servers.{State}
use Rattle.cluster_clients.specs.Files.{sizes_of}
use Rattle.cluster_clients.specs.Looks.{ListCalls, Looks}
use Rattle.played_runs.specs.Counts.{HasRisen}
use Rattle.played_runs.specs.Edges.{Stage, before, disk_left, first_count}
use Rattle.played_runs.specs.Ends.{DiskFails, fault_line}
use Rattle.played_runs.specs.Games.{Game, Shows}
use Rattle.played_runs.specs.Playing.{PlaysFront, seen_behind}

-- the files of a disk with their lengths, as the line `files` shows them, and the sum of lengths
abbrev pub all_files : Files → List (List ℕ × ℕ)
all_files held = sizes_of held (map.keys held)

abbrev pub bytes_in : List (List ℕ × ℕ) → ℕ
bytes_in listed = sum_by (λ (file : List ℕ × ℕ). file.1) listed

-- how a state is told of, with so many files and the sum of their lengths
abbrev pub LineOf : {P S W : Type 0} → Game P Line S W → Type 0
LineOf {P = P} game = State P → (files bytes : ℕ) → List ℕ

-- the line tells of a state and of the files of a disk; of any files where it does not tell them
pub record TellsLoad {P S W : Type 0} (game : Game P Line S W) (line_of : LineOf game) (state : State P) (held : Option Files) (text : List ℕ) : Type 0 where
  pub files : ℕ
  pub bytes : ℕ
  pub counted : IfSome held (λ told. (files ≡ length (all_files told)) × (bytes ≡ bytes_in (all_files told)))
  pub printed : text ≡ line_of state files bytes

-- the files of a disk were counted, for which it was asked for its names and for the length of each file; or some of these calls were made,
-- where it was not done. No others were made
pub record FilesCounted (done : Bool) (held left : DiskSeen) : Type 0 where
  pub files : left.files ≡ held.files
  pub looks : Looks (ListCalls held.files) done held.tally left.tally
  pub stops : left.stops ≡ held.stops

-- all lines of a large run were done, and world and disk stand where they led, but that the files of the disk were counted since
pub record CountedBehind {P S W K D : Type 0} (game : Game P Line S W) (done : Bool) (scene : Stage W K D) (script events : List Line) (unwritten : List ℕ)
    : Type 0 where
  pub front : (PlaysFront game) (before scene.disk) (first_count scene) script events [] unwritten
  pub shows : (Shows game) front.setup front.goes.state scene.world_after
  pub counted : FilesCounted done ((seen_behind game) front.goes) (disk_left scene)

-- how often the disk had failed behind these lines, and behind the counting
abbrev pub counting_faults :
    {P S W K D : Type 0} {game : Game P Line S W} {done : Bool} {scene : Stage W K D} {script events : List Line} {unwritten : List ℕ}
    → CountedBehind game done scene script events unwritten → ℕ × ℕ
counting_faults {scene = scene} behind = (behind.front.goes.counts.faults, (disk_left scene).faults)

-- the disk failed in a large run, of whose lines nothing is written: as they were played; or behind them, as the files were counted
pub data LoadFails {P S W K D : Type 0} (game : Game P Line S W) (script : List Line) (scene : Stage W K D) (text : List ℕ) : Type 0 where
  InPlay : (unwritten : List ℕ) → DiskFails game script scene unwritten → text ≡ fault_line → LoadFails game script scene text
  AtCount :
      (done : List Line) (unwritten : List ℕ) (behind : CountedBehind game false scene script done unwritten)
      → HasRisen (counting_faults behind) → text ≡ fault_line → LoadFails game script scene text

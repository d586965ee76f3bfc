-- Words of public clauses: large runs on the world of two servers.
use Rattle.std.specs.Prelude.{ℕ, Bool, List, Option}
use Rattle.disk_model.specs.Disk.{Files}
use Rattle.script_lines.specs.declared.line.Line.{Line}
use Rattle.cluster_events.specs.Servers.{State}
use Rattle.group_cluster.specs.Seats.{Peers}
use Rattle.played_runs.specs.declared.ending.Status8.{Status8}
use Rattle.played_runs.specs.Writing.{Reaching}
use Rattle.cluster_core.specs.Game.{world_game}
use Rattle.cluster_core.specs.Runs.{Stage}
use Rattle.load_runs.specs.Loading as loading
use Rattle.load_runs.specs.LoadSteps as steps
use Rattle.world_runs.specs.Figures.{state_line}

abbrev pub TellsLoad : State Peers → (held : Option Files) → (text : List ℕ) → Type 0
TellsLoad state held text = loading.TellsLoad world_game state_line state held text

abbrev pub CountedBehind : {K D : Type 0} (done : Bool) (scene : Stage K D) (script events : List Line) (unwritten : List ℕ) → Type 0
CountedBehind done scene script events unwritten = loading.CountedBehind world_game done scene script events unwritten

abbrev pub LoadFails : {K D : Type 0} (script : List Line) (scene : Stage K D) (text : List ℕ) → Type 0
LoadFails script scene text = loading.LoadFails world_game script scene text

abbrev pub LoadEnds : {K D : Type 0} → List Line → Stage K D → Reaching
LoadEnds lines scene reached text = (steps.LoadEnds world_game state_line) lines scene reached text

abbrev pub LoadWants : {K D : Type 0} → List Line → Stage K D → List ℕ → Type 0
LoadWants lines scene text = (steps.LoadWants world_game) lines scene text

abbrev pub LoadedOn : {K D : Type 0} → List Line → Stage K D → Status8 → Type 0
LoadedOn lines scene status = (steps.LoadedOn world_game state_line) lines scene status

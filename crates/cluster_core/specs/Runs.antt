-- Words of public clauses: how lines are played, of the world of two servers.
use Rattle.std.specs.Prelude.{ℕ, List, Option}
use Rattle.disk_model.specs.Disk.{Files}
use Rattle.disk_model.specs.Seen.{DiskSeen}
use Rattle.script_lines.specs.declared.line.Line.{Line}
use Rattle.plain_service.specs.Setups.{Setup}
use Rattle.group_cluster.specs.Seats.{Peers}
use Rattle.cluster_core.specs.declared.world.World.{World}
use Rattle.cluster_core.specs.Game.{world_game}
use Rattle.played_runs.specs.AfterFault as faults
use Rattle.played_runs.specs.Edges as edges
use Rattle.played_runs.specs.Ends as ends
use Rattle.played_runs.specs.Promises as promises
use Rattle.played_runs.specs.Promises.{LineSentence, Sentence}
use Rattle.played_runs.specs.Refusing as refusing
use Rattle.played_runs.specs.Telling as telling
use Rattle.played_runs.specs.Writing.{Reaching}

abbrev pub Throughout : (held : Option Files) (Q : Setup → Sentence Line) → Type 0
Throughout held Q = (promises.Throughout world_game) held Q

abbrev pub OfAllLinesOf : (held : Option Files) (Q : Setup → LineSentence Line Peers) → Type 0
OfAllLinesOf held Q = (promises.OfAllLinesOf world_game) held Q

abbrev pub OfAllLines : (held : Option Files) (Q : LineSentence Line Peers) → Type 0
OfAllLines held Q = (promises.OfAllLines world_game) held Q

abbrev pub SettlesAll : Setup → Sentence Line
SettlesAll setup lines world told files = promises.SettlesAll world_game.shared setup lines world told files

abbrev pub DeclinesRightly : LineSentence Line Peers
DeclinesRightly before next told state outcome after = refusing.DeclinesRightly world_game.shared before next told state outcome after

abbrev pub KeepsAtFault : (held : Option Files) (left : DiskSeen) (world : World) → Type 0
KeepsAtFault held left world = (faults.KeepsAtFault world_game) held left world

abbrev pub TellsAtWant : (held : Option Files) (left : DiskSeen) (world : World) → Type 0
TellsAtWant held left world = (telling.TellsAtWant world_game) held left world

abbrev pub Stage : Type 0 → Type 0 → Type 0
Stage K D = edges.Stage World K D

abbrev pub PlayEnds : {K D : Type 0} → List Line → Stage K D → Reaching
PlayEnds lines scene reached text = ends.PlayEnds world_game lines scene reached text

abbrev pub PlayLacks : {K D : Type 0} → List Line → Stage K D → List ℕ → Type 0
PlayLacks lines scene text = ends.PlayLacks world_game lines scene text

abbrev pub PlayedTo : {K D : Type 0} → Stage K D → (script done rest : List Line) (text : List ℕ) → Type 0
PlayedTo scene script done rest text = ends.PlayedTo world_game scene script done rest text

abbrev pub DiskFails : {K D : Type 0} → List Line → Stage K D → List ℕ → Type 0
DiskFails lines scene text = ends.DiskFails world_game lines scene text

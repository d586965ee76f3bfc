-- Words of public clauses: a script that is read and played on the world of two servers.
use Rattle.std.specs.Prelude.{ℕ, List}
use Rattle.played_runs.specs.Edges.{Edge}
use Rattle.played_runs.specs.Writing.{Reaching}
use Rattle.cluster_core.specs.Game.{world_game}
use Rattle.cluster_core.specs.Runs.{Stage}
use Rattle.script_runs.specs.Scripting as scripting

abbrev pub InputEnds : {S K D : Type 0} → Edge S (List ℕ) → Stage K D → Reaching
InputEnds source scene reached text = (scripting.InputEnds world_game) source scene reached text

abbrev pub InputLacks : {S K D : Type 0} → Edge S (List ℕ) → Stage K D → List ℕ → Type 0
InputLacks source scene text = (scripting.InputLacks world_game) source scene text

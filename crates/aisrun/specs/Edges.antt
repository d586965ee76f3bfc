-- Words of public clauses: what a whole run was given, and what it leaves of it.
use Rattle.std.specs.Prelude.{ℕ, List}
use Rattle.disk_model.specs.Seen.{DiskSeen}
use Rattle.cluster_core.specs.declared.world.World.{World}
use Rattle.played_runs.specs.Edges.{Edge, stage}
use Rattle.cluster_core.specs.Runs.{Stage}

-- a whole run: its words, its source and its stage
pub record Around (S K D : Type 0) : Type 0 where
  pub words : List (List ℕ)
  pub source : Edge S (List ℕ)
  pub stage : Stage K D

abbrev pub around :
    {S K D : Type 0} → List (List ℕ) → Edge S (List ℕ) → Edge K (List ℕ) → (D → DiskSeen) → D → D → World → World → Around S K D
around words source sink shows old new world world_after =
    record { words = words; source = source; stage = stage sink shows old new world world_after }

-- Words of public clauses: where a script is played on one server and its journal.
use Rattle.std.specs.Prelude.{◌≡◌, ℕ, List}
use Rattle.disk_model.specs.Seen.{DiskSeen}
use Rattle.cold_servers.specs.ColdSeen.{ColdSeen, Outlives, Rises}
use Rattle.command_journal.specs.declared.world.ColdWorld.{ColdWorld}
use Rattle.command_journal.specs.Worlds.{both}
use Rattle.played_runs.specs.Counts.{HasStood}
use Rattle.played_runs.specs.Edges.{Edge}

-- what is seen of the record disk and the journal's, and the world of server and clients, before and after
pub record ColdScene : Type 0 where
  pub held : ColdSeen
  pub left : ColdSeen
  pub world : ColdWorld
  pub world_after : ColdWorld

abbrev pub cold_scene : ColdSeen → ColdSeen → ColdWorld → ColdWorld → ColdScene
cold_scene held left world world_after = record { held = held; left = left; world = world; world_after = world_after }

-- the same with the sink
pub record ColdStage (K : Type 0) : Type 0 where
  pub sink : Edge K (List ℕ)
  pub scene : ColdScene

abbrev pub cold_stage :
    {K D J : Type 0} → Edge K (List ℕ) → (D → DiskSeen) → D → D → (J → DiskSeen) → J → J → ColdWorld → ColdWorld → ColdStage K
cold_stage sink shows old new shows_journal journal journal_after world world_after = record {
  sink = sink;
  scene = cold_scene (both (shows old) (shows_journal journal)) (both (shows new) (shows_journal journal_after)) world world_after;
}

-- what is seen of both disks before and after
abbrev pub both_held : {K : Type 0} → ColdStage K → ColdSeen
both_held stage = stage.scene.held

abbrev pub both_left : {K : Type 0} → ColdStage K → ColdSeen
both_left stage = stage.scene.left

-- what is seen of the disks is as it was, and so is the world
pub record LeavesBoth {K : Type 0} (stage : ColdStage K) : Type 0 where
  pub disk : (both_left stage).disk ≡ (both_held stage).disk
  pub journal : (both_left stage).journal ≡ (both_held stage).journal
  pub world : stage.scene.world_after ≡ stage.scene.world

-- The counts of faults of both disks: how often each failed, before and after; neither count moved; neither fell; or one of them rose and
-- the other one did not fall.

abbrev pub record_faults : ColdScene → ℕ × ℕ
record_faults scene = (scene.held.disk.faults, scene.left.disk.faults)

abbrev pub journal_faults : ColdScene → ℕ × ℕ
journal_faults scene = (scene.held.journal.faults, scene.left.journal.faults)

abbrev pub BothStood : ColdScene → Type 0
BothStood scene = HasStood (record_faults scene) × HasStood (journal_faults scene)

abbrev pub BothGoneOn : ColdScene → Type 0
BothGoneOn scene = Outlives scene.held scene.left

abbrev pub OneRisen : ColdScene → Type 0
OneRisen scene = Rises scene.held scene.left

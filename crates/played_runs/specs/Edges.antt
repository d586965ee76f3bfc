-- Words of public clauses: what a run was given of each thing outside, and what it leaves of it.
use Rattle.std.specs.Prelude.{◌≡◌, ℕ, List, Option}
use Rattle.disk_model.specs.Counts.{Counters}
use Rattle.disk_model.specs.Disk.{Files}
use Rattle.disk_model.specs.Seen.{DiskSeen}
use Rattle.played_runs.specs.Views.{counters_of}

-- a source, a sink or a disk before and after: what it tells of its content, and how often it has failed
pub record Edge (S T : Type 0) : Type 0 where
  pub told : S → Option T
  pub faults : S → ℕ
  pub old : S
  pub new : S

abbrev pub edge : {S T : Type 0} → (S → Option T) → (S → ℕ) → S → S → Edge S T
edge told faults old new = record { told = told; faults = faults; old = old; new = new }

-- the edge of a disk, by what is seen of it
abbrev pub disk_edge : {D : Type 0} → (D → DiskSeen) → D → D → Edge D Files
disk_edge shows old new = edge (λ disk. (shows disk).files) (λ disk. (shows disk).faults) old new

-- what it told before, and what it tells after
abbrev pub before : {S T : Type 0} → Edge S T → Option T
before one = one.told one.old

abbrev pub after : {S T : Type 0} → Edge S T → Option T
after one = one.told one.new

-- its count of faults, before and after
abbrev pub fault_count : {S T : Type 0} → Edge S T → ℕ × ℕ
fault_count one = (one.faults one.old, one.faults one.new)

-- it was not asked for anything
abbrev pub IsUntouched : {S T : Type 0} → Edge S T → Type 0
IsUntouched one = one.new ≡ one.old

-- where a script is played: the sink, the disk, and what is seen of it, and the world of servers and clients before and after
pub record Stage (W K D : Type 0) : Type 0 where
  pub sink : Edge K (List ℕ)
  pub disk : Edge D Files
  pub shows : D → DiskSeen
  pub world : W
  pub world_after : W

abbrev pub stage : {W K D : Type 0} → Edge K (List ℕ) → (D → DiskSeen) → D → D → W → W → Stage W K D
stage sink shows old new world world_after =
    record { sink = sink; disk = disk_edge shows old new; shows = shows; world = world; world_after = world_after }

-- what is seen of the disk before and after
abbrev pub disk_held : {W K D : Type 0} → Stage W K D → DiskSeen
disk_held scene = scene.shows scene.disk.old

abbrev pub disk_left : {W K D : Type 0} → Stage W K D → DiskSeen
disk_left scene = scene.shows scene.disk.new

-- what the disk counted before
abbrev pub first_count : {W K D : Type 0} → Stage W K D → Counters
first_count scene = counters_of (disk_held scene)

-- disk and world are as they were
pub record LeavesAll {W K D : Type 0} (scene : Stage W K D) : Type 0 where
  pub disk : IsUntouched scene.disk
  pub world : scene.world_after ≡ scene.world

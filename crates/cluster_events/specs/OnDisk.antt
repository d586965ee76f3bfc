-- Words of public clauses: runs with the files that they leave: the opening's deeds are performed, and then those of each entry
-- whose work is done.
use Rattle.std.specs.Prelude.{◌≡◌, List, [], ◌∷◌, ◌++◌}
use Rattle.cluster_facts.specs.Types.{Entry}
use Rattle.cluster_facts.specs.Storage.{Disk, Storage, all_applied}
use Rattle.cluster_events.specs.Lines.{Told}
use Rattle.cluster_events.specs.Outcomes.{Outcome}
use Rattle.cluster_events.specs.Servers.{State}
use Rattle.cluster_events.specs.Runs.{StepBy, RunBy}

-- the deeds of these further entries are performed, one entry after another
abbrev pub performed : (disk : Disk) → Storage disk → List Entry → List Entry → disk.Files → disk.Files
performed disk storage [] past files = files
performed disk storage (entry ∷ more) past files =
    all_applied disk (storage.deeds (more ++ past) entry) (performed disk storage more past files)

-- a line with the files before and after it: the deeds of each entry that is answered in it are performed, once
pub record StepOnDisk {M L P : Type 0} (Step : StepBy M L P) (disk : Disk) (storage : Storage disk)
    (before : disk.Files × M) (next : L) (state : State P) (outcome : Outcome (State P)) (after : disk.Files × M) : Type 0 where
  pub step : Step before.1 next state outcome after.1
  pub more : List Entry
  pub grown : outcome.state.world.core.answered ≡ more ++ state.world.core.answered
  pub files : after.0 ≡ performed disk storage more state.world.core.answered before.0

-- runs with the files that they leave, behind the opening's deeds
abbrev pub RunOnBy :
    {M L P : Type 0} (Step : StepBy M L P) (disk : Disk) (storage : Storage disk) → State P → M → List L → State P → List Told → disk.Files × M → Type 0
RunOnBy Step disk storage start first lines state told mark =
    RunBy (StepOnDisk Step disk storage) start (all_applied disk storage.opening disk.no_files, first) lines state told mark

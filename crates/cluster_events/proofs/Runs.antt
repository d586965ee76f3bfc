-- Runs of lines that keep the facts, over any relation of lines and states.
use Rattle.std.proofs.Common.{◌≡◌, ℕ, ℤ, List, [], ap, sym, ◌∙◌, subst}
use Rattle.cluster_facts.specs.Types.{Entry}
use Rattle.cluster_facts.specs.Service.{Plain}
use Rattle.cluster_facts.specs.Storage.{Disk, Storage, all_applied}
use Rattle.cluster_facts.specs.History.{IsLegal}
use Rattle.cluster_facts.specs.Ranges.{AreInRange}
use Rattle.cluster_facts.specs.World.{World, empty_world}
use Rattle.cluster_events.specs.Lines.{Told}
use Rattle.cluster_events.specs.Servers.{State}
use Rattle.cluster_events.specs.Saying.{Says}
use Rattle.cluster_events.specs.Serving.{IsSteady}
use Rattle.cluster_events.specs.Outcomes.{Outcome}
use Rattle.cluster_events.specs.Runs.{StepBy, RunBy, SentenceOf, AtEachEnd}
use Rattle.cluster_events.specs.Runs.RunBy.{Started, Went}
use Rattle.cluster_events.specs.Promises.{AtEnd}
use Rattle.cluster_events.specs.Filing.{IsStorage, FilesStand, RecordsStay}
use Rattle.cluster_events.specs.OnDisk.{performed, StepOnDisk, RunOnBy}
use Rattle.cluster_events.proofs.Telling.{Says-same, Says-both}
use Rattle.cluster_events.proofs.Promised.{at-end}
use Rattle.cluster_events.proofs.Filed.{answered-legal, records-stay}
use Rattle.cluster_events.proofs.OnDisk.{performed-files, range-before}

-- every line keeps the facts, and its lines say what it must
pub record IsKept {M L P : Type 0} (plain : Plain) (Good : State P → Type 0) (Step : StepBy M L P) : Type 0 where
  pub kept : (before : M) (next : L) (state : State P) (outcome : Outcome (State P)) (after : M) → IsSteady plain Good state → Step before next state outcome after → IsSteady plain Good outcome.state × Says plain state.world outcome.state.world outcome.told

module _ {M L P : Type 0} (plain : Plain) (Good : State P → Type 0) (Step : StepBy M L P) (lines_kept : IsKept plain Good Step) (start : State P) (first : M) (steady : IsSteady plain Good start) where
  -- a run leads from a steady state to one, and its lines say what lies between
  pub any-says : {lines : List L} {state : State P} {told : List Told} {mark : M} → RunBy Step start first lines state told mark → IsSteady plain Good state × Says plain start.world state.world told
  any-says Started = (steady, Says-same plain start.world)
  any-says (Went {state = state} {told = told} {before = before} next outcome after run step) =
      let said = any-says run in
      let kept = lines_kept.kept before next state outcome after said.0 step in
      (kept.0, Says-both plain start.world state.world outcome.state.world told outcome.told said.1 kept.1)

  -- at the end of each line of a run from the start all promises hold
  pub any-keeps : (now : ℤ) (places : ℕ) → start.world ≡ empty_world now places → {lines : List L} {state : State P} {told : List Told} {mark : M} → RunBy Step start first lines state told mark → AtEnd plain state.world told
  any-keeps now places begins {state = state} {told = told} run =
      let after = any-says run in
      let S : World → Type 0 = λ world. Says plain world state.world told in
      at-end plain state.world told now places after.0.sound (subst S begins after.1)

module _ {M L P : Type 0} (Step : StepBy M L P) (start : State P) (first : M) where
  -- what holds of all runs whose end passes holds at each end of one, where the ends before it pass too
  pub each-end : (S : SentenceOf M L P) (Passes : State P → Type 0) → ((before : M) (next : L) (state : State P) (outcome : Outcome (State P)) (after : M) → Step before next state outcome after → Passes outcome.state → Passes state) → ((lines : List L) (state : State P) (told : List Told) (mark : M) → RunBy Step start first lines state told mark → Passes state → S lines state told mark) → {lines : List L} {state : State P} {told : List Told} {mark : M} → (run : RunBy Step start first lines state told mark) → Passes state → AtEachEnd S run
  each-end S Passes back always Started passes = always _ _ _ _ Started passes
  each-end S Passes back always (Went {state = state} {before = before} next outcome after run step) passes =
      (always _ _ _ _ (Went next outcome after run step) passes, each-end S Passes back always run (back before next state outcome after step passes))

-- Runs with the files that they leave.
module _ {M L P : Type 0} (plain : Plain) (Good : State P → Type 0) (Step : StepBy M L P) (lines_kept : IsKept plain Good Step) (disk : Disk) (storage : Storage disk) where
  pub disk-kept : IsKept plain Good (StepOnDisk Step disk storage)
  disk-kept = record { kept = λ before next state outcome after steady step. lines_kept.kept before.1 next state outcome after.1 steady step.step }

  module _ (is_storage : IsStorage plain disk storage) (start : State P) (first : M) (begins : start.world.core.answered ≡ []) (steady : IsSteady plain Good start) where
    -- the files are those of the history
    pub any-stand : {lines : List L} {state : State P} {told : List Told} {mark : disk.Files × M} → RunOnBy Step disk storage start first lines state told mark → AreInRange state.world.core.answered → FilesStand disk storage state.world mark.0
    any-stand Started range = is_storage.opens ∙ ap (λ past. storage.files past) (sym begins)
    any-stand (Went {state = state} {before = before} next outcome after run step) range =
        let past = state.world.core.answered in
        let new = outcome.state.world in
        let R : List Entry → Type 0 = λ entries. AreInRange entries in
        let whole = subst R step.grown range in
        let stand = any-stand run (range-before step.more past whole) in
        let kept = (disk-kept.kept before next state outcome after (any-says plain Good (StepOnDisk Step disk storage) disk-kept start (all_applied disk storage.opening disk.no_files, first) steady run).0 step).0 in
        let legal = answered-legal plain new.now new.core.answered new.core.hand kept.sound.facts.legal in
        let L : List Entry → Type 0 = λ entries. IsLegal plain new.now entries in
        step.files
        ∙ ap (λ (f : disk.Files). performed disk storage step.more past f) stand
        ∙ performed-files plain disk storage is_storage new.now step.more past (subst L step.grown legal) whole
        ∙ ap (λ entries. storage.files entries) (sym step.grown)

    -- each record whose reply says that it is stored stands at its place
    pub any-stays : {lines : List L} {state : State P} {told : List Told} {mark : disk.Files × M} → RunOnBy Step disk storage start first lines state told mark → AreInRange state.world.core.answered → RecordsStay plain disk storage state.world mark.0
    any-stays {state = state} {mark = mark} run range =
        let steady_now = (any-says plain Good (StepOnDisk Step disk storage) disk-kept start (all_applied disk storage.opening disk.no_files, first) steady run).0 in
        records-stay plain disk storage is_storage state.world mark.0 steady_now.sound range (any-stand run range)

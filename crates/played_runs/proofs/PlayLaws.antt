-- What lines that are played lead to: facts, promises and files.
use Rattle.std.proofs.Common.{◌≡◌, ℕ, List, [], Option, ap, subst}
use Rattle.disk_model.specs.Counts.{Counters}
use Rattle.disk_model.specs.Disk.{Files, no_files}
use Rattle.plain_service.specs.Setups.{Setup, CanBegin}
use Rattle.cluster_facts.specs.Types.{Entry}
use Rattle.cluster_facts.specs.Storage.{all_applied}
use Rattle.cluster_facts.specs.History.{Hand, Empty, Waiting, Applied, Ready, accepted_by}
use Rattle.cluster_facts.specs.Ranges.{AreInRange}
use Rattle.cluster_facts.specs.World.{World, empty_world}
use Rattle.cluster_events.specs.Lines.{Told}
use Rattle.cluster_events.specs.Outcomes.{Outcome}
use Rattle.cluster_events.specs.Servers.{State}
use Rattle.cluster_events.specs.Runs.RunBy.{Started, Went}
use Rattle.cluster_events.specs.Saying.{Says}
use Rattle.cluster_events.specs.Serving.{IsSteady}
use Rattle.cluster_events.specs.Promises.{AtEnd}
use Rattle.cluster_events.specs.Filing.{RecordsStay}
use Rattle.cluster_events.specs.OnDisk.{StepOnDisk}
use Rattle.cluster_events.proofs.Runs.{any-says, any-keeps, disk-kept, any-stand, any-stays, IsKept}
use Rattle.service_laws.specs.Disks.{service_disk}
use Rattle.service_laws.specs.PlainOf.{plain_of}
use Rattle.service_laws.specs.StorageOf.{storage_of}
use Rattle.service_laws.proofs.StorageLaws.{is_storage}
use Rattle.played_runs.specs.Games.{Game}
use Rattle.played_runs.specs.Laws.{IsGame}
use Rattle.played_runs.specs.Playing.{Ran}
use Rattle.played_runs.specs.Promises.{LineSentence, OfEachLine, OfAllLinesOf}
use Rattle.played_runs.specs.Views.{behind_opening}

-- the files at the start
abbrev pub opening_files : Setup → Files
opening_files setup = all_applied service_disk (storage_of setup).opening no_files

-- entries behind an entry in hand are in range with it
pub answered-range : (past : List Entry) (hand : Hand) → AreInRange (accepted_by past hand) → AreInRange past
answered-range past Empty range = range
answered-range past (Waiting entry) range = range.1
answered-range past (Applied entry) range = range.1
answered-range past (Ready entry) range = range.1

module _ {P L S W : Type 0} (game : Game P L S W) (is_game : IsGame game) where
  -- each line that is played keeps the facts, and says what it must
  played-kept : (setup : Setup) (held : Option Files) → IsKept (plain_of setup) game.kit.Good (game.Step setup held)
  played-kept setup held = record { kept = λ before next state outcome after steady done. (is_game.done setup held before next state outcome after steady done).keeps }

  ran-kept : (setup : Setup) (held : Option Files) → IsKept (plain_of setup) game.kit.Good (StepOnDisk (game.Step setup held) service_disk (storage_of setup))
  ran-kept setup held = disk-kept (plain_of setup) game.kit.Good (game.Step setup held) (played-kept setup held) service_disk (storage_of setup)

  module _ (setup : Setup) (places : ℕ) (held : Option Files) (first : Counters) where
    -- lines lead from the start to a state of which the facts hold, and say what lies between
    pub played-says : {lines : List L} {state : State P} {told : List Told} {left : Files × Counters} → (Ran game) setup places held first lines state told left → IsSteady (plain_of setup) game.kit.Good state × Says (plain_of setup) (empty_world setup.start places) state.world told
    played-says {state = state} {told = told} run =
        let said = any-says (plain_of setup) game.kit.Good (StepOnDisk (game.Step setup held) service_disk (storage_of setup)) (ran-kept setup held) (game.start setup places) (opening_files setup, first) (is_game.steady setup places) run in
        (said.0, subst (λ (world : World). Says (plain_of setup) world state.world told) (is_game.empty setup places) said.1)

    pub played-keeps : {lines : List L} {state : State P} {told : List Told} {left : Files × Counters} → (Ran game) setup places held first lines state told left → AtEnd (plain_of setup) state.world told
    played-keeps run =
        any-keeps (plain_of setup) game.kit.Good (StepOnDisk (game.Step setup held) service_disk (storage_of setup)) (ran-kept setup held) (game.start setup places) (opening_files setup, first) (is_game.steady setup places) setup.start places (is_game.empty setup places) run

    -- what holds of each line holds of all lines that are played
    each-ran : (Q : LineSentence L P) → ((lines : List L) (state : State P) (told : List Told) (before : Files × Counters) (next : L) (outcome : Outcome (State P)) (after : Counters) → (Ran game) setup places held first lines state told before → game.Step setup held before.1 next state outcome after → Q before.1 next told state outcome after) → {lines : List L} {state : State P} {told : List Told} {left : Files × Counters} → (run : (Ran game) setup places held first lines state told left) → OfEachLine Q run
    each-ran Q so Started = tt
    each-ran Q so (Went {lines = lines} {state = state} {told = told} {before = before} next outcome after run step) =
        (so lines state told before next outcome after.1 run step.step, each-ran Q so run)

  pub each-played : (held : Option Files) (Q : Setup → LineSentence L P) → ((setup : Setup) (places : ℕ) (first : Counters) (lines : List L) (state : State P) (told : List Told) (before : Files × Counters) (next : L) (outcome : Outcome (State P)) (after : Counters) → (Ran game) setup places held first lines state told before → game.Step setup held before.1 next state outcome after → Q setup before.1 next told state outcome after) → (OfAllLinesOf game) held Q
  each-played held Q so first script done rest text front =
      let start = behind_opening front.setup first in
      each-ran front.setup front.places held start (Q front.setup) (so front.setup front.places start) front.goes.run

  -- Files.

  module _ (setup : Setup) (places : ℕ) (held : Option Files) (first : Counters) (can : CanBegin setup) where
    begun-empty : (game.start setup places).world.core.answered ≡ []
    begun-empty = ap (λ (world : World). world.core.answered) (is_game.empty setup places)

    -- the files are those of the history without the entry in hand
    pub played-files : {lines : List L} {state : State P} {told : List Told} {left : Files × Counters} → (Ran game) setup places held first lines state told left → AreInRange state.world.core.answered → left.0 ≡ (storage_of setup).files state.world.core.answered
    played-files run range =
        any-stand (plain_of setup) game.kit.Good (game.Step setup held) (played-kept setup held) service_disk (storage_of setup) (is_storage setup can) (game.start setup places) first begun-empty (is_game.steady setup places) run range

    -- what was answered as stored stands at its place
    pub played-stays : {lines : List L} {state : State P} {told : List Told} {left : Files × Counters} → (Ran game) setup places held first lines state told left → AreInRange state.world.core.answered → RecordsStay (plain_of setup) service_disk (storage_of setup) state.world left.0
    played-stays run range =
        any-stays (plain_of setup) game.kit.Good (game.Step setup held) (played-kept setup held) service_disk (storage_of setup) (is_storage setup can) (game.start setup places) first begun-empty (is_game.steady setup places) run range

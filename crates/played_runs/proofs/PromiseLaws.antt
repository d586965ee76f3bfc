-- What is promised at the end of each line holds throughout.
use Rattle.std.proofs.Common.{◌≡◌, ℕ, List, Option, Some, refl, subst}
use Rattle.disk_model.specs.Counts.{Counters}
use Rattle.disk_model.specs.Disk.{Files}
use Rattle.script_lines.specs.declared.line.Line.{Line}
use Rattle.script_lines.specs.declared.line.Line.TheVariants as line
use Rattle.plain_service.specs.Setups.{Setup, CanBegin}
use Rattle.plain_service.proofs.RecordLaws.{record-alone}
use Rattle.cluster_facts.specs.Types.{Entry}
use Rattle.cluster_facts.specs.Ranges.{AreInRange}
use Rattle.cluster_facts.specs.World.{World}
use Rattle.cluster_events.specs.Lines.{Told}
use Rattle.cluster_events.specs.Servers.{State}
use Rattle.cluster_events.specs.OnDisk.{StepOnDisk}
use Rattle.cluster_events.specs.Settled.{IsSettled}
use Rattle.cluster_events.specs.Runs.RunBy.{Started, Went}
use Rattle.cluster_events.proofs.Filed.{answered-legal}
use Rattle.cluster_events.proofs.OnDisk.{range-before}
use Rattle.cluster_events.proofs.Runs.{each-end}
use Rattle.service_laws.specs.Disks.{service_disk}
use Rattle.service_laws.specs.PlainOf.{plain_of}
use Rattle.service_laws.specs.StorageOf.{storage_of}
use Rattle.service_laws.proofs.HistoryLaws.{history-of}
use Rattle.played_runs.specs.Games.{Game}
use Rattle.played_runs.specs.Laws.{IsGame}
use Rattle.played_runs.specs.Playing.{Ran}
use Rattle.played_runs.specs.Promises.{Sentence, Throughout, KeepsOneHistory, RepliesRightly, ReadsRightly, CallsBack, PrintsPosts, KeepsFiles, KeepsRecords, StandsOnce, IsSettledBy, SettlesAll}
use Rattle.played_runs.specs.Views.{behind_opening}
use Rattle.played_runs.proofs.PlayLaws.{opening_files, played-says, played-keeps, played-files, played-stays, answered-range}

module _ {P L S W : Type 0} (game : Game P L S W) (is_game : IsGame game) where
  -- a sentence that holds of all lines that were played holds at the end of each of them
  pub throughout : (held : Option Files) (Q : Setup → Sentence L) → ((setup : Setup) (places : ℕ) (held : Option Files) (first : Counters) → CanBegin setup → (lines : List L) (state : State P) (told : List Told) (left : Files × Counters) → (Ran game) setup places held first lines state told left → AreInRange state.world.core.answered → Q setup lines state.world told left.0) → (Throughout game) held Q
  throughout held Q always first script done rest text front =
      let setup = front.setup in
      let plays = front.goes in
      let core = plays.state.world.core in
      let R : List Entry → Type 0 = λ entries. AreInRange entries in
      each-end (StepOnDisk (game.Step setup held) service_disk (storage_of setup)) (game.start setup front.places) (opening_files setup, behind_opening setup first) (λ lines state told left. Q setup lines state.world told left.0) (λ state. AreInRange state.world.core.answered) (λ before next state outcome after step range. range-before step.more state.world.core.answered (subst R step.grown range)) (always setup front.places held (behind_opening setup first) plays.good.begins) plays.run (answered-range core.answered core.hand plays.good.range)

  pub keeps-one-history : (held : Option Files) → (Throughout game) held KeepsOneHistory
  keeps-one-history held =
      throughout held KeepsOneHistory (λ setup places told_first first can lines state told files run range. let keeps = played-keeps game is_game setup places told_first first run in (keeps.history, keeps.order))

  pub replies-rightly : (held : Option Files) → (Throughout game) held RepliesRightly
  replies-rightly held = throughout held RepliesRightly (λ setup places told_first first can lines state told files run range. (played-keeps game is_game setup places told_first first run).replies)

  pub reads-rightly : (held : Option Files) → (Throughout game) held ReadsRightly
  reads-rightly held = throughout held ReadsRightly (λ setup places told_first first can lines state told files run range. (played-keeps game is_game setup places told_first first run).readers)

  pub calls-back : (held : Option Files) → (Throughout game) held CallsBack
  calls-back held =
      throughout held CallsBack (λ setup places told_first first can lines state told files run range. let keeps = played-keeps game is_game setup places told_first first run in (keeps.items, keeps.called, keeps.callbacks))

  pub prints-posts : (held : Option Files) → (Throughout game) held PrintsPosts
  prints-posts held = throughout held PrintsPosts (λ setup places told_first first can lines state told files run range. (played-keeps game is_game setup places told_first first run).posts)

  pub keeps-files : (held : Option Files) → (Throughout game) held KeepsFiles
  keeps-files held = throughout held KeepsFiles (λ setup places told_first first can lines state told files run range. played-files game is_game setup places told_first first can run range)

  pub keeps-records : (held : Option Files) → (Throughout game) held KeepsRecords
  keeps-records held = throughout held KeepsRecords (λ setup places told_first first can lines state told files run range. played-stays game is_game setup places told_first first can run range)

  pub stands-once : (held : Option Files) → (Throughout game) held StandsOnce
  stands-once held =
      throughout held StandsOnce (λ setup places told_first first can lines state told files run range client number other_client other_number stored other spot own others at other_at.
      let world = state.world in
      let facts = (played-says game is_game setup places told_first first run).0.sound.facts in
      let legal = answered-legal (plain_of setup) world.now world.core.answered world.core.hand facts.legal in
      record-alone setup world.core.answered client other_client number other_number stored other spot (history-of setup can world.now world.core.answered legal range) own others at other_at)

  settled-by : (setup : Setup) (world : World) (next : Option Line) → (next ≡ Some line.Settle → IsSettled (plain_of setup) world) → IsSettledBy setup next world
  settled-by setup world (Some line.Settle) settles = settles refl
  settled-by setup world _ settles = tt

  settled : (setup : Setup) (places : ℕ) (held : Option Files) (first : Counters) {lines : List L} {state : State P} {told : List Told} {left : Files × Counters} → (Ran game) setup places held first lines state told left → SettlesAll game.shared setup lines state.world told left.0
  settled setup places held first Started = tt
  settled setup places held first (Went {state = state} {before = before} next outcome after run step) =
      settled-by setup outcome.state.world (game.shared next) (λ is. is_game.settles setup held before.1 next state outcome after.1 is (played-says game is_game setup places held first run).0 step.step)

  pub settles-all : (held : Option Files) → (Throughout game) held (SettlesAll game.shared)
  settles-all held = throughout held (SettlesAll game.shared) (λ setup places told_first first can lines state told files run range. settled setup places told_first first run)

-- Words of bodies alone: what the parts of a run give.
use Rattle.std.specs.Prelude.{◌≡◌, ℕ, IsSome, List}
use Rattle.disk_model.specs.Seen.{DiskSeen}
use Rattle.played_runs.specs.declared.ending.Status8.{Status8}
use Rattle.played_runs.specs.declared.ending.Status8.TheVariants.{JournalRefused}
use Rattle.played_runs.specs.Counts.{NoneRises, RisesBy}
use Rattle.played_runs.specs.Edges.{before, fault_count}
use Rattle.played_runs.specs.Writing.{Ended}
pub use Rattle.world_runs.specs.Scripts.{InputEnds, InputLacks}
use Rattle.aisrun.specs.Edges.{Around}
use Rattle.commands.specs.Commands.{command_of}
use Rattle.command_journal.specs.declared.world.ColdWorld.{ColdWorld}
use Rattle.cold_runs.specs.Recovering.{RecoversBy}
use Rattle.cold_runs.specs.Stages.{both_held}
use Rattle.cold_runs.specs.Completing.{Completes as CompletesCold}
use Rattle.cold_runs.specs.Endings.{ColdEndsBy, ColdRun, RisesBy as RisesByCold, cold_run}
use Rattle.spare_server.specs.declared.world.TrioWorld.{TrioWorld}
use Rattle.trio_runs.specs.Completing.{CanServe, IsServedOrMemory}
use Rattle.trio_runs.specs.Endings.{TrioEndsBy, TrioRun}
use Rattle.aisrun.specs.Colds.{AsksCold, AsksOther, AsksRecover}
use Rattle.aisrun.specs.Endings.{Ends, LacksBy}
use Rattle.aisrun.specs.Trios.{AsksTrio}

-- memory was wanting as what the words ask for was done
abbrev pub WordsLack : {S K D : Type 0} → Around S K D → List ℕ → Type 0
WordsLack run text = LacksBy (command_of run.words) run text

-- what the words of two servers do not ask for: the world of three servers, and the journal's disk with the world of its server
pub record Beside (J : Type 0) : Type 0 where
  pub trio : TrioWorld
  pub trio_after : TrioWorld
  pub shows : J → DiskSeen
  pub journal : J
  pub journal_after : J
  pub cold : ColdWorld
  pub cold_after : ColdWorld

abbrev pub beside : {J : Type 0} → (trio trio_after : TrioWorld) → (J → DiskSeen) → (old new : J) → (cold cold_after : ColdWorld) → Beside J
beside trio trio_after shows old new cold cold_after = record {
  trio = trio;
  trio_after = trio_after;
  shows = shows;
  journal = old;
  journal_after = new;
  cold = cold;
  cold_after = cold_after;
}

-- the same run on the world of three servers
abbrev pub on_three : {S K D J : Type 0} → Around S K D → Beside J → TrioRun S K D
on_three run other = record {
  source = run.source;
  stage =
      record { sink = run.stage.sink; disk = run.stage.disk; shows = run.stage.shows; world = other.trio; world_after = other.trio_after };
}

-- the same run on that of a server and its journal
abbrev pub on_journal : {S K D J : Type 0} → Around S K D → Beside J → ColdRun S K
on_journal run other =
    cold_run run.source run.stage.sink run.stage.shows run.stage.disk.old run.stage.disk.new other.shows other.journal other.journal_after
    other.cold other.cold_after

-- the worlds that were not asked for stay

abbrev pub StaysTwo : {S K D : Type 0} → Around S K D → Type 0
StaysTwo run = run.stage.world_after ≡ run.stage.world

abbrev pub StaysThree : {J : Type 0} → Beside J → Type 0
StaysThree other = other.trio_after ≡ other.trio

abbrev pub StaysCold : {J : Type 0} → Beside J → Type 0
StaysCold other = (other.journal_after ≡ other.journal) × (other.cold_after ≡ other.cold)

-- what a script for three servers comes to
pub record TrioServed {S K D : Type 0} (status : Status8) (run : TrioRun S K D) : Type 0 where
  pub ends : TrioEndsBy status run
  pub faults : RisesBy status (fault_count run.source) (fault_count run.stage.sink) (fault_count run.stage.disk)
  pub completes :
      CanServe (before run.source) (before run.stage.disk)
      → NoneRises (fault_count run.source) (fault_count run.stage.sink) (fault_count run.stage.disk) → IsServedOrMemory status

-- what a script for a server and its journal comes to
pub record ColdServed {S K : Type 0} (status : Status8) (run : ColdRun S K) : Type 0 where
  pub ends : ColdEndsBy status run
  pub faults : RisesByCold status run
  pub completes : CompletesCold status run
  pub accepts : IsSome (both_held run.stage).journal.files → status ≡ JournalRefused → ⊥

-- how what the words ask for ends
pub data WordsEnd {S K D J : Type 0} (status : Status8) (run : Around S K D) (other : Beside J) : Type 0 where
  OfOther :
      AsksOther run.words
      → Ended (fault_count run.source) (fault_count run.stage.disk) (Ends run) (WordsLack run) run.stage.sink status → StaysThree other
      → StaysCold other → WordsEnd status run other
  OfTrio : AsksTrio run.words → TrioServed status (on_three run other) → StaysTwo run → StaysCold other → WordsEnd status run other
  OfCold : AsksCold run.words → ColdServed status (on_journal run other) → StaysTwo run → StaysThree other → WordsEnd status run other
  OfRecover :
      AsksRecover run.words → run.source.new ≡ run.source.old → RecoversBy (on_journal run other).stage status → StaysTwo run
      → StaysThree other → WordsEnd status run other

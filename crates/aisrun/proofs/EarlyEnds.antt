-- Runs of three servers and of a server and its journal, by how they ended; and memory that was wanting before anything was asked.
use Rattle.std.proofs.Common.{◌≡◌, inl, refl, ap}
use Rattle.disk_model.specs.Seen.{DiskSeen}
use Rattle.played_runs.specs.Edges.{IsUntouched, LeavesAll}
use Rattle.played_runs.specs.declared.ending.Status8.{Status8}
use Rattle.played_runs.specs.declared.ending.Status8.TheVariants.{Memory}
use Rattle.played_runs.proofs.CountSteps.{untouched-on, untouched-stood}
use Rattle.played_runs.proofs.EndingSteps.{lacked}
use Rattle.trio_runs.specs.Endings.{TrioRun, Unread as Unheard}
use Rattle.trio_runs.proofs.StatusLaws as trio
use Rattle.journal_frames.specs.Staging.{HasStaged}
use Rattle.journal_frames.proofs.Keeping.{keeps-same}
use Rattle.cold_runs.specs.Recovering.{RecoversBy, RecoversPartly}
use Rattle.cold_runs.specs.Stages.{ColdStage, LeavesBoth, both_held, both_left}
use Rattle.cold_runs.specs.Endings.{ColdRun, Unread}
use Rattle.cold_runs.specs.CommandSteps.{EndedSo}
use Rattle.cold_runs.proofs.CommandSteps.{both-on, both-stood}
use Rattle.cold_runs.proofs.StatusLaws as cold
use Rattle.aisrun.specs.RunSteps.{ColdServed, TrioServed}

-- three servers

served-three : {S K D : Type 0} (run : TrioRun S K D) (status : Status8) → trio.EndedSo run status → TrioServed status run
served-three run status ended = record {
  ends = trio.ends-by run status ended;
  faults = trio.rises-by run status ended;
  completes = λ can none. trio.completes run status ended can none.0 none.1 none.2;
}

pub trio-early : {S K D : Type 0} (run : TrioRun S K D) → LeavesAll run.stage → IsUntouched run.source → IsUntouched run.stage.sink → TrioServed Memory run
trio-early run all source sink =
    served-three run Memory (lacked _ _ run.stage.sink (Unheard refl all, untouched-stood run.source source, untouched-on run.stage.disk all.disk) sink)

-- a server and its journal

served-cold : {S K : Type 0} (run : ColdRun S K) (status : Status8) → EndedSo run status → ColdServed status run
served-cold run status ended = record {
  ends = cold.ends-by run status ended;
  faults = cold.rises-by run status ended;
  completes = λ can none. cold.completes run status ended can none;
  accepts = λ told is. cold.accepts run status ended told is;
}

pub cold-early : {S K : Type 0} (run : ColdRun S K) → LeavesBoth run.stage → IsUntouched run.source → IsUntouched run.stage.sink → ColdServed Memory run
cold-early run all source sink =
    served-cold run Memory (lacked _ _ run.stage.sink (Unread refl all, untouched-stood run.source source, both-on run.stage all) sink)

-- a start from the journal
pub recover-early : {K : Type 0} (stage : ColdStage K) → LeavesBoth stage → IsUntouched stage.sink → RecoversBy stage Memory
recover-early stage all sink =
    let told : (both_left stage).journal.files ≡ (both_held stage).journal.files = ap (λ (seen : DiskSeen). seen.files) all.journal in
    let partly : RecoversPartly stage.scene = record {
      tries = inl (inl (ap (λ (seen : DiskSeen). seen.files) all.disk));
      kept = λ texts text short brief. keeps-same (HasStaged texts text) (both_held stage).journal.files (both_left stage).journal.files told;
      world = all.world;
    } in
    lacked _ _ stage.sink (refl, partly, both-stood stage all) sink

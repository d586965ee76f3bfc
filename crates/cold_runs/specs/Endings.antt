-- Words of public clauses: how a run of a script for one server and its journal ends, which is its status with what was read, what is printed,
-- and what it leaves.
use Rattle.std.specs.Prelude.{◌≡◌, ℕ, List, [], Option, Some}
use Rattle.std.specs.Io.KnownBytes.{Appends}
use Rattle.disk_model.specs.Seen.{DiskSeen}
use Rattle.io_edge.specs.Writes.{AppendsFront}
use Rattle.script_lines.specs.declared.answer.ScriptWhy.{ScriptWhy}
use Rattle.script_lines.specs.declared.line.Line.{Line}
use Rattle.script_language.specs.Scripts.{IsBadAt, IsScriptOf}
use Rattle.command_journal.specs.declared.world.ColdWorld.{ColdWorld}
use Rattle.played_runs.specs.Counts.{HasRisen, HasStood}
use Rattle.played_runs.specs.Edges.{Edge, after, before, fault_count}
use Rattle.played_runs.specs.declared.ending.Status8.{Status8}
use Rattle.played_runs.specs.declared.ending.Status8.TheVariants.{Memory, ReadFault, ScriptRefused, TooLong, WriteFault}
use Rattle.script_inputs.specs.Inputs.{InputTooLong, ReadsWhole, SourceFailed, bad_line}
use Rattle.cold_runs.specs.Ends.{ColdEnds, ColdLacks, RisesCold}
use Rattle.cold_runs.specs.Stages.{BothGoneOn, BothStood, ColdStage, LeavesBoth, cold_stage}

-- what a run was given: the source, and the stage on which the script is played
pub record ColdRun (S K : Type 0) : Type 0 where
  pub source : Edge S (List ℕ)
  pub stage : ColdStage K

abbrev pub cold_run :
    {S K D J : Type 0} → Edge S (List ℕ) → Edge K (List ℕ) → (D → DiskSeen) → D → D → (J → DiskSeen) → J → J → ColdWorld → ColdWorld
    → ColdRun S K
cold_run source sink shows old new shows_journal journal journal_after world world_after = record {
  source = source;
  stage = cold_stage sink shows old new shows_journal journal journal_after world world_after;
}

-- the source was read to its end, and its bytes are the script of these lines
pub record ReadsCold {S : Type 0} (source : Edge S (List ℕ)) (lines : List Line) : Type 0 where
  pub bytes : List ℕ
  pub read : ReadsWhole source bytes
  pub script : IsScriptOf lines bytes

-- the input is no script: its least bad line is told, with the first reason
pub record RefusesCold {S K : Type 0} (run : ColdRun S K) (text : List ℕ) : Type 0 where
  pub all : LeavesBoth run.stage
  pub bytes : List ℕ
  pub read : ReadsWhole run.source bytes
  pub number : ℕ
  pub reason : ScriptWhy
  pub bad : IsBadAt bytes number reason
  pub none : (lines : List Line) → IsScriptOf lines bytes → ⊥
  pub printed : text ≡ bad_line number reason

-- how it ends, and its text; or how far the lines of the script were played
abbrev pub ColdRunEnds : {S K : Type 0} → ColdRun S K → Option Status8 → List ℕ → Type 0
ColdRunEnds run (Some ScriptRefused) text = RefusesCold run text
ColdRunEnds run (Some ReadFault) text = LeavesBoth run.stage × SourceFailed run.source text
ColdRunEnds run (Some TooLong) text = LeavesBoth run.stage × InputTooLong run.source text
ColdRunEnds run reached text = (lines : List Line) × ReadsCold run.source lines × ColdEnds lines run.stage.scene reached text

-- The counts of source and disks, by the end that was to come: the source's rose by a read fault, one of the disks' by a disk fault.
abbrev pub RisesBefore : {S K : Type 0} → Option Status8 → ColdRun S K → Type 0
RisesBefore (Some ReadFault) run = HasRisen (fault_count run.source) × BothStood run.stage.scene
RisesBefore reached run = HasStood (fault_count run.source) × RisesCold reached run.stage.scene

-- and the sink's, exactly by a write fault
abbrev pub RisesBy : {S K : Type 0} → Status8 → ColdRun S K → Type 0
RisesBy WriteFault run = ((reached : Option Status8) × RisesBefore reached run) × HasRisen (fault_count run.stage.sink)
RisesBy Memory run = ((reached : Option Status8) × RisesBefore reached run) × HasStood (fault_count run.stage.sink)
RisesBy status run = RisesBefore (Some status) run × HasStood (fault_count run.stage.sink)

-- the sink did not take all: a front was written of the text of an end, or of what was done so far
pub record ColdUnwritten {S K : Type 0} (run : ColdRun S K) : Type 0 where
  pub reached : Option Status8
  pub text : List ℕ
  pub ends : ColdRunEnds run reached text
  pub counts : RisesBefore reached run
  pub written : AppendsFront (before run.stage.sink) (after run.stage.sink) text

-- memory ran out before the script was read and known, or as it was played
pub data ColdRunLacks {S K : Type 0} (run : ColdRun S K) (text : List ℕ) : Type 0 where
  Unread : text ≡ [] → LeavesBoth run.stage → ColdRunLacks run text
  Unplayed : (lines : List Line) → ReadsCold run.source lines → ColdLacks lines run.stage.scene text → ColdRunLacks run text

-- memory ran out in the sink; or elsewhere, where no object had failed, and all text up to there was written
pub data ColdLacking {S K : Type 0} (run : ColdRun S K) : Type 0 where
  Unwritten : ColdUnwritten run → ColdLacking run
  Lacking :
      (text : List ℕ) → ColdRunLacks run text → HasStood (fault_count run.source) → BothGoneOn run.stage.scene
      → Appends (before run.stage.sink) (after run.stage.sink) text → ColdLacking run

-- by its status
abbrev pub ColdEndsBy : {S K : Type 0} → Status8 → ColdRun S K → Type 0
ColdEndsBy Memory run = ColdLacking run
ColdEndsBy WriteFault run = ColdUnwritten run
ColdEndsBy status run = (text : List ℕ) × ColdRunEnds run (Some status) text × Appends (before run.stage.sink) (after run.stage.sink) text

-- Words of public clauses: how a run of a script for three servers ends, which is its status with what was read, what is printed, and what
-- it leaves.
use Rattle.std.specs.Prelude.{◌≡◌, ℕ, List, [], Option, Some}
use Rattle.std.specs.Io.KnownBytes.{Appends}
use Rattle.io_edge.specs.Writes.{AppendsFront}
use Rattle.disk_model.specs.Seen.{DiskSeen}
use Rattle.script_lines.specs.declared.answer.ScriptWhy.{ScriptWhy}
use Rattle.trio_lines.specs.declared.line.TrioLine.{TrioLine}
use Rattle.trio_lines.specs.Scripts.{IsTrioOf, IsBadTrioAt}
use Rattle.played_runs.specs.declared.ending.Status8.{Status8}
use Rattle.played_runs.specs.declared.ending.Status8.TheVariants.{ScriptRefused, Memory, ReadFault, WriteFault, TooLong}
use Rattle.played_runs.specs.Counts.{HasGoneOn, HasStood, RisesBefore}
use Rattle.played_runs.specs.Edges.{Edge, Stage, before, after, fault_count, stage, LeavesAll}
use Rattle.played_runs.specs.Ends.{PlayEnds, PlayLacks}
use Rattle.script_inputs.specs.Inputs.{ReadsWhole, SourceFailed, InputTooLong, bad_line}
use Rattle.spare_server.specs.declared.world.TrioWorld.{TrioWorld}
use Rattle.spare_server.specs.Game.{trio_game}

-- what a run was given: the source, and the stage on which the script is played
pub record TrioRun (S K D : Type 0) : Type 0 where
  pub source : Edge S (List ℕ)
  pub stage : Stage TrioWorld K D

abbrev pub trio_run :
    {S K D : Type 0} → Edge S (List ℕ) → Edge K (List ℕ) → (D → DiskSeen) → D → D → TrioWorld → TrioWorld → TrioRun S K D
trio_run source sink shows old new world world_after =
    record { source = source; stage = stage sink shows old new world world_after }

-- the source was read to its end, and its bytes are the script of these lines
pub record ReadsTrio {S : Type 0} (source : Edge S (List ℕ)) (lines : List TrioLine) : Type 0 where
  pub bytes : List ℕ
  pub read : ReadsWhole source bytes
  pub script : IsTrioOf lines bytes

-- the least bad line is told, with its first reason
pub record TrioFails (bytes text : List ℕ) : Type 0 where
  pub number : ℕ
  pub reason : ScriptWhy
  pub bad : IsBadTrioAt bytes number reason
  pub none : (lines : List TrioLine) → IsTrioOf lines bytes → ⊥
  pub printed : text ≡ bad_line number reason

-- the input is no script
pub record RefusesTrio {S K D : Type 0} (run : TrioRun S K D) (text : List ℕ) : Type 0 where
  pub all : LeavesAll run.stage
  pub bytes : List ℕ
  pub read : ReadsWhole run.source bytes
  pub fails : TrioFails bytes text

-- how it ends, and its text; or how far the lines of the script were played
abbrev pub TrioEnds : {S K D : Type 0} → TrioRun S K D → Option Status8 → List ℕ → Type 0
TrioEnds run (Some ScriptRefused) text = RefusesTrio run text
TrioEnds run (Some ReadFault) text = LeavesAll run.stage × SourceFailed run.source text
TrioEnds run (Some TooLong) text = LeavesAll run.stage × InputTooLong run.source text
TrioEnds run reached text = (lines : List TrioLine) × ReadsTrio run.source lines × PlayEnds trio_game lines run.stage reached text

-- the sink did not take all: a front was written of the text of an end, or of what was done so far, and the counts of source and
-- disk are as by that end
pub record TrioUnwritten {S K D : Type 0} (run : TrioRun S K D) : Type 0 where
  pub reached : Option Status8
  pub text : List ℕ
  pub ends : TrioEnds run reached text
  pub counts : RisesBefore reached (fault_count run.source) (fault_count run.stage.disk)
  pub written : AppendsFront (before run.stage.sink) (after run.stage.sink) text

-- memory ran out before the script was read and known, or as it was played
pub data TrioLacks {S K D : Type 0} (run : TrioRun S K D) (text : List ℕ) : Type 0 where
  Unread : text ≡ [] → LeavesAll run.stage → TrioLacks run text
  Unplayed : (lines : List TrioLine) → ReadsTrio run.source lines → PlayLacks trio_game lines run.stage text → TrioLacks run text

-- memory ran out in the sink; or elsewhere, where no object had failed but the disk in works of servers that went down, and all text up to
-- there was written
pub data TrioLacking {S K D : Type 0} (run : TrioRun S K D) : Type 0 where
  Unwritten : TrioUnwritten run → TrioLacking run
  Lacking :
      (text : List ℕ) → TrioLacks run text → HasStood (fault_count run.source) → HasGoneOn (fault_count run.stage.disk)
      → Appends (before run.stage.sink) (after run.stage.sink) text → TrioLacking run

-- by its status
abbrev pub TrioEndsBy : {S K D : Type 0} → Status8 → TrioRun S K D → Type 0
TrioEndsBy Memory run = TrioLacking run
TrioEndsBy WriteFault run = TrioUnwritten run
TrioEndsBy status run = (text : List ℕ) × TrioEnds run (Some status) text × Appends (before run.stage.sink) (after run.stage.sink) text

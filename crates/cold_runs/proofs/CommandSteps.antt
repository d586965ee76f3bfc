-- Ends of parts are ends of the whole.
use Rattle.std.proofs.Common.{◌≡◌, ℕ, inl, inr, List, Option, Some, None, Err, refl, ap}
use Rattle.std.specs.Prelude.{Vec, codes}
use Rattle.std.specs.declared.alloc.Global.{Global}
use Rattle.ais_values.specs.Causes.{RoseExactlyOn}
use Rattle.disk_model.specs.Seen.{DiskSeen}
use Rattle.io_edge.specs.Reads.{ReadsAll}
use Rattle.io_edge.specs.declared.answers.ReadAnswer.{ReadAnswer}
use Rattle.io_edge.specs.declared.answers.ReadAnswer.TheVariants as read
use Rattle.script_lines.specs.declared.line.Line.{Line}
use Rattle.script_language.specs.Scripts.{IsScriptOf}
use Rattle.played_runs.specs.declared.ending.Status8.{Status8}
use Rattle.played_runs.specs.declared.ending.Status8.TheVariants.{Done, ScriptRefused, Usage, Memory, ReadFault, WriteFault, DiskFault, RootNotEmpty, TooLong, JournalRefused, Inseparable}
use Rattle.played_runs.specs.Counts.{HasStood}
use Rattle.played_runs.specs.Edges.{after, before, fault_count}
use Rattle.played_runs.specs.Writing.{Reaching, Written}
use Rattle.played_runs.proofs.CountSteps.{other-stood, stood-on}
use Rattle.played_runs.proofs.EndingSteps.{text-ends}
use Rattle.played_runs.proofs.WritingSteps.{written-as}
use Rattle.script_inputs.specs.Inputs.{input_limit, ReadsWhole}
use Rattle.script_inputs.specs.Unread.{UnreadEnds, UnreadLacks}
use Rattle.cold_runs.specs.Ends.{ColdEnds, RisesCold}
use Rattle.cold_runs.specs.Stages.{BothGoneOn, BothStood, ColdStage, LeavesBoth, journal_faults, record_faults}
use Rattle.cold_runs.specs.Endings.{ColdRun, ColdRunEnds, ColdRunLacks, RisesBefore, Unplayed}
use Rattle.cold_runs.specs.Endings.ColdRunLacks.{Unread as Unknown}
use Rattle.cold_runs.specs.CommandSteps.{BytesEnd, BytesLack, EndedSo}

-- disks that were not asked for anything
pub both-stood : {K : Type 0} (stage : ColdStage K) → LeavesBoth stage → BothStood stage.scene
both-stood stage all = (ap (λ (seen : DiskSeen). seen.faults) all.disk, ap (λ (seen : DiskSeen). seen.faults) all.journal)

pub both-on : {K : Type 0} (stage : ColdStage K) → LeavesBoth stage → BothGoneOn stage.scene
both-on stage all =
    let stood = both-stood stage all in
    record { disk = stood-on (record_faults stage.scene) stood.0; journal = stood-on (journal_faults stage.scene) stood.1 }

-- a script that was played
pub play-bytes : {K : Type 0} (stage : ColdStage K) (bytes : List ℕ) (lines : List Line) → IsScriptOf lines bytes → (reached : Option Status8) (text : List ℕ) → ColdEnds lines stage.scene reached text × RisesCold reached stage.scene → BytesEnd bytes stage reached text × RisesCold reached stage.scene
play-bytes stage bytes lines script None text ends = ((lines, script, ends.0), ends.1)
play-bytes stage bytes lines script (Some Done) text ends = ((lines, script, ends.0), ends.1)
play-bytes stage bytes lines script (Some ScriptRefused) text ends = absurd ends.0
play-bytes stage bytes lines script (Some Usage) text ends = absurd ends.0
play-bytes stage bytes lines script (Some Memory) text ends = absurd ends.0
play-bytes stage bytes lines script (Some ReadFault) text ends = absurd ends.0
play-bytes stage bytes lines script (Some WriteFault) text ends = absurd ends.0
play-bytes stage bytes lines script (Some DiskFault) text ends = ((lines, script, ends.0), ends.1)
play-bytes stage bytes lines script (Some RootNotEmpty) text ends = ((lines, script, ends.0), ends.1)
play-bytes stage bytes lines script (Some TooLong) text ends = absurd ends.0
play-bytes stage bytes lines script (Some JournalRefused) text ends = ((lines, script, ends.0), ends.1)
play-bytes stage bytes lines script (Some Inseparable) text ends = absurd ends.0

module _ {S K : Type 0} (run : ColdRun S K) (bytes : List ℕ) (read : ReadsWhole run.source bytes) (stood : HasStood (fault_count run.source)) where
  -- the source was read to its end, and its bytes led here
  pub bytes-ends : (reached : Option Status8) (text : List ℕ) → BytesEnd bytes run.stage reached text × RisesCold reached run.stage.scene → ColdRunEnds run reached text × RisesBefore reached run
  bytes-ends None text ends = ((ends.0.0, record { bytes = bytes; read = read; script = ends.0.1 }, ends.0.2), (stood, ends.1))
  bytes-ends (Some ScriptRefused) text ends =
      let fails = ends.0.1 in
      (record { all = ends.0.0; bytes = bytes; read = read; number = fails.number; reason = fails.reason; bad = fails.bad; none = fails.none; printed = fails.printed }, (stood, ends.1))
  bytes-ends (Some Done) text ends = ((ends.0.0, record { bytes = bytes; read = read; script = ends.0.1 }, ends.0.2), (stood, ends.1))
  bytes-ends (Some Usage) text ends = absurd ends.0.2
  bytes-ends (Some Memory) text ends = absurd ends.0.2
  bytes-ends (Some ReadFault) text ends = absurd ends.0.2
  bytes-ends (Some WriteFault) text ends = absurd ends.0.2
  bytes-ends (Some DiskFault) text ends = ((ends.0.0, record { bytes = bytes; read = read; script = ends.0.1 }, ends.0.2), (stood, ends.1))
  bytes-ends (Some RootNotEmpty) text ends = ((ends.0.0, record { bytes = bytes; read = read; script = ends.0.1 }, ends.0.2), (stood, ends.1))
  bytes-ends (Some TooLong) text ends = absurd ends.0.2
  bytes-ends (Some JournalRefused) text ends = ((ends.0.0, record { bytes = bytes; read = read; script = ends.0.1 }, ends.0.2), (stood, ends.1))
  bytes-ends (Some Inseparable) text ends = absurd ends.0.2

  pub bytes-lacks : (text : List ℕ) → BytesLack bytes run.stage text × BothGoneOn run.stage.scene → ColdRunLacks run text × HasStood (fault_count run.source) × BothGoneOn run.stage.scene
  bytes-lacks text (inl early, on) = (Unknown early.0 early.1, stood, on)
  bytes-lacks text (inr later, on) = (Unplayed later.0 (record { bytes = bytes; read = read; script = later.1 }) later.2, stood, on)

-- the source was not read to its end, and no disk was asked
pub unread-ended : {S K : Type 0} (run : ColdRun S K) → LeavesBoth run.stage → (answer : ReadAnswer) (status : Status8) → ReadsAll (before run.source) (after run.source) input_limit (Err answer) → RoseExactlyOn {T = Vec ℕ Global} (run.source.faults run.source.old) (run.source.faults run.source.new) (Err answer) read.ReadFault → Written (UnreadEnds answer) (UnreadLacks answer) run.stage.sink status → EndedSo run status
unread-ended run all read.Memory status reads cause written =
    let stood : HasStood (fault_count run.source) = other-stood (run.source.faults run.source.old) (run.source.faults run.source.new) read.Memory read.ReadFault read.Memory cause refl (λ is. cc) in
    let M : List ℕ → Type 0 = λ text. ColdRunLacks run text × HasStood (fault_count run.source) × BothGoneOn run.stage.scene in
    written-as (UnreadEnds read.Memory) (λ reached text. ColdRunEnds run reached text × RisesBefore reached run) (UnreadLacks read.Memory) M run.stage.sink status (λ reached text never. absurd never) (λ text none. (Unknown none.1 all, stood, both-on run.stage all)) written
unread-ended run all read.ReadFault status reads cause written =
    let E : Reaching = λ reached text. ColdRunEnds run reached text × RisesBefore reached run in
    let text = codes "read fault\n" in
    let ends : E (Some ReadFault) text = ((all, record { taken = reads; printed = refl }), ((cause.later, cause.rose refl), both-stood run.stage all)) in
    written-as (UnreadEnds read.ReadFault) E (UnreadLacks read.ReadFault) (λ text. ColdRunLacks run text × HasStood (fault_count run.source) × BothGoneOn run.stage.scene) run.stage.sink status (text-ends E ReadFault text ends) (λ text none. let no : read.ReadFault ≡ read.Memory = none.0 in absurd cc) written
unread-ended run all read.TooLong status reads cause written =
    let E : Reaching = λ reached text. ColdRunEnds run reached text × RisesBefore reached run in
    let text = codes "script too long\n" in
    let stood : HasStood (fault_count run.source) = other-stood (run.source.faults run.source.old) (run.source.faults run.source.new) read.TooLong read.ReadFault read.TooLong cause refl (λ is. cc) in
    let ends : E (Some TooLong) text = ((all, record { taken = reads; printed = refl }), (stood, both-on run.stage all)) in
    written-as (UnreadEnds read.TooLong) E (UnreadLacks read.TooLong) (λ text. ColdRunLacks run text × HasStood (fault_count run.source) × BothGoneOn run.stage.scene) run.stage.sink status (text-ends E TooLong text ends) (λ text none. let no : read.TooLong ≡ read.Memory = none.0 in absurd cc) written

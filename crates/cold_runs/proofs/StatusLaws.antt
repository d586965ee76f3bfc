-- What each status of a run says.
use Rattle.std.proofs.Common.{◌≡◌, ℕ, ◌⊎◌, inl, inr, List, ◌∷◌, Option, Some, None, refl, sym, ◌∙◌, subst}
use Rattle.std.specs.Prelude.{IfSome, IsSome}
use Rattle.std.specs.FinMap.{keys}
use Rattle.std.specs.Io.KnownBytes.{Appends}
use Rattle.ais_values.specs.Causes.{Rose}
use Rattle.disk_model.specs.Disk.{Files, no_files}
use Rattle.script_lines.specs.declared.line.Line.{Line}
use Rattle.script_language.specs.Scripts.{IsScriptOf}
use Rattle.played_runs.specs.declared.ending.Status8.{Status8}
use Rattle.played_runs.specs.declared.ending.Status8.TheVariants.{Done, ScriptRefused, Usage, Memory, ReadFault, WriteFault, DiskFault, RootNotEmpty, TooLong, JournalRefused, Inseparable}
use Rattle.played_runs.specs.Counts.{HasStood}
use Rattle.played_runs.specs.Edges.{before, after, fault_count}
use Rattle.played_runs.specs.Steps.{FindsNames}
use Rattle.played_runs.specs.Writing.{Whole, SinkFailed, SinkLacked, Lacked}
use Rattle.script_inputs.proofs.Reading.{no-name, not-too-long, read-all}
use Rattle.cold_runs.specs.Ends.{ColdEnds, OfJournal, OfRecords, RootsHold}
use Rattle.cold_runs.specs.Stages.{ColdScene, OneRisen, both_held, both_left}
use Rattle.cold_runs.specs.Completing.{CanStart, IsStartedOrMemory, NoneRises}
use Rattle.cold_runs.specs.Endings.{ColdEndsBy, ColdRun, ColdRunEnds, Lacking, RisesBefore, RisesBy, Unwritten}
use Rattle.cold_runs.specs.CommandSteps.{EndedSo}

-- a disk that tells its files is not silent
told-loud : (held : Option Files) → IsSome held → held ≡ None → ⊥
told-loud None told silent = absurd cc
told-loud (Some files) told silent = let no : Some files ≡ None = silent in absurd cc

-- no name is the least of a disk without files
no-least : (name : List ℕ) (held : Option Files) → held ≡ Some no_files → FindsNames held (Some name) → ⊥
no-least name held empty least =
    let found : (others : List (List ℕ)) × (keys no_files ≡ name ∷ others) = subst (λ o. IfSome o (λ f. (others : List (List ℕ)) × (keys f ≡ name ∷ others))) empty least in
    no-name name found.0 found.1

no-root : (scene : ColdScene) (text : List ℕ) → scene.held.disk.files ≡ Some no_files → scene.held.journal.files ≡ Some no_files → RootsHold scene text → ⊥
no-root scene text empty empty_too (OfRecords name least left world printed) = no-least name scene.held.disk.files empty least
no-root scene text empty empty_too (OfJournal name none least left world printed) = no-least name scene.held.journal.files empty_too least

module _ {S K : Type 0} (run : ColdRun S K) where
  -- the text of an end was written, where the sink took all and memory was there
  prints : (status : Status8) → (status ≡ WriteFault → ⊥) → (status ≡ Memory → ⊥) → EndedSo run status → (text : List ℕ) × ColdRunEnds run (Some status) text × Appends (before run.stage.sink) (after run.stage.sink) text
  prints status failed lacked (Whole text e stood appends) = (text, e.0, appends)
  prints status failed lacked (SinkFailed is risen reached text e front) = absurd (failed is)
  prints status failed lacked (SinkLacked is stood reached text e front) = absurd (lacked is)
  prints status failed lacked (Lacked is stood text l appends) = absurd (lacked is)

  -- the counts then
  counts : (status : Status8) → (status ≡ WriteFault → ⊥) → (status ≡ Memory → ⊥) → EndedSo run status → RisesBefore (Some status) run × HasStood (fault_count run.stage.sink)
  counts status failed lacked (Whole text e stood appends) = (e.1, stood)
  counts status failed lacked (SinkFailed is risen reached text e front) = absurd (failed is)
  counts status failed lacked (SinkLacked is stood reached text e front) = absurd (lacked is)
  counts status failed lacked (Lacked is stood text l appends) = absurd (lacked is)

  -- **how a run ends, by its status**
  pub ends-by : (status : Status8) → EndedSo run status → ColdEndsBy status run
  ends-by Done ended = prints Done (λ e. cc) (λ e. cc) ended
  ends-by ScriptRefused ended = prints ScriptRefused (λ e. cc) (λ e. cc) ended
  ends-by Usage ended = prints Usage (λ e. cc) (λ e. cc) ended
  ends-by ReadFault ended = prints ReadFault (λ e. cc) (λ e. cc) ended
  ends-by DiskFault ended = prints DiskFault (λ e. cc) (λ e. cc) ended
  ends-by RootNotEmpty ended = prints RootNotEmpty (λ e. cc) (λ e. cc) ended
  ends-by TooLong ended = prints TooLong (λ e. cc) (λ e. cc) ended
  ends-by JournalRefused ended = prints JournalRefused (λ e. cc) (λ e. cc) ended
  ends-by Inseparable ended = prints Inseparable (λ e. cc) (λ e. cc) ended
  ends-by WriteFault (Whole text e stood appends) = absurd e.0.2
  ends-by WriteFault (SinkFailed same risen reached text e front) =
      record { reached = reached; text = text; ends = e.0; counts = e.1; written = front }
  ends-by WriteFault (SinkLacked same stood reached text e front) = absurd cc
  ends-by WriteFault (Lacked same stood text l appends) = absurd cc
  ends-by Memory (Whole text e stood appends) = absurd e.0.2
  ends-by Memory (SinkFailed same risen reached text e front) = absurd cc
  ends-by Memory (SinkLacked same stood reached text e front) =
      Unwritten (record { reached = reached; text = text; ends = e.0; counts = e.1; written = front })
  ends-by Memory (Lacked same stood text l appends) = Lacking text l.0 l.1 l.2 appends

  -- **which counts rose, by the status**
  pub rises-by : (status : Status8) → EndedSo run status → RisesBy status run
  rises-by Done ended = counts Done (λ e. cc) (λ e. cc) ended
  rises-by ScriptRefused ended = counts ScriptRefused (λ e. cc) (λ e. cc) ended
  rises-by Usage ended = counts Usage (λ e. cc) (λ e. cc) ended
  rises-by ReadFault ended = counts ReadFault (λ e. cc) (λ e. cc) ended
  rises-by DiskFault ended = counts DiskFault (λ e. cc) (λ e. cc) ended
  rises-by RootNotEmpty ended = counts RootNotEmpty (λ e. cc) (λ e. cc) ended
  rises-by TooLong ended = counts TooLong (λ e. cc) (λ e. cc) ended
  rises-by JournalRefused ended = counts JournalRefused (λ e. cc) (λ e. cc) ended
  rises-by Inseparable ended = counts Inseparable (λ e. cc) (λ e. cc) ended
  rises-by WriteFault (Whole text e stood appends) = absurd e.0.2
  rises-by WriteFault (SinkFailed same risen reached text e front) = ((reached, e.1), risen)
  rises-by WriteFault (SinkLacked same stood reached text e front) = absurd cc
  rises-by WriteFault (Lacked same stood text l appends) = absurd cc
  rises-by Memory (Whole text e stood appends) = absurd e.0.2
  rises-by Memory (SinkFailed same risen reached text e front) = absurd cc
  rises-by Memory (SinkLacked same stood reached text e front) = ((reached, e.1), stood)
  rises-by Memory (Lacked same stood text l appends) = ((None, (l.1, l.2)), stood)

  -- No journal is refused that its disk tells.

  refused-silent : (lines : List Line) (text : List ℕ) → ColdEnds lines run.stage.scene (Some JournalRefused) text → (both_held run.stage).journal.files ≡ None
  refused-silent lines text (inl refused) = refused.silent
  refused-silent lines text (inr untold) = untold.1.silent

  pub accepts : (status : Status8) → EndedSo run status → IsSome (both_held run.stage).journal.files → status ≡ JournalRefused → ⊥
  accepts status (Whole text e stood appends) told is =
      let E : Status8 → Type 0 = λ one. ColdRunEnds run (Some one) text in
      let ends = subst E is e.0 in
      told-loud (both_held run.stage).journal.files told (refused-silent ends.0 text ends.2)
  accepts status (SinkFailed same risen reached text e front) told is = let no : WriteFault ≡ JournalRefused = sym same ∙ is in cc
  accepts status (SinkLacked same stood reached text e front) told is = let no : Memory ≡ JournalRefused = sym same ∙ is in cc
  accepts status (Lacked same stood text l appends) told is = let no : Memory ≡ JournalRefused = sym same ∙ is in cc

  -- Where nothing fails, and the input is a script.

  -- a journal's disk without files is not silent
  loud : CanStart (before run.source) (both_held run.stage).disk.files (both_held run.stage).journal.files → (both_held run.stage).journal.files ≡ None → ⊥
  loud can silent = let no : Some no_files ≡ None = sym can.empty_too ∙ silent in cc

  none-risen : NoneRises run → OneRisen run.stage.scene → ⊥
  none-risen none rises = by rises.rose
    where
      by : Rose (both_held run.stage).disk.faults (both_left run.stage).disk.faults ⊎ Rose (both_held run.stage).journal.faults (both_left run.stage).journal.faults → ⊥
      by (inl rose) = none.2 (rises.later.disk, rose)
      by (inr rose) = none.3 (rises.later.journal, rose)

  started : CanStart (before run.source) (both_held run.stage).disk.files (both_held run.stage).journal.files → NoneRises run → (status : Status8) (text : List ℕ) → RisesBefore (Some status) run → ColdRunEnds run (Some status) text → status ≡ Done
  started can none Done text rises end = refl
  started can none ScriptRefused text rises end =
      absurd (end.none can.lines (subst (λ (one : List ℕ). IsScriptOf can.lines one) (sym (read-all run.source can.bytes end.bytes can.told end.read)) can.script))
  started can none ReadFault text rises end = absurd (none.0 rises.0)
  started can none DiskFault text rises end = absurd (none-risen none rises.1)
  started can none RootNotEmpty text rises end = absurd (no-root run.stage.scene text can.empty can.empty_too end.2)
  started can none TooLong text rises end = absurd (not-too-long run.source can.bytes text can.told can.short end.1)
  started can none JournalRefused text rises end = absurd (loud can (refused-silent end.0 text end.2))
  started can none Usage text rises end = absurd end.2
  started can none Memory text rises end = absurd end.2
  started can none WriteFault text rises end = absurd end.2
  started can none Inseparable text rises end = absurd end.2

  -- **only memory may be missing**
  pub completes : (status : Status8) → EndedSo run status → CanStart (before run.source) (both_held run.stage).disk.files (both_held run.stage).journal.files → NoneRises run → IsStartedOrMemory status
  completes status (Whole text e stood appends) can none = inl (started can none status text e.1 e.0)
  completes status (SinkFailed is risen reached text e front) can none = absurd (none.1 risen)
  completes status (SinkLacked is stood reached text e front) can none = inr is
  completes status (Lacked is stood text l appends) can none = inr is

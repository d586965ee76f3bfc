-- What each status of a run says.
use Rattle.std.proofs.Common.{◌≡◌, ℕ, inl, inr, List, ◌∷◌, Some, None, refl, subst, sym}
use Rattle.std.specs.Prelude.{IfSome}
use Rattle.std.specs.FinMap.{keys}
use Rattle.std.specs.Io.KnownBytes.{Appends}
use Rattle.disk_model.specs.Disk.{no_files}
use Rattle.trio_lines.specs.Scripts.{IsTrioOf}
use Rattle.played_runs.specs.declared.ending.Status8.{Status8}
use Rattle.played_runs.specs.declared.ending.Status8.TheVariants.{Done, ScriptRefused, Usage, Memory, ReadFault, WriteFault, DiskFault, RootNotEmpty, TooLong, JournalRefused, Inseparable}
use Rattle.played_runs.specs.Counts.{HasRisen, HasStood, RisesBefore, RisesBy}
use Rattle.played_runs.specs.Edges.{before, after, fault_count}
use Rattle.played_runs.specs.Writing.{Ended, Whole, SinkFailed, SinkLacked, Lacked}
use Rattle.script_inputs.proofs.Reading.{no-name, not-too-long, read-all}
use Rattle.trio_runs.specs.Completing.{CanServe, IsServedOrMemory}
use Rattle.trio_runs.specs.Endings.{Lacking, TrioEnds, TrioEndsBy, TrioLacks, TrioRun, Unwritten}

module _ {S K D : Type 0} (run : TrioRun S K D) where
  abbrev pub EndedSo : Status8 → Type 0
  EndedSo status =
      Ended (fault_count run.source) (fault_count run.stage.disk) (TrioEnds run) (TrioLacks run) run.stage.sink status

  -- the text of an end was written, where the sink took all and memory was there
  prints : (status : Status8) → (status ≡ WriteFault → ⊥) → (status ≡ Memory → ⊥) → EndedSo status → (text : List ℕ) × TrioEnds run (Some status) text × Appends (before run.stage.sink) (after run.stage.sink) text
  prints status failed lacked (Whole text e stood appends) = (text, e.0, appends)
  prints status failed lacked (SinkFailed is risen reached text e front) = absurd (failed is)
  prints status failed lacked (SinkLacked is stood reached text e front) = absurd (lacked is)
  prints status failed lacked (Lacked is stood text l appends) = absurd (lacked is)

  -- the counts then
  counts : (status : Status8) → (status ≡ WriteFault → ⊥) → (status ≡ Memory → ⊥) → EndedSo status → RisesBefore (Some status) (fault_count run.source) (fault_count run.stage.disk) × HasStood (fault_count run.stage.sink)
  counts status failed lacked (Whole text e stood appends) = (e.1, stood)
  counts status failed lacked (SinkFailed is risen reached text e front) = absurd (failed is)
  counts status failed lacked (SinkLacked is stood reached text e front) = absurd (lacked is)
  counts status failed lacked (Lacked is stood text l appends) = absurd (lacked is)

  -- **how a run ends, by its status**
  pub ends-by : (status : Status8) → EndedSo status → TrioEndsBy status run
  ends-by Done ended = prints Done (λ e. cc) (λ e. cc) ended
  ends-by ScriptRefused ended = prints ScriptRefused (λ e. cc) (λ e. cc) ended
  ends-by Usage ended = prints Usage (λ e. cc) (λ e. cc) ended
  ends-by ReadFault ended = prints ReadFault (λ e. cc) (λ e. cc) ended
  ends-by DiskFault ended = prints DiskFault (λ e. cc) (λ e. cc) ended
  ends-by RootNotEmpty ended = prints RootNotEmpty (λ e. cc) (λ e. cc) ended
  ends-by TooLong ended = prints TooLong (λ e. cc) (λ e. cc) ended
  ends-by JournalRefused ended = prints JournalRefused (λ e. cc) (λ e. cc) ended
  ends-by Inseparable ended = prints Inseparable (λ e. cc) (λ e. cc) ended
  ends-by WriteFault (Whole text e stood appends) = absurd e.0.2
  ends-by WriteFault (SinkFailed same risen reached text e front) =
      record { reached = reached; text = text; ends = e.0; counts = e.1; written = front }
  ends-by WriteFault (SinkLacked same stood reached text e front) = absurd cc
  ends-by WriteFault (Lacked same stood text l appends) = absurd cc
  ends-by Memory (Whole text e stood appends) = absurd e.0.2
  ends-by Memory (SinkFailed same risen reached text e front) = absurd cc
  ends-by Memory (SinkLacked same stood reached text e front) =
      Unwritten (record { reached = reached; text = text; ends = e.0; counts = e.1; written = front })
  ends-by Memory (Lacked same stood text l appends) = Lacking text l.0 l.1 l.2 appends

  -- **which counts rose, by the status**
  pub rises-by : (status : Status8) → EndedSo status → RisesBy status (fault_count run.source) (fault_count run.stage.sink) (fault_count run.stage.disk)
  rises-by Done ended = counts Done (λ e. cc) (λ e. cc) ended
  rises-by ScriptRefused ended = counts ScriptRefused (λ e. cc) (λ e. cc) ended
  rises-by Usage ended = counts Usage (λ e. cc) (λ e. cc) ended
  rises-by ReadFault ended = counts ReadFault (λ e. cc) (λ e. cc) ended
  rises-by DiskFault ended = counts DiskFault (λ e. cc) (λ e. cc) ended
  rises-by RootNotEmpty ended = counts RootNotEmpty (λ e. cc) (λ e. cc) ended
  rises-by TooLong ended = counts TooLong (λ e. cc) (λ e. cc) ended
  rises-by JournalRefused ended = counts JournalRefused (λ e. cc) (λ e. cc) ended
  rises-by Inseparable ended = counts Inseparable (λ e. cc) (λ e. cc) ended
  rises-by WriteFault (Whole text e stood appends) = absurd e.0.2
  rises-by WriteFault (SinkFailed same risen reached text e front) = ((reached, e.1), risen)
  rises-by WriteFault (SinkLacked same stood reached text e front) = absurd cc
  rises-by WriteFault (Lacked same stood text l appends) = absurd cc
  rises-by Memory (Whole text e stood appends) = absurd e.0.2
  rises-by Memory (SinkFailed same risen reached text e front) = absurd cc
  rises-by Memory (SinkLacked same stood reached text e front) = ((reached, e.1), stood)
  rises-by Memory (Lacked same stood text l appends) = ((None, (l.1, l.2)), stood)

  -- Where nothing fails, and the input is a script.

  served : CanServe (before run.source) (before run.stage.disk) → (HasRisen (fault_count run.source) → ⊥) → (HasRisen (fault_count run.stage.disk) → ⊥) → (status : Status8) (text : List ℕ) → RisesBefore (Some status) (fault_count run.source) (fault_count run.stage.disk) → TrioEnds run (Some status) text → status ≡ Done
  served can reads disk Done text rises end = refl
  served can reads disk ScriptRefused text rises end =
      absurd (end.fails.none can.lines (subst (λ (one : List ℕ). IsTrioOf can.lines one) (sym (read-all run.source can.bytes end.bytes can.told end.read)) can.script))
  served can reads disk ReadFault text rises end = absurd (reads rises.0)
  served can reads disk DiskFault text rises end = absurd (disk rises.1)
  served can reads disk RootNotEmpty text rises end =
      let holds = end.2 in
      let found : (others : List (List ℕ)) × (keys no_files ≡ holds.name ∷ others) = subst (λ o. IfSome o (λ f. (others : List (List ℕ)) × (keys f ≡ holds.name ∷ others))) can.empty holds.least in
      absurd (no-name holds.name found.0 found.1)
  served can reads disk TooLong text rises end = absurd (not-too-long run.source can.bytes text can.told can.short end.1)
  served can reads disk Usage text rises end = absurd end.2
  served can reads disk Memory text rises end = absurd end.2
  served can reads disk WriteFault text rises end = absurd end.2
  served can reads disk JournalRefused text rises end = absurd end.2
  served can reads disk Inseparable text rises end = absurd end.2

  -- **only memory may be missing**
  pub completes : (status : Status8) → EndedSo status → CanServe (before run.source) (before run.stage.disk) → (HasRisen (fault_count run.source) → ⊥) → (HasRisen (fault_count run.stage.sink) → ⊥) → (HasRisen (fault_count run.stage.disk) → ⊥) → IsServedOrMemory status
  completes status (Whole text e stood appends) can reads sink disk = inl (served can reads disk status text e.1 e.0)
  completes status (SinkFailed is risen reached text e front) can reads sink disk = absurd (sink risen)
  completes status (SinkLacked is stood reached text e front) can reads sink disk = inr is
  completes status (Lacked is stood text l appends) can reads sink disk = inr is

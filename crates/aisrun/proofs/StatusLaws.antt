-- What each status of a run says.
use Rattle.std.proofs.Common.{◌≡◌, Some, None}
use Rattle.played_runs.specs.declared.ending.Status8.{Status8}
use Rattle.played_runs.specs.declared.ending.Status8.TheVariants.{Done, ScriptRefused, Usage, Memory, ReadFault, WriteFault, DiskFault, RootNotEmpty, TooLong, JournalRefused, Inseparable}
use Rattle.played_runs.specs.Counts.{HasStood, RisesBefore, RisesBy}
use Rattle.played_runs.specs.Edges.{fault_count}
use Rattle.played_runs.specs.Writing.{Ended, Whole, SinkFailed, SinkLacked, Lacked}
use Rattle.aisrun.specs.Edges.{Around}
use Rattle.aisrun.specs.Endings.{Ends, EndsBy, Prints, Unwritten, Lacking}
use Rattle.aisrun.specs.RunSteps.{WordsLack}

module _ {S K D : Type 0} (run : Around S K D) where
  abbrev EndedBy : Status8 → Type 0
  EndedBy status =
      Ended (fault_count run.source) (fault_count run.stage.disk) (Ends run) (WordsLack run) run.stage.sink status

  -- the text of an end was written, where the sink took all and memory was there
  prints : (status : Status8) → (status ≡ WriteFault → ⊥) → (status ≡ Memory → ⊥) → EndedBy status → Prints run.stage.sink (Ends run (Some status))
  prints status failed lacked (Whole text e stood appends) = (text, e.0, appends)
  prints status failed lacked (SinkFailed is risen reached text e front) = absurd (failed is)
  prints status failed lacked (SinkLacked is stood reached text e front) = absurd (lacked is)
  prints status failed lacked (Lacked is stood text l appends) = absurd (lacked is)

  -- how a run ends, by its status
  pub ends-by : (status : Status8) → EndedBy status → EndsBy status run
  ends-by Done ended = prints Done (λ e. cc) (λ e. cc) ended
  ends-by ScriptRefused ended = prints ScriptRefused (λ e. cc) (λ e. cc) ended
  ends-by Usage ended = prints Usage (λ e. cc) (λ e. cc) ended
  ends-by ReadFault ended = prints ReadFault (λ e. cc) (λ e. cc) ended
  ends-by DiskFault ended = prints DiskFault (λ e. cc) (λ e. cc) ended
  ends-by RootNotEmpty ended = prints RootNotEmpty (λ e. cc) (λ e. cc) ended
  ends-by TooLong ended = prints TooLong (λ e. cc) (λ e. cc) ended
  ends-by JournalRefused ended = prints JournalRefused (λ e. cc) (λ e. cc) ended
  ends-by Inseparable ended = prints Inseparable (λ e. cc) (λ e. cc) ended
  ends-by WriteFault (Whole text e stood appends) = absurd e.0
  ends-by WriteFault (SinkFailed same risen reached text e front) =
      record { reached = reached; text = text; ends = e.0; counts = e.1; written = front }
  ends-by WriteFault (SinkLacked same stood reached text e front) = absurd cc
  ends-by WriteFault (Lacked same stood text l appends) = absurd cc
  ends-by Memory (Whole text e stood appends) = absurd e.0
  ends-by Memory (SinkFailed same risen reached text e front) = absurd cc
  ends-by Memory (SinkLacked same stood reached text e front) =
      Unwritten (record { reached = reached; text = text; ends = e.0; counts = e.1; written = front })
  ends-by Memory (Lacked same stood text l appends) = Lacking text l.0 l.1 l.2 appends

  -- the counts where the text of an end was written
  counts : (status : Status8) → (status ≡ WriteFault → ⊥) → (status ≡ Memory → ⊥) → EndedBy status → RisesBefore (Some status) (fault_count run.source) (fault_count run.stage.disk) × HasStood (fault_count run.stage.sink)
  counts status failed lacked (Whole text e stood appends) = (e.1, stood)
  counts status failed lacked (SinkFailed is risen reached text e front) = absurd (failed is)
  counts status failed lacked (SinkLacked is stood reached text e front) = absurd (lacked is)
  counts status failed lacked (Lacked is stood text l appends) = absurd (lacked is)

  -- which counts rose, by the status
  pub rises-by : (status : Status8) → EndedBy status → RisesBy status (fault_count run.source) (fault_count run.stage.sink) (fault_count run.stage.disk)
  rises-by Done ended = counts Done (λ e. cc) (λ e. cc) ended
  rises-by ScriptRefused ended = counts ScriptRefused (λ e. cc) (λ e. cc) ended
  rises-by Usage ended = counts Usage (λ e. cc) (λ e. cc) ended
  rises-by ReadFault ended = counts ReadFault (λ e. cc) (λ e. cc) ended
  rises-by DiskFault ended = counts DiskFault (λ e. cc) (λ e. cc) ended
  rises-by RootNotEmpty ended = counts RootNotEmpty (λ e. cc) (λ e. cc) ended
  rises-by TooLong ended = counts TooLong (λ e. cc) (λ e. cc) ended
  rises-by JournalRefused ended = counts JournalRefused (λ e. cc) (λ e. cc) ended
  rises-by Inseparable ended = counts Inseparable (λ e. cc) (λ e. cc) ended
  rises-by WriteFault (Whole text e stood appends) = absurd e.0
  rises-by WriteFault (SinkFailed same risen reached text e front) = ((reached, e.1), risen)
  rises-by WriteFault (SinkLacked same stood reached text e front) = absurd cc
  rises-by WriteFault (Lacked same stood text l appends) = absurd cc
  rises-by Memory (Whole text e stood appends) = absurd e.0
  rises-by Memory (SinkFailed same risen reached text e front) = absurd cc
  rises-by Memory (SinkLacked same stood reached text e front) = ((reached, e.1), stood)
  rises-by Memory (Lacked same stood text l appends) = ((None, (l.1, l.2)), stood)

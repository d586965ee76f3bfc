-- The command `gen`: its end is one of a run, and it comes where nothing fails.
use Rattle.std.proofs.Common.{◌≡◌, ℕ, inl, inr, List, Some, None, refl, sym, ◌∙◌}
use Rattle.ais_values.specs.declared.kind.StreamKind.{StreamKind}
use Rattle.load_script.specs.Texts.{load_text}
use Rattle.played_runs.specs.Counts.{HasRisen}
use Rattle.played_runs.specs.Edges.{fault_count, IsUntouched, LeavesAll}
use Rattle.played_runs.specs.Writing.{Counting, Ended, IsNever, IsText, Standing, Written}
use Rattle.played_runs.proofs.CountSteps.{untouched-on, untouched-stood}
use Rattle.played_runs.proofs.EndingSteps.{text-written}
use Rattle.aisrun.specs.Edges.{Around}
use Rattle.commands.specs.declared.command.Command.{Command}
use Rattle.commands.specs.declared.command.Command.TheVariants.{Run, Check, Expr, Gen, Scan}
use Rattle.played_runs.specs.declared.ending.Status8.{Status8}
use Rattle.played_runs.specs.declared.ending.Status8.TheVariants.{Done, ScriptRefused, Usage, Memory, ReadFault, WriteFault, DiskFault, RootNotEmpty, TooLong, JournalRefused, Inseparable}
use Rattle.commands.specs.Commands.{command_of}
use Rattle.aisrun.specs.Completing.{CanGenerate, IsDoneOrMemory}
use Rattle.aisrun.specs.Endings.{Ends, Generated, NoExpression, NoScript, Reads, ReadsSource}
use Rattle.aisrun.specs.RunSteps.{WordsLack}
use Rattle.aisrun.specs.Scanning.{TakesText}
use Rattle.aisrun.proofs.CompletenessLaws.{asked, not-failed, not-played, well}

module _ {S K D : Type 0} (run : Around S K D) (count seed : ℕ) (words : command_of run.words ≡ Some (Gen count seed)) where
  pub gen-run : LeavesAll run.stage → IsUntouched run.source → (status : Status8) → Written (IsText Done (load_text count seed)) IsNever run.stage.sink status → Ended (fault_count run.source) (fault_count run.stage.disk) (Ends run) (WordsLack run) run.stage.sink status
  gen-run all source status written =
      text-written (Counting (fault_count run.source) (fault_count run.stage.disk) (Ends run)) (Standing (fault_count run.source) (fault_count run.stage.disk) (WordsLack run)) Done (load_text count seed) run.stage.sink status (Generated count seed words all source refl, (untouched-stood run.source source, untouched-on run.stage.disk all.disk)) written

  another : (other : Command) → command_of run.words ≡ Some other → Gen count seed ≡ other
  another other is = asked run (Gen count seed) other words is

  not-scripts : Reads run.words → ⊥
  not-scripts (inl runs) = let no : Gen count seed ≡ Run = another Run runs in cc
  not-scripts (inr checks) = let no : Gen count seed ≡ Check = another Check checks in cc

  not-source : ReadsSource run.words → ⊥
  not-source (inl reads) = not-scripts reads
  not-source (inr can) = let no : Gen count seed ≡ Scan can.query = another (Scan can.query) can.asked in cc

  not-text : (kind : StreamKind) → TakesText run.words kind → ⊥
  not-text kind (inl exprs) = let no : Gen count seed ≡ Expr kind = another (Expr kind) exprs in cc
  not-text kind (inr scans) = let no : Gen count seed ≡ Scan scans.0 = another (Scan scans.0) scans.1 in cc

  -- the only end at which neither memory nor the sink fails
  generated : (status : Status8) (text : List ℕ) → Ends run (Some status) text → status ≡ Done
  generated Done text end = refl
  generated ScriptRefused text (NoScript asks all taken read fails) = absurd (not-scripts asks)
  generated ScriptRefused text (NoExpression kind asks all source fails) = absurd (not-text kind asks)
  generated Usage text end =
      let no : None ≡ Some (Gen count seed) = sym end.unknown ∙ words in
      absurd cc
  generated Memory text end = absurd end
  generated ReadFault text end = absurd (not-source end.words)
  generated WriteFault text end = absurd end
  generated DiskFault text end = absurd (not-failed run (Gen count seed) words (λ e. cc) (λ n from e. cc) text end)
  generated RootNotEmpty text end = absurd (not-played run (Gen count seed) words (λ e. cc) (λ n from e. cc) end.0 end.1)
  generated TooLong text end = absurd (not-source end.words)
  generated JournalRefused text end = absurd end
  generated Inseparable text end =
      let no : Gen count seed ≡ Scan end.cannot.query = another (Scan end.cannot.query) end.cannot.asked in
      absurd cc

pub generates : {S K D : Type 0} (run : Around S K D) (status : Status8) → Ended (fault_count run.source) (fault_count run.stage.disk) (Ends run) (WordsLack run) run.stage.sink status → CanGenerate run.words → (HasRisen (fault_count run.stage.sink) → ⊥) → IsDoneOrMemory status
generates run status ended can sink =
    well run status sink (λ text rises end. generated run can.count can.seed can.asked status text end) ended

-- The command `load` comes to its end where nothing fails.
use Rattle.std.proofs.Common.{◌≡◌, ℕ, inl, inr, List, ◌∷◌, Some, None, refl, sym, ◌∙◌, subst}
use Rattle.std.specs.Prelude.{IfSome}
use Rattle.std.specs.FinMap.{keys}
use Rattle.ais_values.specs.declared.kind.StreamKind.{StreamKind}
use Rattle.disk_model.specs.Disk.{no_files}
use Rattle.played_runs.specs.Counts.{HasRisen, RisesBefore}
use Rattle.played_runs.specs.Edges.{before, fault_count}
use Rattle.played_runs.specs.Writing.{Ended}
use Rattle.aisrun.specs.Edges.{Around}
use Rattle.commands.specs.declared.command.Command.{Command}
use Rattle.commands.specs.declared.command.Command.TheVariants.{Run, Check, Expr, Load, Scan}
use Rattle.played_runs.specs.declared.ending.Status8.{Status8}
use Rattle.played_runs.specs.declared.ending.Status8.TheVariants.{Done, ScriptRefused, Usage, Memory, ReadFault, WriteFault, DiskFault, RootNotEmpty, TooLong, JournalRefused, Inseparable}
use Rattle.commands.specs.Commands.{command_of}
use Rattle.aisrun.specs.Completing.{CanLoad, IsDoneOrMemory}
use Rattle.aisrun.specs.Endings.{Ends, NoExpression, NoScript, Reads, ReadsSource}
use Rattle.aisrun.specs.RunSteps.{WordsLack}
use Rattle.aisrun.specs.Scanning.{TakesText}
use Rattle.script_inputs.proofs.Reading.{no-name}
use Rattle.aisrun.proofs.CompletenessLaws.{asked, well}

module _ {S K D : Type 0} (run : Around S K D) (count seed : ℕ) (words : command_of run.words ≡ Some (Load count seed)) where
  another : (other : Command) → command_of run.words ≡ Some other → Load count seed ≡ other
  another other is = asked run (Load count seed) other words is

  not-scripts : Reads run.words → ⊥
  not-scripts (inl runs) = let no : Load count seed ≡ Run = another Run runs in cc
  not-scripts (inr checks) = let no : Load count seed ≡ Check = another Check checks in cc

  not-source : ReadsSource run.words → ⊥
  not-source (inl reads) = not-scripts reads
  not-source (inr can) = let no : Load count seed ≡ Scan can.query = another (Scan can.query) can.asked in cc

  not-text : (kind : StreamKind) → TakesText run.words kind → ⊥
  not-text kind (inl exprs) = let no : Load count seed ≡ Expr kind = another (Expr kind) exprs in cc
  not-text kind (inr scans) = let no : Load count seed ≡ Scan scans.0 = another (Scan scans.0) scans.1 in cc

  -- the only end at which neither memory, the sink nor the disk fails
  loaded : before run.stage.disk ≡ Some no_files → (HasRisen (fault_count run.stage.disk) → ⊥) → (status : Status8) (text : List ℕ) → RisesBefore (Some status) (fault_count run.source) (fault_count run.stage.disk) → Ends run (Some status) text → status ≡ Done
  loaded empty disk Done text rises end = refl
  loaded empty disk ScriptRefused text rises (NoScript asks all taken read fails) = absurd (not-scripts asks)
  loaded empty disk ScriptRefused text rises (NoExpression kind asks all source fails) = absurd (not-text kind asks)
  loaded empty disk Usage text rises end =
      let no : None ≡ Some (Load count seed) = sym end.unknown ∙ words in
      absurd cc
  loaded empty disk Memory text rises end = absurd end
  loaded empty disk ReadFault text rises end = absurd (not-source end.words)
  loaded empty disk WriteFault text rises end = absurd end
  loaded empty disk DiskFault text rises end = absurd (disk rises.1)
  loaded empty disk RootNotEmpty text rises end =
      let holds = end.2 in
      let found : (others : List (List ℕ)) × (keys no_files ≡ holds.name ∷ others) = subst (λ o. IfSome o (λ f. (others : List (List ℕ)) × (keys f ≡ holds.name ∷ others))) empty holds.least in
      absurd (no-name holds.name found.0 found.1)
  loaded empty disk TooLong text rises end = absurd (not-source end.words)
  loaded empty disk JournalRefused text rises end = absurd end
  loaded empty disk Inseparable text rises end =
      let no : Load count seed ≡ Scan end.cannot.query = another (Scan end.cannot.query) end.cannot.asked in
      absurd cc

pub loads : {S K D : Type 0} (run : Around S K D) (status : Status8) → Ended (fault_count run.source) (fault_count run.stage.disk) (Ends run) (WordsLack run) run.stage.sink status → CanLoad run.words (before run.stage.disk) → (HasRisen (fault_count run.stage.sink) → ⊥) → (HasRisen (fault_count run.stage.disk) → ⊥) → IsDoneOrMemory status
loads run status ended can sink disk =
    well run status sink (λ text rises end. loaded run can.count can.seed can.asked can.empty disk status text rises end) ended

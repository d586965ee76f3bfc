-- Words of bodies alone: what the parts of a run give.
use Rattle.std.specs.Prelude.{◌≡◌, ◌⊎◌, ℕ, List, [], Some}
use Rattle.script_lines.specs.declared.answer.ScriptWhy.{ScriptWhy}
use Rattle.script_lines.specs.declared.line.Line.{Line}
use Rattle.script_language.specs.Scripts.{IsBadAt, IsScriptOf}
use Rattle.played_runs.specs.Counts.{HasStood}
use Rattle.played_runs.specs.Edges.{fault_count}
use Rattle.played_runs.specs.Writing.{Reaching, Written}
use Rattle.played_runs.specs.declared.ending.Status8.{Status8}
use Rattle.played_runs.specs.declared.ending.Status8.TheVariants.{ScriptRefused}
use Rattle.script_inputs.specs.Inputs.{bad_line}
use Rattle.cold_runs.specs.Ends.{ColdEnds, ColdLacks}
use Rattle.cold_runs.specs.Stages.{BothGoneOn, ColdStage, LeavesBoth}
use Rattle.cold_runs.specs.Endings.{ColdRun, ColdRunEnds, ColdRunLacks, RisesBefore}

-- the bytes are no script
pub record FailsCold (bytes text : List ℕ) : Type 0 where
  pub number : ℕ
  pub reason : ScriptWhy
  pub bad : IsBadAt bytes number reason
  pub none : (lines : List Line) → IsScriptOf lines bytes → ⊥
  pub printed : text ≡ bad_line number reason

-- how the bytes of an input end on a stage
abbrev pub BytesEnd : {K : Type 0} → List ℕ → ColdStage K → Reaching
BytesEnd bytes stage (Some ScriptRefused) text = LeavesBoth stage × FailsCold bytes text
BytesEnd bytes stage reached text = (lines : List Line) × IsScriptOf lines bytes × ColdEnds lines stage.scene reached text

-- memory was wanting before the lines were known, or as they were played
abbrev pub BytesLack : {K : Type 0} → List ℕ → ColdStage K → List ℕ → Type 0
BytesLack bytes stage text =
    ((text ≡ []) × LeavesBoth stage) ⊎ ((lines : List Line) × IsScriptOf lines bytes × ColdLacks lines stage.scene text)

-- how a run ends, and the counts as by that end; or memory was wanting, and no count fell
abbrev pub EndedSo : {S K : Type 0} → ColdRun S K → Status8 → Type 0
EndedSo run status =
    Written (λ reached text. ColdRunEnds run reached text × RisesBefore reached run)
    (λ text. ColdRunLacks run text × HasStood (fault_count run.source) × BothGoneOn run.stage.scene) run.stage.sink status

-- Words of public clauses: what a script that is read is to a run.
use Rattle.std.specs.Prelude.{◌≡◌, ℕ, ◌⊎◌, List, [], Some}
use Rattle.script_lines.specs.declared.line.Line.{Line}
use Rattle.script_language.specs.Scripts.{IsScriptOf}
use Rattle.played_runs.specs.declared.ending.Status8.TheVariants.{ReadFault, ScriptRefused, TooLong}
use Rattle.played_runs.specs.Edges.{Edge, LeavesAll, Stage}
use Rattle.played_runs.specs.Ends.{PlayEnds, PlayLacks}
use Rattle.played_runs.specs.Games.{Game}
use Rattle.played_runs.specs.Writing.{Reaching}
use Rattle.script_inputs.specs.Inputs.{ReadsWhole, SourceFailed, InputTooLong}
use Rattle.script_runs.specs.Reading.{ScriptFails}

module _ {P G W : Type 0} (game : Game P Line G W) where
  -- how the bytes of an input end on a stage
  abbrev pub BytesEnd : {K D : Type 0} → List ℕ → Stage W K D → Reaching
  BytesEnd bytes scene (Some ScriptRefused) text = LeavesAll scene × ScriptFails bytes text
  BytesEnd bytes scene reached text = (lines : List Line) × IsScriptOf lines bytes × PlayEnds game lines scene reached text

  -- memory was wanting before the lines were known, or as they were played
  abbrev pub BytesLack : {K D : Type 0} → List ℕ → Stage W K D → List ℕ → Type 0
  BytesLack bytes scene text =
      ((text ≡ []) × LeavesAll scene) ⊎ ((lines : List Line) × IsScriptOf lines bytes × PlayLacks game lines scene text)

  -- how the reading and playing of a script ends
  abbrev pub InputEnds : {S K D : Type 0} → Edge S (List ℕ) → Stage W K D → Reaching
  InputEnds source scene (Some ReadFault) text = LeavesAll scene × SourceFailed source text
  InputEnds source scene (Some TooLong) text = LeavesAll scene × InputTooLong source text
  InputEnds source scene reached text = (bytes : List ℕ) × ReadsWhole source bytes × BytesEnd bytes scene reached text

  -- memory was wanting before the input was read, or behind that
  abbrev pub InputLacks : {S K D : Type 0} → Edge S (List ℕ) → Stage W K D → List ℕ → Type 0
  InputLacks source scene text =
      ((text ≡ []) × LeavesAll scene) ⊎ ((bytes : List ℕ) × ReadsWhole source bytes × BytesLack bytes scene text)

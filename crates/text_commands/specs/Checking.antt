-- Words of public clauses: how the checking of a script and of an expression ends, but for the writing of the text.
use Rattle.std.specs.Prelude.{◌≡◌, ℕ, List, Some}
use Rattle.ais_values.specs.declared.kind.StreamKind.{StreamKind}
use Rattle.played_runs.specs.declared.ending.Status8.{Status8}
use Rattle.played_runs.specs.declared.ending.Status8.TheVariants.{Done, ScriptRefused, ReadFault, TooLong}
use Rattle.played_runs.specs.Edges.{Edge}
use Rattle.played_runs.specs.Writing.{Reaching}
use Rattle.script_inputs.specs.Inputs.{InputTooLong, ReadsWhole, SourceFailed}
use Rattle.script_runs.specs.Reading.{ScriptFails}
use Rattle.text_commands.specs.Texts.{ScriptPasses, TextPasses, TextFails}

-- how the bytes of an input are judged
pub data Judged (bytes : List ℕ) (status : Status8) (text : List ℕ) : Type 0 where
  IsScript : status ≡ Done → ScriptPasses bytes text → Judged bytes status text
  IsNoScript : status ≡ ScriptRefused → ScriptFails bytes text → Judged bytes status text

-- how the checking of a script ends: the input was read to its end and judged, or it was not read to its end
abbrev pub CheckEnds : {S : Type 0} → Edge S (List ℕ) → Reaching
CheckEnds source (Some Done) text = (bytes : List ℕ) × ReadsWhole source bytes × ScriptPasses bytes text
CheckEnds source (Some ScriptRefused) text = (bytes : List ℕ) × ReadsWhole source bytes × ScriptFails bytes text
CheckEnds source (Some ReadFault) text = SourceFailed source text
CheckEnds source (Some TooLong) text = InputTooLong source text
CheckEnds source _ text = ⊥

-- how the checking of an expression ends
pub data ExprEnds (kind : StreamKind) (text : List ℕ) (status : Status8) (printed : List ℕ) : Type 0 where
  IsExpression : status ≡ Done → TextPasses kind text printed → ExprEnds kind text status printed
  IsNoExpression : status ≡ ScriptRefused → TextFails kind text printed → ExprEnds kind text status printed

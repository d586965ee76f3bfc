-- Words of public clauses: how a source is read as a script.
use Rattle.std.specs.Prelude.{◌≡◌, ℕ, List}
use Rattle.script_lines.specs.declared.line.Line.{Line}
use Rattle.script_lines.specs.declared.answer.ScriptWhy.{ScriptWhy}
use Rattle.script_language.specs.Scripts.{IsScriptOf, IsBadAt}
use Rattle.played_runs.specs.Edges.{Edge}
use Rattle.script_inputs.specs.Inputs.{ReadsWhole, bad_line}

-- the source was read to its end, and its bytes are the script of these lines
pub record ReadsScript {S : Type 0} (source : Edge S (List ℕ)) (lines : List Line) : Type 0 where
  pub bytes : List ℕ
  pub read : ReadsWhole source bytes
  pub script : IsScriptOf lines bytes

-- the least bad line is told, with its first reason
pub record ScriptFails (bytes text : List ℕ) : Type 0 where
  pub number : ℕ
  pub reason : ScriptWhy
  pub bad : IsBadAt bytes number reason
  pub none : (lines : List Line) → IsScriptOf lines bytes → ⊥
  pub printed : text ≡ bad_line number reason

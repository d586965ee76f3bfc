-- Words of public clauses: what a script's reader answers.
use Rattle.std.specs.Prelude.{◌≡◌, ℕ, List, length}
use Rattle.script_lines.specs.declared.line.Line.{Line}
use Rattle.script_lines.specs.declared.answer.ScriptAnswer.{ScriptAnswer}
use Rattle.script_lines.specs.declared.answer.ScriptAnswer.TheVariants.{Memory, Bad}
use Rattle.script_language.specs.Scripts.{IsScriptOf, IsBadAt}

-- a line that is told to be bad is the least bad line of the bytes, with its first reason
abbrev pub Tells : ScriptAnswer → List ℕ → Type 0
Tells Memory bytes = Unit {0}
Tells (Bad number reason) bytes = IsBadAt bytes number reason

-- the bytes are a script of so many lines, skipped ones not counted
pub record CountsScript (bytes : List ℕ) (count : ℕ) : Type 0 where
  pub lines : List Line
  pub spelled : IsScriptOf lines bytes
  pub count_is : count ≡ length lines

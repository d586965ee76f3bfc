-- Words of public clauses: what the reader of scripts for three servers answers.
use Rattle.std.specs.Prelude.{ℕ, List, Result, Ok, Err}
use Rattle.script_lines.specs.declared.answer.ScriptAnswer.{ScriptAnswer}
use Rattle.script_lines.specs.declared.answer.ScriptAnswer.TheVariants.{Memory, Bad}
use Rattle.trio_lines.specs.declared.line.TrioLine.{TrioLine}
use Rattle.trio_lines.specs.Scripts.{IsTrioOf, IsBadTrioAt}

-- a line that is told to be bad is the least bad line of the bytes
abbrev pub TellsTrio : ScriptAnswer → List ℕ → Type 0
TellsTrio Memory bytes = Unit {0}
TellsTrio (Bad number reason) bytes = IsBadTrioAt bytes number reason

-- the lines that the bytes spell, or what is bad, unless memory ran out
abbrev pub JudgesTrio : Result (List TrioLine) ScriptAnswer → List ℕ → Type 0
JudgesTrio (Ok lines) bytes = IsTrioOf lines bytes
JudgesTrio (Err answer) bytes = TellsTrio answer bytes

-- Ends of parts are ends of the whole.
use Rattle.std.proofs.Common.{ℕ, List, Option, Some, None}
use Rattle.script_lines.specs.declared.line.Line.{Line}
use Rattle.script_language.specs.Scripts.{IsScriptOf}
use Rattle.played_runs.specs.declared.ending.Status8.{Status8}
use Rattle.played_runs.specs.declared.ending.Status8.TheVariants.{Done, ScriptRefused, Usage, Memory, ReadFault, WriteFault, DiskFault, RootNotEmpty, TooLong, JournalRefused, Inseparable}
use Rattle.played_runs.specs.Edges.{Edge, Stage}
use Rattle.played_runs.specs.Ends.{PlayEnds}
use Rattle.played_runs.specs.Games.{Game}
use Rattle.script_inputs.specs.Inputs.{ReadsWhole}
use Rattle.script_runs.specs.Scripting.{BytesEnd, InputEnds}

module _ {P G W : Type 0} (game : Game P Line G W) where
  pub play-bytes : {K D : Type 0} (scene : Stage W K D) (bytes : List ℕ) (lines : List Line) → IsScriptOf lines bytes → (reached : Option Status8) (text : List ℕ) → PlayEnds game lines scene reached text → (BytesEnd game) bytes scene reached text
  play-bytes scene bytes lines script None text ends = (lines, script, ends)
  play-bytes scene bytes lines script (Some Done) text ends = (lines, script, ends)
  play-bytes scene bytes lines script (Some DiskFault) text ends = (lines, script, ends)
  play-bytes scene bytes lines script (Some RootNotEmpty) text ends = (lines, script, ends)
  play-bytes scene bytes lines script (Some ScriptRefused) text ends = absurd ends
  play-bytes scene bytes lines script (Some Usage) text ends = absurd ends
  play-bytes scene bytes lines script (Some Memory) text ends = absurd ends
  play-bytes scene bytes lines script (Some ReadFault) text ends = absurd ends
  play-bytes scene bytes lines script (Some WriteFault) text ends = absurd ends
  play-bytes scene bytes lines script (Some TooLong) text ends = absurd ends
  play-bytes scene bytes lines script (Some JournalRefused) text ends = absurd ends
  play-bytes scene bytes lines script (Some Inseparable) text ends = absurd ends

  pub bytes-input : {S K D : Type 0} (source : Edge S (List ℕ)) (scene : Stage W K D) (bytes : List ℕ) → ReadsWhole source bytes → (reached : Option Status8) (text : List ℕ) → (BytesEnd game) bytes scene reached text → (InputEnds game) source scene reached text
  bytes-input source scene bytes read None text ends = (bytes, read, ends)
  bytes-input source scene bytes read (Some Done) text ends = (bytes, read, ends)
  bytes-input source scene bytes read (Some DiskFault) text ends = (bytes, read, ends)
  bytes-input source scene bytes read (Some RootNotEmpty) text ends = (bytes, read, ends)
  bytes-input source scene bytes read (Some ScriptRefused) text ends = (bytes, read, ends)
  bytes-input source scene bytes read (Some Usage) text ends = absurd ends.2
  bytes-input source scene bytes read (Some Memory) text ends = absurd ends.2
  bytes-input source scene bytes read (Some ReadFault) text ends = absurd ends.2
  bytes-input source scene bytes read (Some WriteFault) text ends = absurd ends.2
  bytes-input source scene bytes read (Some TooLong) text ends = absurd ends.2
  bytes-input source scene bytes read (Some JournalRefused) text ends = absurd ends.2
  bytes-input source scene bytes read (Some Inseparable) text ends = absurd ends.2

-- Ends of parts are ends of the whole.
use Rattle.std.proofs.Common.{ℕ, inl, inr, List, Option, Some, None}
use Rattle.trio_lines.specs.declared.line.TrioLine.{TrioLine}
use Rattle.trio_lines.specs.Scripts.{IsTrioOf}
use Rattle.played_runs.specs.declared.ending.Status8.{Status8}
use Rattle.played_runs.specs.declared.ending.Status8.TheVariants.{Done, ScriptRefused, Usage, Memory, ReadFault, WriteFault, DiskFault, RootNotEmpty, TooLong, JournalRefused, Inseparable}
use Rattle.played_runs.specs.Edges.{Edge, Stage}
use Rattle.played_runs.specs.Ends.{PlayEnds}
use Rattle.script_inputs.specs.Inputs.{ReadsWhole}
use Rattle.spare_server.specs.declared.world.TrioWorld.{TrioWorld}
use Rattle.spare_server.specs.Game.{trio_game}
use Rattle.trio_runs.specs.Endings.{TrioEnds, TrioLacks, TrioRun, Unplayed}
use Rattle.trio_runs.specs.Endings.TrioLacks.{Unread as Unknown}
use Rattle.trio_runs.specs.CommandSteps.{BytesEnd, BytesLack, InputEnds, InputLacks}

pub play-bytes : {K D : Type 0} (scene : Stage TrioWorld K D) (bytes : List ℕ) (lines : List TrioLine) → IsTrioOf lines bytes → (reached : Option Status8) (text : List ℕ) → PlayEnds trio_game lines scene reached text → BytesEnd bytes scene reached text
play-bytes scene bytes lines script None text ends = (lines, script, ends)
play-bytes scene bytes lines script (Some Done) text ends = (lines, script, ends)
play-bytes scene bytes lines script (Some DiskFault) text ends = (lines, script, ends)
play-bytes scene bytes lines script (Some RootNotEmpty) text ends = (lines, script, ends)
play-bytes scene bytes lines script (Some ScriptRefused) text ends = absurd ends
play-bytes scene bytes lines script (Some Usage) text ends = absurd ends
play-bytes scene bytes lines script (Some Memory) text ends = absurd ends
play-bytes scene bytes lines script (Some ReadFault) text ends = absurd ends
play-bytes scene bytes lines script (Some WriteFault) text ends = absurd ends
play-bytes scene bytes lines script (Some TooLong) text ends = absurd ends
play-bytes scene bytes lines script (Some JournalRefused) text ends = absurd ends
play-bytes scene bytes lines script (Some Inseparable) text ends = absurd ends

pub bytes-input : {S K D : Type 0} (source : Edge S (List ℕ)) (scene : Stage TrioWorld K D) (bytes : List ℕ) → ReadsWhole source bytes → (reached : Option Status8) (text : List ℕ) → BytesEnd bytes scene reached text → InputEnds source scene reached text
bytes-input source scene bytes read None text ends = (bytes, read, ends)
bytes-input source scene bytes read (Some Done) text ends = (bytes, read, ends)
bytes-input source scene bytes read (Some DiskFault) text ends = (bytes, read, ends)
bytes-input source scene bytes read (Some RootNotEmpty) text ends = (bytes, read, ends)
bytes-input source scene bytes read (Some ScriptRefused) text ends = (bytes, read, ends)
bytes-input source scene bytes read (Some Usage) text ends = absurd ends.2
bytes-input source scene bytes read (Some Memory) text ends = absurd ends.2
bytes-input source scene bytes read (Some ReadFault) text ends = absurd ends.2
bytes-input source scene bytes read (Some WriteFault) text ends = absurd ends.2
bytes-input source scene bytes read (Some TooLong) text ends = absurd ends.2
bytes-input source scene bytes read (Some JournalRefused) text ends = absurd ends.2
bytes-input source scene bytes read (Some Inseparable) text ends = absurd ends.2

module _ {S K D : Type 0} (run : TrioRun S K D) where
  pub input-ends : (reached : Option Status8) (text : List ℕ) → InputEnds run.source run.stage reached text → TrioEnds run reached text
  input-ends None text ends = (ends.2.0, record { bytes = ends.0; read = ends.1; script = ends.2.1 }, ends.2.2)
  input-ends (Some Done) text ends = (ends.2.0, record { bytes = ends.0; read = ends.1; script = ends.2.1 }, ends.2.2)
  input-ends (Some DiskFault) text ends = (ends.2.0, record { bytes = ends.0; read = ends.1; script = ends.2.1 }, ends.2.2)
  input-ends (Some RootNotEmpty) text ends = (ends.2.0, record { bytes = ends.0; read = ends.1; script = ends.2.1 }, ends.2.2)
  input-ends (Some ScriptRefused) text ends = record { all = ends.2.0; bytes = ends.0; read = ends.1; fails = ends.2.1 }
  input-ends (Some ReadFault) text ends = ends
  input-ends (Some TooLong) text ends = ends
  input-ends (Some Usage) text ends = absurd ends.2.2
  input-ends (Some Memory) text ends = absurd ends.2.2
  input-ends (Some WriteFault) text ends = absurd ends.2.2
  input-ends (Some JournalRefused) text ends = absurd ends.2.2
  input-ends (Some Inseparable) text ends = absurd ends.2.2

  bytes-lacks : (text bytes : List ℕ) → ReadsWhole run.source bytes → BytesLack bytes run.stage text → TrioLacks run text
  bytes-lacks text bytes read (inl early) = Unknown early.0 early.1
  bytes-lacks text bytes read (inr later) = Unplayed later.0 (record { bytes = bytes; read = read; script = later.1 }) later.2

  pub input-lacks : (text : List ℕ) → InputLacks run.source run.stage text → TrioLacks run text
  input-lacks text (inl early) = Unknown early.0 early.1
  input-lacks text (inr later) = bytes-lacks text later.0 later.1 later.2

-- Words of bodies alone: reading of the line at the front of some bytes.
use Rattle.std.specs.Prelude.{ℕ, Option, List}
use Rattle.script_lines.specs.declared.line.Line.{Line}
use Rattle.script_grammar.specs.Reading.{one_of}
use Rattle.script_language.specs.LineReading.{line_readers}

-- the line at the front, with the bytes that follow it
unfoldable pub front_at : List ℕ → Option (Line × List ℕ)
front_at = one_of line_readers

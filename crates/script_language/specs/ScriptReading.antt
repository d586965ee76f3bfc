-- Words of bodies alone: reading of whole scripts on lists of bytes.
use Rattle.std.specs.Prelude.{ℕ, ◌+◌, Bool, true, ◌==◌, ℤ, Option, Some, None, Result, Ok, Err, List, [], ◌∷◌, ◌++◌, if◌then◌else◌}
use Rattle.std.specs.Option.{option_map_or}
use Rattle.script_lines.specs.declared.line.Line.{Line}
use Rattle.script_lines.specs.declared.answer.ScriptWhy.{ScriptWhy}
use Rattle.script_lines.specs.declared.answer.ScriptWhy.TheVariants as why
use Rattle.script_grammar.specs.Reading.{one_of, whole}
use Rattle.script_language.specs.LineReading.{line_readers}
use Rattle.script_language.specs.Scripts.{misplaced, time_after}

-- one line
unfoldable pub line_at : List ℕ → Option Line
line_at = whole (one_of line_readers)

abbrev pub is_skipped : List ℕ → Bool
is_skipped [] = true
is_skipped (byte ∷ bytes) = byte == 35

-- the lines before, in front of what was read
abbrev pub behind : List Line → Result (List Line) (ℕ × ScriptWhy) → Result (List Line) (ℕ × ScriptWhy)
behind front (Ok lines) = Ok (front ++ lines)
behind front (Err bad) = Err bad

-- what is read where nothing is left: a cluster line must have been there
abbrev pub ending : Option ℤ → ℕ → Result (List Line) (ℕ × ScriptWhy)
ending None number = Err (number, why.Cluster)
ending (Some now) number = Ok []

-- the lines, or the number of the first bad one with its reason; the first of them has this number
unfoldable pub judged : Option ℤ → ℕ → List (List ℕ) → Result (List Line) (ℕ × ScriptWhy)
judged now number [] = ending now number
judged now number (raw ∷ raws) =
    if is_skipped raw then judged now (number + 1) raws
    else option_map_or
    (λ one. option_map_or (λ reason. Err (number, reason)) (misplaced now one) (behind (one ∷ []) (judged (time_after now one) (number + 1) raws)))
    (line_at raw)
    (Err (number, why.Grammar))

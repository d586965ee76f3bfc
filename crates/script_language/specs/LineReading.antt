-- Words of bodies alone: reading of the lines of a script on lists of bytes.
use Rattle.std.specs.Prelude.{ℕ, List, ◌∷◌, codes, Option}
use Rattle.calls.specs.declared.call.Ask.{Ask}
use Rattle.script_lines.specs.declared.line.Line.{Line}
use Rattle.script_lines.specs.declared.line.Line.TheVariants.{Log, Ntf}
use Rattle.script_grammar.specs.Reading.{known, word, part, one_of}
use Rattle.script_language.specs.ValueReading.{client_at}
use Rattle.script_language.specs.AskReading.{log_readers, ntf_readers}
use Rattle.script_language.specs.ControlReading.{control_readers}

unfoldable pub log_ask_at : List ℕ → Option (Ask × List ℕ)
log_ask_at = one_of log_readers

unfoldable pub log_line_at : List ℕ → Option (Line × List ℕ)
log_line_at = part client_at (λ client. word (codes " ") (part log_ask_at (λ ask. known (Log client ask))))

unfoldable pub ntf_ask_at : List ℕ → Option (Ask × List ℕ)
ntf_ask_at = one_of ntf_readers

unfoldable pub ntf_line_at : List ℕ → Option (Line × List ℕ)
ntf_line_at = part client_at (λ client. word (codes " ") (part ntf_ask_at (λ ask. known (Ntf client ask))))

abbrev pub line_readers : List (List ℕ × (List ℕ → Option (Line × List ℕ)))
line_readers = (codes "log ", log_line_at) ∷ (codes "ntf ", ntf_line_at) ∷ control_readers

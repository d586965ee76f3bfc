-- That lines are written as they are spelled: all lines.
use Rattle.std.proofs.Common.{ℕ, List, ◌++◌, refl}
use Rattle.std.specs.Prelude.{codes}
use Rattle.script_lines.specs.declared.line.Line.{Line}
use Rattle.script_lines.specs.declared.line.Line.TheVariants.{Log, Ntf}
use Rattle.script_language.specs.Lines.{IsLogAsk, IsLogLine, IsNtfAsk, IsNtfLine, line_forms, Spells}
use Rattle.script_grammar.proofs.Writing.{Writes, WritesBehind, WritesForms, written, written_known, written_word, written_part, written_form, number_written}
use Rattle.script_language.specs.Printing.{ask_text, line_text}
use Rattle.script_language.proofs.AskWriting.{log_writing, ntf_writing}
use Rattle.script_language.proofs.ControlWriting.{control_writing}

log_ask_written : Writes IsLogAsk ask_text
unfolding IsLogAsk
log_ask_written = written log_writing.behind

log_line_written : WritesBehind (λ rest. codes "log " ++ rest) IsLogLine line_text
unfolding IsLogLine line_text
log_line_written =
    written_part number_written (λ client.
    written_word (codes " ") (written_part log_ask_written (λ ask.
    written_known (Log client ask) refl)))

ntf_ask_written : Writes IsNtfAsk ask_text
unfolding IsNtfAsk
ntf_ask_written = written ntf_writing.behind

ntf_line_written : WritesBehind (λ rest. codes "ntf " ++ rest) IsNtfLine line_text
unfolding IsNtfLine line_text
ntf_line_written =
    written_part number_written (λ client.
    written_word (codes " ") (written_part ntf_ask_written (λ ask.
    written_known (Ntf client ask) refl)))

pub line_writing : WritesForms (λ rest. rest) line_forms line_text
unfolding line_text
line_writing =
    written_form (codes "log ") log_line_written (
    written_form (codes "ntf ") ntf_line_written (
    control_writing))

-- a line that has a spelling is written by one
pub line_written : (line : Line) (text : List ℕ) → Spells line text → Spells line (line_text line)
unfolding Spells
line_written = (written line_writing.behind).again

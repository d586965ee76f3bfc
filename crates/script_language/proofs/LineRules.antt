-- That reading is exact: the lines of a script.
use Rattle.std.proofs.Common.{List, [], ◌∷◌, refl}
use Rattle.std.specs.Prelude.{codes}
use Rattle.script_lines.specs.declared.line.Line.TheVariants.{Log, Ntf}
use Rattle.script_language.specs.Lines.{IsLogAsk, IsLogLine, IsNtfAsk, IsNtfLine, line_forms}
use Rattle.script_language.specs.LineReading.{log_ask_at, log_line_at, ntf_ask_at, ntf_line_at, line_readers}
use Rattle.script_grammar.proofs.Rules.Beginning.{Ends, Begins}
use Rattle.script_grammar.proofs.Rules.{Beginning, Rule, TableRule, known_rule, word_rule, part_rule, form_rule, anything}
use Rattle.script_language.proofs.ValueRules.{client_rule}
use Rattle.script_language.proofs.AskRules.{log_table, ntf_table, log_starts, ntf_starts}
use Rattle.script_language.proofs.ControlRules.{control_table, control_starts}

pub log_ask_rule : Rule log_ask_at IsLogAsk (Ends ∷ []) log_starts
unfolding log_ask_at IsLogAsk
log_ask_rule =
    log_table.rule

pub log_line_rule : Rule log_line_at IsLogLine (Ends ∷ []) anything
unfolding log_line_at IsLogLine
log_line_rule =
    part_rule client_rule (λ client.
    word_rule (codes " ") refl (part_rule log_ask_rule (λ ask.
    known_rule (Log client ask)) refl)) refl

pub ntf_ask_rule : Rule ntf_ask_at IsNtfAsk (Ends ∷ []) ntf_starts
unfolding ntf_ask_at IsNtfAsk
ntf_ask_rule =
    ntf_table.rule

pub ntf_line_rule : Rule ntf_line_at IsNtfLine (Ends ∷ []) anything
unfolding ntf_line_at IsNtfLine
ntf_line_rule =
    part_rule client_rule (λ client.
    word_rule (codes " ") refl (part_rule ntf_ask_rule (λ ask.
    known_rule (Ntf client ask)) refl)) refl

abbrev pub line_starts : List Beginning
line_starts = Begins (codes "log ") ∷ Begins (codes "ntf ") ∷ control_starts

pub line_table : TableRule line_readers line_forms (Ends ∷ []) line_starts
line_table =
    form_rule (codes "log ") log_line_rule (
    form_rule (codes "ntf ") ntf_line_rule (
    control_table) refl) refl

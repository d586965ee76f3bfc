-- That what is written of a script's lines spells them again.
use Rattle.std.proofs.Common.{◌≡◌, ℕ, true, not, ◌==◌, List, [], ◌∷◌, ◌++◌, refl, sym, ap, subst, ◌∙◌, append_assoc}
use Rattle.std.proofs.lemmas.Bool.{not-true, and_parts}
use Rattle.script_lines.specs.declared.line.Line.{Line}
use Rattle.script_language.specs.Printing.{line_text, script_text}
use Rattle.script_language.specs.Scripts.{SpellAll, raw_lines, IsScriptOf}
use Rattle.script_language.specs.Scripts.SpellAll.{done, skipped, spelled}
use Rattle.script_grammar.proofs.Rules.{one_line}
use Rattle.script_language.proofs.Judging.{spelling_rule}
use Rattle.script_language.proofs.LineWriting.{line_written}

-- a text without LF and the LF behind it are one line
pub raw_lines-line : (text rest : List ℕ) → one_line text ≡ true → raw_lines (text ++ 10 ∷ rest) ≡ text ∷ raw_lines rest
raw_lines-line [] rest h = refl
raw_lines-line (b ∷ text) rest h =
    let parts = and_parts (not (b == 10)) (one_line text) h in
    rw (not-true (b == 10) parts.0, raw_lines-line text rest parts.1) refl

written_again : {lines : List Line} {raws : List (List ℕ)} → SpellAll lines raws → SpellAll lines (raw_lines (script_text lines))
written_again done = done
written_again (skipped sign more) = written_again more
written_again (spelled {one} {raw} {lines} {raws} text more) =
    let again = line_written one raw text in
    let split : raw_lines (script_text (one ∷ lines)) ≡ line_text one ∷ raw_lines (script_text lines) =
    ap raw_lines (append_assoc (line_text one) (10 ∷ []) (script_text lines)) ∙ raw_lines-line (line_text one) (script_text lines) (spelling_rule.clean (line_text one) one again) in
    subst (SpellAll (one ∷ lines)) (sym split) (spelled again (written_again more))

-- a script's lines are spelled by what is written of them
pub script_again : (lines : List Line) (bytes : List ℕ) → IsScriptOf lines bytes → IsScriptOf lines (script_text lines)
script_again lines bytes h = record { spelled = written_again h.spelled; ordered = h.ordered; begun = h.begun }

use Rattle.std.proofs.Common.{◌≡◌, ◌+◌, ◌∙◌, [], ◌∷◌, ap, sym, None, Some}
use Rattle.script_language.specs.ScriptReading.{line_at, behind, judged}
use Rattle.script_language.specs.Scripts.{misplaced}
use Rattle.script_language.proofs.Judging.{judged_skips, judged_formless, judged_misplaced, judged_more}
use Rattle.script.proofs.reader.read_line.Goals as goal

pub returns-then-skips : goal.returns-then-skips
returns-then-skips c raws = judged_skips c.args.now c.args.number c.args.raw.now raws (sym c.skips.ensures ∙ c.if-skips.true)

pub returns-in-Err-Bad : goal.returns-in-Err-Bad
returns-in-Err-Bad c raws =
    let none : line_at c.args.raw.now ≡ None = rw c.in-Err-Bad.field-0-is at c.in-Err-Bad.ensures in
    judged_formless c.args.now c.args.number c.args.raw.now raws (sym c.skips.ensures ∙ c.if-skips.false) none

pub returns-in-Some : goal.returns-in-Some
returns-in-Some c raws =
    let wrong : misplaced c.args.now c.in-Ok.line ≡ Some c.in-Some.why = sym c.fault_of.ensures ∙ c.in-Some.is in
    judged_misplaced c.args.now c.args.number c.args.raw.now raws c.in-Ok.line c.in-Some.why (sym c.skips.ensures ∙ c.if-skips.false) c.in-Ok.ensures wrong

pub returns : goal.returns
returns c raws =
    let right : misplaced c.args.now c.in-Ok.line ≡ None = sym c.fault_of.ensures ∙ c.in_default.is in
    judged_more c.args.now c.args.number c.args.raw.now raws c.in-Ok.line (sym c.skips.ensures ∙ c.if-skips.false) c.in-Ok.ensures right
    ∙ ap (λ later. behind (c.in-Ok.line ∷ []) (judged later (c.args.number + 1) raws)) (sym c.later_time-later.ensures)

use Rattle.std.proofs.Common.{subst}
use Rattle.script_language.specs.Scripts.{IsScriptOf}
use Rattle.script.specs.Answers.{Tells}
use Rattle.trio_lines.proofs.Early.{begins-bad}
use Rattle.trio_lines.proofs.Judging.{woven-script, told_clause}
use Rattle.trio_lines.proofs.reading.judge.Goals as goal

pub returns-in-Some : goal.returns-in-Some
returns-in-Some c = begins-bad c.args.bytes.now c.in-Some.line c.in-Some.ensures

pub returns-in_ok-lines-in-Ok : goal.returns-in_ok-lines-in-Ok
returns-in_ok-lines-in-Ok c =
    let script = subst (λ bytes. IsScriptOf c.in-Ok.shared bytes) c.as_slice.ensures.value c.in-Ok.ensures.lines in
    woven-script c.args.bytes.now c.in_ok-masked.masked.items c.in_ok-lines-in-Ok.lines c.in-Ok.shared c.in_default.ensures c.in_ok-masked.ensures.masks script c.in_ok-lines-in-Ok.ensures

pub returns-in-Err : goal.returns-in-Err
returns-in-Err c =
    let told = subst (Tells c.in-Err.answer) c.as_slice.ensures.value c.in-Err.ensures.fault in
    told_clause c.in-Err.answer c.args.bytes.now c.in_ok-masked.masked.items c.in_default.ensures c.in_ok-masked.ensures.masks told

use Rattle.std.proofs.Common.{None, subst}
use Rattle.script_language.specs.Scripts.{raw_lines}
use Rattle.script_language.specs.ScriptReading.{judged}
use Rattle.script.specs.Judged.{LeadsTo}
use Rattle.script.proofs.reader.judge.Goals as goal

pub returns-in-Err : goal.returns-in-Err
returns-in-Err g c =
    let whole = judged None 1 (raw_lines c.args.bytes.now) in
    c.in-Err.ensures.err (raw_lines c.first_line.result.1.now) whole
    (subst (λ raws. LeadsTo g.K.Keep.Keeps c.lines.reader raws whole) c.first_line.ensures.lines c.lines.invariant.leads)

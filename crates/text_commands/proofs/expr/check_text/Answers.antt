use Rattle.std.specs.Prelude.{◌++◌, length, codes}
use Rattle.std.specs.Fmt.{decimal}
use Rattle.std.proofs.Common.{Err, ap, ◌∙◌}
use Rattle.text_commands.specs.Checking.{IsExpression, IsNoExpression}
use Rattle.text_commands.proofs.expr.check_text.Goals as goal

pub returns-in_ok-end-in-Ok : goal.returns-in_ok-end-in-Ok
returns-in_ok-end-in-Ok c =
    let end = c.in_ok-end-in-Ok.ensures in
    let pieces = c.in-Ok.ensures in
    IsExpression end.status (record {
      pieces = c.in-Ok.expr.pieces;
      spelled = pieces.pieces;
      faultless = λ fault found. let bad = (pieces.bad fault).1 found in cc;
      shown = end.text ∙ ap (λ items. codes "ok " ++ (decimal (length items) ++ codes "\n")) c.as_slice.ensures;
    })

pub returns-in_ok-end-in-Err-Bad : goal.returns-in_ok-end-in-Err-Bad
returns-in_ok-end-in-Err-Bad c =
    let end = c.in_ok-end-in-Err-Bad.ensures in
    IsNoExpression end.status (record {
      fault = c.in-Err-Bad.fault;
      found = (c.in-Err-Bad.ensures.bad c.in-Err-Bad.fault).0 (ap Err c.in-Err-Bad.field-0-is);
      shown = end.text;
    })

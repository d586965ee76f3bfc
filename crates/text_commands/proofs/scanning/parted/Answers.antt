use Rattle.text_commands.specs.ScanSteps.{NotParted}
use Rattle.text_commands.proofs.scanning.parted.Goals as goal

pub returns-in-Ok : goal.returns-in-Ok
returns-in-Ok c text expr = record { expr = expr; separable = c.in-Ok.ensures.ok }

pub returns-in_ok-end-in-Err : goal.returns-in_ok-end-in-Err
returns-in_ok-end-in-Err c text expr =
    NotParted c.in_ok-end-in-Err.ensures.status (record {
      pieces = c.args.expr.pieces;
      expr = expr;
      piece = c.in-Err.refusal.piece;
      first = c.in-Err.ensures.err;
      shown = c.in_ok-end-in-Err.ensures.text;
    })

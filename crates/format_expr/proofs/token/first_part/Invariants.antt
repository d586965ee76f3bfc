use Rattle.std.proofs.Common.{◌≡◌, drop}
use Rattle.format_expr.specs.TokenRows.{part_in}
use Rattle.format_expr.proofs.token.first_part.Given as goal

abbrev pub invariant-loop-row : goal.invariant-loop-row
invariant-loop-row l = part_in (drop l.row-index l.rows) l.class l.field ≡ part_in l.rows l.class l.field

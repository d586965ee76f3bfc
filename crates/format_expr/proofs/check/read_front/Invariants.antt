use Rattle.std.proofs.Common.{◌≡◌, take, Ok}
use Rattle.format_expr.specs.declared.check.Stand.TheVariants.{Between}
use Rattle.format_expr.specs.Scan.{run}
use Rattle.format_expr.proofs.check.read_front.Given as goal

abbrev pub invariant-loop-place : goal.invariant-loop-place
invariant-loop-place l = run l.kind Between (take l.place l.text) ≡ Ok l.stand

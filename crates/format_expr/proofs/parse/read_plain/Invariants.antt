use Rattle.std.proofs.Common.{◌≡◌, ◌+◌, drop}
use Rattle.format_expr.specs.Reading.{plain_length}
use Rattle.format_expr.proofs.parse.read_plain.Given as goal

abbrev pub invariant-loop-place : goal.invariant-loop-place
invariant-loop-place l = l.place + plain_length (drop l.place l.bytes) ≡ plain_length l.bytes

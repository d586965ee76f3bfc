use Rattle.std.proofs.Common.{◌≡◌, ◌-◌}
use Rattle.wire_code.specs.Reading.{many_at}
use Rattle.wire_code.proofs.Loops.{with_front}
use Rattle.wire.proofs.list.read_all.Given as goal

abbrev pub invariant-loop : goal.invariant-loop
invariant-loop g l = with_front l.items (many_at g.T.Wire.at (l.count - l.counter) l.rest) ≡ many_at g.T.Wire.at l.count l.bytes

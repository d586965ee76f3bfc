use Rattle.std.proofs.Common.{◌≡◌, ◌-◌, ◌≤◌, length, take, drop}
use Rattle.std.specs.List.{All}
use Rattle.ais_values.specs.Names.{IsPrintable}
use Rattle.wire_code.specs.Reading.{many_at, byte_at}
use Rattle.wire_code.proofs.Loops.{with_front}
use Rattle.wire.proofs.text.read_printable.Given as goal

abbrev pub invariant-loop-i : goal.invariant-loop-i
invariant-loop-i l = (with_front (take l.i l.bytes) (many_at (byte_at 32 126) (l.count - l.i) (drop l.i l.bytes)) ≡ many_at (byte_at 32 126) l.count l.bytes) × All IsPrintable (take l.i l.bytes) × (l.i ≤ length l.bytes)

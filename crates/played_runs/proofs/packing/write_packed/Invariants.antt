use Rattle.std.proofs.Common.{◌≡◌, take}
use Rattle.played_runs.specs.Packing.{Waits}
use Rattle.played_runs.specs.Writing.{joined_lines}
use Rattle.played_runs.proofs.packing.write_packed.Given as goal

abbrev pub invariant-loop-line : goal.invariant-loop-line
invariant-loop-line g l = record {
  waits : Waits (g.K.Sink.written l.fn.out) (g.K.Sink.written l.out) (joined_lines (take l.line-index l.lines)) l.piece.items;
  stands : g.K.Sink.faults l.out ≡ g.K.Sink.faults l.fn.out;
}

use Rattle.std.proofs.Common.{◌≡◌, take}
use Rattle.std.specs.Io.KnownBytes.{Appends}
use Rattle.played_runs.specs.Writing.{joined_lines}
use Rattle.played_runs.proofs.writing.write_each.Given as goal

abbrev pub invariant-loop-line : goal.invariant-loop-line
invariant-loop-line g l = record {
  appended : Appends (g.K.Sink.written l.fn.out) (g.K.Sink.written l.out) (joined_lines (take l.line-index l.lines));
  stands : g.K.Sink.faults l.out ≡ g.K.Sink.faults l.fn.out;
}

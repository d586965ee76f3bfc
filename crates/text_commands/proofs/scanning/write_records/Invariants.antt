use Rattle.std.proofs.Common.{◌≡◌, ◌+◌, ◌≤◌, length}
use Rattle.played_runs.specs.Edges.{edge}
use Rattle.text_commands.proofs.ScanLaws.{ToldSoFar}
use Rattle.text_commands.proofs.scanning.write_records.Given as goal

abbrev pub invariant-loop-length : goal.invariant-loop-length
invariant-loop-length g l = record {
  so_far : ToldSoFar l.query l.expr.pieces l.wanted l.bytes l.rest l.number (edge g.K.Sink.written g.K.Sink.faults l.fn.out l.out);
  counted : l.number + length l.rest ≤ length l.bytes;
  stood : g.K.Sink.faults l.out ≡ g.K.Sink.faults l.fn.out;
}

abbrev pub decreases-loop-length : goal.decreases-loop-length
decreases-loop-length g l = length l.rest

use Rattle.std.proofs.Common.{subst}
use Rattle.io_edge.specs.Writes.{AppendsFront}
use Rattle.played_runs.proofs.CountSteps.{rose-behind}
use Rattle.played_runs.proofs.WritingSteps.{lines-front}
use Rattle.played_runs.proofs.writing.write_each.Goals as goal

pub returns-in-Err-clause-bytes : goal.returns-in-Err-clause-bytes
returns-in-Err-clause-bytes g c =
    let written = g.K.Sink.written in
    lines-front (written c.args.out.now) (written c.loop-line.out) (written c.write_all.new.sink) c.args.lines.now c.loop-line.line-index c.line-item.result c.loop-line-test.true c.line-item.is c.loop-line.invariant.appended (subst (AppendsFront (written c.loop-line.out) (written c.write_all.new.sink)) c.as_slice.ensures c.in-Err.ensures.bytes)

pub returns-in-Err-clause-cause : goal.returns-in-Err-clause-cause
returns-in-Err-clause-cause g c =
    let faults = g.K.Sink.faults in
    rose-behind (faults c.args.out.now) (faults c.loop-line.out) (faults c.write_all.new.sink) _ _ c.loop-line.invariant.stands c.in-Err.ensures.cause

use Rattle.played_runs.specs.Edges.{edge}
use Rattle.cold_runs.specs.Endings.{cold_run}
use Rattle.cold_runs.proofs.StatusLaws.{accepts, completes, ends-by, rises-by}
use Rattle.cold_runs.proofs.command.run_cold.Goals as goal

pub returns-clause-ends : goal.returns-clause-ends
returns-clause-ends g c =
    let run = cold_run (edge g.S.Source.left g.S.Source.faults c.args.source.now c.play_source.new.source) (edge g.K.Sink.written g.K.Sink.faults c.args.out.now c.play_source.new.out) g.D.SharedDisk.seen c.args.disk.now c.play_source.new.disk g.J.SharedDisk.seen c.args.journal.now c.play_source.new.journal c.args.cold.now c.play_source.new.cold in
    ends-by run c.play_source.result c.play_source.ensures

pub returns-clause-faults : goal.returns-clause-faults
returns-clause-faults g c =
    let run = cold_run (edge g.S.Source.left g.S.Source.faults c.args.source.now c.play_source.new.source) (edge g.K.Sink.written g.K.Sink.faults c.args.out.now c.play_source.new.out) g.D.SharedDisk.seen c.args.disk.now c.play_source.new.disk g.J.SharedDisk.seen c.args.journal.now c.play_source.new.journal c.args.cold.now c.play_source.new.cold in
    rises-by run c.play_source.result c.play_source.ensures

pub returns-clause-completes : goal.returns-clause-completes
returns-clause-completes g c can none =
    let run = cold_run (edge g.S.Source.left g.S.Source.faults c.args.source.now c.play_source.new.source) (edge g.K.Sink.written g.K.Sink.faults c.args.out.now c.play_source.new.out) g.D.SharedDisk.seen c.args.disk.now c.play_source.new.disk g.J.SharedDisk.seen c.args.journal.now c.play_source.new.journal c.args.cold.now c.play_source.new.cold in
    completes run c.play_source.result c.play_source.ensures can none

pub returns-clause-accepts : goal.returns-clause-accepts
returns-clause-accepts g c told is =
    let run = cold_run (edge g.S.Source.left g.S.Source.faults c.args.source.now c.play_source.new.source) (edge g.K.Sink.written g.K.Sink.faults c.args.out.now c.play_source.new.out) g.D.SharedDisk.seen c.args.disk.now c.play_source.new.disk g.J.SharedDisk.seen c.args.journal.now c.play_source.new.journal c.args.cold.now c.play_source.new.cold in
    accepts run c.play_source.result c.play_source.ensures told is

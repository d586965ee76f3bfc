use Rattle.played_runs.specs.Edges.{edge, fault_count}
use Rattle.played_runs.proofs.WritingSteps.{ended-as}
use Rattle.trio_runs.specs.Endings.{TrioEnds, TrioLacks, trio_run}
use Rattle.trio_runs.specs.CommandSteps.{InputEnds, InputLacks}
use Rattle.trio_runs.proofs.CommandSteps.{input-ends, input-lacks}
use Rattle.trio_runs.proofs.StatusLaws.{completes, ends-by, rises-by}
use Rattle.trio_runs.proofs.command.run_trio.Goals as goal

pub returns-clause-ends : goal.returns-clause-ends
returns-clause-ends g c =
    let run = trio_run (edge g.S.Source.left g.S.Source.faults c.args.source.now c.play_source.new.source) (edge g.K.Sink.written g.K.Sink.faults c.args.out.now c.play_source.new.out) g.D.SharedDisk.seen c.args.disk.now c.play_source.new.disk c.args.trio.now c.play_source.new.trio in
    ends-by run c.play_source.result (ended-as (fault_count run.source) (fault_count run.stage.disk) (InputEnds run.source run.stage) (TrioEnds run) (InputLacks run.source run.stage) (TrioLacks run) run.stage.sink c.play_source.result (input-ends run) (input-lacks run) c.play_source.ensures)

pub returns-clause-faults : goal.returns-clause-faults
returns-clause-faults g c =
    let run = trio_run (edge g.S.Source.left g.S.Source.faults c.args.source.now c.play_source.new.source) (edge g.K.Sink.written g.K.Sink.faults c.args.out.now c.play_source.new.out) g.D.SharedDisk.seen c.args.disk.now c.play_source.new.disk c.args.trio.now c.play_source.new.trio in
    rises-by run c.play_source.result (ended-as (fault_count run.source) (fault_count run.stage.disk) (InputEnds run.source run.stage) (TrioEnds run) (InputLacks run.source run.stage) (TrioLacks run) run.stage.sink c.play_source.result (input-ends run) (input-lacks run) c.play_source.ensures)

pub returns-clause-completes : goal.returns-clause-completes
returns-clause-completes g c can none =
    let run = trio_run (edge g.S.Source.left g.S.Source.faults c.args.source.now c.play_source.new.source) (edge g.K.Sink.written g.K.Sink.faults c.args.out.now c.play_source.new.out) g.D.SharedDisk.seen c.args.disk.now c.play_source.new.disk c.args.trio.now c.play_source.new.trio in
    completes run c.play_source.result (ended-as (fault_count run.source) (fault_count run.stage.disk) (InputEnds run.source run.stage) (TrioEnds run) (InputLacks run.source run.stage) (TrioLacks run) run.stage.sink c.play_source.result (input-ends run) (input-lacks run) c.play_source.ensures) can none.0 none.1 none.2

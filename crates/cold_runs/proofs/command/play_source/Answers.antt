use Rattle.std.proofs.Common.{ℕ, List, refl, arith}
use Rattle.played_runs.specs.Edges.{edge, fault_count}
use Rattle.played_runs.specs.Counts.{HasStood}
use Rattle.played_runs.specs.Writing.{Reaching}
use Rattle.played_runs.proofs.WritingSteps.{written-as}
use Rattle.script_inputs.specs.Inputs.{input_limit, ReadsWhole}
use Rattle.cold_runs.specs.Ends.{RisesCold}
use Rattle.cold_runs.specs.Stages.{BothGoneOn, LeavesBoth}
use Rattle.cold_runs.specs.Endings.{ColdRunEnds, ColdRunLacks, RisesBefore, cold_run}
use Rattle.cold_runs.specs.CommandSteps.{BytesEnd, BytesLack}
use Rattle.cold_runs.proofs.CommandSteps.{bytes-ends, bytes-lacks, unread-ended}
use Rattle.cold_runs.proofs.command.play_source.Goals as goal

pub play_bytes-requires-clause-short : goal.play_bytes-requires-clause-short
play_bytes-requires-clause-short g c κs within = omega (arith, c.in-Ok.ensures.bytes.bound)

pub returns-in-Ok : goal.returns-in-Ok
unfolding input_limit
returns-in-Ok g c =
    let source = edge g.S.Source.left g.S.Source.faults c.args.source.now c.read_all.new.source in
    let sink = edge g.K.Sink.written g.K.Sink.faults c.args.out.now c.play_bytes.new.out in
    let run = cold_run source sink g.D.SharedDisk.seen c.args.disk.now c.play_bytes.new.disk g.J.SharedDisk.seen c.args.journal.now c.play_bytes.new.journal c.args.cold.now c.play_bytes.new.cold in
    let bytes = c.in-Ok.bytes.items in
    let whole : ReadsWhole source bytes = c.in-Ok.ensures.bytes in
    let stood : HasStood (fault_count source) = c.in-Ok.ensures.cause.stands in
    let E : Reaching = λ reached text. BytesEnd bytes run.stage reached text × RisesCold reached run.stage.scene in
    let F : Reaching = λ reached text. ColdRunEnds run reached text × RisesBefore reached run in
    let L : List ℕ → Type 0 = λ text. BytesLack bytes run.stage text × BothGoneOn run.stage.scene in
    let M : List ℕ → Type 0 = λ text. ColdRunLacks run text × HasStood (fault_count source) × BothGoneOn run.stage.scene in
    written-as E F L M sink c.play_bytes.result (bytes-ends run bytes whole stood) (bytes-lacks run bytes whole stood) c.play_bytes.ensures

pub returns-in-Err : goal.returns-in-Err
unfolding input_limit
returns-in-Err g c =
    let source = edge g.S.Source.left g.S.Source.faults c.args.source.now c.read_all.new.source in
    let sink = edge g.K.Sink.written g.K.Sink.faults c.args.out.now c.write_unread.new.out in
    let run = cold_run source sink g.D.SharedDisk.seen c.args.disk.now c.args.disk.now g.J.SharedDisk.seen c.args.journal.now c.args.journal.now c.args.cold.now c.args.cold.now in
    let all : LeavesBoth run.stage = record { disk = refl; journal = refl; world = refl } in
    unread-ended run all c.in-Err.answer c.write_unread.result c.in-Err.ensures.bytes c.in-Err.ensures.cause c.write_unread.ensures

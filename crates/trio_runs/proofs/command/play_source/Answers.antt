use Rattle.std.proofs.Common.{inl, inr, refl, arith}
use Rattle.played_runs.specs.Edges.{edge, fault_count, stage}
use Rattle.played_runs.proofs.WritingSteps.{ended-read}
use Rattle.script_inputs.specs.Inputs.{input_limit, ReadsWhole}
use Rattle.script_inputs.proofs.Reading.{unread-written}
use Rattle.trio_runs.specs.CommandSteps.{BytesEnd, BytesLack, InputEnds, InputLacks}
use Rattle.trio_runs.proofs.CommandSteps.{bytes-input}
use Rattle.trio_runs.proofs.command.play_source.Goals as goal

pub play_bytes-requires-clause-short : goal.play_bytes-requires-clause-short
play_bytes-requires-clause-short g c κs within = omega (arith, c.in-Ok.ensures.bytes.bound)

pub returns-in-Ok : goal.returns-in-Ok
unfolding input_limit
returns-in-Ok g c =
    let source = edge g.S.Source.left g.S.Source.faults c.args.source.now c.read_all.new.source in
    let sink = edge g.K.Sink.written g.K.Sink.faults c.args.out.now c.play_bytes.new.out in
    let scene = stage sink g.D.SharedDisk.seen c.args.disk.now c.play_bytes.new.disk c.args.trio.now c.play_bytes.new.trio in
    let bytes = c.in-Ok.bytes.items in
    let whole : ReadsWhole source bytes = c.in-Ok.ensures.bytes in
    ended-read (fault_count source) (fault_count scene.disk) (BytesEnd bytes scene) (InputEnds source scene) (BytesLack bytes scene) (InputLacks source scene) sink c.play_bytes.result c.in-Ok.ensures.cause.stands (bytes-input source scene bytes whole) (λ text lacks. inr (bytes, whole, lacks)) c.play_bytes.ensures

pub returns-in-Err : goal.returns-in-Err
unfolding input_limit
returns-in-Err g c =
    let source = edge g.S.Source.left g.S.Source.faults c.args.source.now c.read_all.new.source in
    let sink = edge g.K.Sink.written g.K.Sink.faults c.args.out.now c.write_unread.new.out in
    let scene = stage sink g.D.SharedDisk.seen c.args.disk.now c.args.disk.now c.args.trio.now c.args.trio.now in
    unread-written source (fault_count scene.disk) (InputEnds source scene) (InputLacks source scene) c.in-Err.answer sink c.write_unread.result refl c.in-Err.ensures.bytes c.in-Err.ensures.cause
    (λ text failed. (record { disk = refl; world = refl }, failed)) (λ text long. (record { disk = refl; world = refl }, long)) (inl (refl, record { disk = refl; world = refl })) c.write_unread.ensures

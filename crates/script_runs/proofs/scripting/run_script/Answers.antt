use Rattle.std.proofs.Common.{inl, inr, refl, arith}
use Rattle.played_runs.specs.Edges.{edge, fault_count, stage}
use Rattle.played_runs.proofs.WritingSteps.{ended-read}
use Rattle.script_inputs.specs.Inputs.{input_limit, ReadsWhole}
use Rattle.script_inputs.proofs.Reading.{unread-written}
use Rattle.script_runs.specs.Scripting.{BytesEnd, BytesLack, InputEnds, InputLacks}
use Rattle.script_runs.proofs.ReadingSteps.{bytes-input}
use Rattle.script_runs.proofs.scripting.run_script.Goals as goal

pub run_bytes-requires-clause-short : goal.run_bytes-requires-clause-short
run_bytes-requires-clause-short g c = omega (arith, c.in-Ok.ensures.bytes.bound)

pub returns-in-Ok : goal.returns-in-Ok
unfolding input_limit
returns-in-Ok g c =
    let source = edge g.S.Source.left g.S.Source.faults c.args.source.now c.read_all.new.source in
    let sink = edge g.K.Sink.written g.K.Sink.faults c.args.out.now c.run_bytes.new.out in
    let scene = stage sink g.D.SharedDisk.seen c.args.disk.now c.run_bytes.new.disk c.args.world.now c.run_bytes.new.world in
    let bytes = c.in-Ok.bytes.items in
    let whole : ReadsWhole source bytes = c.in-Ok.ensures.bytes in
    ended-read (fault_count source) (fault_count scene.disk) ((BytesEnd g.W.Playable.game) bytes scene) ((InputEnds g.W.Playable.game) source scene) ((BytesLack g.W.Playable.game) bytes scene) ((InputLacks g.W.Playable.game) source scene) sink c.run_bytes.result c.in-Ok.ensures.cause.stands (bytes-input g.W.Playable.game source scene bytes whole) (λ text lacks. inr (bytes, whole, lacks)) c.run_bytes.ensures

pub returns-in-Err : goal.returns-in-Err
unfolding input_limit
returns-in-Err g c =
    let source = edge g.S.Source.left g.S.Source.faults c.args.source.now c.read_all.new.source in
    let sink = edge g.K.Sink.written g.K.Sink.faults c.args.out.now c.write_unread.new.out in
    let scene = stage sink g.D.SharedDisk.seen c.args.disk.now c.args.disk.now c.args.world.now c.args.world.now in
    unread-written source (fault_count scene.disk) ((InputEnds g.W.Playable.game) source scene) ((InputLacks g.W.Playable.game) source scene) c.in-Err.answer sink c.write_unread.result refl c.in-Err.ensures.bytes c.in-Err.ensures.cause
    (λ text failed. (record { disk = refl; world = refl }, failed)) (λ text long. (record { disk = refl; world = refl }, long)) (inl (refl, record { disk = refl; world = refl })) c.write_unread.ensures

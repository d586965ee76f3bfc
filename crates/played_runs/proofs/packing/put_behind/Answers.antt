use Rattle.std.proofs.Common.{subst}
use Rattle.std.specs.Io.KnownBytes.{Appends}
use Rattle.played_runs.proofs.PackingSteps.{waits-behind, breaks-behind}
use Rattle.played_runs.proofs.packing.put_behind.Goals as goal

pub returns-in-Ok-write_all-clause-ok : goal.returns-in-Ok-write_all-clause-ok
returns-in-Ok-write_all-clause-ok g c =
    let written = g.K.Sink.written in
    let held = rw c.in-Err.ensures.err at c.as_slice.ensures.value in
    waits-behind c.start_piece.result (written c.args.out.now) (written c.write_all.new.sink) (written c.start_piece.new.out) c.args.piece.now.items c.args.bytes.now c.start_piece.new.piece.items (subst (Appends (written c.args.out.now) (written c.write_all.new.sink)) held c.in-Ok-write_all.ensures.bytes) c.start_piece.ensures.ok

pub returns-in-Ok-write_all-clause-err : goal.returns-in-Ok-write_all-clause-err
returns-in-Ok-write_all-clause-err g c =
    let written = g.K.Sink.written in
    let held = rw c.in-Err.ensures.err at c.as_slice.ensures.value in
    breaks-behind c.start_piece.result (written c.args.out.now) (written c.write_all.new.sink) (written c.start_piece.new.out) c.args.piece.now.items c.args.bytes.now (subst (Appends (written c.args.out.now) (written c.write_all.new.sink)) held c.in-Ok-write_all.ensures.bytes) c.start_piece.ensures.err

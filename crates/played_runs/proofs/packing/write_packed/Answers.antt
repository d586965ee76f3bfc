use Rattle.std.proofs.Common.{List, ℕ, ◌++◌, ◌∙◌, sym, take, take_all, subst}
use Rattle.io_edge.specs.Writes.{AppendsFront, WritesAll}
use Rattle.played_runs.specs.Packing.{Waits}
use Rattle.played_runs.specs.Writing.{joined_lines}
use Rattle.played_runs.proofs.PackingSteps.{lines-break, lines-end, lines-next, waits-more}
use Rattle.played_runs.proofs.packing.write_packed.Goals as goal

pub returns-in-Err-clause-bytes : goal.returns-in-Err-clause-bytes
returns-in-Err-clause-bytes g c =
    let written = g.K.Sink.written in
    let F : List ℕ → Type 0 = λ line. AppendsFront (written c.loop-line.out) (written c.put_behind.new.out) (c.loop-line.piece.items ++ line) in
    lines-break (written c.args.out.now) (written c.loop-line.out) (written c.put_behind.new.out) c.args.lines.now c.loop-line.line-index c.line-item.result c.loop-line.piece.items c.loop-line-test.true c.line-item.is c.loop-line.invariant.waits (subst F c.as_slice.ensures c.in-Err.ensures.err)

pub loop-line-preserved : goal.loop-line-preserved
loop-line-preserved g c =
    let written = g.K.Sink.written in
    let start = written c.args.out.now in
    let last = written c.put_behind.new.out in
    let held = c.loop-line.piece.items in
    let left = c.put_behind.new.piece.items in
    let lines = c.args.lines.now in
    let place = c.loop-line.line-index in
    let line = c.line-item.result in
    let N : List ℕ → Type 0 = λ bytes. Waits (written c.loop-line.out) last (held ++ bytes) left in
    let W : List ℕ → Type 0 = λ text. Waits start last text left in
    let waits = waits-more start (written c.loop-line.out) last (joined_lines (take place lines)) held line left c.loop-line.invariant.waits (subst N c.as_slice.ensures c.in-Ok.ensures.ok) in
    record {
      waits = subst W (sym (lines-next lines place line c.loop-line-test.true c.line-item.is)) waits;
      stands = c.in-Ok.ensures.cause.stands ∙ c.loop-line.invariant.stands;
    }

pub returns-clause-bytes : goal.returns-clause-bytes
returns-clause-bytes g c =
    let written = g.K.Sink.written in
    let W : List ℕ → Type 0 = λ bytes. WritesAll (written c.loop-line.out) (written c.write_all.new.sink) bytes c.write_all.result in
    let L : List (List ℕ) → Type 0 = λ lines. WritesAll (written c.args.out.now) (written c.write_all.new.sink) (joined_lines lines) c.write_all.result in
    subst L (take_all c.loop-line.line-index c.args.lines.now c.loop-line-test.false)
    (lines-end c.write_all.result (written c.args.out.now) (written c.loop-line.out) (written c.write_all.new.sink) (joined_lines (take c.loop-line.line-index c.args.lines.now)) c.loop-line.piece.items c.loop-line.invariant.waits (subst W c.as_slice-2.ensures.value c.write_all.ensures.bytes))

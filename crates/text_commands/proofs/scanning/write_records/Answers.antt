use Rattle.std.proofs.Common.{ℕ, ◌+◌, List, length, refl, ap, ◌∙◌, sym, subst, arith, length-drop}
use Rattle.std.proofs.lemmas.List.{take_rest}
use Rattle.played_runs.specs.Edges.{edge}
use Rattle.text_commands.proofs.ScanLaws.{ToldSoFar, so-far-breaks, so-far-ends, so-far-next, so-far-start}
use Rattle.text_commands.proofs.scanning.write_records.Goals as goal

pub loop-length-init : goal.loop-length-init
loop-length-init g c = record {
  so_far = so-far-start c.args.query c.args.expr.now.pieces c.args.wanted.now c.args.bytes.now g.K.Sink.written g.K.Sink.faults c.args.out.now;
  counted = omega arith;
  stood = refl;
}

pub loop-length-preserved : goal.loop-length-preserved
loop-length-preserved g c =
    let rest = c.loop-length.rest.now in
    let long = c.in-Some.length in
    let number = c.loop-length.number in
    let same = take_rest rest long in
    let given = c.in-Ok.ensures in
    let next = so-far-next c.args.query c.args.expr.now.pieces c.args.wanted.now c.args.bytes.now g.K.Sink.written g.K.Sink.faults c.args.out.now c.loop-length.out c.write_record.new.out rest number long c.loop-length.invariant.so_far c.in-Some.ensures.first given.0 given.1 given.3 in
    record {
      so_far = subst (λ (left : List ℕ). ToldSoFar c.args.query c.args.expr.now.pieces c.args.wanted.now c.args.bytes.now left (number + 1) (edge g.K.Sink.written g.K.Sink.faults c.args.out.now c.write_record.new.out)) (sym same) next;
      counted =
          let some = c.in-Some.ensures.some in
          let inside = c.in-Some.ensures.inside in
          let counted = c.loop-length.invariant.counted in
          let left = ap length same in
          let dropped = length-drop long rest in
          omega arith;
      stood = given.2 ∙ c.loop-length.invariant.stood;
    }

pub returns-in-Err : goal.returns-in-Err
returns-in-Err g c =
    so-far-breaks c.args.query c.args.expr.now.pieces c.args.wanted.now c.args.bytes.now g.K.Sink.written g.K.Sink.faults c.args.out.now c.loop-length.out c.write_record.new.out c.loop-length.rest.now c.loop-length.number c.in-Some.length c.loop-length.invariant.so_far c.in-Some.ensures.first c.in-Err.status c.loop-length.invariant.stood c.in-Err.ensures

pub returns : goal.returns
returns g c =
    so-far-ends c.args.query c.args.expr.now.pieces c.args.wanted.now c.args.bytes.now g.K.Sink.written g.K.Sink.faults c.args.out.now c.loop-length.out c.write_rest.new.out c.loop-length.rest.now c.loop-length.number c.loop-length.invariant.so_far c.in_default.ensures.first c.write_rest.result c.loop-length.invariant.stood c.write_rest.ensures

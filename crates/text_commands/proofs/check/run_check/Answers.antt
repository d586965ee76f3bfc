use Rattle.std.proofs.Common.{ℕ, List, length, refl, ap, sym, subst, arith}
use Rattle.played_runs.specs.Edges.{edge, fault_count}
use Rattle.played_runs.specs.Writing.{Counting, IsNone, Standing, unasked}
use Rattle.played_runs.proofs.CountSteps.{on-same}
use Rattle.played_runs.proofs.EndingSteps.{end-written}
use Rattle.text_commands.specs.Checking.{CheckEnds, Judged}
use Rattle.script_inputs.specs.Inputs.{input_limit, ReadsWhole}
use Rattle.script_inputs.proofs.Reading.{unread-written}
use Rattle.text_commands.proofs.CheckSteps.{judged-check, ok-ends}
use Rattle.text_commands.proofs.check.run_check.Goals as goal

pub judge-requires : goal.judge-requires
judge-requires g c = omega (arith, ap length c.as_slice.ensures.value, c.in-Ok.ensures.bytes.bound)

pub returns-in-Ok : goal.returns-in-Ok
unfolding input_limit
returns-in-Ok g c =
    let source = edge g.S.Source.left g.S.Source.faults c.args.source.now c.read_all.new.source in
    let sink = edge g.K.Sink.written g.K.Sink.faults c.args.out.now c.write_end.new.out in
    let bytes = c.as_slice.result.now in
    let whole = subst (λ (one : List ℕ). ReadsWhole source one) (sym c.as_slice.ensures.value) c.in-Ok.ensures.bytes in
    let stood = c.in-Ok.ensures.cause.stands in
    let E = Counting (fault_count source) unasked (CheckEnds source) in
    end-written E (Standing (fault_count source) unasked IsNone) c.judge.result sink c.write_end.result c.write_end.ensures (ok-ends c.judge.result (Judged bytes) E (judged-check source bytes whole stood) c.judge.ensures) (refl, stood, on-same 0)

pub returns-in-Err : goal.returns-in-Err
unfolding input_limit
returns-in-Err g c =
    let source = edge g.S.Source.left g.S.Source.faults c.args.source.now c.read_all.new.source in
    let sink = edge g.K.Sink.written g.K.Sink.faults c.args.out.now c.write_unread.new.out in
    unread-written source unasked (CheckEnds source) IsNone c.in-Err.answer sink c.write_unread.result refl c.in-Err.ensures.bytes c.in-Err.ensures.cause (λ text failed. failed) (λ text long. long) refl c.write_unread.ensures

use Rattle.std.proofs.Common.{ℕ, List, length, inl, inr, refl, ap, sym, subst, arith}
use Rattle.scan_lines.specs.Telling.{TellsFront}
use Rattle.played_runs.specs.Edges.{edge, fault_count}
use Rattle.played_runs.specs.Writing.{Counting, Standing, unasked}
use Rattle.played_runs.proofs.CountSteps.{on-same}
use Rattle.played_runs.proofs.WritingSteps.{written-as}
use Rattle.script_inputs.specs.Inputs.{input_limit, ReadsWhole}
use Rattle.text_commands.specs.ScanSteps.{RecordsEnd, SourceEnds, SourceLacks}
use Rattle.script_inputs.proofs.Reading.{unread-written}
use Rattle.text_commands.proofs.ScanLaws.{records-source}
use Rattle.text_commands.proofs.scanning.scan_source.Goals as goal

pub write_records-requires-clause-short : goal.write_records-requires-clause-short
write_records-requires-clause-short g c = omega (arith, ap length c.as_slice.ensures.value, c.in-Ok.ensures.bytes.bound)

pub returns-in-Ok : goal.returns-in-Ok
unfolding input_limit
returns-in-Ok g c =
    let query = c.args.query in
    let pieces = c.args.expr.now.pieces in
    let wanted = c.args.wanted.now in
    let source = edge g.S.Source.left g.S.Source.faults c.args.source.now c.read_all.new.source in
    let sink = edge g.K.Sink.written g.K.Sink.faults c.args.out.now c.write_records.new.out in
    let bytes = c.as_slice.result.now in
    let whole = subst (λ (one : List ℕ). ReadsWhole source one) (sym c.as_slice.ensures.value) c.in-Ok.ensures.bytes in
    let stood = c.in-Ok.ensures.cause.stands in
    written-as (RecordsEnd query pieces wanted bytes) (Counting (fault_count source) unasked (SourceEnds query pieces wanted source)) (TellsFront query.shown pieces query.size wanted bytes) (Standing (fault_count source) unasked (SourceLacks query pieces wanted source)) sink c.write_records.result (records-source query pieces wanted source bytes whole stood) (λ text told. (inr (bytes, whole, told), stood, on-same 0)) c.write_records.ensures

pub returns-in-Err : goal.returns-in-Err
unfolding input_limit
returns-in-Err g c =
    let source = edge g.S.Source.left g.S.Source.faults c.args.source.now c.read_all.new.source in
    let sink = edge g.K.Sink.written g.K.Sink.faults c.args.out.now c.write_unread.new.out in
    unread-written source unasked (SourceEnds c.args.query c.args.expr.now.pieces c.args.wanted.now source) (SourceLacks c.args.query c.args.expr.now.pieces c.args.wanted.now source) c.in-Err.answer sink c.write_unread.result refl c.in-Err.ensures.bytes c.in-Err.ensures.cause (λ text failed. failed) (λ text long. long) (inl refl) c.write_unread.ensures

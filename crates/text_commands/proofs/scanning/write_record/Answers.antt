use Rattle.std.proofs.Common.{ℕ, List, None, refl, sym, subst}
use Rattle.scan_lines.specs.Telling.{IsTold}
use Rattle.played_runs.specs.declared.ending.Status8.{Status8}
use Rattle.played_runs.specs.Edges.{edge}
use Rattle.played_runs.specs.Writing.{IsNone, Written}
use Rattle.played_runs.proofs.EndingSteps.{lacked}
use Rattle.played_runs.proofs.WritingSteps.{unwritten}
use Rattle.text_commands.specs.ScanSteps.{RecordEnds}
use Rattle.text_commands.proofs.scanning.write_record.Goals as goal

pub returns-in-Ok : goal.returns-in-Ok
returns-in-Ok g c =
    let query = c.args.query in
    let E = RecordEnds query c.args.expr.now.pieces c.args.wanted.now c.args.number c.args.bytes.now in
    let sink = edge g.K.Sink.written g.K.Sink.faults c.args.out.now c.write_all.new.sink in
    let told = subst (λ (line : List ℕ). IsTold query.shown c.args.expr.now.pieces query.size c.args.wanted.now c.args.number c.args.bytes.now line) (sym c.as_slice.ensures.value) c.in-Ok.ensures in
    subst (λ (status : Status8). Written E IsNone sink status) (sym c.unwritten.ensures) (unwritten E IsNone sink c.in-Err-write_all.answer None c.as_slice.result.now told c.in-Err-write_all.ensures.cause c.in-Err-write_all.ensures.bytes)

pub returns : goal.returns
returns g c = lacked _ IsNone _ refl refl

use Rattle.std.proofs.Common.{ℕ, List, sym, subst}
use Rattle.played_runs.specs.Edges.{edge}
use Rattle.played_runs.specs.Writing.{EndWritten, IsNever, IsText, Written}
use Rattle.played_runs.proofs.writing.write_end.Goals as goal

pub returns-in-Ok : goal.returns-in-Ok
returns-in-Ok g c =
    let sink = edge g.K.Sink.written g.K.Sink.faults c.args.out.now c.write_text.new.out in
    let status = c.write_text.result in
    subst (λ end. EndWritten end sink status) (sym c.in-Ok.is) (subst (λ (text : List ℕ). Written (IsText c.in-Ok.end.status text) IsNever sink status) c.as_slice.ensures.value c.write_text.ensures)

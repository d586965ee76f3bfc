use Rattle.std.proofs.Common.{ℕ, List, ◌++◌, Some, refl, ap, sym, subst}
use Rattle.io_edge.proofs.Fronts.{front-more}
use Rattle.played_runs.specs.declared.ending.Status8.{Status8}
use Rattle.played_runs.specs.declared.ending.Status8.TheVariants.{DiskFault}
use Rattle.played_runs.specs.Edges.{edge}
use Rattle.played_runs.specs.Ends.{fault_line}
use Rattle.played_runs.specs.Writing.{IsNever, IsText, Written, joined_lines}
use Rattle.played_runs.proofs.WritingSteps.{unwritten, written-behind}
use Rattle.played_runs.proofs.writing.write_broken.Goals as goal

pub returns-in-Ok : goal.returns-in-Ok
unfolding fault_line
returns-in-Ok g c =
    let front = joined_lines c.args.lines.now in
    written-behind g.K.Sink.written g.K.Sink.faults c.args.out.now c.write_lines.new.out c.write_text.new.out (IsText DiskFault fault_line) (IsText DiskFault (front ++ fault_line)) IsNever IsNever front c.write_text.result c.in-Ok.ensures.bytes c.in-Ok.ensures.cause.stands (λ reached text ends. (ends.0, ap (λ (behind : List ℕ). front ++ behind) ends.1)) (λ text never. never) c.write_text.ensures

pub returns-in-Err : goal.returns-in-Err
returns-in-Err g c =
    let front = joined_lines c.args.lines.now in
    let sink = edge g.K.Sink.written g.K.Sink.faults c.args.out.now c.write_lines.new.out in
    let E = IsText DiskFault (front ++ fault_line) in
    subst (λ (status : Status8). Written E IsNever sink status) (sym c.unwritten.ensures) (unwritten E IsNever sink c.in-Err.answer (Some DiskFault) (front ++ fault_line) (refl, refl) c.in-Err.ensures.cause (front-more (g.K.Sink.written c.args.out.now) (g.K.Sink.written c.write_lines.new.out) front fault_line c.in-Err.ensures.bytes))

use Rattle.std.proofs.Common.{◌++◌, Some, refl, ◌∙◌, sym, subst}
use Rattle.std.proofs.KnownBytes.{Appends-trans}
use Rattle.io_edge.proofs.Fronts.{front-behind, front-more}
use Rattle.played_runs.specs.Edges.{edge}
use Rattle.played_runs.specs.Writing.{IsNever, IsText, Whole, Written, joined_lines}
use Rattle.played_runs.specs.declared.ending.Status8.{Status8}
use Rattle.played_runs.specs.declared.ending.Status8.TheVariants as status
use Rattle.played_runs.proofs.CountSteps.{rose-behind}
use Rattle.played_runs.proofs.WritingSteps.{unwritten}
use Rattle.cold_runs.proofs.recovering.write_behind.Goals as goal

pub returns-in-Ok-write_lines : goal.returns-in-Ok-write_lines
returns-in-Ok-write_lines g c =
    let written = g.K.Sink.written in
    let line = c.args.line.now in
    let lines = joined_lines c.args.lines.now in
    Whole (line ++ lines) (refl, refl) (c.in-Ok-write_lines.ensures.cause.stands ∙ c.in-Ok.ensures.cause.stands) (Appends-trans (written c.args.out.now) (written c.write_all.new.sink) (written c.write_lines.new.out) line lines c.in-Ok.ensures.bytes c.in-Ok-write_lines.ensures.bytes)

pub returns-in-Err-write_lines : goal.returns-in-Err-write_lines
returns-in-Err-write_lines g c =
    let written = g.K.Sink.written in
    let faults = g.K.Sink.faults in
    let line = c.args.line.now in
    let lines = joined_lines c.args.lines.now in
    let sink = edge written faults c.args.out.now c.write_lines.new.out in
    let E = IsText status.Done (line ++ lines) in
    subst (λ (ended : Status8). Written E IsNever sink ended) (sym c.unwritten.ensures) (unwritten E IsNever sink c.in-Err-write_lines.answer (Some status.Done) (line ++ lines) (refl, refl) (rose-behind (faults c.args.out.now) (faults c.write_all.new.sink) (faults c.write_lines.new.out) _ _ c.in-Ok.ensures.cause.stands c.in-Err-write_lines.ensures.cause) (front-behind (written c.args.out.now) (written c.write_all.new.sink) (written c.write_lines.new.out) line lines c.in-Ok.ensures.bytes c.in-Err-write_lines.ensures.bytes))

pub returns-in-Err : goal.returns-in-Err
returns-in-Err g c =
    let written = g.K.Sink.written in
    let line = c.args.line.now in
    let lines = joined_lines c.args.lines.now in
    let sink = edge written g.K.Sink.faults c.args.out.now c.write_all.new.sink in
    let E = IsText status.Done (line ++ lines) in
    subst (λ (ended : Status8). Written E IsNever sink ended) (sym c.unwritten-in-Err.ensures) (unwritten E IsNever sink c.in-Err.answer (Some status.Done) (line ++ lines) (refl, refl) c.in-Err.ensures.cause (front-more (written c.args.out.now) (written c.write_all.new.sink) line lines c.in-Err.ensures.bytes))

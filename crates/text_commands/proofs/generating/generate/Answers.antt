use Rattle.std.proofs.Common.{Some, refl, sym, subst}
use Rattle.load_script.specs.Texts.{load_text}
use Rattle.played_runs.specs.declared.ending.Status8.{Status8}
use Rattle.played_runs.specs.declared.ending.Status8.TheVariants.{Done}
use Rattle.played_runs.specs.Edges.{edge}
use Rattle.played_runs.specs.Writing.{IsNever, IsText, Written, Whole}
use Rattle.played_runs.proofs.WritingSteps.{unwritten}
use Rattle.text_commands.proofs.generating.generate.Goals as goal

pub returns-in-Ok : goal.returns-in-Ok
returns-in-Ok g c = Whole (load_text c.args.count c.args.seed) (refl, refl) c.in-Ok.ensures.cause.stands c.in-Ok.ensures.bytes

pub returns-in-Err : goal.returns-in-Err
returns-in-Err g c =
    let sink = edge g.K.Sink.written g.K.Sink.faults c.args.out.now c.write_script.new.out in
    let text = load_text c.args.count c.args.seed in
    let E = IsText Done text in
    subst (λ (status : Status8). Written E IsNever sink status) (sym c.unwritten.ensures) (unwritten E IsNever sink c.in-Err.answer (Some Done) text (refl, refl) c.in-Err.ensures.cause c.in-Err.ensures.bytes)

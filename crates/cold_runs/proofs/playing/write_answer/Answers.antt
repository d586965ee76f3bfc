use Rattle.std.proofs.Common.{ℕ, List, ◌++◌, refl, sym, subst}
use Rattle.command_journal.specs.declared.answer.EventAnswer.{EventAnswer}
use Rattle.played_runs.specs.Edges.{edge}
use Rattle.played_runs.specs.Ends.{fault_line}
use Rattle.played_runs.specs.Writing.{IsNever, IsText, Written, joined_lines}
use Rattle.played_runs.specs.declared.ending.Status8.TheVariants as status
use Rattle.cold_runs.specs.Steps.{AnswerWritten}
use Rattle.cold_runs.proofs.playing.write_answer.Goals as goal

pub returns-in-Memory : goal.returns-in-Memory
returns-in-Memory g c =
    let sink = edge g.K.Sink.written g.K.Sink.faults c.args.out.now c.args.out.now in
    subst (λ (answer : EventAnswer). AnswerWritten answer sink status.Memory) (sym c.in-Memory.is) (refl, refl)

pub returns-in-DiskFault : goal.returns-in-DiskFault
returns-in-DiskFault g c =
    let sink = edge g.K.Sink.written g.K.Sink.faults c.args.out.now c.write_broken.new.out in
    let ended = c.write_broken.result in
    let written = subst (λ (lines : List (List ℕ)). Written (IsText status.DiskFault (joined_lines lines ++ fault_line)) IsNever sink ended) c.as_slice.ensures c.write_broken.ensures in
    subst (λ (answer : EventAnswer). AnswerWritten answer sink ended) (sym c.in-DiskFault.is) written

pub returns-in-Journal : goal.returns-in-Journal
returns-in-Journal g c =
    let sink = edge g.K.Sink.written g.K.Sink.faults c.args.out.now c.write_refused.new.out in
    subst (λ (answer : EventAnswer). AnswerWritten answer sink c.write_refused.result) (sym c.in-Journal.is) c.write_refused.ensures

use Rattle.std.proofs.Common.{refl, sym, subst}
use Rattle.std.specs.Prelude.{codes}
use Rattle.io_edge.specs.declared.answers.ReadAnswer.{ReadAnswer}
use Rattle.io_edge.specs.declared.answers.ReadAnswer.TheVariants as read
use Rattle.played_runs.specs.declared.ending.Status8.TheVariants.{Memory, ReadFault, TooLong}
use Rattle.played_runs.specs.Edges.{edge}
use Rattle.played_runs.specs.Writing.{IsNever, IsText, Written}
use Rattle.played_runs.proofs.EndingSteps.{lacked}
use Rattle.played_runs.proofs.WritingSteps.{written-as}
use Rattle.script_inputs.specs.Unread.{UnreadEnds, UnreadLacks}
use Rattle.script_inputs.proofs.write_unread.Goals as goal

pub returns-in-Memory : goal.returns-in-Memory
returns-in-Memory g c =
    let sink = edge g.K.Sink.written g.K.Sink.faults c.args.out.now c.args.out.now in
    subst (λ (answer : ReadAnswer). Written (UnreadEnds answer) (UnreadLacks answer) sink Memory) (sym c.in-Memory.is) (lacked (UnreadEnds read.Memory) (UnreadLacks read.Memory) sink (refl, refl) refl)

pub returns-in-ReadFault : goal.returns-in-ReadFault
returns-in-ReadFault g c =
    let sink = edge g.K.Sink.written g.K.Sink.faults c.args.out.now c.write_text.new.out in
    let status = c.write_text.result in
    subst (λ (answer : ReadAnswer). Written (UnreadEnds answer) (UnreadLacks answer) sink status) (sym c.in-ReadFault.is) (written-as (IsText ReadFault (codes "read fault\n")) (UnreadEnds read.ReadFault) IsNever (UnreadLacks read.ReadFault) sink status (λ reached text ends. ends) (λ text never. absurd never) c.write_text.ensures)

pub returns-in-TooLong : goal.returns-in-TooLong
returns-in-TooLong g c =
    let sink = edge g.K.Sink.written g.K.Sink.faults c.args.out.now c.write_text-in-TooLong.new.out in
    let status = c.write_text-in-TooLong.result in
    subst (λ (answer : ReadAnswer). Written (UnreadEnds answer) (UnreadLacks answer) sink status) (sym c.in-TooLong.is) (written-as (IsText TooLong (codes "script too long\n")) (UnreadEnds read.TooLong) IsNever (UnreadLacks read.TooLong) sink status (λ reached text ends. ends) (λ text never. absurd never) c.write_text-in-TooLong.ensures)

use Rattle.std.proofs.Common.{◌≡◌, ℕ, List, false, true, Err, refl, sym, ◌∙◌, subst}
use Rattle.command_journal.specs.Playing.{DoesEvent}
use Rattle.command_journal.specs.Worlds.{both}
use Rattle.played_runs.specs.Edges.{edge}
use Rattle.played_runs.specs.declared.ending.Status8.{Status8}
use Rattle.cold_runs.specs.Steps.{PlaysOne, is_late}
use Rattle.cold_runs.proofs.EndSteps.{can-now, line-broken, line-done, line-late, line-unwritten}
use Rattle.cold_runs.proofs.playing.play_line.Goals as goal

pub event-requires-clause-spelled : goal.event-requires-clause-spelled
event-requires-clause-spelled g c κs within = c.requires.can.1.0

pub event-requires-clause-line : goal.event-requires-clause-line
event-requires-clause-line g c κs within =
    let early : is_late c.args.line.now c.args.world.now.now ≡ false = sym c.is_late.ensures ∙ c.if-is_late.false in
    can-now c.args.world.now.now c.requires.can.0 c.args.line.now c.requires.can.1.1 early

pub returns-then-is_late : goal.returns-then-is_late
returns-then-is_late g c =
    let sink = edge g.K.Sink.written g.K.Sink.faults c.args.out.now c.args.out.now in
    let late : is_late c.args.line.now c.args.world.now.now ≡ true = sym c.is_late.ensures ∙ c.if-is_late.true in
    line-late c.args.line.now (both (g.D.SharedDisk.seen c.args.disk.now) (g.J.SharedDisk.seen c.args.journal.now)) c.args.world.now sink late refl

pub returns-in-Ok-write_lines : goal.returns-in-Ok-write_lines
returns-in-Ok-write_lines g c =
    let sink = edge g.K.Sink.written g.K.Sink.faults c.args.out.now c.write_lines.new.out in
    let mid = both (g.D.SharedDisk.seen c.args.disk.now) (g.J.SharedDisk.seen c.args.journal.now) in
    let left = both (g.D.SharedDisk.seen c.event.new.disk) (g.J.SharedDisk.seen c.event.new.journal) in
    let lines = c.as_slice.result.now in
    let does = subst (λ (one : List (List ℕ)). DoesEvent c.args.line.now one c.args.world.now c.event.new.self mid left) (sym c.as_slice.ensures) c.in-Ok.ensures.ok in
    line-done c.args.line.now mid left c.args.world.now c.event.new.self lines sink c.in-Ok-write_lines.ensures.cause.stands c.in-Ok-write_lines.ensures.bytes c.in-Ok.ensures.stands does c.in-Ok.ensures.cause

pub returns-in-Ok : goal.returns-in-Ok
returns-in-Ok g c =
    let sink = edge g.K.Sink.written g.K.Sink.faults c.args.out.now c.write_lines.new.out in
    let mid = both (g.D.SharedDisk.seen c.args.disk.now) (g.J.SharedDisk.seen c.args.journal.now) in
    let left = both (g.D.SharedDisk.seen c.event.new.disk) (g.J.SharedDisk.seen c.event.new.journal) in
    let lines = c.as_slice.result.now in
    let does = subst (λ (one : List (List ℕ)). DoesEvent c.args.line.now one c.args.world.now c.event.new.self mid left) (sym c.as_slice.ensures) c.in-Ok.ensures.ok in
    subst (λ (ended : Status8). PlaysOne c.args.line.now c.args.world.now c.event.new.self mid left sink (Err ended)) (sym c.unwritten.ensures) (line-unwritten c.args.line.now mid left c.args.world.now c.event.new.self lines sink c.in-Err-write_lines.answer c.in-Err-write_lines.ensures.cause c.in-Err-write_lines.ensures.bytes c.in-Ok.ensures.stands does c.in-Ok.ensures.cause)

pub returns : goal.returns
returns g c =
    let sink = edge g.K.Sink.written g.K.Sink.faults c.args.out.now c.write_answer.new.out in
    let mid = both (g.D.SharedDisk.seen c.args.disk.now) (g.J.SharedDisk.seen c.args.journal.now) in
    let left = both (g.D.SharedDisk.seen c.event.new.disk) (g.J.SharedDisk.seen c.event.new.journal) in
    line-broken c.args.line.now mid left c.args.world.now c.event.new.self c.in-Err.answer sink c.write_answer.result c.in-Err.ensures.broken c.in-Err.ensures.cause c.write_answer.ensures

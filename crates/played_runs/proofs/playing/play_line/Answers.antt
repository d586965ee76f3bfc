use Rattle.std.proofs.Common.{ℕ, List, ◌++◌, ◌∙◌, None, refl, sym, subst}
use Rattle.played_runs.specs.declared.ending.Status8.{Status8}
use Rattle.played_runs.specs.declared.ending.Status8.TheVariants.{DiskFault}
use Rattle.played_runs.specs.Edges.{edge}
use Rattle.played_runs.specs.Ends.{FaultLeft, fault_line}
use Rattle.played_runs.specs.Games.{EventDone}
use Rattle.played_runs.specs.Steps.{LineEnds, LineLacks}
use Rattle.played_runs.specs.Writing.{Counting, Ended, Standing, joined_lines, unasked}
use Rattle.played_runs.proofs.EndingSteps.{lacked, text-written}
use Rattle.played_runs.proofs.GoingSteps.{fault-left}
use Rattle.played_runs.proofs.WritingSteps.{unwritten}
use Rattle.played_runs.proofs.playing.play_line.Goals as goal

pub returns-in-Ok : goal.returns-in-Ok
returns-in-Ok g c setup state good shows armed tells =
    let held = g.D.SharedDisk.seen c.args.disk.now in
    let left = g.D.SharedDisk.seen c.event.new.arg3 in
    let disk : ℕ × ℕ = (held.faults, left.faults) in
    let world = c.event.new.arg4 in
    let next = c.args.line.now in
    let E = (LineEnds g.W.Playable.game) setup state next held left world in
    let L = (LineLacks g.W.Playable.game) setup state next held left world in
    let sink = edge g.K.Sink.written g.K.Sink.faults c.args.out.now c.write_lines.new.out in
    let lines = c.as_slice.result.now in
    let happened = c.requires.event.does _ _ _ _ _ _ c.in-Ok.ensures in
    let done = subst (λ (one : List (List ℕ)). (EventDone g.W.Playable.game) setup state next one held left world) (sym c.as_slice.ensures) (happened.ok setup state good shows armed tells) in
    subst (λ (status : Status8). Ended unasked disk E L sink status) (sym c.unwritten.ensures) (unwritten (Counting unasked disk E) (Standing unasked disk L) sink c.in-Err.answer None (joined_lines lines) ((lines, refl, done), (refl, happened.cause)) c.in-Err.ensures.cause c.in-Err.ensures.bytes)

pub returns-in-Err-Memory : goal.returns-in-Err-Memory
returns-in-Err-Memory g c setup state good shows armed tells =
    let happened = c.requires.event.does _ _ _ _ _ _ (rw c.in-Err-Memory.field-0-is at c.in-Err-Memory.ensures) in
    let disk : ℕ × ℕ = ((g.D.SharedDisk.seen c.args.disk.now).faults, (g.D.SharedDisk.seen c.event.new.arg3).faults) in
    let L = (LineLacks g.W.Playable.game) setup state c.args.line.now (g.D.SharedDisk.seen c.args.disk.now) (g.D.SharedDisk.seen c.event.new.arg3) c.event.new.arg4 in
    let broken = happened.broken setup state good shows armed in
    lacked _ (Standing unasked disk L) _ ((refl, broken.0, broken.1), refl, happened.cause) refl

pub returns : goal.returns
returns g c setup state good shows armed tells =
    let held = g.D.SharedDisk.seen c.args.disk.now in
    let left = g.D.SharedDisk.seen c.event.new.arg3 in
    let disk : ℕ × ℕ = (held.faults, left.faults) in
    let E = (LineEnds g.W.Playable.game) setup state c.args.line.now held left c.event.new.arg4 in
    let L = (LineLacks g.W.Playable.game) setup state c.args.line.now held left c.event.new.arg4 in
    let sink = edge g.K.Sink.written g.K.Sink.faults c.args.out.now c.write_broken.new.out in
    let happened = c.requires.event.does _ _ _ _ _ _ (rw c.in-Err-DiskFault.field-0-is at c.in-Err-DiskFault.ensures) in
    let lines = c.as_slice-in-Err-DiskFault.result.now in
    let fault = fault-left g.W.Playable.game g.W.Playable.plays setup state c.args.line.now held left c.args.world.now c.event.new.arg4 c.in-Err-DiskFault.printed good shows armed happened.cause happened.broken in
    let same = c.as_slice-in-Err-DiskFault.ensures ∙ c.in-Err-DiskFault.printed-is in
    let printed = subst (λ (one : List (List ℕ)). FaultLeft g.W.Playable.game setup state c.args.line.now held left c.event.new.arg4 (joined_lines one)) (sym same) fault in
    text-written (Counting unasked disk E) (Standing unasked disk L) DiskFault (joined_lines lines ++ fault_line) sink c.write_broken.result ((joined_lines lines, printed, refl), (refl, happened.cause)) c.write_broken.ensures

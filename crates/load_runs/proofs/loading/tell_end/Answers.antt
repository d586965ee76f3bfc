use Rattle.std.proofs.Common.{List, refl, sym, subst, ℕ}
use Rattle.played_runs.specs.declared.ending.Status8.TheVariants.{Done, DiskFault}
use Rattle.played_runs.specs.declared.passing.Halt.TheVariants as halt
use Rattle.played_runs.specs.Counts.{HasRisen}
use Rattle.played_runs.specs.Edges.{edge}
use Rattle.played_runs.specs.Ends.{fault_line}
use Rattle.played_runs.proofs.CountSteps.{other-stood}
use Rattle.played_runs.proofs.EndingSteps.{lacked, text-written}
use Rattle.load_runs.specs.Loading.{TellsLoad}
use Rattle.load_runs.specs.LoadSteps.{TellEnds, TellLacks}
use Rattle.load_runs.proofs.loading.tell_end.Goals as goal

pub returns-in-Ok : goal.returns-in-Ok
returns-in-Ok g c line_of tells setup state shows =
    let held = g.D.SharedDisk.seen c.args.disk.now in
    let left = g.D.SharedDisk.seen c.tell.new.arg2 in
    let made = tells.does _ _ _ _ c.in-Ok.ensures in
    let sink = edge g.K.Sink.written g.K.Sink.faults c.args.out.now c.write_text.new.out in
    let told = subst (λ (text : List ℕ). TellsLoad g.W.Playable.game line_of state held.files text) (sym c.as_bytes.ensures.value) (made.told setup state shows) in
    text-written ((TellEnds g.W.Playable.game line_of) held left state) (TellLacks held left) Done c.as_bytes.result.now sink c.write_text.result (told, made.counted, made.cause.stands) c.write_text.ensures

pub returns-in-Err-Memory : goal.returns-in-Err-Memory
returns-in-Err-Memory g c line_of tells setup state shows =
    let held = g.D.SharedDisk.seen c.args.disk.now in
    let left = g.D.SharedDisk.seen c.tell.new.arg2 in
    let broke = tells.does _ _ _ _ (rw c.in-Err-Memory.field-0-is at c.in-Err-Memory.ensures) in
    let stood = other-stood held.faults left.faults halt.Memory halt.DiskFault halt.Memory broke.cause refl (λ is. cc) in
    lacked _ _ _ (refl, broke.counted, stood) refl

pub returns-in-Err-DiskFault : goal.returns-in-Err-DiskFault
returns-in-Err-DiskFault g c line_of tells setup state shows =
    let held = g.D.SharedDisk.seen c.args.disk.now in
    let left = g.D.SharedDisk.seen c.tell.new.arg2 in
    let broke = tells.does _ _ _ _ (rw c.in-Err-DiskFault.field-0-is at c.in-Err-DiskFault.ensures) in
    let sink = edge g.K.Sink.written g.K.Sink.faults c.args.out.now c.write_broken.new.out in
    let risen : HasRisen (held.faults, left.faults) = (broke.cause.later, broke.cause.rose refl) in
    text-written ((TellEnds g.W.Playable.game line_of) held left state) (TellLacks held left) DiskFault fault_line sink c.write_broken.result (refl, broke.counted, risen) c.write_broken.ensures

use Rattle.std.proofs.Common.{◌≡◌, [], ◌++◌, ◌∙◌, Option, inl, refl, ap, subst}
use Rattle.disk_model.specs.Disk.{Files}
use Rattle.disk_model.specs.Seen.{DiskSeen}
use Rattle.load_lines.specs.Lines.{closing_lines, first_lines, load_lines, opening_line, turns_lines}
use Rattle.played_runs.specs.declared.ending.Status8.TheVariants.{DiskFault}
use Rattle.played_runs.specs.Edges.{edge, fault_count, stage}
use Rattle.played_runs.specs.Ends.{AtOpening, Opening, Opens, StoodUpTo, fault_line}
use Rattle.played_runs.specs.Views.{FailedDeeds, HoldsNone, LackedDeeds, behind_deeds, counters_of, names_told}
use Rattle.played_runs.specs.Writing.{Counting, Standing, unasked}
use Rattle.played_runs.proofs.CountSteps.{risen-behind, stood-on}
use Rattle.played_runs.proofs.EndingSteps.{lacked, text-written}
use Rattle.played_runs.proofs.WritingSteps.{ended-later}
use Rattle.played_runs.specs.Games.{Begun}
use Rattle.load_runs.specs.Loading.{InPlay}
use Rattle.load_runs.specs.LoadSteps.{LoadEnds, LoadWants, RunEnds, RunWants}
use Rattle.load_runs.proofs.LoadEndings.{run-load, run-wants}
use Rattle.load_runs.proofs.loading.open_load.Goals as goal

pub run_events-requires-clause-begun : goal.run_events-requires-clause-begun
run_events-requires-clause-begun g c =
    let begins = c.requires.lines.begins in
    (begins.0, begins.1, (g.D.SharedDisk.seen c.args.disk.now).files, c.in-Ok.ensures.ok begins.0 begins.1 begins.2 c.requires.bare)

pub returns-in-Ok : goal.returns-in-Ok
returns-in-Ok g c line_of tells earlier asked =
    let begins = c.requires.lines.begins in
    let seen = g.D.SharedDisk.seen in
    let written = g.K.Sink.written in
    let sink_faults = g.K.Sink.faults in
    let opened = c.in-Ok.ensures in
    let events = first_lines ++ turns_lines c.args.seed c.args.count ++ closing_lines in
    let script = load_lines c.args.count c.args.seed in
    let sink = edge written sink_faults c.args.out.now c.run_events.new.out in
    let held = seen earlier in
    let mid = seen c.begin_load.new.disk in
    let left = seen c.run_events.new.disk in
    let world = c.run_events.new.world in
    let scene = stage sink seen earlier c.run_events.new.disk c.args.world.now world in
    let bare : HoldsNone held.files = subst HoldsNone (ap (λ (disk : DiskSeen). disk.files) asked) c.requires.bare in
    let counted : counters_of mid ≡ behind_deeds begins.0 (counters_of (names_told held)) =
    opened.leaves begins.0 begins.1 begins.2 ∙ ap (λ (disk : DiskSeen). behind_deeds begins.0 (counters_of disk)) asked in
    let stood : mid.faults ≡ held.faults = opened.cause ∙ ap (λ (disk : DiskSeen). disk.faults) asked in
    let Start : Option Files → Type 0 = λ files. (Begun g.W.Playable.game) begins.0 begins.1 files mid c.begin_load.new.world in
    let begun = subst Start (ap (λ (disk : DiskSeen). disk.files) asked) (opened.ok begins.0 begins.1 begins.2 c.requires.bare) in
    let Since = StoodUpTo seen in
    ended-later unasked held.faults mid.faults left.faults ((RunEnds g.W.Playable.game line_of) begins.0 begins.1 held.files (counters_of mid) left Since world events) ((LoadEnds g.W.Playable.game line_of) script scene) ((RunWants g.W.Playable.game) begins.0 begins.1 held.files (counters_of mid) left Since world events) ((LoadWants g.W.Playable.game) script scene) sink c.run_events.result stood
    (run-load g.W.Playable.game g.W.Playable.plays line_of written sink_faults c.args.out.now c.run_events.new.out seen c.args.world.now world earlier c.begin_load.new.disk c.run_events.new.disk opening_line events begins.0 begins.1 begins.2 bare counted)
    (run-wants g.W.Playable.game g.W.Playable.plays line_of written sink_faults c.args.out.now c.run_events.new.out seen c.args.world.now world earlier c.begin_load.new.disk c.run_events.new.disk opening_line events begins.0 begins.1 begins.2 bare counted)
    (c.run_events.ensures line_of tells begins.0 begins.1 held.files begun)

pub returns-in-Err-Memory : goal.returns-in-Err-Memory
returns-in-Err-Memory g c line_of tells earlier asked =
    let begins = c.requires.lines.begins in
    let held = g.D.SharedDisk.seen earlier in
    let left = g.D.SharedDisk.seen c.begin_load.new.disk in
    let events = first_lines ++ turns_lines c.args.seed c.args.count ++ closing_lines in
    let leaves = rw c.in-Err-Memory.field-0-is at (c.in-Err-Memory.ensures.leaves begins.0 begins.1 begins.2) in
    let bare : HoldsNone held.files = subst HoldsNone (ap (λ (disk : DiskSeen). disk.files) asked) c.requires.bare in
    let opens : Opens g.W.Playable.game (load_lines c.args.count c.args.seed) held.files =
    record { opening = opening_line; events = events; parts = refl; empty = bare; setup = begins.0; places = begins.1; begins = begins.2 } in
    let lacks : LackedDeeds begins.0 (names_told held) left = subst (λ (disk : DiskSeen). LackedDeeds begins.0 disk left) asked leaves in
    lacked _ _ _ ((refl, ([], inl (Opening refl opens lacks c.in-Err-Memory.ensures.same))), refl, stood-on (held.faults, left.faults) lacks.faults) refl

pub returns-in-Err-DiskFault : goal.returns-in-Err-DiskFault
returns-in-Err-DiskFault g c line_of tells earlier asked =
    let begins = c.requires.lines.begins in
    let held = g.D.SharedDisk.seen earlier in
    let old = g.D.SharedDisk.seen c.args.disk.now in
    let left = g.D.SharedDisk.seen c.begin_load.new.disk in
    let events = first_lines ++ turns_lines c.args.seed c.args.count ++ closing_lines in
    let script = load_lines c.args.count c.args.seed in
    let sink = edge g.K.Sink.written g.K.Sink.faults c.args.out.now c.write_broken.new.out in
    let scene = stage sink g.D.SharedDisk.seen earlier c.begin_load.new.disk c.args.world.now c.begin_load.new.world in
    let disk = fault_count scene.disk in
    let cause = rw c.in-Err-DiskFault.field-0-is at c.in-Err-DiskFault.ensures.cause in
    let broke = rw c.in-Err-DiskFault.field-0-is at (c.in-Err-DiskFault.ensures.leaves begins.0 begins.1 begins.2) in
    let bare : HoldsNone held.files = subst HoldsNone (ap (λ (one : DiskSeen). one.files) asked) c.requires.bare in
    let opens : Opens g.W.Playable.game script held.files =
    record { opening = opening_line; events = events; parts = refl; empty = bare; setup = begins.0; places = begins.1; begins = begins.2 } in
    let fails : FailedDeeds begins.0 (names_told held) left = subst (λ (one : DiskSeen). FailedDeeds begins.0 one left) asked broke.1 in
    let risen = risen-behind held.faults old.faults left.faults (ap (λ (one : DiskSeen). one.faults) asked) cause in
    text-written (Counting unasked disk ((LoadEnds g.W.Playable.game line_of) script scene)) (Standing unasked disk ((LoadWants g.W.Playable.game) script scene)) DiskFault fault_line sink c.write_broken.result (InPlay fault_line (AtOpening opens fails c.in-Err-DiskFault.ensures.same refl) refl, (refl, risen)) c.write_broken.ensures

use Rattle.std.proofs.Common.{◌≡◌, ℕ, List, ◌∷◌, ◌++◌, ◌∙◌, Option, ap, refl, subst}
use Rattle.disk_model.specs.Disk.{Files}
use Rattle.disk_model.specs.Seen.{DiskSeen}
use Rattle.played_runs.specs.declared.ending.Status8.TheVariants.{DiskFault}
use Rattle.played_runs.specs.Edges.{edge, fault_count, stage}
use Rattle.played_runs.specs.Ends.{PlayEnds, PlayLacks, Opens, Opening, StoodUpTo, AtOpening, fault_line}
use Rattle.played_runs.specs.Games.{Begun}
use Rattle.played_runs.specs.Steps.{EventsEnd, LacksBehind}
use Rattle.played_runs.specs.Views.{FailedDeeds, HoldsNone, LackedDeeds, behind_deeds, counters_of, names_told}
use Rattle.played_runs.specs.Writing.{Counting, Standing, joined_lines, unasked}
use Rattle.played_runs.proofs.CountSteps.{risen-behind, stood-on}
use Rattle.played_runs.proofs.GoingSteps.{begun-follows}
use Rattle.played_runs.proofs.EndingSteps.{events-lack, events-play, lacked, text-written}
use Rattle.played_runs.proofs.WritingSteps.{ended-later}
use Rattle.played_runs.proofs.playing.open.Goals as goal

pub returns-in-Ok : goal.returns-in-Ok
returns-in-Ok g c earlier asked =
    let game = g.W.Playable.game in
    let seen = g.D.SharedDisk.seen in
    let written = g.K.Sink.written in
    let sink_faults = g.K.Sink.faults in
    let begins = c.requires.script.begins in
    let opened = c.in-Ok.ensures in
    let begun = opened.ok begins.0 begins.1 begins.2 c.requires.bare in
    let sink = edge written sink_faults c.args.out.now c.play_events.new.out in
    let held = seen earlier in
    let old = seen c.args.disk.now in
    let mid = seen c.begin_by.new.disk in
    let left = seen c.play_events.new.disk in
    let world = c.play_events.new.world in
    let events = c.args.events.now in
    let scene = stage sink seen earlier c.play_events.new.disk c.args.world.now world in
    let bare : HoldsNone held.files = subst HoldsNone (ap (λ (disk : DiskSeen). disk.files) asked) c.requires.bare in
    let counted : counters_of mid ≡ behind_deeds begins.0 (counters_of (names_told held)) =
    opened.leaves begins.0 begins.1 begins.2 ∙ ap (λ (disk : DiskSeen). behind_deeds begins.0 (counters_of disk)) asked in
    let stood : mid.faults ≡ held.faults = opened.cause ∙ ap (λ (disk : DiskSeen). disk.faults) asked in
    let Start : Option Files → Type 0 = λ files. (Begun game) begins.0 begins.1 files mid c.begin_by.new.world in
    let start = subst Start (ap (λ (disk : DiskSeen). disk.files) asked) begun in
    ended-later unasked held.faults mid.faults left.faults ((EventsEnd game) begins.0 begins.1 held.files (counters_of mid) left (StoodUpTo seen) world events) (PlayEnds game (c.args.opening ∷ events) scene) ((LacksBehind game) begins.0 begins.1 held.files (counters_of mid) left world events) (PlayLacks game (c.args.opening ∷ events) scene) sink c.play_events.result stood
    (events-play game written sink_faults c.args.out.now c.play_events.new.out seen c.args.world.now world earlier c.begin_by.new.disk c.play_events.new.disk c.args.opening events begins.0 begins.1 begins.2 bare counted)
    (events-lack game written sink_faults c.args.out.now c.play_events.new.out seen c.args.world.now world earlier c.begin_by.new.disk c.play_events.new.disk c.args.opening events begins.0 begins.1 begins.2 bare counted)
    (c.play_events.ensures begins.0 begins.1 held.files start)

pub returns-in-Err-Memory : goal.returns-in-Err-Memory
returns-in-Err-Memory g c earlier asked =
    let held = g.D.SharedDisk.seen earlier in
    let left = g.D.SharedDisk.seen c.begin_by.new.disk in
    let begins = c.requires.script.begins in
    let leaves = rw c.in-Err-Memory.field-0-is at (c.in-Err-Memory.ensures.leaves begins.0 begins.1 begins.2) in
    let bare : HoldsNone held.files = subst HoldsNone (ap (λ (disk : DiskSeen). disk.files) asked) c.requires.bare in
    let opens : Opens g.W.Playable.game (c.args.opening ∷ c.args.events.now) held.files =
    record { opening = c.args.opening; events = c.args.events.now; parts = refl; empty = bare; setup = begins.0; places = begins.1; begins = begins.2 } in
    let lacks : LackedDeeds begins.0 (names_told held) left =
    subst (λ (disk : DiskSeen). LackedDeeds begins.0 disk left) asked leaves in
    lacked _ _ _ (Opening refl opens lacks c.in-Err-Memory.ensures.same, refl, stood-on (held.faults, left.faults) lacks.faults) refl

pub returns-in-Err-DiskFault : goal.returns-in-Err-DiskFault
returns-in-Err-DiskFault g c earlier asked =
    let held = g.D.SharedDisk.seen earlier in
    let old = g.D.SharedDisk.seen c.args.disk.now in
    let left = g.D.SharedDisk.seen c.begin_by.new.disk in
    let sink = edge g.K.Sink.written g.K.Sink.faults c.args.out.now c.write_broken.new.out in
    let scene = stage sink g.D.SharedDisk.seen earlier c.begin_by.new.disk c.args.world.now c.begin_by.new.world in
    let script = c.args.opening ∷ c.args.events.now in
    let disk = fault_count scene.disk in
    let begins = c.requires.script.begins in
    let cause = rw c.in-Err-DiskFault.field-0-is at c.in-Err-DiskFault.ensures.cause in
    let broke = rw c.in-Err-DiskFault.field-0-is at (c.in-Err-DiskFault.ensures.leaves begins.0 begins.1 begins.2) in
    let bare : HoldsNone held.files = subst HoldsNone (ap (λ (disk : DiskSeen). disk.files) asked) c.requires.bare in
    let opens : Opens g.W.Playable.game script held.files =
    record { opening = c.args.opening; events = c.args.events.now; parts = refl; empty = bare; setup = begins.0; places = begins.1; begins = begins.2 } in
    let fails : FailedDeeds begins.0 (names_told held) left = subst (λ (one : DiskSeen). FailedDeeds begins.0 one left) asked broke.1 in
    let risen = risen-behind held.faults old.faults left.faults (ap (λ (one : DiskSeen). one.faults) asked) cause in
    let none = ap (λ (lines : List (List ℕ)). joined_lines lines ++ fault_line) (c.as_slice.ensures ∙ c.in-Err-DiskFault.printed-is ∙ broke.0) in
    text-written (Counting unasked disk (PlayEnds g.W.Playable.game script scene)) (Standing unasked disk (PlayLacks g.W.Playable.game script scene)) DiskFault (joined_lines c.as_slice.result.now ++ fault_line) sink c.write_broken.result (AtOpening opens fails c.in-Err-DiskFault.ensures.same none, (refl, risen)) c.write_broken.ensures

pub play_events-requires-clause-follows : goal.play_events-requires-clause-follows
play_events-requires-clause-follows g c =
    let begins = c.requires.script.begins in
    let opened = c.in-Ok.ensures in
    let begun = opened.ok begins.0 begins.1 begins.2 c.requires.bare in
    begun-follows g.W.Playable.game g.W.Playable.plays begins.0 begins.1 _ _ c.begin_by.new.world c.args.events.now begun (c.requires.script.follows begins.0 begins.1 begins.2)

pub play_events-requires-clause-begun : goal.play_events-requires-clause-begun
play_events-requires-clause-begun g c =
    let begins = c.requires.script.begins in
    let opened = c.in-Ok.ensures in
    (begins.0, begins.1, (g.D.SharedDisk.seen c.args.disk.now).files, opened.ok begins.0 begins.1 begins.2 c.requires.bare)

pub begin_by-requires-clause-can : goal.begin_by-requires-clause-can
begin_by-requires-clause-can g c =
    record { spelled = c.requires.script.spelled; begins = c.requires.script.begins; empty = c.requires.empty; unarmed = c.requires.unarmed }

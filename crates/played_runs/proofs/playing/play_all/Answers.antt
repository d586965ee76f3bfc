use Rattle.std.proofs.Common.{◌≡◌, ℕ, List, ◌∷◌, ◌++◌, ◌∙◌, Err, refl, ap, sym, subst}
use Rattle.std.specs.Prelude.{codes, IfSome}
use Rattle.std.specs.FinMap.{keys}
use Rattle.disk_model.specs.declared.answers.DiskAnswer.TheVariants as answer
use Rattle.disk_model.specs.declared.tally.Tally.{Tally}
use Rattle.played_runs.specs.declared.ending.Status8.TheVariants.{DiskFault, RootNotEmpty}
use Rattle.played_runs.specs.Counts.{HasRisen}
use Rattle.played_runs.specs.Edges.{edge, fault_count, stage}
use Rattle.played_runs.specs.Ends.{PlayEnds, PlayLacks, Unopened, AtNames, fault_line}
use Rattle.played_runs.specs.Steps.{IsPlayable}
use Rattle.played_runs.specs.Writing.{Counting, Ended, IsNone, IsText, Standing, unasked}
use Rattle.played_runs.proofs.CountSteps.{other-stood, stood-on}
use Rattle.played_runs.proofs.EndingSteps.{lacked, names-told, text-ends, text-written}
use Rattle.played_runs.proofs.WritingSteps.{written-as}
use Rattle.played_runs.proofs.playing.play_all.Goals as goal

pub returns-in-Ok-Some : goal.returns-in-Ok-Some
returns-in-Ok-Some g c =
    let found = c.in-Ok-Some.ensures in
    let stood = found.cause.stands in
    let names = rw c.in-Ok-Some.field-0-is at found.found in
    let sink = edge g.K.Sink.written g.K.Sink.faults c.args.out.now c.write_held.new.out in
    let scene = stage sink g.D.SharedDisk.seen c.args.disk.now c.first_name.new.disk c.args.world.now c.args.world.now in
    let disk = fault_count scene.disk in
    let name = c.as_slice.result.now in
    let L : List ℕ → Type 0 = λ one. IfSome (g.D.SharedDisk.seen c.args.disk.now).files (λ f. (others : List (List ℕ)) × (keys f ≡ one ∷ others)) in
    let least = subst L (sym c.as_slice.ensures.bytes) names in
    let named = names-told (g.D.SharedDisk.seen c.args.disk.now) (g.D.SharedDisk.seen c.first_name.new.disk) found.same found.counted stood found.stops_stay in
    let text = codes "root not empty: " ++ (name ++ codes "\n") in
    let E = Counting unasked disk (PlayEnds g.W.Playable.game c.args.lines.now scene) in
    written-as (IsText RootNotEmpty text) E IsNone (Standing unasked disk (PlayLacks g.W.Playable.game c.args.lines.now scene)) sink c.write_held.result (text-ends E RootNotEmpty text (record { name = name; least = least; same = named; world = refl; printed = refl }, (refl, stood))) (λ one none. (Unopened none named refl, refl, stood-on disk stood)) c.write_held.ensures

pub returns-in-Some : goal.returns-in-Some
returns-in-Some g c =
    let sink = edge g.K.Sink.written g.K.Sink.faults c.args.out.now c.open.new.out in
    let scene = stage sink g.D.SharedDisk.seen c.args.disk.now c.open.new.disk c.args.world.now c.open.new.world in
    let found = c.in-Ok-None.ensures in
    let named = names-told (g.D.SharedDisk.seen c.args.disk.now) (g.D.SharedDisk.seen c.first_name.new.disk) found.same found.counted found.cause.stands found.stops_stay in
    subst (λ (lines : List g.row.L.Denot). Ended unasked (fault_count scene.disk) (PlayEnds g.W.Playable.game lines scene) (PlayLacks g.W.Playable.game lines scene) sink c.open.result) (sym c.in-Some.ensures)
    (c.open.ensures c.args.disk.now named)

-- a script that can be played has a line
pub returns-in-None : goal.returns-in-None
returns-in-None g c = absurd (subst (IsPlayable g.W.Playable.game) c.in-None.ensures.0 c.requires.script)

pub returns-in-Err-Memory : goal.returns-in-Err-Memory
returns-in-Err-Memory g c =
    let stood = other-stood (g.D.SharedDisk.seen c.args.disk.now).faults (g.D.SharedDisk.seen c.first_name.new.disk).faults c.in-Err-Memory.field-0 answer.Failed answer.Memory c.in-Err-Memory.ensures.cause c.in-Err-Memory.field-0-is (λ is. cc) in
    let asked = c.in-Err-Memory.ensures in
    let named = names-told (g.D.SharedDisk.seen c.args.disk.now) (g.D.SharedDisk.seen c.first_name.new.disk) asked.same asked.counted stood asked.stops_stay in
    lacked _ _ _ (Unopened refl named refl, refl, stood-on ((g.D.SharedDisk.seen c.args.disk.now).faults, (g.D.SharedDisk.seen c.first_name.new.disk).faults) stood) refl

pub returns-in-Err-Stopped : goal.returns-in-Err-Stopped
returns-in-Err-Stopped g c =
    let stood = other-stood (g.D.SharedDisk.seen c.args.disk.now).faults (g.D.SharedDisk.seen c.first_name.new.disk).faults c.in-Err-Stopped.field-0 answer.Failed answer.Stopped c.in-Err-Stopped.ensures.cause c.in-Err-Stopped.field-0-is (λ is. cc) in
    let asked = c.in-Err-Stopped.ensures in
    let named = names-told (g.D.SharedDisk.seen c.args.disk.now) (g.D.SharedDisk.seen c.first_name.new.disk) asked.same asked.counted stood asked.stops_stay in
    lacked _ _ _ (Unopened refl named refl, refl, stood-on ((g.D.SharedDisk.seen c.args.disk.now).faults, (g.D.SharedDisk.seen c.first_name.new.disk).faults) stood) refl

pub returns-in-Err-Failed : goal.returns-in-Err-Failed
returns-in-Err-Failed g c =
    let sink = edge g.K.Sink.written g.K.Sink.faults c.args.out.now c.write_broken.new.out in
    let scene = stage sink g.D.SharedDisk.seen c.args.disk.now c.first_name.new.disk c.args.world.now c.args.world.now in
    let disk = fault_count scene.disk in
    let failed = c.in-Err-Failed.ensures in
    let risen : HasRisen disk = (failed.cause.later, failed.cause.rose (ap Err c.in-Err-Failed.field-0-is)) in
    text-written (Counting unasked disk (PlayEnds g.W.Playable.game c.args.lines.now scene)) (Standing unasked disk (PlayLacks g.W.Playable.game c.args.lines.now scene)) DiskFault fault_line sink c.write_broken.result (AtNames (record { files = failed.same; tally = failed.counted; stops = failed.stops_stay }) refl refl, (refl, risen)) c.write_broken.ensures

pub open-requires-clause-script : goal.open-requires-clause-script
open-requires-clause-script g c = subst (IsPlayable g.W.Playable.game) c.in-Some.ensures c.requires.script

pub open-requires-clause-unarmed : goal.open-requires-clause-unarmed
open-requires-clause-unarmed g c = ap (λ (tally : Tally). tally.armed) c.in-Ok-None.ensures.counted ∙ c.requires.unarmed

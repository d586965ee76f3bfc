use Rattle.std.proofs.Common.{◌≡◌, ℕ, List, [], ◌∷◌, ◌++◌, ◌∙◌, Err, inl, refl, ap, sym, subst}
use Rattle.std.specs.Prelude.{codes, IfSome}
use Rattle.std.specs.FinMap.{keys}
use Rattle.disk_model.specs.declared.answers.DiskAnswer.TheVariants as answer
use Rattle.disk_model.specs.declared.tally.Tally.{Tally}
use Rattle.load_lines.specs.Lines.{load_lines}
use Rattle.played_runs.specs.declared.ending.Status8.TheVariants.{DiskFault, RootNotEmpty}
use Rattle.played_runs.specs.Counts.{HasRisen}
use Rattle.played_runs.specs.Edges.{edge, fault_count, stage}
use Rattle.played_runs.specs.Ends.{AtNames, Unopened, fault_line}
use Rattle.played_runs.specs.Writing.{Counting, IsNone, IsText, Standing, unasked}
use Rattle.played_runs.proofs.CountSteps.{other-stood, stood-on}
use Rattle.played_runs.proofs.EndingSteps.{lacked, names-told, text-ends, text-written}
use Rattle.played_runs.proofs.WritingSteps.{written-as}
use Rattle.load_runs.specs.Loading.{InPlay}
use Rattle.load_runs.specs.LoadSteps.{LoadEnds, LoadWants}
use Rattle.load_runs.proofs.loading.play_load.Goals as goal

pub returns-in-Ok-None-clause-ends : goal.returns-in-Ok-None-clause-ends
returns-in-Ok-None-clause-ends g c line_of tells =
    let found = c.in-Ok-None.ensures in
    c.open_load.ensures line_of tells c.args.disk.now (names-told (g.D.SharedDisk.seen c.args.disk.now) (g.D.SharedDisk.seen c.first_name.new.disk) found.same found.counted found.cause.stands found.stops_stay)

pub returns-in-Ok-Some-clause-ends : goal.returns-in-Ok-Some-clause-ends
returns-in-Ok-Some-clause-ends g c line_of tells =
    let held = g.D.SharedDisk.seen c.args.disk.now in
    let left = g.D.SharedDisk.seen c.first_name.new.disk in
    let found = c.in-Ok-Some.ensures in
    let stood = found.cause.stands in
    let names = rw c.in-Ok-Some.field-0-is at found.found in
    let script = load_lines c.args.count c.args.seed in
    let sink = edge g.K.Sink.written g.K.Sink.faults c.args.out.now c.write_held.new.out in
    let scene = stage sink g.D.SharedDisk.seen c.args.disk.now c.first_name.new.disk c.args.world.now c.args.world.now in
    let disk = fault_count scene.disk in
    let name = c.as_slice.result.now in
    let L : List ℕ → Type 0 = λ one. IfSome held.files (λ f. (others : List (List ℕ)) × (keys f ≡ one ∷ others)) in
    let least = subst L (sym c.as_slice.ensures.bytes) names in
    let named = names-told held left found.same found.counted stood found.stops_stay in
    let text = codes "root not empty: " ++ (name ++ codes "\n") in
    let E = Counting unasked disk ((LoadEnds g.W.Playable.game line_of) script scene) in
    written-as (IsText RootNotEmpty text) E IsNone (Standing unasked disk ((LoadWants g.W.Playable.game) script scene)) sink c.write_held.result (text-ends E RootNotEmpty text (record { name = name; least = least; same = named; world = refl; printed = refl }, (refl, stood))) (λ one none. ((none, ([], inl (Unopened refl named refl))), refl, stood-on disk stood)) c.write_held.ensures

pub returns-in-Err-Memory-clause-ends : goal.returns-in-Err-Memory-clause-ends
returns-in-Err-Memory-clause-ends g c line_of tells =
    let held = g.D.SharedDisk.seen c.args.disk.now in
    let left = g.D.SharedDisk.seen c.first_name.new.disk in
    let asked = c.in-Err-Memory.ensures in
    let stood = other-stood held.faults left.faults c.in-Err-Memory.field-0 answer.Failed answer.Memory asked.cause c.in-Err-Memory.field-0-is (λ is. cc) in
    let named = names-told held left asked.same asked.counted stood asked.stops_stay in
    lacked _ _ _ ((refl, ([], inl (Unopened refl named refl))), refl, stood-on (held.faults, left.faults) stood) refl

pub returns-in-Err-Stopped-clause-ends : goal.returns-in-Err-Stopped-clause-ends
returns-in-Err-Stopped-clause-ends g c line_of tells =
    let held = g.D.SharedDisk.seen c.args.disk.now in
    let left = g.D.SharedDisk.seen c.first_name.new.disk in
    let asked = c.in-Err-Stopped.ensures in
    let stood = other-stood held.faults left.faults c.in-Err-Stopped.field-0 answer.Failed answer.Stopped asked.cause c.in-Err-Stopped.field-0-is (λ is. cc) in
    let named = names-told held left asked.same asked.counted stood asked.stops_stay in
    lacked _ _ _ ((refl, ([], inl (Unopened refl named refl))), refl, stood-on (held.faults, left.faults) stood) refl

pub returns-in-Err-Failed-clause-ends : goal.returns-in-Err-Failed-clause-ends
returns-in-Err-Failed-clause-ends g c line_of tells =
    let script = load_lines c.args.count c.args.seed in
    let sink = edge g.K.Sink.written g.K.Sink.faults c.args.out.now c.write_broken.new.out in
    let scene = stage sink g.D.SharedDisk.seen c.args.disk.now c.first_name.new.disk c.args.world.now c.args.world.now in
    let disk = fault_count scene.disk in
    let failed = c.in-Err-Failed.ensures in
    let risen : HasRisen disk = (failed.cause.later, failed.cause.rose (ap Err c.in-Err-Failed.field-0-is)) in
    text-written (Counting unasked disk ((LoadEnds g.W.Playable.game line_of) script scene)) (Standing unasked disk ((LoadWants g.W.Playable.game) script scene)) DiskFault fault_line sink c.write_broken.result (InPlay fault_line (AtNames (record { files = failed.same; tally = failed.counted; stops = failed.stops_stay }) refl refl) refl, (refl, risen)) c.write_broken.ensures

pub open_load-requires-clause-unarmed : goal.open_load-requires-clause-unarmed
open_load-requires-clause-unarmed g c = ap (λ (tally : Tally). tally.armed) c.in-Ok-None.ensures.counted ∙ c.requires.unarmed

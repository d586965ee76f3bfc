use Rattle.std.proofs.Common.{ℕ, [], ◌++◌, inl, refl}
use Rattle.load_lines.specs.Lines.{closing_lines, first_lines, turns_lines}
use Rattle.played_runs.specs.declared.ending.Status8.TheVariants.{DiskFault}
use Rattle.played_runs.specs.Edges.{edge}
use Rattle.played_runs.specs.Ends.{StoodUpTo, fault_line}
use Rattle.played_runs.specs.Views.{counters_of}
use Rattle.played_runs.specs.Writing.{Counting, Standing, unasked}
use Rattle.played_runs.proofs.EndingSteps.{lacked, text-written}
use Rattle.played_runs.proofs.GoingSteps.{going-start}
use Rattle.played_runs.proofs.PassingSteps.{gone-start}
use Rattle.played_runs.proofs.WritingSteps.{written-as}
use Rattle.load_runs.specs.LoadSteps.{RunEnds, RunWants, TellEnds, TellLacks}
use Rattle.load_runs.proofs.LoadEndings.{tells-lack, tells-run, wants-halted}
use Rattle.load_runs.proofs.loading.run_events.Goals as goal

pub pass_events-requires-clause-gone : goal.pass_events-requires-clause-gone
pass_events-requires-clause-gone g c =
    gone-start g.W.Playable.game g.W.Playable.plays (g.D.SharedDisk.seen c.args.disk.now) c.args.world.now c.requires.begun

pub returns-in-Ok : goal.returns-in-Ok
returns-in-Ok g c line_of tells setup places held begun =
    let start = g.D.SharedDisk.seen c.args.disk.now in
    let first = counters_of start in
    let mid = g.D.SharedDisk.seen c.pass_events.new.disk in
    let left = g.D.SharedDisk.seen c.tell_end.new.disk in
    let world = c.pass_events.new.world in
    let events = first_lines ++ turns_lines c.args.seed c.args.count ++ closing_lines in
    let Since = StoodUpTo g.D.SharedDisk.seen in
    let ends = c.in-Ok.ensures.passes setup places held first [] [] (going-start g.W.Playable.game g.W.Playable.plays setup places held start c.args.world.now begun) in
    let going = ends.1 in
    let all : ℕ × ℕ = (start.faults, left.faults) in
    let sink = edge g.K.Sink.written g.K.Sink.faults c.args.out.now c.tell_end.new.out in
    written-as ((TellEnds g.W.Playable.game line_of) mid left going.state) (Counting unasked all ((RunEnds g.W.Playable.game line_of) setup places held first left Since world events)) (TellLacks mid left) (Standing unasked all ((RunWants g.W.Playable.game) setup places held first left Since world events)) sink c.tell_end.result
    (tells-run g.W.Playable.game g.W.Playable.plays line_of setup places held first mid left Since world events ends.0 going start.faults c.in-Ok.ensures.counts)
    (tells-lack g.W.Playable.game g.W.Playable.plays line_of setup places held first mid left Since world events ends.0 going start.faults c.in-Ok.ensures.counts)
    (c.tell_end.ensures line_of tells setup going.state going.shows)

pub returns-in-Err-Memory : goal.returns-in-Err-Memory
returns-in-Err-Memory g c line_of tells setup places held begun =
    let start = g.D.SharedDisk.seen c.args.disk.now in
    let left = g.D.SharedDisk.seen c.pass_events.new.disk in
    let events = first_lines ++ turns_lines c.args.seed c.args.count ++ closing_lines in
    let first = counters_of start in
    let passes = rw c.in-Err-Memory.field-0-is at c.in-Err-Memory.ensures.passes in
    let on = rw c.in-Err-Memory.field-0-is at c.in-Err-Memory.ensures.counts in
    let ends = passes setup places held first [] [] (going-start g.W.Playable.game g.W.Playable.plays setup places held start c.args.world.now begun) in
    lacked _ _ _ ((refl, (ends.0, wants-halted g.W.Playable.game g.W.Playable.plays line_of setup places held first left (StoodUpTo g.D.SharedDisk.seen) c.pass_events.new.world events ends.0 ends.1)), refl, on) refl

pub returns-in-Err-DiskFault : goal.returns-in-Err-DiskFault
returns-in-Err-DiskFault g c line_of tells setup places held begun =
    let start = g.D.SharedDisk.seen c.args.disk.now in
    let first = counters_of start in
    let left = g.D.SharedDisk.seen c.pass_events.new.disk in
    let world = c.pass_events.new.world in
    let events = first_lines ++ turns_lines c.args.seed c.args.count ++ closing_lines in
    let Since = StoodUpTo g.D.SharedDisk.seen in
    let passes = rw c.in-Err-DiskFault.field-0-is at c.in-Err-DiskFault.ensures.passes in
    let risen = rw c.in-Err-DiskFault.field-0-is at c.in-Err-DiskFault.ensures.counts in
    let ends = passes setup places held first [] [] (going-start g.W.Playable.game g.W.Playable.plays setup places held start c.args.world.now begun) in
    let all : ℕ × ℕ = (start.faults, left.faults) in
    let sink = edge g.K.Sink.written g.K.Sink.faults c.args.out.now c.write_broken.new.out in
    text-written (Counting unasked all ((RunEnds g.W.Playable.game line_of) setup places held first left Since world events)) (Standing unasked all ((RunWants g.W.Playable.game) setup places held first left Since world events)) DiskFault fault_line sink c.write_broken.result ((refl, inl ends), (refl, risen)) c.write_broken.ensures

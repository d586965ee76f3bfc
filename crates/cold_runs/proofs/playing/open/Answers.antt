use Rattle.std.proofs.Common.{[]}
use Rattle.command_journal.specs.Worlds.{both}
use Rattle.played_runs.specs.Edges.{edge}
use Rattle.cold_runs.proofs.EndSteps.{begun-goes, begun-stands, start-broken}
use Rattle.cold_runs.proofs.playing.open.Goals as goal

pub begin-requires-clause-line : goal.begin-requires-clause-line
begin-requires-clause-line g c = c.requires.script.begins

pub begin-requires-clause-spelled : goal.begin-requires-clause-spelled
begin-requires-clause-spelled g c = c.requires.script.spelled

pub play_events-requires-clause-can : goal.play_events-requires-clause-can
play_events-requires-clause-can g c κs within =
    let begins = c.requires.script.begins in
    (begins.0.start, c.requires.script.follows begins.0 begins.1 begins.2)

pub play_events-requires-clause-state : goal.play_events-requires-clause-state
play_events-requires-clause-state g c κs within =
    let begins = c.requires.script.begins in
    let begun = c.in-Ok.ensures.ok begins.0 begins.1 begins.2 c.requires.bare in
    begun-stands begins.0 begins.1 (both (g.D.SharedDisk.seen c.args.disk.now) (g.J.SharedDisk.seen c.args.journal.now)) (both (g.D.SharedDisk.seen c.begin.new.disk) (g.J.SharedDisk.seen c.begin.new.journal)) c.begin.new.self begun

pub returns-in-Ok : goal.returns-in-Ok
returns-in-Ok g c held asked =
    let mid = both (g.D.SharedDisk.seen c.args.disk.now) (g.J.SharedDisk.seen c.args.journal.now) in
    let left = both (g.D.SharedDisk.seen c.begin.new.disk) (g.J.SharedDisk.seen c.begin.new.journal) in
    let begins = c.requires.script.begins in
    let begun = c.in-Ok.ensures.ok begins.0 begins.1 begins.2 c.requires.bare in
    let leaves = c.in-Ok.ensures.leaves begins.0 begins.1 begins.2 in
    let goes = begun-goes held mid left asked c.args.opening c.args.events.now begins.0 begins.1 begins.2 c.requires.bare c.requires.bare_too c.begin.new.self begun leaves c.in-Ok.ensures.cause (c.requires.script.follows begins.0 begins.1 begins.2) in
    c.play_events.ensures held _ [] [] c.args.world.now goes

pub returns-in-Err : goal.returns-in-Err
returns-in-Err g c held asked =
    let mid = both (g.D.SharedDisk.seen c.args.disk.now) (g.J.SharedDisk.seen c.args.journal.now) in
    let left = both (g.D.SharedDisk.seen c.begin.new.disk) (g.J.SharedDisk.seen c.begin.new.journal) in
    let sink = edge g.K.Sink.written g.K.Sink.faults c.args.out.now c.write_answer.new.out in
    let begins = c.requires.script.begins in
    start-broken held mid left asked c.args.opening c.args.events.now begins.0 begins.1 begins.2 c.requires.bare c.requires.bare_too c.in-Err.answer sink c.write_answer.result c.args.world.now c.begin.new.self c.in-Err.ensures.same (c.in-Err.ensures.leaves begins.0 begins.1 begins.2) c.in-Err.ensures.cause c.write_answer.ensures

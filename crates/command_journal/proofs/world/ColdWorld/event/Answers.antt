use Rattle.cluster_lines.proofs.LineSpelled.{spelled-fits}
use Rattle.command_journal.specs.Worlds.{both}
use Rattle.command_journal.proofs.EventSteps.{event-broken, event-does, event-rises}
use Rattle.command_journal.proofs.world.ColdWorld.event.Goals as goal

pub play_whole-requires-clause-range : goal.play_whole-requires-clause-range
play_whole-requires-clause-range g c κs within = (spelled-fits c.args.line.now c.requires.spelled.0 c.requires.spelled.1).0

pub returns-in-Ok-clause-ok : goal.returns-in-Ok-clause-ok
returns-in-Ok-clause-ok g c =
    let held = both (g.D.SharedDisk.seen c.args.disk.now) (g.J.SharedDisk.seen c.args.journal.now) in
    let left = both (g.D.SharedDisk.seen c.play_whole.new.disk) (g.J.SharedDisk.seen c.play_whole.new.journal) in
    event-does c.args.line.now c.args.self.now c.play_whole.new.world c.new-lines.result.items c.play_whole.new.lines.items c.from_vec.result held left c.new-lines.ensures.items c.from_vec.ensures c.in-Ok.ensures.ok

pub returns-in-Ok-clause-stands : goal.returns-in-Ok-clause-stands
returns-in-Ok-clause-stands g c = c.in-Ok.ensures.stands

pub returns-in-Err-clause-broken : goal.returns-in-Err-clause-broken
returns-in-Err-clause-broken g c =
    let held = both (g.D.SharedDisk.seen c.args.disk.now) (g.J.SharedDisk.seen c.args.journal.now) in
    let left = both (g.D.SharedDisk.seen c.play_whole.new.disk) (g.J.SharedDisk.seen c.play_whole.new.journal) in
    event-broken c.in-Err.answer c.answered.result c.args.line.now c.args.self.now c.play_whole.new.world c.new-lines.result.items c.play_whole.new.lines.items held left c.new-lines.ensures.items c.answered.ensures c.in-Err.ensures.broken

pub returns-in-Err-clause-cause : goal.returns-in-Err-clause-cause
returns-in-Err-clause-cause g c =
    let held = both (g.D.SharedDisk.seen c.args.disk.now) (g.J.SharedDisk.seen c.args.journal.now) in
    let left = both (g.D.SharedDisk.seen c.play_whole.new.disk) (g.J.SharedDisk.seen c.play_whole.new.journal) in
    event-rises c.in-Err.answer c.answered.result c.play_whole.new.lines.items held left c.answered.ensures c.in-Err.ensures.counts

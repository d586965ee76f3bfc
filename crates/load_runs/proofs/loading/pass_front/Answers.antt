use Rattle.load_lines.specs.Lines.{first_lines, turns_lines}
use Rattle.played_runs.specs.Ends.{StoodUpTo}
use Rattle.played_runs.proofs.PassingSteps.{gone-on, passes-halted, passes-then, rises-later}
use Rattle.load_runs.proofs.loading.pass_front.Goals as goal

pub pass_turns-requires-clause-gone : goal.pass_turns-requires-clause-gone
pass_turns-requires-clause-gone g c =
    let start = g.D.SharedDisk.seen c.args.disk.now in
    let mid = g.D.SharedDisk.seen c.pass_first.new.disk in
    gone-on g.W.Playable.game g.W.Playable.plays (StoodUpTo g.D.SharedDisk.seen) (first_lines) start mid c.args.world.now c.pass_first.new.world tt c.requires.gone c.in-Ok.ensures.passes

pub returns-in-Ok-clause-passes : goal.returns-in-Ok-clause-passes
returns-in-Ok-clause-passes g c =
    let start = g.D.SharedDisk.seen c.args.disk.now in
    let mid = g.D.SharedDisk.seen c.pass_first.new.disk in
    let left = g.D.SharedDisk.seen c.pass_turns.new.disk in
    passes-then g.W.Playable.game g.W.Playable.plays (StoodUpTo g.D.SharedDisk.seen) (first_lines) (turns_lines c.args.seed c.args.count) start mid left c.args.world.now c.pass_first.new.world c.pass_turns.new.world tt c.pass_turns.result c.in-Ok.ensures.passes c.pass_turns.ensures.passes

pub returns-in-Ok-clause-counts : goal.returns-in-Ok-clause-counts
returns-in-Ok-clause-counts g c =
    rises-later (g.D.SharedDisk.seen c.args.disk.now).faults (g.D.SharedDisk.seen c.pass_first.new.disk).faults (g.D.SharedDisk.seen c.pass_turns.new.disk).faults c.pass_turns.result c.in-Ok.ensures.counts c.pass_turns.ensures.counts

pub returns-in-Err-clause-passes : goal.returns-in-Err-clause-passes
returns-in-Err-clause-passes g c =
    let start = g.D.SharedDisk.seen c.args.disk.now in
    let left = g.D.SharedDisk.seen c.pass_first.new.disk in
    passes-halted g.W.Playable.game g.W.Playable.plays (StoodUpTo g.D.SharedDisk.seen) (first_lines) (turns_lines c.args.seed c.args.count) start left c.args.world.now c.pass_first.new.world c.in-Err.halt c.in-Err.ensures.passes

use Rattle.std.proofs.Common.{◌+◌, Ok, Err, List, [], ◌∷◌, ◌++◌, take, drop, sym, subst, arith}
use Rattle.played_runs.specs.Ends.{StoodUpTo}
use Rattle.played_runs.specs.Passing.{Passes}
use Rattle.played_runs.proofs.CountSteps.{on-same, on-behind}
use Rattle.played_runs.proofs.PassingSteps.{gone-on, gone-state, line-can, line-parts, line-taken, passes-halted, passes-nothing, passes-then, rises-later, take-all}
use Rattle.played_runs.proofs.passing.pass_all.Goals as goal

pub loop-line-init : goal.loop-line-init
loop-line-init g c =
    let disk = c.args.disk.now in
    record {
      can = c.requires.can;
      passes = passes-nothing g.W.Playable.game g.W.Playable.plays (StoodUpTo g.D.SharedDisk.seen) (g.D.SharedDisk.seen disk) c.args.world.now tt;
      disk = on-same (g.D.SharedDisk.seen disk).faults;
    }

pub returns-in-Err-clause-passes : goal.returns-in-Err-clause-passes
returns-in-Err-clause-passes g c =
    let lines = c.args.lines.now in
    let place = c.loop-line.line-index in
    let line = c.line-item.result in
    let start = g.D.SharedDisk.seen c.args.disk.now in
    let mid = g.D.SharedDisk.seen c.loop-line.disk in
    let left = g.D.SharedDisk.seen c.pass_line.new.disk in
    let Since = StoodUpTo g.D.SharedDisk.seen in
    let halt = c.in-Err.halt in
    let both = passes-then g.W.Playable.game g.W.Playable.plays Since (take place lines) (line ∷ []) start mid left c.args.world.now c.loop-line.world c.pass_line.new.world tt (Err halt) c.loop-line.invariant.passes c.in-Err.ensures.passes in
    subst (λ (all : List g.row.L.Denot). (Passes g.W.Playable.game) Since all start left c.args.world.now c.pass_line.new.world (Err halt)) (line-parts lines place line c.loop-line-test.true c.line-item.is) (passes-halted g.W.Playable.game g.W.Playable.plays Since (take place lines ++ line ∷ []) (drop (place + 1) lines) start left c.args.world.now c.pass_line.new.world halt both)

pub loop-line-preserved : goal.loop-line-preserved
loop-line-preserved g c =
    let lines = c.args.lines.now in
    let place = c.loop-line.line-index in
    let line = c.line-item.result in
    let start = g.D.SharedDisk.seen c.args.disk.now in
    let mid = g.D.SharedDisk.seen c.loop-line.disk in
    let left = g.D.SharedDisk.seen c.pass_line.new.disk in
    let Since = StoodUpTo g.D.SharedDisk.seen in
    let both = passes-then g.W.Playable.game g.W.Playable.plays Since (take place lines) (line ∷ []) start mid left c.args.world.now c.loop-line.world c.pass_line.new.world tt (Ok tt) c.loop-line.invariant.passes c.in-Ok.ensures.passes in
    record {
      can = (line-can g.W.Playable.game g.W.Playable.plays lines place line c.loop-line-test.true c.line-item.is c.loop-line.invariant.can).2;
      passes = subst (λ (all : List g.row.L.Denot). (Passes g.W.Playable.game) Since all start left c.args.world.now c.pass_line.new.world (Ok tt)) (sym (line-taken lines place line c.loop-line-test.true c.line-item.is)) both;
      disk = on-behind (g.D.SharedDisk.seen c.args.disk.now).faults (g.D.SharedDisk.seen c.loop-line.disk).faults (g.D.SharedDisk.seen c.pass_line.new.disk).faults c.loop-line.invariant.disk c.in-Ok.ensures.counts;
    }

pub returns-clause-passes : goal.returns-clause-passes
returns-clause-passes g c =
    let lines = c.args.lines.now in
    let start = g.D.SharedDisk.seen c.args.disk.now in
    let left = g.D.SharedDisk.seen c.loop-line.disk in
    let Since = StoodUpTo g.D.SharedDisk.seen in
    subst (λ (all : List g.row.L.Denot). (Passes g.W.Playable.game) Since all start left c.args.world.now c.loop-line.world (Ok tt)) (take-all lines c.loop-line.line-index (omega arith)) c.loop-line.invariant.passes

pub pass_line-requires-clause-can : goal.pass_line-requires-clause-can
pass_line-requires-clause-can g c =
    let game = g.W.Playable.game in
    let plays = g.W.Playable.plays in
    let start = g.D.SharedDisk.seen c.args.disk.now in
    let mid = g.D.SharedDisk.seen c.loop-line.disk in
    let can = line-can game plays c.args.lines.now c.loop-line.line-index c.line-item.result c.loop-line-test.true c.line-item.is c.loop-line.invariant.can in
    record {
      spelled = can.0;
      follows = can.1 (game.now c.loop-line.world);
      state = gone-state game plays mid c.loop-line.world (gone-on game plays (StoodUpTo g.D.SharedDisk.seen) (take c.loop-line.line-index c.args.lines.now) start mid c.args.world.now c.loop-line.world tt c.requires.gone c.loop-line.invariant.passes);
    }

pub returns-in-Err-clause-counts : goal.returns-in-Err-clause-counts
returns-in-Err-clause-counts g c =
    rises-later (g.D.SharedDisk.seen c.args.disk.now).faults (g.D.SharedDisk.seen c.loop-line.disk).faults (g.D.SharedDisk.seen c.pass_line.new.disk).faults (Err c.in-Err.halt) c.loop-line.invariant.disk c.in-Err.ensures.counts

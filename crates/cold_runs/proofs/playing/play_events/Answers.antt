use Rattle.std.proofs.Common.{◌≡◌, suc, List, length, ap, subst, arith}
use Rattle.script_lines.specs.declared.line.Line.{Line}
use Rattle.command_journal.specs.Worlds.{both}
use Rattle.played_runs.specs.Edges.{edge}
use Rattle.cold_runs.specs.Steps.{CanComeCold, PlaysTo}
use Rattle.cold_runs.proofs.EndSteps.{can-later, can-next, plays-broken, plays-done, plays-next, plays-start}
use Rattle.cold_runs.proofs.playing.play_events.Goals as goal

pub loop-line-init : goal.loop-line-init
loop-line-init g c = record {
  can = c.requires.can;
  stands = c.requires.state;
  plays = plays-start g.K.Sink.written g.K.Sink.faults c.args.events.now (both (g.D.SharedDisk.seen c.args.disk.now) (g.J.SharedDisk.seen c.args.journal.now)) c.args.world.now c.args.out.now;
}

pub play_one-requires-clause-can : goal.play_one-requires-clause-can
play_one-requires-clause-can g c κs within =
    let line = c.in-Some.line in
    let others = c.take_next.new.self in
    let at = c.in-Some.ensures in
    let can = subst CanComeCold at c.loop-line.invariant.can in
    can-next can.0 line others can.1

pub loop-line-preserved : goal.loop-line-preserved
loop-line-preserved g c =
    let events = c.args.events.now in
    let line = c.in-Some.line in
    let others = c.take_next.new.self in
    let at = c.in-Some.ensures in
    let start = both (g.D.SharedDisk.seen c.args.disk.now) (g.J.SharedDisk.seen c.args.journal.now) in
    let mid = both (g.D.SharedDisk.seen c.loop-line.disk) (g.J.SharedDisk.seen c.loop-line.journal) in
    let left = both (g.D.SharedDisk.seen c.play_one.new.disk) (g.J.SharedDisk.seen c.play_one.new.journal) in
    let so_far = subst (λ (rest : List Line). PlaysTo events rest c.args.world.now c.loop-line.world start mid (edge g.K.Sink.written g.K.Sink.faults c.args.out.now c.loop-line.out)) at c.loop-line.invariant.plays in
    record {
      can = can-later line others (subst CanComeCold at c.loop-line.invariant.can);
      stands = c.in-Ok.ensures.stands;
      plays = plays-next g.K.Sink.written g.K.Sink.faults events start c.args.world.now c.args.out.now mid left c.loop-line.world c.play_one.new.world c.loop-line.out c.play_one.new.out line others so_far c.in-Ok.ensures;
    }

pub returns-in-Err : goal.returns-in-Err
returns-in-Err g c =
    let events = c.args.events.now in
    let line = c.in-Some.line in
    let others = c.take_next.new.self in
    let at = c.in-Some.ensures in
    let start = both (g.D.SharedDisk.seen c.args.disk.now) (g.J.SharedDisk.seen c.args.journal.now) in
    let mid = both (g.D.SharedDisk.seen c.loop-line.disk) (g.J.SharedDisk.seen c.loop-line.journal) in
    let left = both (g.D.SharedDisk.seen c.play_one.new.disk) (g.J.SharedDisk.seen c.play_one.new.journal) in
    let so_far = subst (λ (rest : List Line). PlaysTo events rest c.args.world.now c.loop-line.world start mid (edge g.K.Sink.written g.K.Sink.faults c.args.out.now c.loop-line.out)) at c.loop-line.invariant.plays in
    plays-broken g.K.Sink.written g.K.Sink.faults events start c.args.world.now c.args.out.now mid left c.loop-line.world c.play_one.new.world c.loop-line.out c.play_one.new.out line others c.in-Err.status so_far c.in-Err.ensures

-- a line fewer is left
pub loop-line-smaller : goal.loop-line-smaller
loop-line-smaller g c =
    let long : length c.loop-line.events ≡ suc (length c.take_next.new.self) = ap length c.in-Some.ensures in
    omega arith

pub returns : goal.returns
returns g c =
    let events = c.args.events.now in
    let start = both (g.D.SharedDisk.seen c.args.disk.now) (g.J.SharedDisk.seen c.args.journal.now) in
    let left = both (g.D.SharedDisk.seen c.loop-line.disk) (g.J.SharedDisk.seen c.loop-line.journal) in
    plays-done g.K.Sink.written g.K.Sink.faults events start c.args.world.now c.args.out.now left c.loop-line.world c.loop-line.out c.loop-line.events c.in_default.ensures.0 c.loop-line.invariant.stands c.loop-line.invariant.plays

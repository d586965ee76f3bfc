use Rattle.std.proofs.Common.{◌≡◌, ℕ, suc, ◌≤◌, List, length, refl, ap, ◌∙◌, subst, arith}
use Rattle.played_runs.specs.Edges.{edge}
use Rattle.played_runs.specs.Ends.{StoodUpTo}
use Rattle.played_runs.specs.Steps.{Behind, CanFollow}
use Rattle.played_runs.specs.Views.{counters_of}
use Rattle.played_runs.proofs.CountSteps.{on-same}
use Rattle.played_runs.proofs.GoingSteps.{behind-start, behind-next, behind-last, behind-ends, follow-next, going-state, going-tells}
use Rattle.played_runs.proofs.playing.play_events.Goals as goal

pub loop-line-init : goal.loop-line-init
loop-line-init g c =
    let disk = c.args.disk.now in
    record {
      follows = c.requires.follows;
      behind = λ setup places held begun. behind-start g.W.Playable.game g.W.Playable.plays g.K.Sink.written g.K.Sink.faults c.args.out.now setup places held (g.D.SharedDisk.seen disk) c.args.world.now c.args.events.now begun;
      sink = refl;
      disk = on-same (g.D.SharedDisk.seen disk).faults;
    }

pub returns-in-Err : goal.returns-in-Err
returns-in-Err g c setup places held begun =
    let written = g.K.Sink.written in
    let sink = g.K.Sink.faults in
    let events = c.args.events.now in
    let line = c.in-Some.line in
    let others = c.take_next.new.self in
    let mid = g.D.SharedDisk.seen c.loop-line.disk in
    let left = g.D.SharedDisk.seen c.play_one.new.disk in
    let first = counters_of (g.D.SharedDisk.seen c.args.disk.now) in
    let at = c.in-Some.ensures in
    let behind = subst (λ (rest : List g.row.L.Denot). (Behind g.W.Playable.game) setup places held first mid c.loop-line.world (edge written sink c.args.out.now c.loop-line.out) events rest) at (c.loop-line.invariant.behind setup places held begun) in
    behind-ends g.W.Playable.game g.W.Playable.plays setup places held first written sink c.args.out.now c.loop-line.out c.play_one.new.out mid left first.faults mid.faults left.faults (StoodUpTo g.D.SharedDisk.seen) c.loop-line.world c.play_one.new.world events line others c.in-Err.status behind c.loop-line.invariant.sink c.loop-line.invariant.disk
    (record { mid = c.loop-line.disk; told = refl; count = refl })
    (c.in-Err.ensures setup behind.going.state behind.going.good behind.going.shows behind.going.armed (going-tells g.W.Playable.game g.W.Playable.plays setup places held first mid c.loop-line.world behind.done behind.text behind.going))

pub loop-line-preserved : goal.loop-line-preserved
loop-line-preserved g c =
    let written = g.K.Sink.written in
    let sink = g.K.Sink.faults in
    let events = c.args.events.now in
    let line = c.in-Some.line in
    let others = c.take_next.new.self in
    let old = c.loop-line.world in
    let new = c.play_one.new.world in
    let mid = g.D.SharedDisk.seen c.loop-line.disk in
    let left = g.D.SharedDisk.seen c.play_one.new.disk in
    let first = counters_of (g.D.SharedDisk.seen c.args.disk.now) in
    let at = c.in-Some.ensures in
    let follows = subst (λ (rest : List g.row.L.Denot). (CanFollow g.W.Playable.game) (g.W.Playable.game.now old) rest) at c.loop-line.invariant.follows in
    let begun = c.requires.begun in
    let one = c.loop-line.invariant.behind begun.0 begun.1 begun.2 begun.3 in
    let one_done = c.in-Ok.ensures begun.0 one.going.state one.going.good one.going.shows one.going.armed (going-tells g.W.Playable.game g.W.Playable.plays begun.0 begun.1 begun.2 first mid old one.done one.text one.going) in
    record {
      follows = follow-next g.W.Playable.game g.W.Playable.plays begun.0 one.going.state mid left old new line others one_done.1.0 one.going.good one.going.shows one_done.1.2 follows.2;
      behind = λ setup places held starts.
          let behind = subst (λ (rest : List g.row.L.Denot). (Behind g.W.Playable.game) setup places held first mid old (edge written sink c.args.out.now c.loop-line.out) events rest) at (c.loop-line.invariant.behind setup places held starts) in
          let done = c.in-Ok.ensures setup behind.going.state behind.going.good behind.going.shows behind.going.armed (going-tells g.W.Playable.game g.W.Playable.plays setup places held first mid old behind.done behind.text behind.going) in
          behind-next g.W.Playable.game g.W.Playable.plays setup places held first written sink c.args.out.now c.loop-line.out c.play_one.new.out mid left old new events line others done.0 done.1.0 behind done.1.1 done.1.2 done.4;
      sink = one_done.3 ∙ c.loop-line.invariant.sink;
      disk =
          let before = c.loop-line.invariant.disk in
          let on : mid.faults ≤ left.faults = one_done.2 in
          omega arith;
    }

-- a line fewer is left
pub loop-line-smaller : goal.loop-line-smaller
loop-line-smaller g c =
    let long : length c.loop-line.events ≡ suc (length c.take_next.new.self) = ap length c.in-Some.ensures in
    omega arith

pub returns : goal.returns
returns g c setup places held begun =
    let left = g.D.SharedDisk.seen c.loop-line.disk in
    let disk : ℕ × ℕ = ((g.D.SharedDisk.seen c.args.disk.now).faults, (g.D.SharedDisk.seen c.loop-line.disk).faults) in
    behind-last g.W.Playable.game g.W.Playable.plays setup places held (counters_of (g.D.SharedDisk.seen c.args.disk.now)) g.K.Sink.written g.K.Sink.faults c.args.out.now c.loop-line.out left disk (StoodUpTo g.D.SharedDisk.seen) c.loop-line.world c.args.events.now c.loop-line.events c.in_default.ensures.0 c.loop-line.invariant.sink c.loop-line.invariant.disk (c.loop-line.invariant.behind setup places held begun)

pub play_one-requires-clause-can : goal.play_one-requires-clause-can
play_one-requires-clause-can g c =
    let game = g.W.Playable.game in
    let begun = c.requires.begun in
    let one = c.loop-line.invariant.behind begun.0 begun.1 begun.2 begun.3 in
    let disk = c.loop-line.disk in
    let follows = subst (λ (rest : List g.row.L.Denot). (CanFollow game) (game.now c.loop-line.world) rest) c.in-Some.ensures c.loop-line.invariant.follows in
    record {
      spelled = follows.0;
      follows = follows.1;
      state = going-state game g.W.Playable.plays begun.0 begun.1 begun.2 (counters_of (g.D.SharedDisk.seen c.args.disk.now)) (g.D.SharedDisk.seen disk) c.loop-line.world one.done one.text one.going;
    }

use Rattle.std.proofs.Common.{List, subst}
use Rattle.played_runs.specs.Edges.{edge, stage}
use Rattle.played_runs.specs.Steps.{PlayedOn}
use Rattle.played_runs.proofs.playing.play.Goals as goal

pub returns : goal.returns
returns g c =
    let sink = edge g.K.Sink.written g.K.Sink.faults c.args.out.now c.play_all-status.new.out in
    let disk = c.play_all-status.new.disk in
    let scene = stage sink g.D.SharedDisk.seen c.args.disk.now disk c.args.world.now c.play_all-status.new.world in
    subst (λ (lines : List g.row.L.Denot). PlayedOn g.W.Playable.game lines scene c.play_all-status.result) c.new-left.ensures c.play_all-status.ensures

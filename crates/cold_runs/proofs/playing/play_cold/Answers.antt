use Rattle.std.proofs.Common.{List, subst}
use Rattle.script_lines.specs.declared.line.Line.{Line}
use Rattle.command_journal.specs.Worlds.{both}
use Rattle.played_runs.specs.Edges.{edge}
use Rattle.cold_runs.specs.Ends.{PlaysCold}
use Rattle.cold_runs.specs.Stages.{cold_scene}
use Rattle.cold_runs.proofs.playing.play_cold.Goals as goal

pub returns : goal.returns
returns g c =
    let held = both (g.D.SharedDisk.seen c.args.disk.now) (g.J.SharedDisk.seen c.args.journal.now) in
    let left = both (g.D.SharedDisk.seen c.play_all-status.new.disk) (g.J.SharedDisk.seen c.play_all-status.new.journal) in
    let sink = edge g.K.Sink.written g.K.Sink.faults c.args.out.now c.play_all-status.new.out in
    subst (λ (lines : List Line). PlaysCold lines (cold_scene held left c.args.world.now c.play_all-status.new.world) sink c.play_all-status.result) c.new-left.ensures c.play_all-status.ensures

use Rattle.std.proofs.Common.{sym}
use Rattle.std.specs.Result.{is_ok}
use Rattle.cluster_lines.proofs.LineSteps.{looks-own, owns}
use Rattle.cluster_lines.proofs.playing.play.Goals as goal

pub play_own-requires : goal.play_own-requires
play_own-requires g c = record {
  state = c.requires.state;
  range = c.requires.range;
  shares = c.requires.shares;
  own = owns g.S.Serving.script c.args.world.now.now c.args.line.now (sym c.if-is_own.ensures) c.requires.can;
}

pub returns-then-is_own-clause-looks : goal.returns-then-is_own-clause-looks
returns-then-is_own-clause-looks g c =
    looks-own c.args.line.now (g.D.SharedDisk.seen c.args.disk.now).files (is_ok c.play_own.result) (g.D.SharedDisk.seen c.args.disk.now).tally (g.D.SharedDisk.seen c.play_own.new.disk).tally (sym c.if-is_own.ensures)

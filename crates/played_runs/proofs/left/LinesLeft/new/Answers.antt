use Rattle.played_runs.proofs.LeftSteps.{turned-back}
use Rattle.played_runs.proofs.left.LinesLeft.new.Goals as goal

pub returns : goal.returns
returns g c = turned-back c.args.lines c.into_vec-turned.result.items c.reverse.new.self.items c.into_vec-turned.ensures c.reverse.ensures.items

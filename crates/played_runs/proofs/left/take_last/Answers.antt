use Rattle.std.specs.Prelude.{vec_len}
use Rattle.played_runs.proofs.LeftSteps.{last-taken}
use Rattle.played_runs.proofs.left.take_last.Goals as goal

pub returns : goal.returns
returns g c =
    last-taken c.args.lines.now.items c.pop-line.new.self.items c.give_back.new.lines.items (vec_len c.args.lines.now) (vec_len c.pop-line.new.self) c.pop-line.result c.args.lines.now.ok.0 c.pop-line.ensures.items c.pop-line.ensures.cases c.give_back.ensures

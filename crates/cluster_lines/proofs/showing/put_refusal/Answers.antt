use Rattle.std.proofs.lemmas.Result.{on_ok_weaker}
use Rattle.cluster_lines.proofs.ShowSteps.{refused-does}
use Rattle.cluster_lines.proofs.showing.put_refusal.Goals as goal

pub returns-clause-ok : goal.returns-clause-ok
returns-clause-ok g c =
    on_ok_weaker c.put_refused.result (λ told. (refused-does g.S.Serving.kit) c.args.line.now c.args.world.now c.args.standing.now c.args.lines.now.items c.put_refused.new.lines.items c.requires told) c.put_refused.ensures.ok

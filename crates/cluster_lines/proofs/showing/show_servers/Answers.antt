use Rattle.std.proofs.lemmas.Result.{on_ok_weaker}
use Rattle.cluster_lines.proofs.ShowSteps.{servers-does}
use Rattle.cluster_lines.proofs.showing.show_servers.Goals as goal

pub returns : goal.returns
returns g c =
    on_ok_weaker c.put_servers.result (λ told. (servers-does g.S.Serving.kit) c.args.world.now c.standing-standing.result c.args.lines.now.items c.put_servers.new.lines.items c.standing-standing.ensures told) c.put_servers.ensures

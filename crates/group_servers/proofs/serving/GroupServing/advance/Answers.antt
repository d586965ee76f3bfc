use Rattle.std.proofs.Common.{⊎_elim}
use Rattle.group_servers.proofs.CountSteps.{advance-counted}
use Rattle.group_servers.proofs.serving.GroupServing.advance.Goals as goal

pub returns-clause-counts : goal.returns-clause-counts
returns-clause-counts g c =
    let held = g.D.SharedDisk.seen c.args.disk.now in
    let left = g.D.SharedDisk.seen c.advance.new.disk in
    advance-counted g.row.N c.advance.result c.args.world.now c.advance.new.world c.args.lines.now.items c.advance.new.lines.items held left
    (⊎_elim (λ has. has) (λ wild. absurd wild.wild.servers) c.requires) c.advance.ensures.ok c.advance.ensures.err

use Rattle.std.proofs.Common.{Bool, subst}
use Rattle.std.proofs.lemmas.Result.{on_ok_weaker}
use Rattle.group_cluster.specs.Group.{mirror_group}
use Rattle.group_servers.specs.Steps.{StepsBy, refused_by}
use Rattle.group_servers.specs.GroupKit.{group_kit}
use Rattle.cluster_rounds.specs.Worlds.{Does}
use Rattle.cluster_clients.proofs.DispatchSteps.{on-err}
use Rattle.group_servers.proofs.GoodSteps.{same-untold}
use Rattle.group_servers.proofs.LineSteps.{mirror-does, mirror-refused}
use Rattle.group_servers.proofs.lines.mirror_line.Goals as goal

pub returns-then-went-clause-ok : goal.returns-then-went-clause-ok
returns-then-went-clause-ok g c =
    let S : Bool → Type 0 = λ went. StepsBy g.row.N mirror_group went c.args.world.now c.mirror.new.world c.args.lines.now.items c.mirror.new.lines.items in
    mirror-does g.row.N c.args.world.now c.mirror.new.world c.args.lines.now.items c.mirror.new.lines.items (subst S c.if-went.true c.in-Ok.ensures.ok)

pub returns-else-went-clause-ok : goal.returns-else-went-clause-ok
returns-else-went-clause-ok g c =
    let new = c.mirror.new.world in
    let between = c.mirror.new.lines.items in
    let S : Bool → Type 0 = λ went. StepsBy g.row.N mirror_group went c.args.world.now new c.args.lines.now.items between in
    on_ok_weaker c.refused.result
    (λ refuses. mirror-refused g.row.N c.args.world.now new c.args.lines.now.items between c.refused.new.lines.items (subst S c.if-went.false c.in-Ok.ensures.ok) (subst (λ line. Does (group_kit g.row.N) (refused_by g.row.N line) new new between c.refused.new.lines.items) c.requires.line refuses))
    c.refused.ensures.ok

pub returns-else-went-clause-err : goal.returns-else-went-clause-err
returns-else-went-clause-err g c =
    let S : Bool → Type 0 = λ went. StepsBy g.row.N mirror_group went c.args.world.now c.mirror.new.world c.args.lines.now.items c.mirror.new.lines.items in
    on-err c.refused.result (same-untold g.row.N c.args.world.now c.mirror.new.world (subst S c.if-went.false c.in-Ok.ensures.ok).0)

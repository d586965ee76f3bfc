use Rattle.std.proofs.Common.{sym, subst}
use Rattle.std.proofs.lemmas.Result.{on_ok_weaker}
use Rattle.cluster_rounds.specs.Worlds.{Does}
use Rattle.group_servers.specs.GroupKit.{group_kit}
use Rattle.group_servers.specs.Steps.{refused_by}
use Rattle.group_servers.proofs.FailSteps.{arms, arm-refuses}
use Rattle.group_servers.proofs.joining.arm.Goals as goal

pub returns-then-leads-clause-ok : goal.returns-then-leads-clause-ok
returns-then-leads-clause-ok g c =
    arms g.row.N c.args.server c.args.count c.args.world.now c.args.lines.now.items (g.D.SharedDisk.seen c.args.disk.now) (g.D.SharedDisk.seen c.arm.new.self) (sym c.if-leads.ensures) c.requires.count c.arm.ensures.same c.arm.ensures.counted c.arm.ensures.faults_stay c.arm.ensures.stops_stay

pub returns-clause-ok : goal.returns-clause-ok
returns-clause-ok g c =
    let old = c.args.world.now in
    let before = c.args.lines.now.items in
    let after = c.refused.new.lines.items in
    on_ok_weaker c.refused.result
    (λ refuses. arm-refuses g.row.N c.args.server c.args.count old before after (g.D.SharedDisk.seen c.args.disk.now) (sym c.if-leads.ensures) (subst (λ line. Does (group_kit g.row.N) (refused_by g.row.N line) old old before after) c.requires.line refuses))
    c.refused.ensures.ok

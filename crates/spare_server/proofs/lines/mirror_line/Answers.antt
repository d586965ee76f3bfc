use Rattle.std.proofs.Common.{Bool, subst}
use Rattle.std.proofs.lemmas.Result.{on_ok_weaker}
use Rattle.script_lines.specs.declared.line.Server.{Server}
use Rattle.cluster_clients.proofs.DispatchSteps.{on-err}
use Rattle.cluster_rounds.specs.Worlds.{Does}
use Rattle.group_cluster.specs.Group.{mirror_at}
use Rattle.group_servers.specs.GroupKit.{group_kit}
use Rattle.group_servers.specs.Steps.{StepsBy}
use Rattle.group_servers.proofs.GoodSteps.{same-untold}
use Rattle.spare_server.specs.Happening.{name_of}
use Rattle.spare_server.specs.Lines.{refused_as}
use Rattle.spare_server.proofs.OwnSteps.{mirror-does, mirror-refused}
use Rattle.spare_server.proofs.lines.mirror_line.Goals as goal

pub returns-then-went-clause-ok : goal.returns-then-went-clause-ok
returns-then-went-clause-ok c =
    let old = c.args.parts.now in
    let new = c.mirror_at.new.world in
    let before = c.args.lines.now.items in
    let after = c.mirror_at.new.lines.items in
    let went = subst (λ (server : Server). StepsBy 3 (mirror_at server) c.in-Ok.went old new before after) c.name_of.ensures c.in-Ok.ensures.ok in
    mirror-does c.args.server old new before after (subst (λ (b : Bool). StepsBy 3 (mirror_at (name_of c.args.server)) b old new before after) c.if-went.true went)

pub returns-else-went-clause-ok : goal.returns-else-went-clause-ok
returns-else-went-clause-ok c =
    let old = c.args.parts.now in
    let new = c.mirror_at.new.world in
    let before = c.args.lines.now.items in
    let between = c.mirror_at.new.lines.items in
    let went = subst (λ (server : Server). StepsBy 3 (mirror_at server) c.in-Ok.went old new before between) c.name_of.ensures c.in-Ok.ensures.ok in
    let none = subst (λ (b : Bool). StepsBy 3 (mirror_at (name_of c.args.server)) b old new before between) c.if-went.false went in
    on_ok_weaker c.refused.result
    (λ refuses. mirror-refused c.args.server old new before between c.refused.new.lines.items none (subst (λ line. Does (group_kit 3) (refused_as line) new new between c.refused.new.lines.items) c.requires.line refuses))
    c.refused.ensures.ok

pub returns-else-went-clause-err : goal.returns-else-went-clause-err
returns-else-went-clause-err c =
    let old = c.args.parts.now in
    let new = c.mirror_at.new.world in
    let before = c.args.lines.now.items in
    let between = c.mirror_at.new.lines.items in
    let went = subst (λ (server : Server). StepsBy 3 (mirror_at server) c.in-Ok.went old new before between) c.name_of.ensures c.in-Ok.ensures.ok in
    let none = subst (λ (b : Bool). StepsBy 3 (mirror_at (name_of c.args.server)) b old new before between) c.if-went.false went in
    on-err c.refused.result (same-untold 3 old new none.0)

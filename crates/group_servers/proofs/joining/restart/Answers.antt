use Rattle.std.proofs.Common.{rules, refl, sym, subst}
use Rattle.std.proofs.lemmas.Result.{on_ok_weaker, on_err_weaker}
use Rattle.cluster_rounds.specs.Worlds.{Does}
use Rattle.cluster_clients.proofs.DispatchSteps.{on-err}
use Rattle.group_servers.specs.GroupKit.{group_kit}
use Rattle.group_servers.specs.Steps.{refused_by}
use Rattle.group_servers.proofs.GoodSteps.{same-untold, untold-breaks}
use Rattle.group_servers.proofs.FailSteps.{restart-refuses}
use Rattle.group_servers.proofs.joining.restart.Goals as goal

pub join-requires : goal.join-requires
join-requires g c = (search rules, (sym c.if-rests.ensures, c.requires.role))

pub returns-then-rests-clause-err : goal.returns-then-rests-clause-err
returns-then-rests-clause-err g c =
    on_err_weaker c.join.result (λ untold held setup state good shows. untold-breaks g.row.N setup state held c.args.world.now c.join.new.world good shows untold.net untold.agents untold.history untold.now untold.armed) c.join.ensures.err

pub returns-clause-ok : goal.returns-clause-ok
returns-clause-ok g c =
    let old = c.args.world.now in
    let before = c.args.lines.now.items in
    let after = c.refused.new.lines.items in
    on_ok_weaker c.refused.result (λ refuses. restart-refuses g.row.N c.args.server old before after (sym c.if-rests.ensures) (subst (λ line. Does (group_kit g.row.N) (refused_by g.row.N line) old old before after) c.requires.line refuses)) c.refused.ensures.ok

pub returns-clause-err : goal.returns-clause-err
returns-clause-err g c = on-err c.refused.result (same-untold g.row.N c.args.world.now c.args.world.now refl)

use Rattle.std.proofs.Common.{rules, refl, sym, subst}
use Rattle.cluster_rounds.specs.Worlds.{Does, any_state}
use Rattle.cluster_rounds.proofs.ArmedSteps.{state-told}
use Rattle.cluster_clients.proofs.DispatchSteps.{on-err}
use Rattle.script_lines.specs.declared.line.Line.TheVariants as line
use Rattle.cluster_lines.proofs.LineBroken.{ends-broken}
use Rattle.cluster_lines.proofs.LineSteps.{ends-ok}
use Rattle.group_servers.specs.GroupKit.{group_kit, group_script}
use Rattle.group_servers.specs.GroupLaws.{group_laws}
use Rattle.group_servers.proofs.GoodSteps.{is-active, same-untold}
use Rattle.group_servers.specs.GroupScript.{group_follows}
use Rattle.group_servers.specs.Steps.{refused_by}
use Rattle.group_servers.proofs.CrashSteps.{calm-crashes}
use Rattle.group_servers.proofs.FailSteps.{crash-on, crash-refuses}
use Rattle.group_servers.proofs.crashing.crash.Goals as goal

pub crash_active-requires : goal.crash_active-requires
crash_active-requires g c = (search rules, (c.requires.state, sym c.if-leads.ensures))

pub crash_other-requires : goal.crash_other-requires
crash_other-requires g c = (
  search rules,
  (sym c.if-follows.ensures, is-active g.row.N c.args.world.now ((state-told (group_kit g.row.N) (group_laws g.row.N)) any_state c.args.world.now (g.D.SharedDisk.seen c.args.disk.now) c.requires.state)),
)

pub returns-then-follows-clause-ok : goal.returns-then-follows-clause-ok
returns-then-follows-clause-ok g c =
    let old = c.args.world.now in
    let new = c.crash_other.new.world in
    ends-ok c.crash_other.result c.as_answer.result c.as_answer.ensures
    (λ does. calm-crashes g.row.N c.args.server old new c.args.lines.now.items c.crash_other.new.lines.items (g.D.SharedDisk.seen c.args.disk.now) (g.D.SharedDisk.seen c.args.disk.now) (crash-on g.row.N c.args.server old new c.args.lines.now.items c.crash_other.new.lines.items (g.D.SharedDisk.seen c.args.disk.now) (sym c.if-follows.ensures) does))
    c.crash_other.ensures.ok

pub returns-then-follows-clause-err : goal.returns-then-follows-clause-err
returns-then-follows-clause-err g c =
    (ends-broken (group_kit g.row.N) (group_laws g.row.N) group_script (group_follows g.row.N)) c.crash_other.result c.as_answer.result (line.Crash c.args.server) c.args.world.now c.crash_other.new.world c.args.lines.now.items c.crash_other.new.lines.items (g.D.SharedDisk.seen c.args.disk.now) c.as_answer.ensures c.crash_other.ensures.err

pub returns-clause-ok : goal.returns-clause-ok
returns-clause-ok g c =
    let old = c.args.world.now in
    let before = c.args.lines.now.items in
    let after = c.refused.new.lines.items in
    ends-ok c.refused.result c.as_answer-2.result c.as_answer-2.ensures
    (λ refuses. calm-crashes g.row.N c.args.server old old before after (g.D.SharedDisk.seen c.args.disk.now) (g.D.SharedDisk.seen c.args.disk.now) (crash-refuses g.row.N c.args.server old before after (g.D.SharedDisk.seen c.args.disk.now) (sym c.if-leads.ensures) (sym c.if-follows.ensures) (subst (λ line. Does (group_kit g.row.N) (refused_by g.row.N line) old old before after) c.requires.line refuses)))
    c.refused.ensures.ok

pub returns-clause-err : goal.returns-clause-err
returns-clause-err g c =
    let old = c.args.world.now in
    (ends-broken (group_kit g.row.N) (group_laws g.row.N) group_script (group_follows g.row.N)) c.refused.result c.as_answer-2.result (line.Crash c.args.server) old old c.args.lines.now.items c.refused.new.lines.items (g.D.SharedDisk.seen c.args.disk.now) c.as_answer-2.ensures (on-err c.refused.result (same-untold g.row.N old old refl))

use Rattle.std.proofs.Common.{ap}
use Rattle.std.proofs.lemmas.Result.{IfOk-weaker, on_err_weaker}
use Rattle.mirror.specs.Replicas.{ReplicaState}
use Rattle.lead_rounds.proofs.LeadSteps.{both-ok}
use Rattle.lead_rounds.proofs.PushSteps.{holds-range, push-partly, pushes}
use Rattle.group_servers.specs.GroupKit.{group_kit}
use Rattle.group_servers.specs.GroupLaws.{group_laws}
use Rattle.group_servers.proofs.GoodSteps.{rests-so}
use Rattle.group_servers.proofs.pushing.push.Goals as goal

pub push-requires : goal.push-requires
push-requires g c =
    let old = c.args.world.now in
    let has = c.requires in
    let rests = rests-so g.row.N has.setup has.state old has.shows has.so in
    record {
      role = ap (λ (replica : ReplicaState). replica.role) rests;
      idle = ap (λ (replica : ReplicaState). replica.owed) rests;
      range = holds-range (group_kit g.row.N) (group_laws g.row.N) has.setup has.state old old.servers.active has.good has.shows has.so rests;
    }

pub returns-clause-ok : goal.returns-clause-ok
returns-clause-ok g c =
    let old = c.args.world.now in
    IfOk-weaker c.push.result _ _
    (λ items both setup state good shows idle. pushes (group_kit g.row.N) (group_laws g.row.N) setup state old old.servers.active good shows idle (rests-so g.row.N setup state old shows idle) c.push.new.net items c.args.lines.now.items c.push.new.lines.items both.0 both.1)
    (both-ok c.push.result _ _ c.push.ensures.held c.push.ensures.ok)

pub returns-clause-err : goal.returns-clause-err
returns-clause-err g c =
    let old = c.args.world.now in
    on_err_weaker c.push.result
    (λ partly held setup state good shows idle. push-partly (group_kit g.row.N) (group_laws g.row.N) setup state old old.servers.active good shows idle (rests-so g.row.N setup state old shows idle) c.push.new.net held partly)
    c.push.ensures.err

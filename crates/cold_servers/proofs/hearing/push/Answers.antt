use Rattle.std.proofs.lemmas.Result.{IfOk-weaker, on_err_weaker}
use Rattle.lead_rounds.proofs.LeadSteps.{both-ok}
use Rattle.lead_rounds.proofs.PushSteps.{push-partly, pushes}
use Rattle.cold_servers.specs.ColdKit.{cold_kit}
use Rattle.cold_servers.specs.ColdLaws.{cold_laws}
use Rattle.cold_servers.proofs.LeadState.{rests-so}
use Rattle.cold_servers.proofs.SilentLines.{active-is, holds-so, pushes-on}
use Rattle.cold_servers.proofs.hearing.push.Goals as goal

pub push-requires : goal.push-requires
push-requires c =
    let old = c.args.world.now in
    record {
      role = active-is old.servers.lone.node.replica.role c.requires.up.role;
      idle = c.requires.idle;
      range = holds-so old c.requires.state c.requires.up;
    }

pub returns-clause-ok : goal.returns-clause-ok
returns-clause-ok c =
    let old = c.args.world.now in
    IfOk-weaker c.push.result _ _
    (λ items both setup state good shows idle. pushes cold_kit cold_laws setup state old old.servers.lone.node good shows idle (rests-so setup state old shows (c.requires.up.states setup state good shows) idle) c.push.new.net items c.args.lines.now.items c.push.new.lines.items both.0 both.1)
    (both-ok c.push.result _ _ c.push.ensures.held c.push.ensures.ok)

pub returns-clause-err : goal.returns-clause-err
returns-clause-err c =
    let old = c.args.world.now in
    on_err_weaker c.push.result
    (λ partly held setup state good shows idle. push-partly cold_kit cold_laws setup state old old.servers.lone.node good shows idle (rests-so setup state old shows (c.requires.up.states setup state good shows) idle) c.push.new.net held partly)
    c.push.ensures.err

pub returns-clause-wild : goal.returns-clause-wild
returns-clause-wild c =
    let old = c.args.world.now in
    IfOk-weaker c.push.result _ _
    (λ items both. pushes-on old c.push.new.net c.args.lines.now.items c.push.new.lines.items items c.requires.up both.0 both.1)
    (both-ok c.push.result _ _ c.push.ensures.value c.push.ensures.ok)

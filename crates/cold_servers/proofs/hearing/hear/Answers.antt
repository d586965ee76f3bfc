use Rattle.std.proofs.Common.{true, refl}
use Rattle.std.proofs.lemmas.Result.{on_ok_weaker}
use Rattle.lead_rounds.proofs.HearBroken.{beside-breaks, err-some, partly-breaks}
use Rattle.cold_servers.specs.ColdKit.{cold_kit}
use Rattle.cold_servers.specs.ColdLaws.{cold_laws}
use Rattle.cold_servers.proofs.ArmSteps.{armed-kept}
use Rattle.cold_servers.proofs.LeadState.{hear-comes, lead-so}
use Rattle.cold_servers.proofs.SilentLines.{active-is, answers-so, heard-so, hears-on}
use Rattle.cold_servers.proofs.hearing.hear.Goals as goal

pub hear-heard-requires : goal.hear-heard-requires
hear-heard-requires c =
    let old = c.args.world.now in
    record {
      hear = heard-so c.args.message.now old c.requires.state c.requires.range;
      role = active-is old.servers.lone.node.replica.role c.requires.up.role;
      range = answers-so c.args.message.now old c.requires.state c.requires.up c.requires.range;
    }

pub returns-in-Ok-clause-ok : goal.returns-in-Ok-clause-ok
returns-in-Ok-clause-ok c =
    let old = c.args.world.now in
    on_ok_weaker c.send_mirrored.result
    (λ link setup state good shows stands. hear-comes setup state old c.hear-heard.new.active c.send_mirrored.new.link c.in-Ok.mirrored c.hear-heard.new.net c.hear-heard.new.history c.args.place c.args.message.now c.args.lines.now.items c.hear-heard.new.lines.items good shows (c.requires.up.states setup state good shows) stands c.requires.range c.in-Ok.ensures.ok link)
    c.send_mirrored.ensures.ok

pub returns-in-Ok-clause-err : goal.returns-in-Ok-clause-err
returns-in-Ok-clause-err c =
    let old = c.args.world.now in
    err-some c.send_mirrored.result c.in-Ok.mirrored c.send_mirrored.ensures.none
    (λ one others some held setup state good shows stands. beside-breaks cold_kit cold_laws setup state true old old.servers.lone.node good shows (lead-so setup state old shows (c.requires.up.states setup state good shows)) _ c.hear-heard.new.net c.hear-heard.new.history held c.hear-heard.new.active c.args.place c.args.message.now c.args.lines.now.items c.hear-heard.new.lines.items c.in-Ok.mirrored one others stands c.in-Ok.ensures.ok some (armed-kept setup state old (record { lone = record old.servers.lone { node = c.hear-heard.new.active; link = c.send_mirrored.new.link } }) held held shows refl refl refl))

pub returns-in-Err-clause-err : goal.returns-in-Err-clause-err
returns-in-Err-clause-err c = λ held setup state good shows stands.
    let old = c.args.world.now in
    partly-breaks cold_kit cold_laws setup state true old old.servers.lone.node good shows (lead-so setup state old shows (c.requires.up.states setup state good shows)) _ c.hear-heard.new.net c.hear-heard.new.history held c.hear-heard.new.active c.args.place c.args.message.now stands c.in-Err.ensures.err (armed-kept setup state old (record { lone = record old.servers.lone { node = c.hear-heard.new.active } }) held held shows refl refl refl)

pub returns-in-Ok-clause-wild : goal.returns-in-Ok-clause-wild
returns-in-Ok-clause-wild c =
    let old = c.args.world.now in
    on_ok_weaker c.send_mirrored.result
    (λ link. hears-on old c.hear-heard.new.active c.send_mirrored.new.link c.hear-heard.new.net c.hear-heard.new.history c.args.place c.args.message.now c.args.lines.now.items c.hear-heard.new.lines.items c.in-Ok.mirrored c.requires.up c.requires.range c.in-Ok.ensures.ok link)
    c.send_mirrored.ensures.ok

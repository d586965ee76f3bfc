use Rattle.std.proofs.Common.{ℤ, sym, subst}
use Rattle.std.proofs.lemmas.Result.{on_ok_weaker}
use Rattle.script_lines.specs.declared.line.Line.{Line}
use Rattle.script_lines.specs.declared.line.Line.TheVariants as line
use Rattle.cluster_lines.specs.Lines.{IsInRange, CanPlay}
use Rattle.cluster_lines.specs.Playing.{SharesIn}
use Rattle.cluster_lines.specs.Steps.{PlaysAlone}
use Rattle.cluster_clients.proofs.DispatchSteps.{on-err}
use Rattle.plain_service.proofs.MomentLaws.{moment-same}
use Rattle.cluster_lines.proofs.LineSteps.{plays-as, plays-time, plays-log, plays-ntf, plays-deliver, plays-resend, plays-push, plays-one, plays-all, plays-servers}
use Rattle.cluster_rounds.specs.Wild.{KeepsWild, always}
use Rattle.cluster_rounds.proofs.WildSteps.{on-ok}
use Rattle.cluster_lines.proofs.WildLines.{same-wild, time-wild}
use Rattle.cluster_lines.proofs.playing.play_alone.Goals as goal
use Rattle.cluster_rounds.proofs.BrokenClients.{same-breaks}

pub ask-requires : goal.ask-requires
ask-requires g c = record { state = c.requires.state; caller = subst IsInRange c.in-Log.is c.requires.range }

pub ask-requires-in-Ntf : goal.ask-requires-in-Ntf
ask-requires-in-Ntf g c = record { state = c.requires.state; caller = subst IsInRange c.in-Ntf.is c.requires.range }

pub deliver_line-requires : goal.deliver_line-requires
deliver_line-requires g c = record { state = c.requires.state; line = c.in-Deliver.is }

pub push_line-requires : goal.push_line-requires
push_line-requires g c = record {
  state = c.requires.state;
  line = c.in-Push.is;
  shares = subst (λ (next : Line). (SharesIn g.S.Serving.kit g.S.Serving.script) next c.args.world.now) c.in-Push.is c.requires.shares;
}

pub inject_line-requires : goal.inject_line-requires
inject_line-requires g c = c.in-Inject.is

pub resend-requires : goal.resend-requires
resend-requires g c = c.requires.state

pub dispatch-requires-in-DispatchAll-clause-workers : goal.dispatch-requires-in-DispatchAll-clause-workers
dispatch-requires-in-DispatchAll-clause-workers g c κs within = subst IsInRange c.in-DispatchAll.is c.requires.range

pub returns-in-Time-clause-ok : goal.returns-in-Time-clause-ok
returns-in-Time-clause-ok g c =
    let now = c.in-Time.now in
    let old = c.args.world.now in
    let lines = c.args.lines.now.items in
    let moment = subst IsInRange c.in-Time.is c.requires.range in
    let later = subst (λ next. (CanPlay g.S.Serving.script) old.now next) c.in-Time.is c.requires.can in
    let P : ℤ → Type 0 = λ at. (PlaysAlone g.S.Serving.kit) c.args.line.now old (record old { now = at }) lines lines in
    subst P (sym (moment-same now moment)) ((plays-as g.S.Serving.kit g.met.S.Serving.laws) (line.Time now) c.args.line.now old (record old { now = now }) lines lines c.in-Time.is ((plays-time g.S.Serving.kit g.met.S.Serving.laws) now old lines moment later))

pub returns-in-Log-clause-ok : goal.returns-in-Log-clause-ok
returns-in-Log-clause-ok g c =
    let old = c.args.world.now in
    let new = c.ask.new.world in
    let before = c.args.lines.now.items in
    let after = c.ask.new.lines.items in
    on_ok_weaker c.ask.result (λ does. (plays-as g.S.Serving.kit g.met.S.Serving.laws) (line.Log c.in-Log.client c.in-Log.ask) c.args.line.now old new before after c.in-Log.is ((plays-log g.S.Serving.kit g.met.S.Serving.laws) c.in-Log.client c.in-Log.ask old new before after does)) c.ask.ensures.ok

pub returns-in-Ntf-clause-ok : goal.returns-in-Ntf-clause-ok
returns-in-Ntf-clause-ok g c =
    let old = c.args.world.now in
    let new = c.ask-in-Ntf.new.world in
    let before = c.args.lines.now.items in
    let after = c.ask-in-Ntf.new.lines.items in
    on_ok_weaker c.ask-in-Ntf.result (λ does. (plays-as g.S.Serving.kit g.met.S.Serving.laws) (line.Ntf c.in-Ntf.client c.in-Ntf.ask) c.args.line.now old new before after c.in-Ntf.is ((plays-ntf g.S.Serving.kit g.met.S.Serving.laws) c.in-Ntf.client c.in-Ntf.ask old new before after does)) c.ask-in-Ntf.ensures.ok

pub returns-in-Deliver-clause-ok : goal.returns-in-Deliver-clause-ok
returns-in-Deliver-clause-ok g c =
    let old = c.args.world.now in
    let new = c.deliver_line.new.world in
    let before = c.args.lines.now.items in
    let after = c.deliver_line.new.lines.items in
    on_ok_weaker c.deliver_line.result (λ does. (plays-as g.S.Serving.kit g.met.S.Serving.laws) (line.Deliver c.in-Deliver.place) c.args.line.now old new before after c.in-Deliver.is ((plays-deliver g.S.Serving.kit g.met.S.Serving.laws) c.in-Deliver.place old new before after does)) c.deliver_line.ensures.ok

pub returns-in-Resend-clause-ok : goal.returns-in-Resend-clause-ok
returns-in-Resend-clause-ok g c =
    let old = c.args.world.now in
    let new = c.resend.new.world in
    let before = c.args.lines.now.items in
    let after = c.resend.new.lines.items in
    on_ok_weaker c.resend.result (λ does. (plays-as g.S.Serving.kit g.met.S.Serving.laws) (line.Resend c.in-Resend.client) c.args.line.now old new before after c.in-Resend.is ((plays-resend g.S.Serving.kit g.met.S.Serving.laws) c.in-Resend.client old new before after does)) c.resend.ensures.ok

pub returns-in-Push-clause-ok : goal.returns-in-Push-clause-ok
returns-in-Push-clause-ok g c =
    let old = c.args.world.now in
    let new = c.push_line.new.world in
    let before = c.args.lines.now.items in
    let after = c.push_line.new.lines.items in
    on_ok_weaker c.push_line.result (λ does. (plays-as g.S.Serving.kit g.met.S.Serving.laws) (line.Push) c.args.line.now old new before after c.in-Push.is ((plays-push g.S.Serving.kit g.met.S.Serving.laws) old new before after does)) c.push_line.ensures.ok

pub returns-in-Inject-clause-ok : goal.returns-in-Inject-clause-ok
returns-in-Inject-clause-ok g c = c.inject_line.ensures.ok

pub returns-in-DispatchOne-clause-ok : goal.returns-in-DispatchOne-clause-ok
returns-in-DispatchOne-clause-ok g c =
    let old = c.args.world.now in
    let new = c.dispatch.new.world in
    let before = c.args.lines.now.items in
    let after = c.dispatch.new.lines.items in
    on_ok_weaker c.dispatch.result (λ does. (plays-as g.S.Serving.kit g.met.S.Serving.laws) (line.DispatchOne c.in-DispatchOne.client) c.args.line.now old new before after c.in-DispatchOne.is ((plays-one g.S.Serving.kit g.met.S.Serving.laws) c.in-DispatchOne.client old new before after does)) c.dispatch.ensures.ok

pub returns-in-DispatchAll-clause-ok : goal.returns-in-DispatchAll-clause-ok
returns-in-DispatchAll-clause-ok g c =
    let old = c.args.world.now in
    let new = c.dispatch-in-DispatchAll.new.world in
    let before = c.args.lines.now.items in
    let after = c.dispatch-in-DispatchAll.new.lines.items in
    on_ok_weaker c.dispatch-in-DispatchAll.result (λ does. (plays-as g.S.Serving.kit g.met.S.Serving.laws) (line.DispatchAll c.in-DispatchAll.client c.in-DispatchAll.workers) c.args.line.now old new before after c.in-DispatchAll.is ((plays-all g.S.Serving.kit g.met.S.Serving.laws) c.in-DispatchAll.client c.in-DispatchAll.workers old new before after does)) c.dispatch-in-DispatchAll.ensures.ok

pub returns-in-Servers-clause-ok : goal.returns-in-Servers-clause-ok
returns-in-Servers-clause-ok g c =
    let old = c.args.world.now in
    let new = c.args.world.now in
    let before = c.args.lines.now.items in
    let after = c.show_servers.new.lines.items in
    on_ok_weaker c.show_servers.result (λ does. (plays-as g.S.Serving.kit g.met.S.Serving.laws) (line.Servers) c.args.line.now old new before after c.in-Servers.is ((plays-servers g.S.Serving.kit g.met.S.Serving.laws) old new before after does)) c.show_servers.ensures

pub returns-in-Log-clause-err : goal.returns-in-Log-clause-err
returns-in-Log-clause-err g c = c.ask.ensures.err

pub returns-in-Ntf-clause-err : goal.returns-in-Ntf-clause-err
returns-in-Ntf-clause-err g c = c.ask-in-Ntf.ensures.err

pub returns-in-Deliver-clause-err : goal.returns-in-Deliver-clause-err
returns-in-Deliver-clause-err g c = c.deliver_line.ensures.err

pub returns-in-Resend-clause-err : goal.returns-in-Resend-clause-err
returns-in-Resend-clause-err g c = c.resend.ensures.err

pub returns-in-Push-clause-err : goal.returns-in-Push-clause-err
returns-in-Push-clause-err g c = c.push_line.ensures.err

pub returns-in-Inject-clause-err : goal.returns-in-Inject-clause-err
returns-in-Inject-clause-err g c = c.inject_line.ensures.err

pub returns-in-DispatchOne-clause-err : goal.returns-in-DispatchOne-clause-err
returns-in-DispatchOne-clause-err g c = c.dispatch.ensures.err

pub returns-in-DispatchAll-clause-err : goal.returns-in-DispatchAll-clause-err
returns-in-DispatchAll-clause-err g c = c.dispatch-in-DispatchAll.ensures.err

pub returns-in-Servers-clause-err : goal.returns-in-Servers-clause-err
returns-in-Servers-clause-err g c = on-err c.show_servers.result ((same-breaks g.S.Serving.kit g.met.S.Serving.laws) c.args.world.now)

pub returns-in_default-clause-err : goal.returns-in_default-clause-err
returns-in_default-clause-err g c = (same-breaks g.S.Serving.kit g.met.S.Serving.laws) c.args.world.now

pub returns-in-Time-clause-wild : goal.returns-in-Time-clause-wild
returns-in-Time-clause-wild g c =
    let now = c.in-Time.now in
    let old = c.args.world.now in
    let moment = subst IsInRange c.in-Time.is c.requires.range in
    let K : ℤ → Type 0 = λ at. (KeepsWild g.S.Serving.kit) always old (record old { now = at }) in
    subst K (sym (moment-same now moment)) ((time-wild g.S.Serving.kit g.met.S.Serving.laws) now old moment)

pub returns-in-Servers-clause-wild : goal.returns-in-Servers-clause-wild
returns-in-Servers-clause-wild g c = on-ok c.show_servers.result ((same-wild g.S.Serving.kit g.met.S.Serving.laws) c.args.world.now)

pub returns-in-Log-clause-wild : goal.returns-in-Log-clause-wild
returns-in-Log-clause-wild g c = c.ask.ensures.wild

pub returns-in-Ntf-clause-wild : goal.returns-in-Ntf-clause-wild
returns-in-Ntf-clause-wild g c = c.ask-in-Ntf.ensures.wild

pub returns-in-Deliver-clause-wild : goal.returns-in-Deliver-clause-wild
returns-in-Deliver-clause-wild g c = c.deliver_line.ensures.wild

pub returns-in-Resend-clause-wild : goal.returns-in-Resend-clause-wild
returns-in-Resend-clause-wild g c = c.resend.ensures.wild

pub returns-in-Push-clause-wild : goal.returns-in-Push-clause-wild
returns-in-Push-clause-wild g c = c.push_line.ensures.wild

pub returns-in-Inject-clause-wild : goal.returns-in-Inject-clause-wild
returns-in-Inject-clause-wild g c = c.inject_line.ensures.wild

pub returns-in-DispatchOne-clause-wild : goal.returns-in-DispatchOne-clause-wild
returns-in-DispatchOne-clause-wild g c = c.dispatch.ensures.wild

pub returns-in-DispatchAll-clause-wild : goal.returns-in-DispatchAll-clause-wild
returns-in-DispatchAll-clause-wild g c = c.dispatch-in-DispatchAll.ensures.wild

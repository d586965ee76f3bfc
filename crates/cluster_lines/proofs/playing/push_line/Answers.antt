use Rattle.std.proofs.Common.{◌∙◌, sym, subst}
use Rattle.std.proofs.lemmas.Result.{on_ok_weaker}
use Rattle.script_lines.specs.declared.line.Line.{Line}
use Rattle.cluster_rounds.specs.Worlds.{Does}
use Rattle.cluster_rounds.proofs.BrokenClients.{same-breaks}
use Rattle.cluster_clients.proofs.DispatchSteps.{on-err}
use Rattle.cluster_lines.specs.Showing.{refused}
use Rattle.cluster_lines.proofs.LineSteps.{stands-idle, pushes-busy, pushes-does, idle-breaks}
use Rattle.cluster_rounds.specs.Wild.{always}
use Rattle.cluster_rounds.proofs.WildSteps.{asks-from, on-ok, wild-same}
use Rattle.cluster_lines.proofs.WildLines.{pushed-wild, same-wild}
use Rattle.cluster_lines.proofs.playing.push_line.Goals as goal

pub push-requires : goal.push-requires
push-requires g c =
    let world = c.args.world.now in
    (asks-from g.S.Serving.kit) always always world world c.requires.state
    (λ has. (stands-idle g.S.Serving.kit g.met.S.Serving.laws g.S.Serving.script g.met.S.Scripted.follows) world c.standing.result c.requires.shares c.standing.ensures (sym c.if-is_some.false ∙ c.is_some.ensures) has)
    (λ disks seen wild so. ((wild-same g.S.Serving.kit) seen world disks wild, tt))

pub returns-then-is_some-clause-ok : goal.returns-then-is_some-clause-ok
returns-then-is_some-clause-ok g c =
    let R : Line → Type 0 = λ next. (Does g.S.Serving.kit) ((refused g.S.Serving.kit) next) c.args.world.now c.args.world.now c.args.lines.now.items c.refused.new.lines.items in
    on_ok_weaker c.refused.result (λ refuses. (pushes-busy g.S.Serving.kit g.met.S.Serving.laws g.S.Serving.script g.met.S.Scripted.follows) c.args.world.now c.standing.result c.args.lines.now.items c.refused.new.lines.items c.requires.shares c.standing.ensures c.if-is_some.ensures (subst R c.requires.line refuses)) c.refused.ensures.ok

pub returns-in-Ok-clause-ok : goal.returns-in-Ok-clause-ok
returns-in-Ok-clause-ok g c =
    (pushes-does g.S.Serving.kit g.met.S.Serving.laws g.S.Serving.script g.met.S.Scripted.follows) c.in-Ok.items c.args.world.now c.push.new.world c.standing.result c.args.lines.now.items c.push.new.lines.items c.requires.shares c.standing.ensures (sym c.if-is_some.false ∙ c.is_some.ensures) c.in-Ok.ensures.ok

pub returns-then-is_some-clause-err : goal.returns-then-is_some-clause-err
returns-then-is_some-clause-err g c = on-err c.refused.result ((same-breaks g.S.Serving.kit g.met.S.Serving.laws) c.args.world.now)

pub returns-in-Err-clause-err : goal.returns-in-Err-clause-err
returns-in-Err-clause-err g c =
    (idle-breaks g.S.Serving.kit g.met.S.Serving.laws g.S.Serving.script g.met.S.Scripted.follows) c.args.world.now c.push.new.world c.standing.result c.requires.shares c.standing.ensures (sym c.if-is_some.false ∙ c.is_some.ensures) c.in-Err.ensures.err

pub returns-then-is_some-clause-wild : goal.returns-then-is_some-clause-wild
returns-then-is_some-clause-wild g c = on-ok c.refused.result ((same-wild g.S.Serving.kit g.met.S.Serving.laws) c.args.world.now)

pub returns-in-Ok-clause-wild : goal.returns-in-Ok-clause-wild
returns-in-Ok-clause-wild g c = (pushed-wild g.S.Serving.kit g.met.S.Serving.laws) c.in-Ok.items c.args.world.now c.push.new.world c.in-Ok.ensures.wild

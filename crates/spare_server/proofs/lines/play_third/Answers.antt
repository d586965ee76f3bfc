use Rattle.std.proofs.Common.{inl, sym, subst}
use Rattle.std.proofs.lemmas.Result.{on_ok_weaker, IfErr-weaker}
use Rattle.script_lines.specs.declared.line.Line.{Line}
use Rattle.cluster_lines.specs.Lines.{CanPlay, IsInRange}
use Rattle.cluster_lines.specs.Playing as playing
use Rattle.group_servers.specs.GroupKit.{group_kit, group_script}
use Rattle.spare_server.proofs.LineSteps.{plays-as, third-can, third-groups, third-range}
use Rattle.spare_server.proofs.lines.play_third.Goals as goal

pub play-played-requires-clause-state : goal.play-played-requires-clause-state
play-played-requires-clause-state g c κs within = inl c.requires.state

pub play-played-requires-clause-range : goal.play-played-requires-clause-range
play-played-requires-clause-range g c κs within =
    subst IsInRange (sym c.third_line-third.ensures) (third-range c.args.line.now c.requires.spelled.0 c.requires.spelled.1 c.requires.third)

pub play-played-requires-clause-can : goal.play-played-requires-clause-can
play-played-requires-clause-can g c κs within =
    subst (λ (next : Line). CanPlay group_script c.args.parts.now.now next) (sym c.third_line-third.ensures) (third-can c.args.parts.now.now c.args.line.now c.requires.third)

pub play-played-requires-clause-shares : goal.play-played-requires-clause-shares
play-played-requires-clause-shares g c κs within = λ setup state good shows. tt

pub returns-clause-ok : goal.returns-clause-ok
returns-clause-ok g c =
    let held = g.D.SharedDisk.seen c.args.disk.now in
    let left = g.D.SharedDisk.seen c.play-played.new.disk in
    let old = c.args.parts.now in
    let new = c.play-played.new.world in
    let P : Line → Type 0 = λ next. (playing.Plays (group_kit 3) group_script) next old new c.args.lines.now.items c.play-played.new.lines.items held left in
    on_ok_weaker c.play-played.result (λ plays. plays-as c.args.line.now (third-groups c.args.line.now c.requires.third) old new c.args.lines.now.items c.play-played.new.lines.items held left (subst P c.third_line-third.ensures plays)) c.play-played.ensures.ok

pub returns-clause-broken : goal.returns-clause-broken
returns-clause-broken g c =
    let held = g.D.SharedDisk.seen c.args.disk.now in
    let left = g.D.SharedDisk.seen c.play-played.new.disk in
    IfErr-weaker c.play-played.result _ _ (λ answer broken. subst (λ (next : Line). (playing.BreaksOff (group_kit 3) group_script) answer next c.args.parts.now c.play-played.new.world c.args.lines.now.items c.play-played.new.lines.items held left) c.third_line-third.ensures broken) c.play-played.ensures.broken

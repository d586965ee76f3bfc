use Rattle.std.proofs.Common.{inl, sym, subst, ◌∙◌}
use Rattle.std.proofs.lemmas.Result.{on_ok_weaker, IfErr-weaker}
use Rattle.cluster_rounds.specs.declared.cluster.Cluster.{Cluster}
use Rattle.cluster_rounds.specs.Worlds.{HasStateOn, any_state}
use Rattle.cluster_lines.specs.Lines.{CanPlay}
use Rattle.cluster_lines.specs.Playing.{BreaksOff, Plays}
use Rattle.group_servers.specs.declared.group.Group.{Group}
use Rattle.group_servers.specs.GroupKit.{group_kit, group_script}
use Rattle.cluster_core.proofs.EventSteps.{can-play, parts-stand}
use Rattle.cluster_core.proofs.parts.play_whole.Goals as goal

pub play-played-requires-clause-state : goal.play-played-requires-clause-state
play-played-requires-clause-state g c κs within =
    let held = g.D.SharedDisk.seen c.args.disk.now in
    inl (subst (λ (parts : Cluster (Group 2)). (HasStateOn (group_kit 2)) any_state parts held) (sym c.take_parts-parts.ensures) (parts-stand c.args.world.now held c.requires.state))

pub play-played-requires-clause-range : goal.play-played-requires-clause-range
play-played-requires-clause-range g c κs within = c.requires.range

pub play-played-requires-clause-can : goal.play-played-requires-clause-can
play-played-requires-clause-can g c κs within =
    subst (λ (parts : Cluster (Group 2)). CanPlay group_script parts.now c.args.line.now) (sym c.take_parts-parts.ensures) (can-play c.args.world.now.now c.args.line.now c.requires.line)

-- a line is shared in each state of a group
pub play-played-requires-clause-shares : goal.play-played-requires-clause-shares
play-played-requires-clause-shares g c κs within = λ setup state good shows. tt

pub returns-clause-ok : goal.returns-clause-ok
returns-clause-ok g c =
    let held = g.D.SharedDisk.seen c.args.disk.now in
    let left = g.D.SharedDisk.seen c.play-played.new.disk in
    let parts = c.play-played.new.world in
    let P : Cluster (Group 2) → Type 0 = λ from. (Plays (group_kit 2) group_script) c.args.line.now from parts c.args.lines.now.items c.play-played.new.lines.items held left in
    on_ok_weaker c.play-played.result (λ plays. (parts, c.replace.ensures.after ∙ c.put_parts.ensures, subst P c.take_parts-parts.ensures plays)) c.play-played.ensures.ok

pub returns-clause-broken : goal.returns-clause-broken
returns-clause-broken g c =
    let held = g.D.SharedDisk.seen c.args.disk.now in
    let left = g.D.SharedDisk.seen c.play-played.new.disk in
    let parts = c.play-played.new.world in
    IfErr-weaker c.play-played.result _ _ (λ answer broken. (parts, c.replace.ensures.after ∙ c.put_parts.ensures, subst (λ (from : Cluster (Group 2)). (BreaksOff (group_kit 2) group_script) answer c.args.line.now from parts c.args.lines.now.items c.play-played.new.lines.items held left) c.take_parts-parts.ensures broken)) c.play-played.ensures.broken

use Rattle.std.proofs.Common.{sym, subst, ◌∙◌}
use Rattle.std.proofs.lemmas.Result.{on_ok_weaker, IfErr-weaker}
use Rattle.cluster_rounds.specs.declared.cluster.Cluster.{Cluster}
use Rattle.cluster_rounds.specs.Worlds.{HasStateOn, any_state}
use Rattle.cluster_lines.specs.Lines.{CanPlay}
use Rattle.group_servers.specs.declared.group.Group.{Group}
use Rattle.group_servers.specs.GroupKit.{group_kit, group_script}
use Rattle.spare_server.specs.Happening.{group_line}
use Rattle.spare_server.specs.Parts.{Breaks, Plays}
use Rattle.spare_server.proofs.EventSteps.{parts-stand}
use Rattle.spare_server.proofs.LineSteps.{can-play}
use Rattle.spare_server.proofs.parts.play_whole.Goals as goal

pub play_line-played-requires-clause-state : goal.play_line-played-requires-clause-state
play_line-played-requires-clause-state g c κs within =
    let held = g.D.SharedDisk.seen c.args.disk.now in
    subst (λ (parts : Cluster (Group 3)). (HasStateOn (group_kit 3)) any_state parts held) (sym c.take_parts-parts.ensures) (parts-stand c.args.world.now held c.requires.state)

pub play_line-played-requires-clause-can : goal.play_line-played-requires-clause-can
play_line-played-requires-clause-can g c κs within =
    subst (λ (parts : Cluster (Group 3)). CanPlay group_script parts.now (group_line c.args.line.now)) (sym c.take_parts-parts.ensures) (can-play c.args.world.now.now (group_line c.args.line.now) c.requires.line)

pub returns-clause-ok : goal.returns-clause-ok
returns-clause-ok g c =
    let held = g.D.SharedDisk.seen c.args.disk.now in
    let left = g.D.SharedDisk.seen c.play_line-played.new.disk in
    let parts = c.play_line-played.new.parts in
    let P : Cluster (Group 3) → Type 0 = λ from. Plays c.args.line.now from parts c.args.lines.now.items c.play_line-played.new.lines.items held left in
    on_ok_weaker c.play_line-played.result (λ plays. (parts, c.replace.ensures.after ∙ c.put_parts.ensures, subst P c.take_parts-parts.ensures plays)) c.play_line-played.ensures.ok

pub returns-clause-broken : goal.returns-clause-broken
returns-clause-broken g c =
    let held = g.D.SharedDisk.seen c.args.disk.now in
    let left = g.D.SharedDisk.seen c.play_line-played.new.disk in
    let parts = c.play_line-played.new.parts in
    IfErr-weaker c.play_line-played.result _ _ (λ answer broken. (parts, c.replace.ensures.after ∙ c.put_parts.ensures, subst (λ (from : Cluster (Group 3)). Breaks answer c.args.line.now from parts c.args.lines.now.items c.play_line-played.new.lines.items held left) c.take_parts-parts.ensures broken)) c.play_line-played.ensures.broken

use Rattle.std.proofs.Common.{subst, sym, ◌∙◌}
use Rattle.cluster_rounds.specs.declared.cluster.Cluster.{Cluster}
use Rattle.cluster_lines.specs.Lines.{CanPlay}
use Rattle.cold_servers.specs.declared.solo.Solo.{Solo}
use Rattle.cold_servers.specs.ColdKit.{cold_script}
use Rattle.command_journal.specs.Parts.{PlaysLine}
use Rattle.command_journal.specs.Worlds.{HasParts, both}
use Rattle.command_journal.proofs.EventSteps.{whole-as}
use Rattle.command_journal.proofs.parts.play_whole.Goals as goal

pub play_line-played-requires-clause-state : goal.play_line-played-requires-clause-state
play_line-played-requires-clause-state g c κs within =
    let held = both (g.D.SharedDisk.seen c.args.disk.now) (g.J.SharedDisk.seen c.args.journal.now) in
    subst (λ (parts : Cluster Solo). HasParts parts held) (sym c.take_parts-parts.ensures) c.requires.state

pub play_line-played-requires-clause-can : goal.play_line-played-requires-clause-can
play_line-played-requires-clause-can g c κs within =
    subst (λ (parts : Cluster Solo). CanPlay cold_script parts.now c.args.line.now) (sym c.take_parts-parts.ensures) c.requires.can

pub returns : goal.returns
returns g c =
    let held = both (g.D.SharedDisk.seen c.args.disk.now) (g.J.SharedDisk.seen c.args.journal.now) in
    let left = both (g.D.SharedDisk.seen c.play_line-played.new.disk) (g.J.SharedDisk.seen c.play_line-played.new.journal) in
    whole-as (λ from to before after. PlaysLine c.play_line-played.result c.args.line.now from to before after held left)
    c.args.world.now c.replace.new.dest c.take_parts-parts.result c.play_line-played.new.parts c.args.lines.now.items c.play_line-played.new.lines.items
    c.take_parts-parts.ensures (c.replace.ensures.after ∙ c.put_parts.ensures) c.play_line-played.ensures

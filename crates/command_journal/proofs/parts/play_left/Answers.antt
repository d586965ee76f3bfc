use Rattle.std.proofs.Common.{subst, sym}
use Rattle.command_journal.specs.Parts.{PlaysLine}
use Rattle.command_journal.specs.Worlds.{both}
use Rattle.command_journal.proofs.EventSteps.{down-line, parts-stand, plays-left}
use Rattle.command_journal.proofs.parts.play_left.Goals as goal

pub down_line-requires-clause-state : goal.down_line-requires-clause-state
down_line-requires-clause-state g c =
    parts-stand c.args.parts.now (both (g.D.SharedDisk.seen c.args.disk.now) (g.J.SharedDisk.seen c.args.journal.now)) c.requires.state

pub down_line-requires-clause-line : goal.down_line-requires-clause-line
down_line-requires-clause-line g c = down-line c.args.line.now c.requires.asks c.requires.start

pub returns : goal.returns
returns g c =
    let held = both (g.D.SharedDisk.seen c.args.disk.now) (g.J.SharedDisk.seen c.args.journal.now) in
    let left = both (g.D.SharedDisk.seen c.down_line.new.disk) (g.J.SharedDisk.seen c.down_line.new.beside) in
    let old = c.args.parts.now in
    let new = c.down_line.new.world in
    let before = c.args.lines.now.items in
    let after = c.down_line.new.lines.items in
    subst (λ result. PlaysLine result c.args.line.now old new before after held left) (sym c.as_cold.ensures)
    (plays-left c.args.line.now old new before after held left c.down_line.result c.requires.state c.requires.start c.down_line.ensures.played.ok c.down_line.ensures.played.broken c.down_line.ensures.wild c.down_line.ensures.played.counts c.down_line.ensures.looks)

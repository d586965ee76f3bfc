use Rattle.std.proofs.Common.{subst, sym}
use Rattle.command_journal.specs.Parts.{PlaysLine}
use Rattle.command_journal.specs.Worlds.{both}
use Rattle.command_journal.proofs.EventSteps.{parts-stand, plays-shared}
use Rattle.command_journal.proofs.parts.play_shared.Goals as goal

pub play-requires-clause-state : goal.play-requires-clause-state
play-requires-clause-state g c κs within =
    parts-stand c.args.parts.now (both (g.D.SharedDisk.seen c.args.disk.now) (g.J.SharedDisk.seen c.args.journal.now)) c.requires.state

pub returns : goal.returns
returns g c =
    let held = both (g.D.SharedDisk.seen c.args.disk.now) (g.J.SharedDisk.seen c.args.journal.now) in
    let left = both (g.D.SharedDisk.seen c.play.new.disk) (g.J.SharedDisk.seen c.play.new.beside) in
    let old = c.args.parts.now in
    let new = c.play.new.world in
    let before = c.args.lines.now.items in
    let after = c.play.new.lines.items in
    subst (λ result. PlaysLine result c.args.line.now old new before after held left) (sym c.as_cold.ensures)
    (plays-shared c.args.line.now old new before after held left c.play.result c.requires.state c.requires.shares c.play.ensures.ok c.play.ensures.broken c.play.ensures.wild c.play.ensures.counts c.play.ensures.looks)

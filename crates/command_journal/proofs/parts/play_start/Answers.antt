use Rattle.std.proofs.Common.{subst, sym}
use Rattle.command_journal.specs.Parts.{PlaysLine}
use Rattle.command_journal.specs.Worlds.{both}
use Rattle.command_journal.proofs.EventSteps.{parts-stand, plays-start, start-is}
use Rattle.command_journal.proofs.parts.play_start.Goals as goal

pub restart-requires-clause-state : goal.restart-requires-clause-state
restart-requires-clause-state g c =
    parts-stand c.args.parts.now (both (g.D.SharedDisk.seen c.args.disk.now) (g.J.SharedDisk.seen c.args.journal.now)) c.requires.state

pub returns : goal.returns
returns g c =
    let held = both (g.D.SharedDisk.seen c.args.disk.now) (g.J.SharedDisk.seen c.args.journal.now) in
    let left = both (g.D.SharedDisk.seen c.restart.new.disk) (g.J.SharedDisk.seen c.restart.new.beside) in
    let old = c.args.parts.now in
    let new = c.restart.new.world in
    let before = c.args.lines.now.items in
    let after = c.restart.new.lines.items in
    subst (λ line. PlaysLine c.restart.result line old new before after held left) (sym (start-is c.args.line.now c.requires.start))
    (plays-start old new before after held left c.restart.result c.requires.down c.requires.state c.restart.ensures.ok c.restart.ensures.wild c.restart.ensures.err c.restart.ensures.same c.restart.ensures.counts)

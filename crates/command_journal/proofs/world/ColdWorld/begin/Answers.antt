use Rattle.std.proofs.Common.{[], subst, sym, ap, ◌∙◌}
use Rattle.wire.specs.MessageSpelling.{MessageInRange, message_text}
use Rattle.journal_frames.specs.Frames.{behind_gate, make_calls}
use Rattle.journal_start.specs.declared.journal.Journal.{Journal}
use Rattle.cluster_facts.specs.History.{Empty}
use Rattle.cold_servers.specs.ColdNodes.{active_by}
use Rattle.command_journal.specs.Starting.{world_of}
use Rattle.command_journal.specs.Worlds.{both}
use Rattle.cluster_lines.proofs.BeginSpelled.{spelled-begins}
use Rattle.command_journal.proofs.BeginSteps.{begun, first-in-range, performs-done}
use Rattle.command_journal.proofs.world.ColdWorld.begin.Goals as goal

pub make-requires : goal.make-requires
make-requires g c =
    let opens = c.in-Ok.ensures c.requires.line.0 c.requires.line.1 c.requires.line.2 in
    subst MessageInRange (sym opens.starts.snapshot) (first-in-range c.requires.line.0)

pub returns-in-Ok-make-clause-ok : goal.returns-in-Ok-make-clause-ok
returns-in-Ok-make-clause-ok g c setup places begins none =
    let opens = c.in-Ok.ensures setup places begins in
    let opening = c.in-Ok.opening in
    let made = c.in-Ok-make.made in
    let active = active_by setup [] Empty in
    let held = both (g.D.SharedDisk.seen c.args.disk.now) (g.J.SharedDisk.seen c.args.journal.now) in
    let left = both (g.D.SharedDisk.seen c.perform.new.disk) (g.J.SharedDisk.seen c.make.new.journal) in
    begun setup places opening.deeds [] held left c.replace.new.dest opening.snapshot made
    (spelled-begins c.args.line.now c.requires.spelled.0 setup places c.requires.spelled.1 begins)
    (c.replace.ensures.after ∙ c.world_of.ensures
    ∙ ap (λ node. world_of node made opening.start opening.callbacks) opens.starts.node
    ∙ ap (λ start. world_of active made start opening.callbacks) opens.start
    ∙ ap (λ callbacks. world_of active made setup.start callbacks) opens.callbacks)
    opens.starts.snapshot opens.starts.deeds c.in-Ok-make.ensures.made.0 c.in-Ok-make.ensures.made.1 none c.in-Ok-perform.ensures.performs
    (performs-done Journal made (make_calls (behind_gate (message_text opening.snapshot))) held.journal.files left.journal.files held.journal.tally left.journal.tally c.in-Ok-make.ensures.performs)
    c.requires.unarmed c.requires.unarmed_too

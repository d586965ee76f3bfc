use Rattle.std.specs.Prelude.{Ok, Err}
use Rattle.cold_servers.specs.ColdKit.{cold_kit}
use Rattle.cold_servers.specs.ColdSeen.{ColdSeen}
use Rattle.cold_servers.proofs.AdvanceSteps.{join-comes, join-counts, join-off}
use Rattle.cold_servers.proofs.SilentLines.{link-ok}
use Rattle.cold_servers.proofs.SilentWorlds.{joins-wild}
use Rattle.cold_servers.proofs.advancing.join_step.Goals as goal

pub join_journal-requires : goal.join_journal-requires
join_journal-requires g c =
    link-ok c.args.world.now (cold_kit.see (g.D.SharedDisk.seen c.args.disk.now) (g.J.SharedDisk.seen c.args.beside.now)) c.requires.state c.requires.up

pub returns-in-Ok-clause-ok : goal.returns-in-Ok-clause-ok
returns-in-Ok-clause-ok g c =
    let held : ColdSeen = cold_kit.see (g.D.SharedDisk.seen c.args.disk.now) (g.J.SharedDisk.seen c.args.beside.now) in
    let left : ColdSeen = cold_kit.see (g.D.SharedDisk.seen c.join_journal.new.disk) (g.J.SharedDisk.seen c.join_journal.new.beside) in
    let it = c.in-Ok.ensures in
    join-comes c.in-Ok.went c.args.world.now c.join_journal.new.servers c.join_journal.new.history c.args.lines.now.items c.join_journal.new.lines.items held left c.requires.up.states c.requires.some it.ok it.disks it.cause it.stop

pub returns-in-Ok-clause-wild : goal.returns-in-Ok-clause-wild
returns-in-Ok-clause-wild g c =
    let held : ColdSeen = cold_kit.see (g.D.SharedDisk.seen c.args.disk.now) (g.J.SharedDisk.seen c.args.beside.now) in
    let left : ColdSeen = cold_kit.see (g.D.SharedDisk.seen c.join_journal.new.disk) (g.J.SharedDisk.seen c.join_journal.new.beside) in
    let it = c.in-Ok.ensures in
    joins-wild c.args.world.now c.join_journal.new.servers c.join_journal.new.history c.args.lines.now.items c.join_journal.new.lines.items held left (Ok c.in-Ok.went) c.requires.up it.ok it.err it.disks

pub returns-in-Ok-clause-counts : goal.returns-in-Ok-clause-counts
returns-in-Ok-clause-counts g c =
    let held : ColdSeen = cold_kit.see (g.D.SharedDisk.seen c.args.disk.now) (g.J.SharedDisk.seen c.args.beside.now) in
    let left : ColdSeen = cold_kit.see (g.D.SharedDisk.seen c.join_journal.new.disk) (g.J.SharedDisk.seen c.join_journal.new.beside) in
    join-counts _ _ _ _ _ held left c.in-Ok.ensures.disks c.in-Ok.ensures.cause

pub returns-in-Err-clause-err : goal.returns-in-Err-clause-err
returns-in-Err-clause-err g c =
    let held : ColdSeen = cold_kit.see (g.D.SharedDisk.seen c.args.disk.now) (g.J.SharedDisk.seen c.args.beside.now) in
    let left : ColdSeen = cold_kit.see (g.D.SharedDisk.seen c.join_journal.new.disk) (g.J.SharedDisk.seen c.join_journal.new.beside) in
    let it = c.in-Err.ensures in
    join-off c.in-Err.answer c.args.world.now c.join_journal.new.servers c.join_journal.new.history c.args.lines.now.items c.join_journal.new.lines.items held left c.requires.up.states it.err it.disks it.cause it.stop

pub returns-in-Err-clause-wild : goal.returns-in-Err-clause-wild
returns-in-Err-clause-wild g c =
    let held : ColdSeen = cold_kit.see (g.D.SharedDisk.seen c.args.disk.now) (g.J.SharedDisk.seen c.args.beside.now) in
    let left : ColdSeen = cold_kit.see (g.D.SharedDisk.seen c.join_journal.new.disk) (g.J.SharedDisk.seen c.join_journal.new.beside) in
    let it = c.in-Err.ensures in
    joins-wild c.args.world.now c.join_journal.new.servers c.join_journal.new.history c.args.lines.now.items c.join_journal.new.lines.items held left (Err c.in-Err.answer) c.requires.up it.ok it.err it.disks

pub returns-in-Err-clause-counts : goal.returns-in-Err-clause-counts
returns-in-Err-clause-counts g c =
    let held : ColdSeen = cold_kit.see (g.D.SharedDisk.seen c.args.disk.now) (g.J.SharedDisk.seen c.args.beside.now) in
    let left : ColdSeen = cold_kit.see (g.D.SharedDisk.seen c.join_journal.new.disk) (g.J.SharedDisk.seen c.join_journal.new.beside) in
    join-counts _ _ _ _ _ held left c.in-Err.ensures.disks c.in-Err.ensures.cause

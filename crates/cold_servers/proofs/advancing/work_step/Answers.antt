use Rattle.std.proofs.Common.{refl}
use Rattle.std.specs.Prelude.{Ok, Err}
use Rattle.cluster_rounds.proofs.WildSteps.{wild-same}
use Rattle.cold_servers.specs.ColdKit.{cold_kit}
use Rattle.cold_servers.specs.ColdLaws.{cold_laws}
use Rattle.cold_servers.specs.ColdSeen.{ColdSeen}
use Rattle.cold_servers.proofs.AdvanceSteps.{rests-advance, work-comes, work-counts, work-off}
use Rattle.cold_servers.proofs.SilentLines.{replies-ok}
use Rattle.cold_servers.proofs.SilentWorlds.{works-wild}
use Rattle.cold_servers.proofs.advancing.work_step.Goals as goal

pub work_entry-requires : goal.work_entry-requires
work_entry-requires g c =
    let ready = c.if-ready.ensures.0 refl in
    record {
      hand = ready.0;
      ready = ready.1;
      range = replies-ok c.args.world.now (cold_kit.see (g.D.SharedDisk.seen c.args.disk.now) (g.J.SharedDisk.seen c.args.beside.now)) c.requires.state c.requires.up ready.0 ready.1;
    }

pub returns-in-Ok-clause-ok : goal.returns-in-Ok-clause-ok
returns-in-Ok-clause-ok g c =
    let held : ColdSeen = cold_kit.see (g.D.SharedDisk.seen c.args.disk.now) (g.J.SharedDisk.seen c.args.beside.now) in
    let left : ColdSeen = cold_kit.see (g.D.SharedDisk.seen c.work_entry.new.disk) (g.J.SharedDisk.seen c.work_entry.new.beside) in
    let it = c.in-Ok.ensures in
    let ready = c.if-ready.ensures.0 refl in
    work-comes _ c.args.world.now c.work_entry.new.servers c.work_entry.new.net c.args.lines.now.items c.work_entry.new.lines.items held left c.requires.up.states ready.0 ready.1 it.ok it.disks it.cause it.stop

pub returns-in-Ok-clause-wild : goal.returns-in-Ok-clause-wild
returns-in-Ok-clause-wild g c =
    let held : ColdSeen = cold_kit.see (g.D.SharedDisk.seen c.args.disk.now) (g.J.SharedDisk.seen c.args.beside.now) in
    let left : ColdSeen = cold_kit.see (g.D.SharedDisk.seen c.work_entry.new.disk) (g.J.SharedDisk.seen c.work_entry.new.beside) in
    let it = c.in-Ok.ensures in
    let ready = c.if-ready.ensures.0 refl in
    works-wild (Unit {0}) _ c.args.world.now c.work_entry.new.servers c.work_entry.new.net c.args.lines.now.items c.work_entry.new.lines.items held left (Ok _) c.requires.up ready.0 ready.1 it.ok it.err it.disks

pub returns-in-Ok-clause-counts : goal.returns-in-Ok-clause-counts
returns-in-Ok-clause-counts g c =
    let held : ColdSeen = cold_kit.see (g.D.SharedDisk.seen c.args.disk.now) (g.J.SharedDisk.seen c.args.beside.now) in
    let left : ColdSeen = cold_kit.see (g.D.SharedDisk.seen c.work_entry.new.disk) (g.J.SharedDisk.seen c.work_entry.new.beside) in
    work-counts _ _ held left c.in-Ok.ensures.disks c.in-Ok.ensures.cause

pub returns-in-Err-clause-err : goal.returns-in-Err-clause-err
returns-in-Err-clause-err g c =
    let held : ColdSeen = cold_kit.see (g.D.SharedDisk.seen c.args.disk.now) (g.J.SharedDisk.seen c.args.beside.now) in
    let left : ColdSeen = cold_kit.see (g.D.SharedDisk.seen c.work_entry.new.disk) (g.J.SharedDisk.seen c.work_entry.new.beside) in
    let it = c.in-Err.ensures in
    let ready = c.if-ready.ensures.0 refl in
    work-off c.in-Err.answer c.args.world.now c.work_entry.new.servers c.work_entry.new.net c.args.lines.now.items c.work_entry.new.lines.items held left c.requires.up.states ready.0 ready.1 it.err it.disks it.cause it.stop

pub returns-in-Err-clause-wild : goal.returns-in-Err-clause-wild
returns-in-Err-clause-wild g c =
    let held : ColdSeen = cold_kit.see (g.D.SharedDisk.seen c.args.disk.now) (g.J.SharedDisk.seen c.args.beside.now) in
    let left : ColdSeen = cold_kit.see (g.D.SharedDisk.seen c.work_entry.new.disk) (g.J.SharedDisk.seen c.work_entry.new.beside) in
    let it = c.in-Err.ensures in
    let ready = c.if-ready.ensures.0 refl in
    works-wild (Unit {0}) _ c.args.world.now c.work_entry.new.servers c.work_entry.new.net c.args.lines.now.items c.work_entry.new.lines.items held left (Err c.in-Err.answer) c.requires.up ready.0 ready.1 it.ok it.err it.disks

pub returns-in-Err-clause-counts : goal.returns-in-Err-clause-counts
returns-in-Err-clause-counts g c =
    let held : ColdSeen = cold_kit.see (g.D.SharedDisk.seen c.args.disk.now) (g.J.SharedDisk.seen c.args.beside.now) in
    let left : ColdSeen = cold_kit.see (g.D.SharedDisk.seen c.work_entry.new.disk) (g.J.SharedDisk.seen c.work_entry.new.beside) in
    work-counts _ _ held left c.in-Err.ensures.disks c.in-Err.ensures.cause

-- or it is not ready
pub returns-clause-ok : goal.returns-clause-ok
returns-clause-ok g c =
    let held : ColdSeen = cold_kit.see (g.D.SharedDisk.seen c.args.disk.now) (g.J.SharedDisk.seen c.args.beside.now) in
    rests-advance c.args.world.now c.args.lines.now.items held c.requires.up.states c.requires.link c.requires.back
    (λ some none. let is = c.ready.ensures.1 (some, none) in let no = c.if-ready.false in cc)

pub returns-clause-counts : goal.returns-clause-counts
returns-clause-counts g c = cold_laws.stands (cold_kit.see (g.D.SharedDisk.seen c.args.disk.now) (g.J.SharedDisk.seen c.args.beside.now))

pub returns-clause-wild : goal.returns-clause-wild
returns-clause-wild g c =
    let held : ColdSeen = cold_kit.see (g.D.SharedDisk.seen c.args.disk.now) (g.J.SharedDisk.seen c.args.beside.now) in
    λ seen wild so. wild-same cold_kit seen c.args.world.now held wild

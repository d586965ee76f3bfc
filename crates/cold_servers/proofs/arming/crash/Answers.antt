use Rattle.std.proofs.Common.{ap}
use Rattle.disk_model.specs.Seen.{DiskSeen}
use Rattle.cold_servers.specs.ColdKit.{cold_kit}
use Rattle.cold_servers.specs.ColdLaws.{cold_laws}
use Rattle.cold_servers.specs.ColdSeen.{ColdSeen}
use Rattle.cold_servers.proofs.ArmSteps.{crashes}
use Rattle.cold_servers.proofs.AdvanceSteps.{stood-least}
use Rattle.cold_servers.proofs.SilentWorlds.{crash-on}
use Rattle.cold_servers.proofs.arming.crash.Goals as goal

pub returns-clause-ok : goal.returns-clause-ok
returns-clause-ok g c =
    let old = c.args.world.now in
    crashes old (record old { servers = record { lone = c.fall.new.servers } }) c.args.lines.now.items c.put_server.new.lines.items
    (cold_kit.see (g.D.SharedDisk.seen c.args.disk.now) (g.J.SharedDisk.seen c.args.beside.now))
    (cold_kit.see (g.D.SharedDisk.seen c.fall.new.disk) (g.J.SharedDisk.seen c.fall.new.beside))
    (ap (λ servers. record old { servers = record { lone = servers } }) c.fall.ensures.servers) c.in-Ok.ensures.ok c.fall.ensures.disk c.fall.ensures.beside

pub returns-clause-wild : goal.returns-clause-wild
returns-clause-wild g c =
    let old = c.args.world.now in
    let held : ColdSeen = cold_kit.see (g.D.SharedDisk.seen c.args.disk.now) (g.J.SharedDisk.seen c.args.beside.now) in
    let left : ColdSeen = cold_kit.see (g.D.SharedDisk.seen c.fall.new.disk) (g.J.SharedDisk.seen c.fall.new.beside) in
    crash-on old (record old { servers = record { lone = c.fall.new.servers } }) held left
    (ap (λ servers. record old { servers = record { lone = servers } }) c.fall.ensures.servers) c.fall.ensures.disk c.fall.ensures.beside

pub returns-clause-counts : goal.returns-clause-counts
returns-clause-counts g c = record {
  disk = stood-least (g.D.SharedDisk.seen c.args.disk.now).faults (g.D.SharedDisk.seen c.fall.new.disk).faults (ap (λ (seen : DiskSeen). seen.faults) c.fall.ensures.disk);
  journal = stood-least (g.J.SharedDisk.seen c.args.beside.now).faults (g.J.SharedDisk.seen c.fall.new.beside).faults (ap (λ (seen : DiskSeen). seen.faults) c.fall.ensures.beside);
}

pub returns-in-Err-clause-counts : goal.returns-in-Err-clause-counts
returns-in-Err-clause-counts g c = cold_laws.stands (cold_kit.see (g.D.SharedDisk.seen c.args.disk.now) (g.J.SharedDisk.seen c.args.beside.now))

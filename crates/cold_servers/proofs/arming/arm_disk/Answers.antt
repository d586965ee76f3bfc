use Rattle.std.proofs.Common.{true, refl, le_refl}
use Rattle.cold_servers.specs.ColdKit.{cold_kit}
use Rattle.cold_servers.specs.ColdSeen.{ColdSeen}
use Rattle.cold_servers.proofs.ArmSteps.{arms-disk}
use Rattle.cold_servers.proofs.AdvanceSteps.{stood-least}
use Rattle.cold_servers.proofs.SilentWorlds.{arm-disk-on}
use Rattle.cold_servers.proofs.arming.arm_disk.Goals as goal

pub returns-clause-states : goal.returns-clause-states
returns-clause-states g c = λ lines.
    let old = c.args.world.now in
    arms-disk c.args.count old (record old { servers = record { lone = record old.servers.lone { armed = true } } }) lines
    (cold_kit.see (g.D.SharedDisk.seen c.args.disk.now) (g.J.SharedDisk.seen c.args.beside.now))
    (cold_kit.see (g.D.SharedDisk.seen c.arm.new.self) (g.J.SharedDisk.seen c.args.beside.now))
    c.requires.up.states c.requires.some refl
    (record { files = c.arm.ensures.same; faults = c.arm.ensures.faults_stay; stops = c.arm.ensures.stops_stay; tally = c.arm.ensures.counted }) refl

pub returns-clause-wild : goal.returns-clause-wild
returns-clause-wild g c =
    let held : ColdSeen = cold_kit.see (g.D.SharedDisk.seen c.args.disk.now) (g.J.SharedDisk.seen c.args.beside.now) in
    let left : ColdSeen = cold_kit.see (g.D.SharedDisk.seen c.arm.new.self) (g.J.SharedDisk.seen c.args.beside.now) in
    arm-disk-on c.args.count c.args.world.now held left c.requires.up
    (record { files = c.arm.ensures.same; faults = c.arm.ensures.faults_stay; stops = c.arm.ensures.stops_stay; tally = c.arm.ensures.counted }) refl

pub returns-clause-counts : goal.returns-clause-counts
returns-clause-counts g c = record {
  disk = stood-least (g.D.SharedDisk.seen c.args.disk.now).faults (g.D.SharedDisk.seen c.arm.new.self).faults c.arm.ensures.faults_stay;
  journal = le_refl (g.J.SharedDisk.seen c.args.beside.now).faults;
}

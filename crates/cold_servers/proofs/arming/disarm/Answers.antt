use Rattle.std.proofs.Common.{false, refl}
use Rattle.cold_servers.specs.ColdKit.{cold_kit}
use Rattle.cold_servers.specs.ColdSeen.{ColdSeen}
use Rattle.cold_servers.proofs.ArmSteps.{disarms}
use Rattle.cold_servers.proofs.AdvanceSteps.{stood-least}
use Rattle.cold_servers.proofs.SilentWorlds.{disarm-on}
use Rattle.cold_servers.proofs.arming.disarm.Goals as goal

pub returns-clause-states : goal.returns-clause-states
returns-clause-states g c = λ lines.
    let old = c.args.world.now in
    disarms old (record old { servers = record { lone = record old.servers.lone { armed = false } } }) lines
    (cold_kit.see (g.D.SharedDisk.seen c.args.disk.now) (g.J.SharedDisk.seen c.args.beside.now))
    (cold_kit.see (g.D.SharedDisk.seen c.disarm.new.self) (g.J.SharedDisk.seen c.disarm-2.new.self))
    refl
    (record { files = c.disarm.ensures.same; faults = c.disarm.ensures.faults_stay; stops = c.disarm.ensures.stops_stay; tally = c.disarm.ensures.counted })
    (record { files = c.disarm-2.ensures.same; faults = c.disarm-2.ensures.faults_stay; stops = c.disarm-2.ensures.stops_stay; tally = c.disarm-2.ensures.counted })

pub returns-clause-wild : goal.returns-clause-wild
returns-clause-wild g c =
    let held : ColdSeen = cold_kit.see (g.D.SharedDisk.seen c.args.disk.now) (g.J.SharedDisk.seen c.args.beside.now) in
    let left : ColdSeen = cold_kit.see (g.D.SharedDisk.seen c.disarm.new.self) (g.J.SharedDisk.seen c.disarm-2.new.self) in
    disarm-on c.args.world.now held left
    (record { files = c.disarm.ensures.same; faults = c.disarm.ensures.faults_stay; stops = c.disarm.ensures.stops_stay; tally = c.disarm.ensures.counted })
    (record { files = c.disarm-2.ensures.same; faults = c.disarm-2.ensures.faults_stay; stops = c.disarm-2.ensures.stops_stay; tally = c.disarm-2.ensures.counted })

pub returns-clause-counts : goal.returns-clause-counts
returns-clause-counts g c = record {
  disk = stood-least (g.D.SharedDisk.seen c.args.disk.now).faults (g.D.SharedDisk.seen c.disarm.new.self).faults c.disarm.ensures.faults_stay;
  journal = stood-least (g.J.SharedDisk.seen c.args.beside.now).faults (g.J.SharedDisk.seen c.disarm-2.new.self).faults c.disarm-2.ensures.faults_stay;
}

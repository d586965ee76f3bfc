use Rattle.cold_servers.specs.ColdKit.{cold_kit}
use Rattle.cold_servers.specs.ColdLaws.{cold_laws}
use Rattle.cold_servers.specs.ColdSeen.{ColdSeen}
use Rattle.cold_servers.proofs.SilentLines.{down-broken, up-broken, up-ok, up-stands}
use Rattle.cold_servers.proofs.serving.SoloScripted.play_own.Goals as goal

pub play_own-requires : goal.play_own-requires
play_own-requires g c = record {
  state = c.requires.state;
  up = c.if-is_up.ensures;
  range = c.requires.range;
  own = c.requires.own;
}

pub returns-then-is_up-clause-ok : goal.returns-then-is_up-clause-ok
returns-then-is_up-clause-ok g c =
    let held : ColdSeen = cold_kit.see (g.D.SharedDisk.seen c.args.disk.now) (g.J.SharedDisk.seen c.args.beside.now) in
    let left : ColdSeen = cold_kit.see (g.D.SharedDisk.seen c.play_own.new.disk) (g.J.SharedDisk.seen c.play_own.new.beside) in
    up-ok (Unit {0}) c.args.world.now c.play_own.new.world c.args.lines.now.items c.play_own.new.lines.items held left c.play_own.result c.args.line.now c.play_own.ensures

pub returns-then-is_up-clause-stands : goal.returns-then-is_up-clause-stands
returns-then-is_up-clause-stands g c =
    let held : ColdSeen = cold_kit.see (g.D.SharedDisk.seen c.args.disk.now) (g.J.SharedDisk.seen c.args.beside.now) in
    let left : ColdSeen = cold_kit.see (g.D.SharedDisk.seen c.play_own.new.disk) (g.J.SharedDisk.seen c.play_own.new.beside) in
    up-stands (Unit {0}) c.args.world.now c.play_own.new.world c.args.lines.now.items c.play_own.new.lines.items held left c.play_own.result c.args.line.now c.play_own.ensures

pub returns-then-is_up-clause-broken : goal.returns-then-is_up-clause-broken
returns-then-is_up-clause-broken g c =
    let held : ColdSeen = cold_kit.see (g.D.SharedDisk.seen c.args.disk.now) (g.J.SharedDisk.seen c.args.beside.now) in
    let left : ColdSeen = cold_kit.see (g.D.SharedDisk.seen c.play_own.new.disk) (g.J.SharedDisk.seen c.play_own.new.beside) in
    up-broken (Unit {0}) c.args.world.now c.play_own.new.world c.args.lines.now.items c.play_own.new.lines.items held left c.play_own.result c.args.line.now c.requires.own c.play_own.ensures

pub returns-then-is_up-clause-wild : goal.returns-then-is_up-clause-wild
returns-then-is_up-clause-wild g c = c.play_own.ensures.wild

pub returns-then-is_up-clause-counts : goal.returns-then-is_up-clause-counts
returns-then-is_up-clause-counts g c = c.play_own.ensures.counts

pub returns-clause-broken : goal.returns-clause-broken
returns-clause-broken g c =
    let held : ColdSeen = cold_kit.see (g.D.SharedDisk.seen c.args.disk.now) (g.J.SharedDisk.seen c.args.beside.now) in
    down-broken c.args.line.now c.args.world.now c.args.lines.now.items c.args.lines.now.items held

pub returns-clause-counts : goal.returns-clause-counts
returns-clause-counts g c = cold_laws.stands (cold_kit.see (g.D.SharedDisk.seen c.args.disk.now) (g.J.SharedDisk.seen c.args.beside.now))

use Rattle.std.proofs.Common.{rules, true}
use Rattle.cluster_rounds.specs.Worlds.{any_state}
use Rattle.cluster_rounds.proofs.ArmedSteps.{state-told}
use Rattle.cluster_rounds.proofs.BrokenSteps.{broken-ends}
use Rattle.group_servers.specs.GroupKit.{group_kit}
use Rattle.group_servers.specs.GroupLaws.{group_laws}
use Rattle.group_servers.proofs.CrashSteps.{crash-does, crash-off, prepared-fit}
use Rattle.group_servers.proofs.FallSteps.{all-catch}
use Rattle.group_servers.proofs.GoodSteps.{untold-breaks}
use Rattle.group_servers.proofs.MirrorSteps.{can-take-all}
use Rattle.group_servers.proofs.crashing.crash_active.Goals as goal

pub prepare-requires : goal.prepare-requires
prepare-requires g c =
    let old = c.args.world.now in
    (search rules, all-catch old.servers.seats (can-take-all g.row.N old ((state-told (group_kit g.row.N) (group_laws g.row.N)) any_state old (g.D.SharedDisk.seen c.args.disk.now) c.requires.state)))

pub fall-requires : goal.fall-requires
fall-requires g c =
    let has = c.requires.state in
    let made = c.in-Ok.ensures.ok in
    let fit = prepared-fit g.row.N c.args.world.now c.prepare.new.world _ _ _ c.args.lines.now.items c.prepare.new.lines.items made has.setup has.state has.good has.shows in
    (search rules, (made.room, (fit, (made.front, made.counted, made.lines))))

pub returns-in-Ok-clause-ok : goal.returns-in-Ok-clause-ok
returns-in-Ok-clause-ok g c =
    let made = c.in-Ok.ensures.ok in
    crash-does g.row.N c.args.server c.args.world.now c.prepare.new.world c.fall.new.world _ _ _ c.args.lines.now.items c.prepare.new.lines.items c.fall.new.lines.items (g.D.SharedDisk.seen c.args.disk.now) (g.D.SharedDisk.seen c.fall.new.disk) c.requires.leads made c.fall.result (c.fall.ensures made.front made.counted made.lines)

pub returns-in-Ok-clause-err : goal.returns-in-Ok-clause-err
returns-in-Ok-clause-err g c =
    let made = c.in-Ok.ensures.ok in
    crash-off g.row.N c.args.server c.args.world.now c.prepare.new.world c.fall.new.world _ _ _ c.args.lines.now.items c.prepare.new.lines.items c.fall.new.lines.items (g.D.SharedDisk.seen c.args.disk.now) (g.D.SharedDisk.seen c.fall.new.disk) c.requires.leads made c.fall.result (c.fall.ensures made.front made.counted made.lines)

-- there was no memory before it
pub returns-in-Err-clause-err : goal.returns-in-Err-clause-err
returns-in-Err-clause-err g c =
    let old = c.args.world.now in
    let new = c.prepare.new.world in
    let untold = c.in-Err.ensures.err in
    let held = g.D.SharedDisk.seen c.args.disk.now in
    λ setup state good shows armed.
    let broken = untold-breaks g.row.N setup state held old new good shows untold.net untold.agents untold.history untold.now untold.armed in
    (broken, (group_laws g.row.N).lacks_same true setup state new.history.entries new.servers held ((broken-ends (group_kit g.row.N) (group_laws g.row.N)) setup state held held new broken))

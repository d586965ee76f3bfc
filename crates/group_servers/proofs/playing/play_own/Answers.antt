use Rattle.std.proofs.Common.{rules, subst}
use Rattle.cluster_lines.specs.Lines.{IsInRange}
use Rattle.cluster_rounds.specs.Worlds.{any_state}
use Rattle.cluster_rounds.proofs.ArmedSteps.{state-told}
use Rattle.group_servers.specs.GroupKit.{group_kit}
use Rattle.group_servers.specs.GroupLaws.{group_laws}
use Rattle.group_servers.proofs.GoodSteps.{is-active}
use Rattle.group_servers.proofs.OwnSteps.{ack-line, arm-line, crash-line, disarm-line, mirror-line, restart-line}
use Rattle.group_servers.proofs.playing.play_own.Goals as goal

pub mirror_line-requires : goal.mirror_line-requires
mirror_line-requires g c = (search rules, ((state-told (group_kit g.row.N) (group_laws g.row.N)) any_state c.args.world.now (g.D.SharedDisk.seen c.args.disk.now) c.requires.state, c.in-Mirror.is))

pub ack_line-requires : goal.ack_line-requires
ack_line-requires g c = (search rules, ((state-told (group_kit g.row.N) (group_laws g.row.N)) any_state c.args.world.now (g.D.SharedDisk.seen c.args.disk.now) c.requires.state, c.in-Ack.is))

pub work_line-requires : goal.work_line-requires
work_line-requires g c = (search rules, (c.requires.state, c.in-Work.is))

pub crash-requires : goal.crash-requires
crash-requires g c = (search rules, (c.requires.state, c.in-Crash.is))

pub arm-requires : goal.arm-requires
arm-requires g c = (search rules, (subst IsInRange c.in-Arm.is c.requires.range, c.in-Arm.is))

pub restart-requires : goal.restart-requires
restart-requires g c = (
  search rules,
  (c.in-Restart.is, is-active g.row.N c.args.world.now ((state-told (group_kit g.row.N) (group_laws g.row.N)) any_state c.args.world.now (g.D.SharedDisk.seen c.args.disk.now) c.requires.state)),
)

pub returns-in-Mirror : goal.returns-in-Mirror
returns-in-Mirror g c =
    let held = (g.D.SharedDisk.seen c.args.disk.now) in
    mirror-line g.row.N c.mirror_line.result c.as_answer.result c.args.line.now c.args.world.now c.mirror_line.new.world c.args.lines.now.items c.mirror_line.new.lines.items held c.in-Mirror.is c.as_answer.ensures c.requires.state c.mirror_line.ensures.ok c.mirror_line.ensures.err

pub returns-in-Ack : goal.returns-in-Ack
returns-in-Ack g c =
    let held = (g.D.SharedDisk.seen c.args.disk.now) in
    ack-line g.row.N c.ack_line.result c.as_answer-in-Ack.result c.args.line.now c.args.world.now c.ack_line.new.world c.args.lines.now.items c.ack_line.new.lines.items held c.in-Ack.is c.as_answer-in-Ack.ensures c.requires.state c.ack_line.ensures.ok c.ack_line.ensures.err

pub returns-in-Work : goal.returns-in-Work
returns-in-Work g c = c.work_line.ensures

pub returns-in-Crash : goal.returns-in-Crash
returns-in-Crash g c =
    let held = (g.D.SharedDisk.seen c.args.disk.now) in
    let left = (g.D.SharedDisk.seen c.crash.new.disk) in
    crash-line g.row.N c.crash.result c.args.line.now c.in-Crash.server c.args.world.now c.crash.new.world c.args.lines.now.items c.crash.new.lines.items held left c.in-Crash.is c.requires.state c.crash.ensures.ok c.crash.ensures.err

pub returns-in-Arm : goal.returns-in-Arm
returns-in-Arm g c =
    let held = (g.D.SharedDisk.seen c.args.disk.now) in
    let left = (g.D.SharedDisk.seen c.arm.new.disk) in
    arm-line g.row.N c.arm.result c.as_answer-in-Arm.result c.args.line.now c.in-Arm.server c.in-Arm.count c.args.world.now c.arm.new.world c.args.lines.now.items c.arm.new.lines.items held left c.in-Arm.is (subst IsInRange c.in-Arm.is c.requires.range) c.as_answer-in-Arm.ensures c.requires.state c.arm.ensures.ok c.arm.ensures.world c.arm.ensures.disk

pub returns-in-Disarm : goal.returns-in-Disarm
returns-in-Disarm g c =
    let held = (g.D.SharedDisk.seen c.args.disk.now) in
    let left = (g.D.SharedDisk.seen c.disarm.new.disk) in
    disarm-line g.row.N _ c.args.line.now c.args.world.now c.disarm.new.world c.args.lines.now.items held left c.in-Disarm.is c.requires.state (c.disarm.ensures c.args.lines.now.items)

pub returns-in-Restart : goal.returns-in-Restart
returns-in-Restart g c =
    let held = (g.D.SharedDisk.seen c.args.disk.now) in
    restart-line g.row.N c.restart.result c.as_answer-in-Restart.result c.args.line.now c.args.world.now c.restart.new.world c.args.lines.now.items c.restart.new.lines.items held c.in-Restart.server c.in-Restart.is c.as_answer-in-Restart.ensures c.requires.state c.restart.ensures.ok c.restart.ensures.err

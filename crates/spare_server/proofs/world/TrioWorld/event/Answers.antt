use Rattle.std.proofs.Common.{subst}
use Rattle.std.specs.Prelude.{Err}
use Rattle.disk_model.specs.declared.answers.DiskAnswer.{DiskAnswer}
use Rattle.cluster_rounds.specs.Counted.{Counted}
use Rattle.group_servers.specs.GroupKit.{group_kit}
use Rattle.spare_server.specs.Parts.{BreaksWhole}
use Rattle.spare_server.proofs.EventSteps.{does-event, faults-event, follows-event, lacks-event, stops-event}
use Rattle.spare_server.proofs.world.TrioWorld.event.Goals as goal

pub returns-in-Ok-clause-ok : goal.returns-in-Ok-clause-ok
returns-in-Ok-clause-ok g c =
    let held = g.D.SharedDisk.seen c.args.disk.now in
    let left = g.D.SharedDisk.seen c.play_whole.new.disk in
    does-event c.args.line.now c.args.self.now c.play_whole.new.world c.new-lines.result.items c.play_whole.new.lines.items c.from_vec.result held left c.new-lines.ensures.items c.from_vec.ensures c.in-Ok.ensures.ok

pub returns-in-Ok-clause-keeps : goal.returns-in-Ok-clause-keeps
returns-in-Ok-clause-keeps g c =
    let held = g.D.SharedDisk.seen c.args.disk.now in
    let left = g.D.SharedDisk.seen c.play_whole.new.disk in
    follows-event c.args.line.now c.args.self.now c.play_whole.new.world c.new-lines.result.items c.play_whole.new.lines.items held left c.in-Ok.ensures.ok

pub returns-in-Err-Memory-clause-broken : goal.returns-in-Err-Memory-clause-broken
returns-in-Err-Memory-clause-broken g c =
    let held = g.D.SharedDisk.seen c.args.disk.now in
    let left = g.D.SharedDisk.seen c.play_whole.new.disk in
    let B : DiskAnswer → Type 0 = λ answer. BreaksWhole answer c.args.line.now c.args.self.now c.play_whole.new.world c.new-lines.result.items c.play_whole.new.lines.items held left in
    lacks-event c.args.line.now c.args.self.now c.play_whole.new.world c.new-lines.result.items c.play_whole.new.lines.items held left (subst B c.in-Err-Memory.field-0-is c.in-Err-Memory.ensures.broken)

pub returns-in-Err-Stopped-clause-broken : goal.returns-in-Err-Stopped-clause-broken
returns-in-Err-Stopped-clause-broken g c =
    let held = g.D.SharedDisk.seen c.args.disk.now in
    let left = g.D.SharedDisk.seen c.play_whole.new.disk in
    let B : DiskAnswer → Type 0 = λ answer. BreaksWhole answer c.args.line.now c.args.self.now c.play_whole.new.world c.new-lines.result.items c.play_whole.new.lines.items held left in
    stops-event c.args.line.now c.args.self.now c.play_whole.new.world c.new-lines.result.items c.play_whole.new.lines.items held left (subst B c.in-Err-Stopped.field-0-is c.in-Err-Stopped.ensures.broken)

-- the lines of an event that a fault ended are those that it put
pub returns-in-Err-Failed-clause-broken : goal.returns-in-Err-Failed-clause-broken
returns-in-Err-Failed-clause-broken g c =
    let held = g.D.SharedDisk.seen c.args.disk.now in
    let left = g.D.SharedDisk.seen c.play_whole.new.disk in
    let B : DiskAnswer → Type 0 = λ answer. BreaksWhole answer c.args.line.now c.args.self.now c.play_whole.new.world c.new-lines.result.items c.play_whole.new.lines.items held left in
    faults-event c.args.line.now c.args.self.now c.play_whole.new.world c.new-lines.result.items c.play_whole.new.lines.items c.from_vec-printed.result held left c.new-lines.ensures.items c.from_vec-printed.ensures (subst B c.in-Err-Failed.field-0-is c.in-Err-Failed.ensures.broken)

pub returns-in-Err-Memory-clause-cause : goal.returns-in-Err-Memory-clause-cause
returns-in-Err-Memory-clause-cause g c =
    let G : DiskAnswer → Type 0 = λ answer. Counted {T = Unit {0}} (group_kit 3) (g.D.SharedDisk.seen c.args.disk.now) (g.D.SharedDisk.seen c.play_whole.new.disk) (Err answer) in
    subst G c.in-Err-Memory.field-0-is c.in-Err-Memory.ensures.counts

pub returns-in-Err-Stopped-clause-cause : goal.returns-in-Err-Stopped-clause-cause
returns-in-Err-Stopped-clause-cause g c =
    let G : DiskAnswer → Type 0 = λ answer. Counted {T = Unit {0}} (group_kit 3) (g.D.SharedDisk.seen c.args.disk.now) (g.D.SharedDisk.seen c.play_whole.new.disk) (Err answer) in
    subst G c.in-Err-Stopped.field-0-is c.in-Err-Stopped.ensures.counts

pub returns-in-Err-Failed-clause-cause : goal.returns-in-Err-Failed-clause-cause
returns-in-Err-Failed-clause-cause g c =
    let G : DiskAnswer → Type 0 = λ answer. Counted {T = Unit {0}} (group_kit 3) (g.D.SharedDisk.seen c.args.disk.now) (g.D.SharedDisk.seen c.play_whole.new.disk) (Err answer) in
    let rises = subst G c.in-Err-Failed.field-0-is c.in-Err-Failed.ensures.counts in
    (rises.later, rises.rose)

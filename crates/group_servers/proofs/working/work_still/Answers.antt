use Rattle.std.proofs.Common.{refl, ◌∙◌, ap}
use Rattle.mirror.specs.declared.state.NodeState.{NodeState as Node}
use Rattle.cluster_rounds.specs.Worlds.{any_state}
use Rattle.cluster_rounds.proofs.ArmedSteps.{state-told}
use Rattle.group_servers.specs.GroupKit.{group_kit}
use Rattle.group_servers.specs.GroupLaws.{group_laws}
use Rattle.group_servers.proofs.GoodSteps.{is-active}
use Rattle.group_servers.proofs.StillSteps.{never-breaks}
use Rattle.group_servers.proofs.WorkSteps.{works, work-untold, worked-range}
use Rattle.group_servers.proofs.working.work_still.Goals as goal

pub tell_done-requires : goal.tell_done-requires
tell_done-requires g c =
    let done = c.in-Ok.ensures.done in
    let told = (state-told (group_kit g.row.N) (group_laws g.row.N)) any_state c.args.world.now (g.D.SharedDisk.seen c.args.disk.now) c.requires.state in
    record {
      range = worked-range g.row.N c.args.world.now c.in-Ok.heard c.work.new.self told c.requires.hand c.requires.ready (record { heard_is = done.0; new_is = done.1 });
      idle = ap (λ (node : Node). node.replica.owed) done.1;
      role = ap (λ (node : Node). node.replica.role) done.1 ∙ is-active g.row.N c.args.world.now told;
    }

pub returns-in-Ok-tell_done-clause-ok : goal.returns-in-Ok-tell_done-clause-ok
returns-in-Ok-tell_done-clause-ok g c =
    let done = c.in-Ok.ensures.done in
    works g.row.N c.args.world.now c.work.new.self c.tell_done.new.active c.tell_done.new.seats c.tell_done.new.net c.in-Ok.heard c.args.lines.now.items c.tell_done.new.lines.items (g.D.SharedDisk.seen c.args.disk.now) (g.D.SharedDisk.seen c.work.new.disk) c.requires.hand c.requires.ready (record { heard_is = done.0; new_is = done.1 }) c.in-Ok-tell_done.ensures.ok c.in-Ok.ensures.performs.0 c.in-Ok.ensures.performs.1.0
    c.in-Ok.ensures.performs.1.1 c.in-Ok.ensures.cause.stands c.in-Ok.ensures.stop.stands

-- the reply was not posted, or not told
pub returns-in-Err-tell_done-clause-err : goal.returns-in-Err-tell_done-clause-err
returns-in-Err-tell_done-clause-err g c =
    let done = c.in-Ok.ensures.done in
    work-untold g.row.N c.args.world.now _ c.in-Ok.heard c.work.new.self c.args.lines.now.items c.tell_done.new.lines.items (g.D.SharedDisk.seen c.args.disk.now) (g.D.SharedDisk.seen c.work.new.disk) c.requires.hand c.requires.ready (record { heard_is = done.0; new_is = done.1 }) c.in-Err-tell_done.ensures.err c.in-Ok.ensures.performs.0 c.in-Ok.ensures.performs.1.0 c.in-Ok.ensures.performs.1.1 c.in-Ok.ensures.cause.stands c.in-Ok.ensures.stop.stands refl refl refl refl

-- no call of the disk is made
pub unreachable-requires : goal.unreachable-requires
unreachable-requires g c =
    never-breaks c.args.world.now.servers.active.replica.owed c.in-Err.field-0 (g.D.SharedDisk.seen c.args.disk.now).files (g.D.SharedDisk.seen c.work.new.disk).files (g.D.SharedDisk.seen c.args.disk.now).tally (g.D.SharedDisk.seen c.work.new.disk).tally c.requires.still c.in-Err.ensures.performs

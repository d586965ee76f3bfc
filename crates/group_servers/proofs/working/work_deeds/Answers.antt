use Rattle.std.proofs.Common.{rules, ◌≡◌, ℕ, inl, inr, List, length, refl, sym, ◌∙◌, Err, ap, subst}
use Rattle.disk_model.specs.declared.answers.DiskAnswer.TheVariants.{Failed}
use Rattle.mirror.specs.declared.state.NodeState.{NodeState as Node}
use Rattle.cluster_rounds.specs.Worlds.{any_state}
use Rattle.cluster_rounds.specs.Came.{ComesOff}
use Rattle.cluster_rounds.proofs.ArmedSteps.{state-told}
use Rattle.cluster_rounds.proofs.BrokenClients.{same-breaks-if}
use Rattle.cluster_rounds.proofs.CameSteps.{alone-off}
use Rattle.group_servers.specs.Falls.{TakesOver}
use Rattle.group_servers.specs.GroupKit.{group_kit}
use Rattle.group_servers.specs.GroupLaws.{group_laws}
use Rattle.group_servers.specs.Steps.{EndsWork}
use Rattle.group_servers.proofs.GoodSteps.{is-active}
use Rattle.group_servers.specs.Worked.{TellsWorked}
use Rattle.group_servers.proofs.FallLines.{none-left, one-left}
use Rattle.group_servers.proofs.DealSteps.Broke.{stopped, failed}
use Rattle.group_servers.proofs.WorkCame.{stop-next, some-next, seats-fit, falls-over, falls-off, failed-alone}
use Rattle.group_servers.proofs.WorkSteps.{works, work-lacks, work-untold, worked-range}
use Rattle.group_servers.proofs.working.work_deeds.Goals as goal

-- there was no memory for the lines that tell of a fall
pub returns-in-Err-clause-err : goal.returns-in-Err-clause-err
returns-in-Err-clause-err g c =
    let world = c.args.world.now in
    (alone-off (group_kit g.row.N) (group_laws g.row.N)) any_state (EndsWork g.row.N) world world c.args.lines.now.items c.put_ends.new.lines.items (g.D.SharedDisk.seen c.args.disk.now) ((same-breaks-if (group_kit g.row.N) (group_laws g.row.N)) any_state world)

pub tell_done-requires : goal.tell_done-requires
tell_done-requires g c =
    let done = c.in-Ok-work.ensures.done in
    record {
      range = worked-range g.row.N c.args.world.now c.in-Ok-work.heard c.work.new.self ((state-told (group_kit g.row.N) (group_laws g.row.N)) any_state c.args.world.now (g.D.SharedDisk.seen c.args.disk.now) c.requires.state) c.requires.hand c.requires.ready (record { heard_is = done.0; new_is = done.1 });
      idle = ap (λ (node : Node). node.replica.owed) done.1;
      role = ap (λ (node : Node). node.replica.role) done.1 ∙ is-active g.row.N c.args.world.now ((state-told (group_kit g.row.N) (group_laws g.row.N)) any_state c.args.world.now (g.D.SharedDisk.seen c.args.disk.now) c.requires.state);
    }

pub returns-in-Ok-tell_done-clause-ok : goal.returns-in-Ok-tell_done-clause-ok
returns-in-Ok-tell_done-clause-ok g c =
    let old = c.args.world.now in
    let done = c.in-Ok-work.ensures.done in
    let before = c.args.lines.now.items in
    let heard = c.in-Ok-work.heard in
    let after = c.tell_done.new.lines.items in
    let same : c.truncate.new.self.items ≡ before = none-left before c.put_ends.new.lines.items c.truncate.new.self.items _ _ (ap length c.as_slice-base.ensures.value) c.in-Ok.ensures c.truncate.ensures.items in
    let T : List (List ℕ) → Type 0 = λ lines. TellsWorked heard old.net c.tell_done.new.net c.work.new.self c.tell_done.new.active old.servers.seats c.tell_done.new.seats lines after in
    works g.row.N old c.work.new.self c.tell_done.new.active c.tell_done.new.seats c.tell_done.new.net heard before after (g.D.SharedDisk.seen c.args.disk.now) (g.D.SharedDisk.seen c.work.new.disk) c.requires.hand c.requires.ready (record { heard_is = done.0; new_is = done.1 }) (subst T same c.in-Ok-tell_done.ensures.ok) c.in-Ok-work.ensures.performs.0 c.in-Ok-work.ensures.performs.1.0
    c.in-Ok-work.ensures.performs.1.1 c.in-Ok-work.ensures.cause.stands c.in-Ok-work.ensures.stop.stands

-- the reply was not posted, or not told
pub returns-in-Err-tell_done-clause-err : goal.returns-in-Err-tell_done-clause-err
returns-in-Err-tell_done-clause-err g c =
    let done = c.in-Ok-work.ensures.done in
    work-untold g.row.N c.args.world.now _ c.in-Ok-work.heard c.work.new.self c.args.lines.now.items c.tell_done.new.lines.items (g.D.SharedDisk.seen c.args.disk.now) (g.D.SharedDisk.seen c.work.new.disk) c.requires.hand c.requires.ready (record { heard_is = done.0; new_is = done.1 }) c.in-Err-tell_done.ensures.err c.in-Ok-work.ensures.performs.0 c.in-Ok-work.ensures.performs.1.0 c.in-Ok-work.ensures.performs.1.1 c.in-Ok-work.ensures.cause.stands c.in-Ok-work.ensures.stop.stands refl refl refl refl

-- memory ran out within the deeds
pub returns-in-Err-Memory-clause-err : goal.returns-in-Err-Memory-clause-err
returns-in-Err-Memory-clause-err g c =
    let broke = rw c.in-Err-Memory.field-0-is at c.in-Err-Memory.ensures.performs in
    let stands : (g.D.SharedDisk.seen c.work.new.disk).faults ≡ (g.D.SharedDisk.seen c.args.disk.now).faults = elim c.in-Err-Memory.ensures.cause.stands [
      | inl fault ↦ let is = c.in-Err-Memory.field-0-is in cc
      | inr same ↦ same
    ] in
    let unstopped : (g.D.SharedDisk.seen c.work.new.disk).stops ≡ (g.D.SharedDisk.seen c.args.disk.now).stops = elim c.in-Err-Memory.ensures.stop.stands [
      | inl stop ↦ let is = c.in-Err-Memory.field-0-is in cc
      | inr same ↦ same
    ] in
    work-lacks g.row.N c.args.world.now c.work.new.self c.args.lines.now.items c.put_ends.new.lines.items broke.0 (g.D.SharedDisk.seen c.args.disk.now) (g.D.SharedDisk.seen c.work.new.disk) c.requires.hand c.requires.ready broke.1 broke.2.1 stands unstopped

-- the disk had a fault, and a standby takes over
pub take_over-requires : goal.take_over-requires
take_over-requires g c = (
  search rules,
  (
    seats-fit g.row.N c.args.world.now ((state-told (group_kit g.row.N) (group_laws g.row.N)) any_state c.args.world.now (g.D.SharedDisk.seen c.args.disk.now) c.requires.state),
    (c.args.lines.now.items, sym (ap length c.as_slice-base.ensures.value), c.in-Ok.ensures),
  ),
)

pub returns-then-any_standby-clause-ok : goal.returns-then-any_standby-clause-ok
returns-then-any_standby-clause-ok g c =
    let old = c.args.world.now in
    let before = c.args.lines.now.items in
    let after = c.take_over.new.lines.items in
    let new = c.take_over.new.servers in
    let held = g.D.SharedDisk.seen c.args.disk.now in
    let mid = g.D.SharedDisk.seen c.work.new.disk in
    let left = g.D.SharedDisk.seen c.take_over.new.disk in
    let fails = ap Err c.in-Err-Failed.field-0-is in
    let broke = rw c.in-Err-Failed.field-0-is at c.in-Err-Failed.ensures.performs in
    let cause = c.in-Err-Failed.ensures.cause in
    let unstopped : (g.D.SharedDisk.seen c.work.new.disk).stops ≡ (g.D.SharedDisk.seen c.args.disk.now).stops = elim c.in-Err-Failed.ensures.stop.stands [
      | inl stop ↦ let is = c.in-Err-Failed.field-0-is in cc
      | inr same ↦ same
    ] in
    let T : Node → Type 0 = λ node. TakesOver c.any_fresh-fresh.result c.take_over.result (record old.servers { active = node }) new before after mid left in
    let takes = subst T (c.in-Err-Failed.ensures.failed fails) (c.take_over.ensures before (sym (ap length c.as_slice-base.ensures.value)) c.in-Ok.ensures) in
    falls-over g.row.N old new c.any_fresh-fresh.result before after held mid left c.requires.hand c.requires.ready c.any_fresh-fresh.ensures (some-next g.row.N old held (sym c.if-any_standby.ensures)) (failed broke.0 broke.1 cause.later (cause.rose fails) broke.2 unstopped) c.take_over.result takes

pub returns-then-any_standby-clause-err : goal.returns-then-any_standby-clause-err
returns-then-any_standby-clause-err g c =
    let old = c.args.world.now in
    let before = c.args.lines.now.items in
    let after = c.take_over.new.lines.items in
    let new = c.take_over.new.servers in
    let held = g.D.SharedDisk.seen c.args.disk.now in
    let mid = g.D.SharedDisk.seen c.work.new.disk in
    let left = g.D.SharedDisk.seen c.take_over.new.disk in
    let fails = ap Err c.in-Err-Failed.field-0-is in
    let broke = rw c.in-Err-Failed.field-0-is at c.in-Err-Failed.ensures.performs in
    let cause = c.in-Err-Failed.ensures.cause in
    let unstopped : (g.D.SharedDisk.seen c.work.new.disk).stops ≡ (g.D.SharedDisk.seen c.args.disk.now).stops = elim c.in-Err-Failed.ensures.stop.stands [
      | inl stop ↦ let is = c.in-Err-Failed.field-0-is in cc
      | inr same ↦ same
    ] in
    let T : Node → Type 0 = λ node. TakesOver c.any_fresh-fresh.result c.take_over.result (record old.servers { active = node }) new before after mid left in
    let takes = subst T (c.in-Err-Failed.ensures.failed fails) (c.take_over.ensures before (sym (ap length c.as_slice-base.ensures.value)) c.in-Ok.ensures) in
    falls-off g.row.N old new c.any_fresh-fresh.result before after held mid left c.requires.hand c.requires.ready c.any_fresh-fresh.ensures (some-next g.row.N old held (sym c.if-any_standby.ensures)) (failed broke.0 broke.1 cause.later (cause.rose fails) broke.2 unstopped) c.take_over.result takes

-- there is none
pub returns-else-any_standby-clause-err : goal.returns-else-any_standby-clause-err
returns-else-any_standby-clause-err g c =
    let old = c.args.world.now in
    let before = c.args.lines.now.items in
    let after = c.truncate-in-Err-Failed.new.self.items in
    let held = g.D.SharedDisk.seen c.args.disk.now in
    let left = g.D.SharedDisk.seen c.work.new.disk in
    let fails = ap Err c.in-Err-Failed.field-0-is in
    let broke = rw c.in-Err-Failed.field-0-is at c.in-Err-Failed.ensures.performs in
    let cause = c.in-Err-Failed.ensures.cause in
    let unstopped : (g.D.SharedDisk.seen c.work.new.disk).stops ≡ (g.D.SharedDisk.seen c.args.disk.now).stops = elim c.in-Err-Failed.ensures.stop.stands [
      | inl stop ↦ let is = c.in-Err-Failed.field-0-is in cc
      | inr same ↦ same
    ] in
    let told = one-left before c.put_ends.new.lines.items after _ _ _ (ap length c.as_slice-base.ensures.value) c.in-Ok.ensures c.truncate-in-Err-Failed.ensures.items in
    let off = failed-alone g.row.N old before after broke.0 held left c.requires.hand c.requires.ready (sym c.if-any_standby.ensures) broke.2.1 unstopped broke.1 cause.later (cause.rose fails) told in
    let O : Node → Type 0 = λ node. ComesOff (group_kit g.row.N) any_state (EndsWork g.row.N) Failed old (record old { servers = record old.servers { active = node } }) before after held left in
    subst O (sym (c.in-Err-Failed.ensures.failed fails)) off

-- it stopped
pub take_over-requires-in-Err-Stopped : goal.take_over-requires-in-Err-Stopped
take_over-requires-in-Err-Stopped g c = (
  search rules,
  (
    seats-fit g.row.N c.args.world.now ((state-told (group_kit g.row.N) (group_laws g.row.N)) any_state c.args.world.now (g.D.SharedDisk.seen c.args.disk.now) c.requires.state),
    (c.args.lines.now.items, sym (ap length c.as_slice-base.ensures.value), c.in-Ok.ensures),
  ),
)

pub returns-in-Err-Stopped-clause-ok : goal.returns-in-Err-Stopped-clause-ok
returns-in-Err-Stopped-clause-ok g c =
    let old = c.args.world.now in
    let before = c.args.lines.now.items in
    let again = c.take_over-in-Err-Stopped in
    let after = again.new.lines.items in
    let new = again.new.servers in
    let held = g.D.SharedDisk.seen c.args.disk.now in
    let mid = g.D.SharedDisk.seen c.work.new.disk in
    let left = g.D.SharedDisk.seen again.new.disk in
    let stops = ap Err c.in-Err-Stopped.field-0-is in
    let stop = c.in-Err-Stopped.ensures.stop in
    let broke = rw c.in-Err-Stopped.field-0-is at c.in-Err-Stopped.ensures.performs in
    let stands : mid.faults ≡ held.faults = elim c.in-Err-Stopped.ensures.cause.stands [
      | inl fault ↦ let is = c.in-Err-Stopped.field-0-is in cc
      | inr same ↦ same
    ] in
    let T : Node → Type 0 = λ node. TakesOver c.any_fresh-fresh.result again.result (record old.servers { active = node }) new before after mid left in
    let takes = subst T (c.in-Err-Stopped.ensures.stopped stops) (again.ensures before (sym (ap length c.as_slice-base.ensures.value)) c.in-Ok.ensures) in
    falls-over g.row.N old new c.any_fresh-fresh.result before after held mid left c.requires.hand c.requires.ready c.any_fresh-fresh.ensures (stop-next g.row.N old held broke.0 broke.2.1) (stopped broke.0 broke.1 (broke.2.0, broke.2.1) stands broke.2.2 (stop.later, stop.rose stops)) again.result takes

pub returns-in-Err-Stopped-clause-err : goal.returns-in-Err-Stopped-clause-err
returns-in-Err-Stopped-clause-err g c =
    let old = c.args.world.now in
    let before = c.args.lines.now.items in
    let again = c.take_over-in-Err-Stopped in
    let after = again.new.lines.items in
    let new = again.new.servers in
    let held = g.D.SharedDisk.seen c.args.disk.now in
    let mid = g.D.SharedDisk.seen c.work.new.disk in
    let left = g.D.SharedDisk.seen again.new.disk in
    let stops = ap Err c.in-Err-Stopped.field-0-is in
    let stop = c.in-Err-Stopped.ensures.stop in
    let broke = rw c.in-Err-Stopped.field-0-is at c.in-Err-Stopped.ensures.performs in
    let stands : mid.faults ≡ held.faults = elim c.in-Err-Stopped.ensures.cause.stands [
      | inl fault ↦ let is = c.in-Err-Stopped.field-0-is in cc
      | inr same ↦ same
    ] in
    let T : Node → Type 0 = λ node. TakesOver c.any_fresh-fresh.result again.result (record old.servers { active = node }) new before after mid left in
    let takes = subst T (c.in-Err-Stopped.ensures.stopped stops) (again.ensures before (sym (ap length c.as_slice-base.ensures.value)) c.in-Ok.ensures) in
    falls-off g.row.N old new c.any_fresh-fresh.result before after held mid left c.requires.hand c.requires.ready c.any_fresh-fresh.ensures (stop-next g.row.N old held broke.0 broke.2.1) (stopped broke.0 broke.1 (broke.2.0, broke.2.1) stands broke.2.2 (stop.later, stop.rose stops)) again.result takes

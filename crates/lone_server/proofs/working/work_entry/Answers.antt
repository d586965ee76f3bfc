use Rattle.std.proofs.Common.{List, ℕ, inl, inr, Ok, Err, refl, ap, length, subst, sym}
use Rattle.std.specs.List.{AllByRecursion}
use Rattle.disk_model.specs.Seen.{DiskSeen}
use Rattle.disk_model.specs.declared.answers.DiskAnswer.TheVariants.{Memory, Failed, Stopped}
use Rattle.wire.specs.declared.message.Message.{Message}
use Rattle.wire.specs.MessageSpelling.{MessageInRange}
use Rattle.cluster_clients.specs.Posted.{PostsAll, PostsSome}
use Rattle.mirror.specs.declared.heard.Heard.{Heard}
use Rattle.mirror.specs.declared.state.NodeState.{NodeState}
use Rattle.lone_server.proofs.RoseSteps.{none-left, rose-done, rose-lacks, rose-not, rose-told}
use Rattle.lone_server.proofs.working.work_entry.Goals as goal

-- there was no memory for the line that tells of a fall
pub returns-in-Err-clause-err : goal.returns-in-Err-clause-err
returns-in-Err-clause-err g c = inl (refl, refl, inl (refl, refl, refl))

pub returns-in-Err-clause-disks : goal.returns-in-Err-clause-disks
returns-in-Err-clause-disks g c = record {
  worked = Err Memory;
  mid = g.D.SharedDisk.seen c.args.disk.now;
  performs = inl (refl, refl, refl);
  ends = tt;
  disk = refl;
  journal = refl;
}

pub returns-in-Err-clause-cause : goal.returns-in-Err-clause-cause
returns-in-Err-clause-cause g c = rose-not _ Failed (λ is. cc)

pub returns-in-Err-clause-stop : goal.returns-in-Err-clause-stop
returns-in-Err-clause-stop g c = rose-not _ Stopped (λ is. cc)

-- the deeds are done
pub tell_worked-requires : goal.tell_worked-requires
tell_worked-requires g c =
    subst (λ (heard : Heard). AllByRecursion MessageInRange heard.to_net) (sym c.in-Ok-work.ensures.done.0) c.requires.range

pub returns-in-Ok-tell_worked-clause-ok : goal.returns-in-Ok-tell_worked-clause-ok
returns-in-Ok-tell_worked-clause-ok g c =
    let done = c.in-Ok-work.ensures.done in
    let same = none-left c.args.lines.now.items c.put_server.new.lines.items c.truncate.new.self.items _ _ (ap length c.as_slice-base.ensures.value) c.in-Ok.ensures.ok c.truncate.ensures.items in
    let P : List Message → List (List ℕ) → Type 0 = λ replies lines. PostsAll replies c.args.net.now c.tell_worked.new.net lines c.tell_worked.new.lines.items in
    let posts = subst (λ lines. P c.in-Ok-work.heard.to_net lines) same c.in-Ok-tell_worked.ensures.ok in
    record {
      servers = ap (λ (node : NodeState). record c.args.servers.now { node = node }) done.1;
      posts = subst (λ (heard : Heard). P heard.to_net c.args.lines.now.items) done.0 posts;
    }

pub returns-in-Ok-tell_worked-clause-disks : goal.returns-in-Ok-tell_worked-clause-disks
returns-in-Ok-tell_worked-clause-disks g c = record {
  worked = Ok c.in-Ok-work.heard;
  mid = g.D.SharedDisk.seen c.work.new.disk;
  performs = inr c.in-Ok-work.ensures.performs;
  ends = tt;
  disk = refl;
  journal = refl;
}

pub returns-in-Ok-tell_worked-clause-cause : goal.returns-in-Ok-tell_worked-clause-cause
returns-in-Ok-tell_worked-clause-cause g c = rose-done _ _ c.in-Ok-work.heard _ Failed c.in-Ok-work.ensures.cause

pub returns-in-Ok-tell_worked-clause-stop : goal.returns-in-Ok-tell_worked-clause-stop
returns-in-Ok-tell_worked-clause-stop g c = rose-done _ _ c.in-Ok-work.heard _ Stopped c.in-Ok-work.ensures.stop

-- the reply was not posted, or not told
pub returns-in-Err-tell_worked-clause-err : goal.returns-in-Err-tell_worked-clause-err
returns-in-Err-tell_worked-clause-err g c =
    let done = c.in-Ok-work.ensures.done in
    inr (
      ap (λ (node : NodeState). record c.args.servers.now { node = node }) done.1,
      subst (λ (heard : Heard). PostsSome heard.to_net c.args.net.now c.tell_worked.new.net) done.0 c.in-Err-tell_worked.ensures.err,
      c.in-Ok-work.ensures.performs,
    )

pub returns-in-Err-tell_worked-clause-disks : goal.returns-in-Err-tell_worked-clause-disks
returns-in-Err-tell_worked-clause-disks g c = record {
  worked = Ok c.in-Ok-work.heard;
  mid = g.D.SharedDisk.seen c.work.new.disk;
  performs = inr c.in-Ok-work.ensures.performs;
  ends = tt;
  disk = refl;
  journal = refl;
}

pub returns-in-Err-tell_worked-clause-cause : goal.returns-in-Err-tell_worked-clause-cause
returns-in-Err-tell_worked-clause-cause g c = rose-lacks _ _ c.in-Ok-work.heard Failed (λ is. cc) c.in-Ok-work.ensures.cause

pub returns-in-Err-tell_worked-clause-stop : goal.returns-in-Err-tell_worked-clause-stop
returns-in-Err-tell_worked-clause-stop g c = rose-lacks _ _ c.in-Ok-work.heard Stopped (λ is. cc) c.in-Ok-work.ensures.stop

-- memory ran out within the deeds
pub returns-in-Err-Memory-clause-err : goal.returns-in-Err-Memory-clause-err
returns-in-Err-Memory-clause-err g c =
    let same = c.in-Err-Memory.ensures.memory (ap Err c.in-Err-Memory.field-0-is) in
    let broke = rw c.in-Err-Memory.field-0-is at c.in-Err-Memory.ensures.performs in
    inl (ap (λ (node : NodeState). record c.args.servers.now { node = node }) same, refl, inr broke)

pub returns-in-Err-Memory-clause-disks : goal.returns-in-Err-Memory-clause-disks
returns-in-Err-Memory-clause-disks g c =
    let broke = rw c.in-Err-Memory.field-0-is at c.in-Err-Memory.ensures.performs in
    record { worked = Err Memory; mid = g.D.SharedDisk.seen c.work.new.disk; performs = inr broke; ends = tt; disk = refl; journal = refl }

pub returns-in-Err-Memory-clause-cause : goal.returns-in-Err-Memory-clause-cause
returns-in-Err-Memory-clause-cause g c =
    rose-told _ _ _ _ Memory Failed (ap Err c.in-Err-Memory.field-0-is) refl c.in-Err-Memory.ensures.cause

pub returns-in-Err-Memory-clause-stop : goal.returns-in-Err-Memory-clause-stop
returns-in-Err-Memory-clause-stop g c =
    rose-told _ _ _ _ Memory Stopped (ap Err c.in-Err-Memory.field-0-is) refl c.in-Err-Memory.ensures.stop

-- the disk had a fault
pub returns-in-Err-Failed-clause-err : goal.returns-in-Err-Failed-clause-err
returns-in-Err-Failed-clause-err g c = (c.fall.ensures.servers, refl, c.in-Ok.ensures.ok)

pub returns-in-Err-Failed-clause-disks : goal.returns-in-Err-Failed-clause-disks
returns-in-Err-Failed-clause-disks g c =
    let broke = rw c.in-Err-Failed.field-0-is at c.in-Err-Failed.ensures.performs in
    record {
      worked = Err Failed;
      mid = g.D.SharedDisk.seen c.work.new.disk;
      performs = inr broke;
      ends = tt;
      disk = c.fall.ensures.disk;
      journal = c.fall.ensures.beside;
    }

pub returns-in-Err-Failed-clause-cause : goal.returns-in-Err-Failed-clause-cause
returns-in-Err-Failed-clause-cause g c =
    rose-told _ _ _ _ Failed Failed (ap Err c.in-Err-Failed.field-0-is) (ap (λ (seen : DiskSeen). seen.faults) c.fall.ensures.disk) c.in-Err-Failed.ensures.cause

pub returns-in-Err-Failed-clause-stop : goal.returns-in-Err-Failed-clause-stop
returns-in-Err-Failed-clause-stop g c =
    rose-told _ _ _ _ Failed Stopped (ap Err c.in-Err-Failed.field-0-is) (ap (λ (seen : DiskSeen). seen.stops) c.fall.ensures.disk) c.in-Err-Failed.ensures.stop

-- it stopped
pub returns-in-Err-Stopped-clause-err : goal.returns-in-Err-Stopped-clause-err
returns-in-Err-Stopped-clause-err g c = (c.fall-in-Err-Stopped.ensures.servers, refl, c.in-Ok.ensures.ok)

pub returns-in-Err-Stopped-clause-disks : goal.returns-in-Err-Stopped-clause-disks
returns-in-Err-Stopped-clause-disks g c =
    let broke = rw c.in-Err-Stopped.field-0-is at c.in-Err-Stopped.ensures.performs in
    record {
      worked = Err Stopped;
      mid = g.D.SharedDisk.seen c.work.new.disk;
      performs = inr broke;
      ends = tt;
      disk = c.fall-in-Err-Stopped.ensures.disk;
      journal = c.fall-in-Err-Stopped.ensures.beside;
    }

pub returns-in-Err-Stopped-clause-cause : goal.returns-in-Err-Stopped-clause-cause
returns-in-Err-Stopped-clause-cause g c =
    rose-told _ _ _ _ Stopped Failed (ap Err c.in-Err-Stopped.field-0-is) (ap (λ (seen : DiskSeen). seen.faults) c.fall-in-Err-Stopped.ensures.disk) c.in-Err-Stopped.ensures.cause

pub returns-in-Err-Stopped-clause-stop : goal.returns-in-Err-Stopped-clause-stop
returns-in-Err-Stopped-clause-stop g c =
    rose-told _ _ _ _ Stopped Stopped (ap Err c.in-Err-Stopped.field-0-is) (ap (λ (seen : DiskSeen). seen.stops) c.fall-in-Err-Stopped.ensures.disk) c.in-Err-Stopped.ensures.stop

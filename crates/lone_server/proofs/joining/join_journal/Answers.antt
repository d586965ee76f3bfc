use Rattle.std.proofs.Common.{◌≡◌, inl, inr, [], Ok, Err, Some, refl, ap, length, subst, sym, ◌∙◌}
use Rattle.disk_model.specs.Seen.{DiskSeen}
use Rattle.disk_model.specs.declared.answers.DiskAnswer.TheVariants.{Memory, Failed, Stopped}
use Rattle.wire.specs.Mirrored.{entry_in}
use Rattle.lone_server.specs.Appends.{FirstCanJoin, JoinsFirst}
use Rattle.lone_server.proofs.JoinSteps.{commits-or, downs, empty-over, first-or, joins-one, lacks-over}
use Rattle.lone_server.proofs.RoseSteps.{none-left, rose-done, rose-lacks, rose-not, rose-still, rose-told}
use Rattle.lone_server.proofs.joining.join_journal.Goals as goal

-- nothing is on the way
pub returns-then-is_clear-clause-ok : goal.returns-then-is_clear-clause-ok
returns-then-is_clear-clause-ok g c = (c.if-is_clear.ensures.0 refl, refl, refl, refl)

pub returns-then-is_clear-clause-disks : goal.returns-then-is_clear-clause-disks
returns-then-is_clear-clause-disks g c = empty-over _ _ _ _ _ _ (c.if-is_clear.ensures.0 refl) refl

pub returns-then-is_clear-clause-cause : goal.returns-then-is_clear-clause-cause
returns-then-is_clear-clause-cause g c = rose-still _ _ Failed

pub returns-then-is_clear-clause-stop : goal.returns-then-is_clear-clause-stop
returns-then-is_clear-clause-stop g c = rose-still _ _ Stopped

-- there was no memory for the line that tells of a fall
pub returns-in-Err-clause-disks : goal.returns-in-Err-clause-disks
returns-in-Err-clause-disks g c =
    let some : c.args.servers.now.link ≡ [] → ⊥ = λ none.
    let told = c.is_clear.ensures.1 none in let no = c.if-is_clear.false in cc
    in
    lacks-over c.args.servers.now.link c.args.servers.now.journal.end _ _ _ _ some refl

pub returns-in-Err-clause-cause : goal.returns-in-Err-clause-cause
returns-in-Err-clause-cause g c = rose-not _ Failed (λ is. cc)

pub returns-in-Err-clause-stop : goal.returns-in-Err-clause-stop
returns-in-Err-clause-stop g c = rose-not _ Stopped (λ is. cc)

-- something is on the way, so that one was taken
pub returns-in-Ok-None-clause-ok : goal.returns-in-Ok-None-clause-ok
returns-in-Ok-None-clause-ok g c =
    let none = (rw c.in-Ok-None.field-0-is at c.in-Ok-None.ensures.ok).0 in
    let told = c.is_clear.ensures.1 none in let no = c.if-is_clear.false in cc

pub returns-in-Ok-None-clause-disks : goal.returns-in-Ok-None-clause-disks
returns-in-Ok-None-clause-disks g c =
    let none = (rw c.in-Ok-None.field-0-is at c.in-Ok-None.ensures.ok).0 in
    let told = c.is_clear.ensures.1 none in let no = c.if-is_clear.false in cc

pub returns-in-Ok-None-clause-cause : goal.returns-in-Ok-None-clause-cause
returns-in-Ok-None-clause-cause g c = rose-done _ _ c.in-Ok-None.field-0 _ Failed c.in-Ok-None.ensures.cause

pub returns-in-Ok-None-clause-stop : goal.returns-in-Ok-None-clause-stop
returns-in-Ok-None-clause-stop g c = rose-done _ _ c.in-Ok-None.field-0 _ Stopped c.in-Ok-None.ensures.stop

-- it joined, and is committed
pub returns-in-Ok-commit_joined-clause-ok : goal.returns-in-Ok-commit_joined-clause-ok
returns-in-Ok-commit_joined-clause-ok g c =
    let joins = rw c.in-Ok-Some.field-0-is at c.in-Ok-Some.ensures.ok in
    let cut = c.truncate-in-Ok-Some in
    let same = none-left c.args.lines.now.items c.put_server.new.lines.items cut.new.self.items _ _ (ap length c.as_slice-base.ensures.value) c.in-Ok.ensures.ok cut.ensures.items in
    joins-one c.in-Ok-Some.message c.args.servers.now c.append_first.new.servers c.commit_joined.new.servers c.args.history.now.entries c.commit_joined.new.history.entries c.args.lines.now.items cut.new.self.items c.commit_joined.new.lines.items joins same c.in-Ok-commit_joined.ensures.ok

pub returns-in-Ok-commit_joined-clause-disks : goal.returns-in-Ok-commit_joined-clause-disks
returns-in-Ok-commit_joined-clause-disks g c =
    let message = c.in-Ok-Some.message in
    let joins = rw c.in-Ok-Some.field-0-is at c.in-Ok-Some.ensures.ok in
    let calls = rw c.in-Ok-Some.field-0-is at c.in-Ok-Some.ensures.calls in
    let past = c.args.history.now.entries in
    let entries = c.commit_joined.new.history.entries in
    let commits = commits-or (entry_in message) c.append_first.new.servers c.commit_joined.new.servers past entries _ _ c.in-Ok-commit_joined.ensures.ok in
    record {
      appended = Ok (Some message);
      mid = g.J.SharedDisk.seen c.append_first.new.beside;
      calls = calls;
      joins = subst FirstCanJoin (sym joins.first) joins.can;
      ends = refl;
      history = first-or c.args.servers.now.link message joins.rest past entries joins.first commits;
      journal = refl;
      disk = refl;
    }

pub returns-in-Ok-commit_joined-clause-cause : goal.returns-in-Ok-commit_joined-clause-cause
returns-in-Ok-commit_joined-clause-cause g c = rose-done _ _ c.in-Ok-Some.field-0 _ Failed c.in-Ok-Some.ensures.cause

pub returns-in-Ok-commit_joined-clause-stop : goal.returns-in-Ok-commit_joined-clause-stop
returns-in-Ok-commit_joined-clause-stop g c = rose-done _ _ c.in-Ok-Some.field-0 _ Stopped c.in-Ok-Some.ensures.stop

-- it joined, and is committed or not
pub returns-in-Err-commit_joined-clause-disks : goal.returns-in-Err-commit_joined-clause-disks
returns-in-Err-commit_joined-clause-disks g c =
    let message = c.in-Ok-Some.message in
    let joins = rw c.in-Ok-Some.field-0-is at c.in-Ok-Some.ensures.ok in
    let calls = rw c.in-Ok-Some.field-0-is at c.in-Ok-Some.ensures.calls in
    record {
      appended = Ok (Some message);
      mid = g.J.SharedDisk.seen c.append_first.new.beside;
      calls = calls;
      joins = subst FirstCanJoin (sym joins.first) joins.can;
      ends = refl;
      history = first-or c.args.servers.now.link message joins.rest c.args.history.now.entries c.commit_joined.new.history.entries joins.first c.in-Err-commit_joined.ensures.err;
      journal = refl;
      disk = refl;
    }

pub returns-in-Err-commit_joined-clause-cause : goal.returns-in-Err-commit_joined-clause-cause
returns-in-Err-commit_joined-clause-cause g c = rose-lacks _ _ c.in-Ok-Some.field-0 Failed (λ is. cc) c.in-Ok-Some.ensures.cause

pub returns-in-Err-commit_joined-clause-stop : goal.returns-in-Err-commit_joined-clause-stop
returns-in-Err-commit_joined-clause-stop g c = rose-lacks _ _ c.in-Ok-Some.field-0 Stopped (λ is. cc) c.in-Ok-Some.ensures.stop

-- memory ran out before it joined, or within
pub returns-in-Err-Memory-clause-disks : goal.returns-in-Err-Memory-clause-disks
returns-in-Err-Memory-clause-disks g c =
    let calls = rw c.in-Err-Memory.field-0-is at c.in-Err-Memory.ensures.calls in
    record {
      appended = Err Memory;
      mid = g.J.SharedDisk.seen c.append_first.new.beside;
      calls = calls;
      joins = c.in-Err-Memory.ensures.joins;
      ends = tt;
      history = refl;
      journal = refl;
      disk = refl;
    }

pub returns-in-Err-Memory-clause-cause : goal.returns-in-Err-Memory-clause-cause
returns-in-Err-Memory-clause-cause g c =
    rose-told _ _ _ _ Memory Failed (ap Err c.in-Err-Memory.field-0-is) refl c.in-Err-Memory.ensures.cause

pub returns-in-Err-Memory-clause-stop : goal.returns-in-Err-Memory-clause-stop
returns-in-Err-Memory-clause-stop g c =
    rose-told _ _ _ _ Memory Stopped (ap Err c.in-Err-Memory.field-0-is) refl c.in-Err-Memory.ensures.stop

-- the journal's disk had a fault
pub returns-in-Err-Failed-clause-err : goal.returns-in-Err-Failed-clause-err
returns-in-Err-Failed-clause-err g c =
    (downs c.args.servers.now c.append_first.new.servers c.fall.new.servers c.in-Err-Failed.ensures.err c.fall.ensures.servers, refl, c.in-Ok.ensures.ok)

pub returns-in-Err-Failed-clause-disks : goal.returns-in-Err-Failed-clause-disks
returns-in-Err-Failed-clause-disks g c =
    let calls = rw c.in-Err-Failed.field-0-is at c.in-Err-Failed.ensures.calls in
    record {
      appended = Err Failed;
      mid = g.J.SharedDisk.seen c.append_first.new.beside;
      calls = calls;
      joins = c.in-Err-Failed.ensures.joins;
      ends = tt;
      history = refl;
      journal = c.fall.ensures.beside;
      disk = c.fall.ensures.disk;
    }

pub returns-in-Err-Failed-clause-cause : goal.returns-in-Err-Failed-clause-cause
returns-in-Err-Failed-clause-cause g c =
    rose-told _ _ _ _ Failed Failed (ap Err c.in-Err-Failed.field-0-is) (ap (λ (seen : DiskSeen). seen.faults) c.fall.ensures.beside) c.in-Err-Failed.ensures.cause

pub returns-in-Err-Failed-clause-stop : goal.returns-in-Err-Failed-clause-stop
returns-in-Err-Failed-clause-stop g c =
    rose-told _ _ _ _ Failed Stopped (ap Err c.in-Err-Failed.field-0-is) (ap (λ (seen : DiskSeen). seen.stops) c.fall.ensures.beside) c.in-Err-Failed.ensures.stop

-- it stopped
pub returns-in-Err-Stopped-clause-err : goal.returns-in-Err-Stopped-clause-err
returns-in-Err-Stopped-clause-err g c =
    let fall = c.fall-in-Err-Stopped in
    (downs c.args.servers.now c.append_first.new.servers fall.new.servers c.in-Err-Stopped.ensures.err fall.ensures.servers, refl, c.in-Ok.ensures.ok)

pub returns-in-Err-Stopped-clause-disks : goal.returns-in-Err-Stopped-clause-disks
returns-in-Err-Stopped-clause-disks g c =
    let calls = rw c.in-Err-Stopped.field-0-is at c.in-Err-Stopped.ensures.calls in
    record {
      appended = Err Stopped;
      mid = g.J.SharedDisk.seen c.append_first.new.beside;
      calls = calls;
      joins = c.in-Err-Stopped.ensures.joins;
      ends = tt;
      history = refl;
      journal = c.fall-in-Err-Stopped.ensures.beside;
      disk = c.fall-in-Err-Stopped.ensures.disk;
    }

pub returns-in-Err-Stopped-clause-cause : goal.returns-in-Err-Stopped-clause-cause
returns-in-Err-Stopped-clause-cause g c =
    rose-told _ _ _ _ Stopped Failed (ap Err c.in-Err-Stopped.field-0-is) (ap (λ (seen : DiskSeen). seen.faults) c.fall-in-Err-Stopped.ensures.beside) c.in-Err-Stopped.ensures.cause

pub returns-in-Err-Stopped-clause-stop : goal.returns-in-Err-Stopped-clause-stop
returns-in-Err-Stopped-clause-stop g c =
    rose-told _ _ _ _ Stopped Stopped (ap Err c.in-Err-Stopped.field-0-is) (ap (λ (seen : DiskSeen). seen.stops) c.fall-in-Err-Stopped.ensures.beside) c.in-Err-Stopped.ensures.stop

-- memory ran out: nothing was done, or the message is lost, or it joined
pub returns-in-Err-clause-err : goal.returns-in-Err-clause-err
returns-in-Err-clause-err g c = inl (refl, refl, refl)

pub returns-in-Err-Memory-clause-err : goal.returns-in-Err-Memory-clause-err
returns-in-Err-Memory-clause-err g c =
    let calls = rw c.in-Err-Memory.field-0-is at c.in-Err-Memory.ensures.calls in
    inr (inl (c.in-Err-Memory.ensures.err, refl, calls))

pub returns-in-Err-commit_joined-clause-err : goal.returns-in-Err-commit_joined-clause-err
returns-in-Err-commit_joined-clause-err g c =
    let joins = rw c.in-Ok-Some.field-0-is at c.in-Ok-Some.ensures.ok in
    let calls = rw c.in-Ok-Some.field-0-is at c.in-Ok-Some.ensures.calls in
    let one : JoinsFirst c.in-Ok-Some.message c.args.servers.now c.commit_joined.new.servers = record {
      rest = joins.rest;
      first = joins.first;
      is = c.in-Err-commit_joined.ensures.servers ∙ joins.is;
      can = joins.can;
    }
    in
    inr (inr (c.in-Ok-Some.message, one, c.in-Err-commit_joined.ensures.err, calls))

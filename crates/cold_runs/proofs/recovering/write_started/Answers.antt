use Rattle.std.proofs.Common.{ℕ, List, ◌++◌, Err, refl, ap, ◌∙◌, subst}
use Rattle.disk_model.specs.declared.answers.DiskAnswer.TheVariants as disk
use Rattle.played_runs.specs.Edges.{edge}
use Rattle.played_runs.specs.Writing.{IsNever, IsText, Written, joined_lines}
use Rattle.played_runs.specs.declared.ending.Status8.TheVariants as status
use Rattle.played_runs.proofs.CountSteps.{other-stood}
use Rattle.cold_runs.proofs.RecoverSteps.{lists-fail, lists-lack, lists-told}
use Rattle.cold_runs.proofs.recovering.write_started.Goals as goal

pub returns-in-Err : goal.returns-in-Err
returns-in-Err g c =
    let held = g.D.SharedDisk.seen c.args.disk.now in
    let sink = edge g.K.Sink.written g.K.Sink.faults c.args.out.now c.args.out.now in
    record { files = refl; written = lists-lack c.args.count held held sink refl refl }

pub returns-in-Ok-list_files : goal.returns-in-Ok-list_files
returns-in-Ok-list_files g c =
    let held = g.D.SharedDisk.seen c.args.disk.now in
    let left = g.D.SharedDisk.seen c.list_files.new.disk in
    let sink = edge g.K.Sink.written g.K.Sink.faults c.args.out.now c.write_behind.new.out in
    let lines = c.in-Ok-list_files.lines.items in
    let W : List ℕ → List (List ℕ) → Type 0 = λ line all. Written (IsText status.Done (line ++ joined_lines all)) IsNever sink c.write_behind.result in
    let line = c.as_slice.ensures.value ∙ c.in-Ok.ensures in
    let written = subst (λ (one : List ℕ). W one lines) line (subst (λ (all : List (List ℕ)). W c.as_slice.result.now all) c.as_slice-in-Ok-list_files.ensures.value c.write_behind.ensures) in
    record { files = c.in-Ok-list_files.ensures.same; written = lists-told c.args.count held left sink c.write_behind.result lines c.in-Ok-list_files.ensures.listed c.in-Ok-list_files.ensures.cause.stands written }

pub returns : goal.returns
returns g c =
    let held = g.D.SharedDisk.seen c.args.disk.now in
    let left = g.D.SharedDisk.seen c.list_files.new.disk in
    let sink = edge g.K.Sink.written g.K.Sink.faults c.args.out.now c.write_broken.new.out in
    let failed = c.in-Err-Failed.ensures in
    record { files = failed.same; written = lists-fail c.args.count held left sink c.write_broken.result (failed.cause.later, failed.cause.rose (ap Err c.in-Err-Failed.field-0-is)) c.write_broken.ensures }

pub returns-in-Err-Memory : goal.returns-in-Err-Memory
returns-in-Err-Memory g c =
    let held = g.D.SharedDisk.seen c.args.disk.now in
    let left = g.D.SharedDisk.seen c.list_files.new.disk in
    let sink = edge g.K.Sink.written g.K.Sink.faults c.args.out.now c.args.out.now in
    let stood = other-stood held.faults left.faults c.in-Err-Memory.field-0 disk.Failed disk.Memory c.in-Err-Memory.ensures.cause c.in-Err-Memory.field-0-is (λ is. cc) in
    record { files = c.in-Err-Memory.ensures.same; written = lists-lack c.args.count held left sink stood refl }

pub returns-in-Err-Stopped : goal.returns-in-Err-Stopped
returns-in-Err-Stopped g c =
    let held = g.D.SharedDisk.seen c.args.disk.now in
    let left = g.D.SharedDisk.seen c.list_files.new.disk in
    let sink = edge g.K.Sink.written g.K.Sink.faults c.args.out.now c.args.out.now in
    let stood = other-stood held.faults left.faults c.in-Err-Stopped.field-0 disk.Failed disk.Stopped c.in-Err-Stopped.ensures.cause c.in-Err-Stopped.field-0-is (λ is. cc) in
    record { files = c.in-Err-Stopped.ensures.same; written = lists-lack c.args.count held left sink stood refl }

use Rattle.std.proofs.Common.{◌≡◌, Ok, Err, option_map}
use Rattle.journal_frames.proofs.Unarmed.{unarmed-call, unarmed-then}
use Rattle.std.specs.Prelude.{Result}
use Rattle.std.proofs.lemmas.Result.{on_ok_weaker}
use Rattle.disk_model.specs.Disk.{Files, synced}
use Rattle.disk_model.specs.declared.answers.DiskAnswer.{DiskAnswer}
use Rattle.journal_frames.specs.Frames.{behind_cut, gate_closed, journal_name}
use Rattle.journal_frames.specs.Staging.{HasStaged, IsMended}
use Rattle.journal_frames.proofs.Mending.{told-both}
use Rattle.journal_frames.proofs.Keeping.{keeps-less, mend-kept, mended-staged, sync-staged}
use Rattle.journal_frames.proofs.writing.mend.Goals as goal

pub returns-in-Ok-clause-done : goal.returns-in-Ok-clause-done
returns-in-Ok-clause-done g c =
    let after : Files → Files = λ f. behind_cut c.args.end (gate_closed c.args.end c.args.closed f) in
    let first : (g.J.SharedDisk.seen c.sync.new.self).files ≡ option_map (λ (f : Files). synced f journal_name) (g.J.SharedDisk.seen c.args.disk.now).files = c.in-Ok.ensures.done in
    on_ok_weaker c.close_and_cut.result (λ (done : (g.J.SharedDisk.seen c.close_and_cut.new.disk).files ≡ option_map after (g.J.SharedDisk.seen c.sync.new.self).files). told-both (λ (f : Files). synced f journal_name) after _ _ _ first done) c.close_and_cut.ensures.done

pub returns-in-Ok-clause-kept : goal.returns-in-Ok-clause-kept
returns-in-Ok-clause-kept g c = λ texts text all one.
    mend-kept texts text all one c.args.end c.args.closed _ _ _ c.in-Ok.ensures.done c.close_and_cut.ensures.shut (λ open_gate at. c.close_and_cut.ensures.moving open_gate texts text all one at)

pub returns-in-Err-clause-kept : goal.returns-in-Err-clause-kept
returns-in-Err-clause-kept g c = λ texts text all one.
    let result : Result (Unit {0}) DiskAnswer = Err c.in-Err.answer in
    keeps-less (IsMended texts text c.args.end c.args.closed) (HasStaged texts text) (HasStaged texts text) _ _ (mended-staged texts text all one c.args.end c.args.closed)
    (sync-staged texts text result _ _ tt c.in-Err.ensures.memory c.in-Err.ensures.failed c.in-Err.ensures.stopped)

pub returns-in-Ok-clause-unarmed : goal.returns-in-Ok-clause-unarmed
returns-in-Ok-clause-unarmed g c =
    let old = (g.J.SharedDisk.seen c.args.disk.now).tally in
    let middle = (g.J.SharedDisk.seen c.sync.new.self).tally in
    let new = (g.J.SharedDisk.seen c.close_and_cut.new.disk).tally in
    unarmed-then (tt {0}) c.close_and_cut.result old middle new (unarmed-call (Ok (tt {0})) old middle c.in-Ok.ensures.counted) c.close_and_cut.ensures.unarmed

pub returns-in-Err-clause-unarmed : goal.returns-in-Err-clause-unarmed
returns-in-Err-clause-unarmed g c =
    let result : Result (Unit {0}) DiskAnswer = Err c.in-Err.answer in
    unarmed-call result (g.J.SharedDisk.seen c.args.disk.now).tally (g.J.SharedDisk.seen c.sync.new.self).tally c.in-Err.ensures.counted

use Rattle.std.proofs.Common.{◌≡◌, ◌+◌, option_map}
use Rattle.std.proofs.lemmas.Result.{on_ok_weaker}
use Rattle.disk_model.specs.Disk.{Files, shortened, synced}
use Rattle.journal_frames.specs.Frames.{journal_name}
use Rattle.journal_frames.proofs.Mending.{told-both}
use Rattle.std.proofs.Common.{Ok, Err}
use Rattle.journal_frames.proofs.Unarmed.{unarmed-call, unarmed-then}
use Rattle.std.specs.Prelude.{Result}
use Rattle.disk_model.specs.declared.answers.DiskAnswer.{DiskAnswer}
use Rattle.journal_frames.specs.Frames.{HasFile}
use Rattle.journal_frames.specs.Staging.{Shut}
use Rattle.journal_frames.proofs.Keeping.{keeps-then, cut-done-shut, cut-shut, sync-shut}
use Rattle.journal_frames.proofs.writing.cut_behind.Goals as goal

pub returns-in-Ok-clause-done : goal.returns-in-Ok-clause-done
returns-in-Ok-clause-done g c =
    let cut : (g.J.SharedDisk.seen c.cut.new.self).files ≡ option_map (λ (f : Files). shortened f journal_name (c.args.end + 1)) (g.J.SharedDisk.seen c.args.disk.now).files = c.in-Ok.ensures.done in
    on_ok_weaker c.sync.result (λ (done : (g.J.SharedDisk.seen c.sync.new.self).files ≡ option_map (λ (f : Files). synced f journal_name) (g.J.SharedDisk.seen c.cut.new.self).files). told-both (λ (f : Files). shortened f journal_name (c.args.end + 1)) (λ (f : Files). synced f journal_name) _ _ _ cut done) c.sync.ensures.done

pub returns-in-Ok-clause-kept : goal.returns-in-Ok-clause-kept
returns-in-Ok-clause-kept g c = λ front low.
    keeps-then (HasFile journal_name (Shut front)) (HasFile journal_name (Shut front)) (HasFile journal_name (Shut front)) _ _ _
    (cut-done-shut front (c.args.end + 1) low _ _ c.in-Ok.ensures.done)
    (sync-shut front c.sync.result _ _ c.sync.ensures.done c.sync.ensures.memory c.sync.ensures.failed c.sync.ensures.stopped)

pub returns-in-Err-clause-kept : goal.returns-in-Err-clause-kept
returns-in-Err-clause-kept g c = λ front low.
    let result : Result (Unit {0}) DiskAnswer = Err c.in-Err.answer in
    cut-shut front (c.args.end + 1) low result _ _ tt c.in-Err.ensures.memory c.in-Err.ensures.failed c.in-Err.ensures.stopped

pub returns-in-Ok-clause-unarmed : goal.returns-in-Ok-clause-unarmed
returns-in-Ok-clause-unarmed g c =
    let old = (g.J.SharedDisk.seen c.args.disk.now).tally in
    let middle = (g.J.SharedDisk.seen c.cut.new.self).tally in
    let new = (g.J.SharedDisk.seen c.sync.new.self).tally in
    unarmed-then (tt {0}) c.sync.result old middle new (unarmed-call (Ok (tt {0})) old middle c.in-Ok.ensures.counted)
    (unarmed-call c.sync.result middle new c.sync.ensures.counted)

pub returns-in-Err-clause-unarmed : goal.returns-in-Err-clause-unarmed
returns-in-Err-clause-unarmed g c =
    let result : Result (Unit {0}) DiskAnswer = Err c.in-Err.answer in
    unarmed-call result (g.J.SharedDisk.seen c.args.disk.now).tally (g.J.SharedDisk.seen c.cut.new.self).tally c.in-Err.ensures.counted

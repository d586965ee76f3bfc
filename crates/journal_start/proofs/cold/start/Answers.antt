use Rattle.std.proofs.Common.{Result, Ok, Err}
use Rattle.disk_model.specs.declared.answers.DiskAnswer.{DiskAnswer}
use Rattle.stream_layout.specs.Deeds.{calls_of_all}
use Rattle.mirror.specs.declared.heard.Heard.{Heard}
use Rattle.mirror.specs.Pairing.{deeds_kept}
use Rattle.journal_frames.proofs.Unarmed.{unarmed-calls}
use Rattle.journal_start.proofs.ArmLaws.{stays-left, stopped-told}
use Rattle.journal_start.proofs.cold.start.Goals as goal

pub returns-in-Ok-clause-unarmed : goal.returns-in-Ok-clause-unarmed
returns-in-Ok-clause-unarmed g c =
    let old = g.D.SharedDisk.seen c.args.disk.now in
    let new = g.D.SharedDisk.seen c.takeover.new.disk in
    let done : Result Heard DiskAnswer = Ok c.in-Ok.heard in
    stays-left done old new
    (unarmed-calls (calls_of_all (deeds_kept c.args.replayed.node.kept)) done old.files new.files old.tally new.tally c.in-Ok.ensures.performs)

pub returns-in-Err-clause-stopped : goal.returns-in-Err-clause-stopped
returns-in-Err-clause-stopped g c =
    let old = g.D.SharedDisk.seen c.args.disk.now in
    let new = g.D.SharedDisk.seen c.takeover.new.disk in
    let broken : Result Heard DiskAnswer = Err c.in-Err.answer in
    stopped-told {T = Heard} c.in-Err.answer c.answer_of.result old new
    (unarmed-calls (calls_of_all (deeds_kept c.args.replayed.node.kept)) broken old.files new.files old.tally new.tally c.in-Err.ensures.performs)
    c.in-Err.ensures.stop c.answer_of.ensures

pub returns-in-Err-clause-unarmed : goal.returns-in-Err-clause-unarmed
returns-in-Err-clause-unarmed g c =
    let old = g.D.SharedDisk.seen c.args.disk.now in
    let new = g.D.SharedDisk.seen c.takeover.new.disk in
    let broken : Result Heard DiskAnswer = Err c.in-Err.answer in
    stays-left broken old new
    (unarmed-calls (calls_of_all (deeds_kept c.args.replayed.node.kept)) broken old.files new.files old.tally new.tally c.in-Err.ensures.performs)

use Rattle.journal_start.specs.declared.cold.Cold.{Cold}
use Rattle.journal_start.proofs.ArmLaws.{mend-broke, mended-started}
use Rattle.journal_start.proofs.cold.mend_and_start.Goals as goal

pub returns-in-Ok-clause-arms : goal.returns-in-Ok-clause-arms
returns-in-Ok-clause-arms g c =
    let old = g.J.SharedDisk.seen c.args.journal.now in
    let middle = g.J.SharedDisk.seen c.mend.new.disk in
    let two = g.D.SharedDisk.seen c.args.disk.now in
    let two_new = g.D.SharedDisk.seen c.start.new.disk in
    mended-started (tt {0}) old middle two two_new c.start.result c.in-Ok.ensures.unarmed c.start.ensures.stopped c.start.ensures.unarmed

pub returns-in-Err-clause-arms : goal.returns-in-Err-clause-arms
returns-in-Err-clause-arms g c =
    let old = g.J.SharedDisk.seen c.args.journal.now in
    let new = g.J.SharedDisk.seen c.mend.new.disk in
    let two = g.D.SharedDisk.seen c.args.disk.now in
    mend-broke {T = Cold} {U = Unit {0}} c.in-Err.answer c.answer_of.result old new two c.in-Err.ensures.unarmed c.in-Err.ensures.stop c.answer_of.ensures

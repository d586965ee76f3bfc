use Rattle.std.proofs.Common.{ℕ, List, Option}
use Rattle.journal_start.specs.declared.cold.Cold.{Cold}
use Rattle.journal_start.specs.declared.cold.ColdAnswer.TheVariants.{Memory, NoJournal}
use Rattle.journal_start.proofs.ArmLaws.{read-alone, read-before, read-failed}
use Rattle.journal_start.proofs.StartLaws.{never-err, read-ends, role-is, some-read, started-all, started-kept, stays-staged, tried-all, untouched-all}
use Rattle.journal_start.proofs.cold.cold_start.Goals as goal

pub mend_and_start-requires-clause-role : goal.mend_and_start-requires-clause-role
mend_and_start-requires-clause-role g c = role-is c.as_slice.result.now c.in-Ok.replayed c.in-Ok.ensures

pub returns-in-Ok-clause-found : goal.returns-in-Ok-clause-found
returns-in-Ok-clause-found g c =
    started-all c.as_slice.result.now c.in-Ok.replayed c.in-Ok.ensures c.mend_and_start.result _ _ _ _ _ (some-read _ _ c.in-Ok-Some.bytes c.as_slice.result.now c.as_slice.ensures c.in-Ok-Some.field-0-is c.in-Ok-Some.ensures.told) c.in-Ok-Some.ensures.same c.mend_and_start.ensures.mended c.mend_and_start.ensures.done

pub returns-in-Ok-clause-none : goal.returns-in-Ok-clause-none
returns-in-Ok-clause-none g c = λ is. absurd (never-err c.mend_and_start.result _ c.mend_and_start.ensures.never is)

pub returns-in-Ok-clause-refused : goal.returns-in-Ok-clause-refused
returns-in-Ok-clause-refused g c = λ place is. absurd (never-err c.mend_and_start.result _ c.mend_and_start.ensures.never is)

pub returns-in-Ok-clause-kept : goal.returns-in-Ok-clause-kept
returns-in-Ok-clause-kept g c = λ texts text all one.
    started-kept texts text c.as_slice.result.now c.in-Ok.replayed.place c.in-Ok.replayed.closed _ _ _ c.in-Ok-Some.ensures.same (some-read _ _ c.in-Ok-Some.bytes c.as_slice.result.now c.as_slice.ensures c.in-Ok-Some.field-0-is c.in-Ok-Some.ensures.told) (read-ends c.as_slice.result.now c.in-Ok.replayed c.in-Ok.ensures)
    (c.mend_and_start.ensures.kept texts text all one)

pub returns-in-Ok-clause-untouched : goal.returns-in-Ok-clause-untouched
returns-in-Ok-clause-untouched g c = untouched-all c.mend_and_start.result _ c.mend_and_start.ensures.never

pub returns-in-Ok-clause-broken : goal.returns-in-Ok-clause-broken
returns-in-Ok-clause-broken g c = tried-all c.as_slice.result.now c.in-Ok.replayed c.in-Ok.ensures c.mend_and_start.result _ _ _ (some-read _ _ c.in-Ok-Some.bytes c.as_slice.result.now c.as_slice.ensures c.in-Ok-Some.field-0-is c.in-Ok-Some.ensures.told) c.mend_and_start.ensures.broken

pub returns-in-Ok-None-clause-kept : goal.returns-in-Ok-None-clause-kept
returns-in-Ok-None-clause-kept g c = λ texts text all one. stays-staged texts text _ _ c.in-Ok-None.ensures.same

pub returns-in-Err-clause-kept : goal.returns-in-Err-clause-kept
returns-in-Err-clause-kept g c = λ texts text all one. stays-staged texts text _ _ c.in-Err.ensures.same

pub returns-in-Err-Memory-clause-kept : goal.returns-in-Err-Memory-clause-kept
returns-in-Err-Memory-clause-kept g c = λ texts text all one. stays-staged texts text _ _ c.in-Ok-Some.ensures.same

pub returns-in-Err-NoJournal-clause-kept : goal.returns-in-Err-NoJournal-clause-kept
returns-in-Err-NoJournal-clause-kept g c = λ texts text all one. stays-staged texts text _ _ c.in-Ok-Some.ensures.same

pub returns-in-Ok-clause-arms : goal.returns-in-Ok-clause-arms
returns-in-Ok-clause-arms g c =
    read-before (g.J.SharedDisk.seen c.args.journal.now) (g.J.SharedDisk.seen c.read_journal.new.disk) (g.J.SharedDisk.seen c.mend_and_start.new.journal)
    (g.D.SharedDisk.seen c.args.disk.now) (g.D.SharedDisk.seen c.mend_and_start.new.disk) c.mend_and_start.result
    (record { armed = c.in-Ok-Some.ensures.armed; stops = c.in-Ok-Some.ensures.stops }) c.mend_and_start.ensures.arms

pub returns-in-Ok-None-clause-arms : goal.returns-in-Ok-None-clause-arms
returns-in-Ok-None-clause-arms g c =
    read-alone {T = Cold} (g.J.SharedDisk.seen c.args.journal.now) (g.J.SharedDisk.seen c.read_journal.new.disk) (g.D.SharedDisk.seen c.args.disk.now) NoJournal
    (record { armed = c.in-Ok-None.ensures.armed; stops = c.in-Ok-None.ensures.stops }) (λ is. cc)

pub returns-in-Err-clause-arms : goal.returns-in-Err-clause-arms
returns-in-Err-clause-arms g c =
    read-failed {T = Cold} {U = Option (List ℕ)} (g.J.SharedDisk.seen c.args.journal.now) (g.J.SharedDisk.seen c.read_journal.new.disk) (g.D.SharedDisk.seen c.args.disk.now) c.in-Err.answer c.answer_of.result
    (record { armed = c.in-Err.ensures.armed; stops = c.in-Err.ensures.stops }) c.in-Err.ensures.never_stopped c.answer_of.ensures

pub returns-in-Err-Memory-clause-arms : goal.returns-in-Err-Memory-clause-arms
returns-in-Err-Memory-clause-arms g c =
    read-alone {T = Cold} (g.J.SharedDisk.seen c.args.journal.now) (g.J.SharedDisk.seen c.read_journal.new.disk) (g.D.SharedDisk.seen c.args.disk.now) Memory
    (record { armed = c.in-Ok-Some.ensures.armed; stops = c.in-Ok-Some.ensures.stops }) (λ is. cc)

pub returns-in-Err-NoJournal-clause-arms : goal.returns-in-Err-NoJournal-clause-arms
returns-in-Err-NoJournal-clause-arms g c =
    read-alone {T = Cold} (g.J.SharedDisk.seen c.args.journal.now) (g.J.SharedDisk.seen c.read_journal.new.disk) (g.D.SharedDisk.seen c.args.disk.now) NoJournal
    (record { armed = c.in-Ok-Some.ensures.armed; stops = c.in-Ok-Some.ensures.stops }) (λ is. cc)

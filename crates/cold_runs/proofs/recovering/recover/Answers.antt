use Rattle.std.proofs.Common.{Some, None, Err, refl, ap}
use Rattle.journal_start.specs.declared.cold.ColdAnswer.TheVariants as cold
use Rattle.played_runs.specs.Edges.{edge}
use Rattle.cold_runs.proofs.RecoverSteps.{recovers-failed, recovers-lack, recovers-not, recovers-started, stood-apart, untouched-by}
use Rattle.cold_runs.proofs.recovering.recover.Goals as goal

pub returns-in-Ok : goal.returns-in-Ok
returns-in-Ok g c world =
    let disk = g.D.SharedDisk.seen c.args.disk.now in
    let mid = g.D.SharedDisk.seen c.cold_start.new.disk in
    let disk_left = g.D.SharedDisk.seen c.write_started.new.disk in
    let journal = g.J.SharedDisk.seen c.args.journal.now in
    let journal_left = g.J.SharedDisk.seen c.cold_start.new.journal in
    let sink = edge g.K.Sink.written g.K.Sink.faults c.args.out.now c.write_started.new.out in
    let lists = c.write_started.ensures in
    recovers-started disk mid disk_left journal journal_left world sink c.in-Ok.cold c.count_entries.result c.in-Ok.ensures.found c.count_entries.ensures c.in-Ok.ensures.cause.stands lists.files c.in-Ok.ensures.kept c.write_started.result lists.written

pub returns-in-Err-NoJournal : goal.returns-in-Err-NoJournal
returns-in-Err-NoJournal g c world =
    let disk = g.D.SharedDisk.seen c.args.disk.now in
    let disk_left = g.D.SharedDisk.seen c.cold_start.new.disk in
    let journal = g.J.SharedDisk.seen c.args.journal.now in
    let journal_left = g.J.SharedDisk.seen c.cold_start.new.journal in
    let sink = edge g.K.Sink.written g.K.Sink.faults c.args.out.now c.write_refused.new.out in
    let answer = c.in-Err-NoJournal.field-0 in
    let is = c.in-Err-NoJournal.field-0-is in
    let left = c.in-Err-NoJournal.ensures in
    let stood = stood-apart journal.faults journal_left.faults disk.faults disk_left.faults answer cold.NoJournal left.cause is (λ e. cc) in
    let same = untouched-by answer cold.NoJournal _ is (λ never. never) left.untouched in
    recovers-not disk disk disk_left journal journal_left world sink None c.write_refused.result (left.none (ap Err is)) same stood left.kept c.write_refused.ensures

pub returns-in-Err-Refused : goal.returns-in-Err-Refused
returns-in-Err-Refused g c world =
    let disk = g.D.SharedDisk.seen c.args.disk.now in
    let disk_left = g.D.SharedDisk.seen c.cold_start.new.disk in
    let journal = g.J.SharedDisk.seen c.args.journal.now in
    let journal_left = g.J.SharedDisk.seen c.cold_start.new.journal in
    let sink = edge g.K.Sink.written g.K.Sink.faults c.args.out.now c.write_refused-in-Err-Refused.new.out in
    let answer = c.in-Err-Refused.field-0 in
    let place = c.in-Err-Refused.place in
    let is = c.in-Err-Refused.field-0-is in
    let left = c.in-Err-Refused.ensures in
    let stood = stood-apart journal.faults journal_left.faults disk.faults disk_left.faults answer (cold.Refused place) left.cause is (λ e. cc) in
    let same = untouched-by answer (cold.Refused place) _ is (λ never. never) left.untouched in
    recovers-not disk disk disk_left journal journal_left world sink (Some place) c.write_refused-in-Err-Refused.result (left.refused place (ap Err is)) same stood left.kept c.write_refused-in-Err-Refused.ensures

pub returns-in-Err-Failed : goal.returns-in-Err-Failed
returns-in-Err-Failed g c world =
    let disk = g.D.SharedDisk.seen c.args.disk.now in
    let disk_left = g.D.SharedDisk.seen c.cold_start.new.disk in
    let journal = g.J.SharedDisk.seen c.args.journal.now in
    let journal_left = g.J.SharedDisk.seen c.cold_start.new.journal in
    let sink = edge g.K.Sink.written g.K.Sink.faults c.args.out.now c.write_broken.new.out in
    let left = c.in-Err-Failed.ensures in
    recovers-failed disk disk disk_left journal journal_left world sink c.write_broken.result c.in-Err-Failed.field-0 c.in-Err-Failed.field-0-is left.broken left.cause left.kept c.write_broken.ensures

pub returns-in-Err-Memory : goal.returns-in-Err-Memory
returns-in-Err-Memory g c world =
    let disk = g.D.SharedDisk.seen c.args.disk.now in
    let disk_left = g.D.SharedDisk.seen c.cold_start.new.disk in
    let journal = g.J.SharedDisk.seen c.args.journal.now in
    let journal_left = g.J.SharedDisk.seen c.cold_start.new.journal in
    let sink = edge g.K.Sink.written g.K.Sink.faults c.args.out.now c.args.out.now in
    let left = c.in-Err-Memory.ensures in
    let stood = stood-apart journal.faults journal_left.faults disk.faults disk_left.faults c.in-Err-Memory.field-0 cold.Memory left.cause c.in-Err-Memory.field-0-is (λ e. cc) in
    recovers-lack disk disk disk_left journal journal_left world sink left.broken stood left.kept refl

pub returns-in-Err-Stopped : goal.returns-in-Err-Stopped
returns-in-Err-Stopped g c world =
    let disk = g.D.SharedDisk.seen c.args.disk.now in
    let disk_left = g.D.SharedDisk.seen c.cold_start.new.disk in
    let journal = g.J.SharedDisk.seen c.args.journal.now in
    let journal_left = g.J.SharedDisk.seen c.cold_start.new.journal in
    let sink = edge g.K.Sink.written g.K.Sink.faults c.args.out.now c.args.out.now in
    let left = c.in-Err-Stopped.ensures in
    let stood = stood-apart journal.faults journal_left.faults disk.faults disk_left.faults c.in-Err-Stopped.field-0 cold.Stopped left.cause c.in-Err-Stopped.field-0-is (λ e. cc) in
    recovers-lack disk disk disk_left journal journal_left world sink left.broken stood left.kept refl

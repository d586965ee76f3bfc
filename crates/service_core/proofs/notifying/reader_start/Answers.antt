use Rattle.std.proofs.Common.{refl, ap, ◌∙◌}
use Rattle.std.proofs.lemmas.Int.{to_z-of_z}
use Rattle.calls.specs.declared.call.Call.TheVariants.{ReaderStart}
use Rattle.calls.specs.declared.reply.Reply.TheVariants.{Done}
use Rattle.service_table.specs.Answering.{start_answer}
use Rattle.service_core.specs.Acting.{table_of}
use Rattle.service_core.proofs.NtfActs.{quiet-acted, same-notified}
use Rattle.service_core.proofs.notifying.reader_start.Goals as goal

pub returns-clause-ok : goal.returns-clause-ok
returns-clause-ok c =
    let fits = c.ranges.value in
    let parts = c.args.parts.now in
    let answered = c.in_ok-status.status in
    let status = simp to_z-of_z at c.in_ok-status.ensures.status in
    let readers = simp to_z-of_z at c.in_ok-status.ensures.readers in
    let user = ap (λ using. start_answer using c.args.client parts.readers.items parts.alarms.kept c.args.code c.args.value c.args.filters.now) c.is_user-is_user.ensures in
    λ seq now. quiet-acted (table_of parts) c.args.client seq now (ReaderStart c.args.code c.args.value c.args.filters.now) answered Done parts.ntf.table c.start_reading.new.readers.items c.act_of.result tt (status ∙ user) refl (same-notified answered parts.ntf.table) readers c.act_of.ensures.told (c.act_of.ensures.deeds ∙ c.new.ensures)

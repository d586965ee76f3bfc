use Rattle.std.proofs.Common.{refl, ap, ◌∙◌}
use Rattle.calls.specs.declared.call.Call.TheVariants.{ReaderEnd}
use Rattle.calls.specs.declared.reply.Reply.TheVariants.{Done}
use Rattle.service_table.specs.Answering.{stop_answer}
use Rattle.service_core.specs.Acting.{table_of}
use Rattle.service_core.proofs.NtfActs.{quiet-acted, same-notified}
use Rattle.service_core.proofs.notifying.reader_end.Goals as goal

pub returns : goal.returns
returns c =
    let parts = c.args.parts.now in
    let answered = c.end_reading-status.result in
    let user = ap (λ using. stop_answer using c.args.client parts.readers.items) c.is_user-is_user.ensures in
    λ seq now. quiet-acted (table_of parts) c.args.client seq now ReaderEnd answered Done parts.ntf.table c.end_reading-status.new.readers.items c.act_of.result tt (c.end_reading-status.ensures.status ∙ user) refl (same-notified answered parts.ntf.table) c.end_reading-status.ensures.readers c.act_of.ensures.told (c.act_of.ensures.deeds ∙ c.new.ensures)

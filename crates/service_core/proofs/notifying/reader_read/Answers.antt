use Rattle.std.proofs.Common.{refl, ap}
use Rattle.calls.specs.declared.call.Call.TheVariants.{ReaderRead}
use Rattle.plain_service.specs.Replies.{found_reply}
use Rattle.service_table.specs.Tables.{reader_for}
use Rattle.service_table.specs.Answering.{read_in, read_answer}
use Rattle.service_core.specs.Acting.{table_of}
use Rattle.service_core.proofs.NtfActs.{quiet-acted, same-notified}
use Rattle.service_core.proofs.notifying.reader_read.Goals as goal

pub returns-clause-ok : goal.returns-clause-ok
returns-clause-ok c =
    let parts = c.args.parts.now in
    let reader = reader_for c.args.client parts.readers.items in
    let answered = read_answer c.is_user-is_user.result reader c.args.code parts.alarms.kept in
    let user = ap (λ using. read_answer using reader c.args.code parts.alarms.kept) c.is_user-is_user.ensures in
    λ seq now. quiet-acted (table_of parts) c.args.client seq now (ReaderRead c.args.code) answered (found_reply (read_in reader c.args.code parts.alarms.kept)) parts.ntf.table c.read_on.new.readers.items (record { told = c.in_ok-told.told; deeds = c.new.result }) tt user refl (same-notified answered parts.ntf.table) c.in_ok-told.ensures.readers c.in_ok-told.ensures.told c.new.ensures

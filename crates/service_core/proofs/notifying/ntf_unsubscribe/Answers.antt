use Rattle.std.proofs.Common.{refl, ◌∙◌}
use Rattle.calls.specs.declared.call.Call.TheVariants.{NtfUnsubscribe}
use Rattle.calls.specs.declared.reply.Reply.TheVariants.{Done}
use Rattle.ntf_history.specs.Changes.{NtfChange as ntf}
use Rattle.service_fit.proofs.CallLaws.{notified-by}
use Rattle.service_core.specs.Acting.{table_of}
use Rattle.service_core.proofs.NtfActs.{quiet-acted, same-readers}
use Rattle.service_core.proofs.notifying.ntf_unsubscribe.Goals as goal

pub returns : goal.returns
returns c =
    let parts = c.args.parts.now in
    let answered = c.unsubscribe-status.result in
    λ seq now. quiet-acted (table_of parts) c.args.client seq now (NtfUnsubscribe c.args.id) answered Done c.unsubscribe-status.new.self.table parts.readers.items c.act_of.result tt c.unsubscribe-status.ensures.status refl (notified-by answered (ntf.Unsubscribed c.args.client c.args.id) parts.ntf.table c.unsubscribe-status.new.self.table c.unsubscribe-status.ensures.ok c.unsubscribe-status.ensures.refused) (same-readers answered parts.readers.items) c.act_of.ensures.told (c.act_of.ensures.deeds ∙ c.new.ensures)

use Rattle.std.proofs.Common.{refl, ◌∙◌}
use Rattle.calls.specs.declared.call.Call.TheVariants.{NtfInit}
use Rattle.calls.specs.declared.reply.Reply.TheVariants.{Done}
use Rattle.ntf_history.specs.Changes.{NtfChange as ntf}
use Rattle.service_fit.proofs.CallLaws.{notified-by}
use Rattle.service_core.specs.Acting.{table_of}
use Rattle.service_core.proofs.NtfActs.{quiet-acted, same-readers}
use Rattle.service_core.proofs.notifying.ntf_init.Goals as goal

pub returns-clause-ok : goal.returns-clause-ok
returns-clause-ok c =
    let parts = c.args.parts.now in
    λ seq now. quiet-acted (table_of parts) c.args.client seq now NtfInit c.in_ok-status.status Done c.init.new.self.table parts.readers.items c.act_of.result tt c.in_ok-status.ensures.status refl (notified-by c.in_ok-status.status (ntf.Began c.args.client) parts.ntf.table c.init.new.self.table c.in_ok-status.ensures.ok c.in_ok-status.ensures.refused) (same-readers c.in_ok-status.status parts.readers.items) c.act_of.ensures.told (c.act_of.ensures.deeds ∙ c.new.ensures)

use Rattle.std.proofs.Common.{ap}
use Rattle.ntf_history.specs.Tables.{NtfTable}
use Rattle.service_fit.proofs.FitSteps.{fit-receipt}
use Rattle.service_fit.proofs.NtfFit.{can-send}
use Rattle.service_fit.proofs.ValueFit.{table-of}
use Rattle.service_core.specs.Inside.{kept_table}
use Rattle.service_core.proofs.service.apply_receipt.Goals as goal

pub acked-requires-clause-numbers : goal.acked-requires-clause-numbers
acked-requires-clause-numbers c =
    let kept = kept_table c.args.kept.now in
    let fit = table-of kept c.requires.queues c.requires.fit in
    (can-send kept.number kept.windows kept.ntf fit.few fit.ntf).items

pub returns-clause-fit : goal.returns-clause-fit
returns-clause-fit c =
    let fit = fit-receipt (kept_table c.args.kept.now) c.args.client c.args.key c.args.through (record { queues = c.requires.queues; fit = c.requires.fit; few = c.requires.few }) in
    simp c.acked.ensures fit

pub returns-clause-capacity : goal.returns-clause-capacity
returns-clause-capacity c = ap (λ (t : NtfTable). t.capacity) c.acked.ensures

use Rattle.std.proofs.Common.{◌≡◌, ◌+◌, ap, sym, subst}
use Rattle.ntf_types.specs.declared.notification.Notification.{Notification}
use Rattle.ntf_history.specs.Tables.{NtfTable, with_id}
use Rattle.ntf_service.specs.Planning.{PlansSend}
use Rattle.ntf_service.proofs.Telling.{same_table}
use Rattle.ntf_service.proofs.state.NtfState.plan_send.Goals as goal

pub plan_shared-planned-requires-clause-named : goal.plan_shared-planned-requires-clause-named
plan_shared-planned-requires-clause-named c =
    let named = ap (λ (t : NtfTable). with_id (t.last_id + 1) c.args.notification) (sym (same_table c.self.view_is)) in
    subst (λ (one : Notification). with_id (c.args.self.now.table.last_id + 1) one ≡ one) (sym c.in_ok-shared.ensures) named

-- the plan does not depend on the id that the notification had
pub returns-clause-ok : goal.returns-clause-ok
returns-clause-ok c =
    let table = c.args.self.now.table in
    let plan = c.in_ok-plan.plan in
    let plans = subst (λ (one : Notification). PlansSend table one plan) c.in_ok-shared.ensures c.in_ok-plan.ensures.ok in
    record { id = plans.id; after = plans.after; can = plans.can }

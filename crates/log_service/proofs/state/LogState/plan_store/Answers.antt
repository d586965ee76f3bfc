use Rattle.std.proofs.Common.{◌≡◌, false, List, sym, subst, ap, ◌∙◌, rules}
use Rattle.std.specs.Prelude.{None}
use Rattle.std.proofs.lemmas.Int.{to_z-of_z}
use Rattle.ais_values.specs.declared.status.Status.TheVariants as status
use Rattle.stream_config.specs.declared.attrs.StreamName.{StreamName}
use Rattle.log_history.specs.Changes.{Stored}
use Rattle.log_history.specs.Times.{second_of}
use Rattle.log_history.specs.Table.{OpenStream, LogTable}
use Rattle.log_history.specs.KeptAnswers.{store_status, is_filled}
use Rattle.log_service.proofs.WriteLemmas.{store-room}
use Rattle.log_service.specs.Planning.{Plans}
use Rattle.log_service.specs.PlanningParts.{PlansStoring}
use Rattle.log_service.proofs.KeptLemmas.{moment-of, moment-fits, same_table}
use Rattle.log_service.proofs.StatePlans.{stored-as}
use Rattle.log_service.proofs.state.LogState.plan_store.Goals as goal

pub storing_plan-requires-clause-room : goal.storing_plan-requires-clause-room
storing_plan-requires-clause-room c =
    let ok : c.store_status-status.result ≡ status.Ok = search rules in
    let name = c.stream_of_kind-name.result in
    let room = store-room _ (sym c.store_status-status.ensures ∙ ok) in
    ap (λ (list : List OpenStream). is_filled list name c.args.rec.now) (c.as_slice-streams.ensures.value ∙ ap (λ (kept : LogTable). kept.streams) (same_table c.self.view_is)) ∙ room

pub returns-clause-ok : goal.returns-clause-ok
returns-clause-ok c =
    let now_fits = c.ranges.now in
    let last = c.self.inside.last in
    let moment = moment-of last c.args.now c.args.self.now.table c.self.invariant.from (ap (λ (kept : LogTable). kept.last) (same_table c.self.view_is)) c.requires.moment in
    let last_fits = moment-fits last c.args.now moment in
    let items = c.self.inside.streams.items in
    let name = c.stream_of_kind-name.result in
    let ok : c.store_status-status.result ≡ status.Ok = search rules in
    let told = simp to_z-of_z at c.in_ok-plan.ensures in
    let plans = subst (λ (list : List OpenStream). PlansStoring last c.args.now name c.args.rec.now list c.in_ok-plan.plan) c.as_slice-streams.ensures.value told in
    subst (λ (n : StreamName). Plans c.args.self.now.table (store_status c.args.self.now.table n c.args.rec.now) false None (Stored n c.args.rec.now (second_of c.args.now)) c.in_ok-plan.plan) c.stream_of_kind-name.ensures
    (stored-as last c.self.inside.users items c.args.self.now.table (same_table c.self.view_is) c.self.invariant.few c.self.invariant.busy c.args.now (store_status c.args.self.now.table name c.args.rec.now) name c.args.rec.now c.in_ok-plan.plan (sym ok ∙ c.store_status-status.ensures) plans)

pub returns-clause-room : goal.returns-clause-room
returns-clause-room c = c.in_ok-plan.ensures.room c.args.self.now.spare

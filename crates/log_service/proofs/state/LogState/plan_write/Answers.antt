use Rattle.std.proofs.Common.{◌≡◌, ◌≢◌, true, List, [], sym, subst, ap, ◌∙◌, rules}
use Rattle.std.specs.Prelude.{Some}
use Rattle.std.proofs.lemmas.Int.{to_z-of_z}
use Rattle.ais_values.specs.declared.status.Status.TheVariants as status
use Rattle.ais_values.proofs.Basics.{OnErr-from}
use Rattle.stream_config.specs.Attributes.{kind_of}
use Rattle.stream_config.specs.declared.mark.Mark.{Mark}
use Rattle.log_history.specs.Changes.{LogChange, Stored}
use Rattle.log_history.specs.Times.{second_of, record_at}
use Rattle.log_history.specs.Table.{OpenStream, LogTable}
use Rattle.log_history.specs.KeptAnswers.{write_status, is_filled, kept_mark}
use Rattle.log_service.specs.Planning.{marked_plan, HasRoom, Plans}
use Rattle.log_service.specs.PlanningParts.{PlansStoring}
use Rattle.log_service.specs.declared.plan.Doing.TheVariants.{Stay}
use Rattle.log_service.specs.declared.plan.LogPlan.{LogPlan}
use Rattle.log_service.proofs.KeptLemmas.{moment-of, moment-fits, same_table}
use Rattle.log_service.proofs.WriteLemmas.{write-rows, write-room, printable}
use Rattle.log_service.proofs.StatePlans.{stored-as, marked-as, filtered-as, refused-as}
use Rattle.log_service.proofs.state.LogState.plan_write.Goals as goal

pub writing_plan-requires-clause-printable : goal.writing_plan-requires-clause-printable
writing_plan-requires-clause-printable c =
    let time_fits = c.ranges.time in
    let now_fits = c.ranges.now in
    let ok : c.write_status-status.result ≡ status.Ok = search rules in
    let may = write-rows _ _ _ _ (kind_of c.args.name.now) c.args.flags c.args.time c.args.header.now (sym (simp to_z-of_z at c.write_status-status.ensures) ∙ ok) in
    simp to_z-of_z (printable (kind_of c.args.name.now) c.args.time c.args.header.now c.args.body.now c.args.now c.requires.moment.from may)

pub writing_plan-requires-clause-room : goal.writing_plan-requires-clause-room
writing_plan-requires-clause-room c =
    let time_fits = c.ranges.time in
    let now_fits = c.ranges.now in
    let ok : c.write_status-status.result ≡ status.Ok = search rules in
    let rec = record_at c.args.time c.args.header.now c.args.body.now c.args.now in
    let room = write-room _ _ _ _ (kind_of c.args.name.now) c.args.flags c.args.time c.args.header.now (sym (simp to_z-of_z at c.write_status-status.ensures) ∙ ok) (sym c.if-filters.ensures) in
    simp to_z-of_z (ap (λ (list : List OpenStream). is_filled list c.args.name.now rec) (c.as_slice-streams.ensures.value ∙ ap (λ (kept : LogTable). kept.streams) (same_table c.self.view_is)) ∙ room)

pub filters-requires : goal.filters-requires
filters-requires c =
    let time_fits = c.ranges.time in
    let now_fits = c.ranges.now in
    let ok : c.write_status-status.result ≡ status.Ok = search rules in
    simp to_z-of_z (write-rows _ _ _ _ (kind_of c.args.name.now) c.args.flags c.args.time c.args.header.now (sym (simp to_z-of_z at c.write_status-status.ensures) ∙ ok))

pub returns-then-filters-clause-ok : goal.returns-then-filters-clause-ok
returns-then-filters-clause-ok c =
    let time_fits = c.ranges.time in
    let now_fits = c.ranges.now in
    let table = c.args.self.now.table in
    let last = c.self.inside.last in
    let moment = moment-of last c.args.now table c.self.invariant.from (ap (λ (kept : LogTable). kept.last) (same_table c.self.view_is)) c.requires.moment in
    let last_fits = moment-fits last c.args.now moment in
    let ok : c.write_status-status.result ≡ status.Ok = search rules in
    let answered = simp to_z-of_z at c.write_status-status.ensures in
    let mark = kept_mark table.streams c.args.name.now in
    let told = (simp to_z-of_z at c.filtered.ensures) ∙ ap (λ (m : Mark). let plan : LogPlan = record { step = record { status = status.Ok; filtered = true; mark = Some m; events = [] }; last = last; doing = Stay } in plan) c.mark_of-mark.ensures in
    subst (λ masked. Plans table (write_status table c.args.client c.args.name.now c.args.flags c.args.time c.args.header.now c.args.body.now c.args.now) masked (Some mark) (Stored c.args.name.now (record_at c.args.time c.args.header.now c.args.body.now c.args.now) (second_of c.args.now)) c.filtered.result) c.if-filters.ensures
    (filtered-as last c.self.inside.users c.self.inside.streams.items table (same_table c.self.view_is) c.self.invariant.few c.self.invariant.busy _ mark _ c.filtered.result (sym ok ∙ answered) c.self.invariant.from told)

pub returns-clause-ok : goal.returns-clause-ok
returns-clause-ok c =
    let time_fits = c.ranges.time in
    let now_fits = c.ranges.now in
    let table = c.args.self.now.table in
    let last = c.self.inside.last in
    let moment = moment-of last c.args.now table c.self.invariant.from (ap (λ (kept : LogTable). kept.last) (same_table c.self.view_is)) c.requires.moment in
    let last_fits = moment-fits last c.args.now moment in
    let items = c.self.inside.streams.items in
    let ok : c.write_status-status.result ≡ status.Ok = search rules in
    let answered = simp to_z-of_z at c.write_status-status.ensures in
    let rec = record_at c.args.time c.args.header.now c.args.body.now c.args.now in
    let expected = write_status table c.args.client c.args.name.now c.args.flags c.args.time c.args.header.now c.args.body.now c.args.now in
    let change : LogChange = Stored c.args.name.now rec (second_of c.args.now) in
    let told = simp to_z-of_z at c.in_ok-plan.ensures in
    let plans = subst (λ (list : List OpenStream). PlansStoring last c.args.now c.args.name.now rec list c.in_ok-plan.plan) c.as_slice-streams.ensures.value told in
    let stored = stored-as last c.self.inside.users items table (same_table c.self.view_is) c.self.invariant.few c.self.invariant.busy c.args.now expected c.args.name.now rec c.in_ok-plan.plan (sym ok ∙ answered) plans in
    let marked = marked-as last c.self.inside.users items table (same_table c.self.view_is) c.self.invariant.few c.self.invariant.busy expected (kept_mark table.streams c.args.name.now) change c.in_ok-plan.plan c.marked.result plans.sound.ok stored (c.marked.ensures ∙ ap (λ (m : Mark). marked_plan m c.in_ok-plan.plan) c.mark_of-mark.ensures) in
    subst (λ masked. Plans table expected masked (Some (kept_mark table.streams c.args.name.now)) change c.marked.result) c.if-filters.ensures marked

pub returns-then-ne-clause-ok : goal.returns-then-ne-clause-ok
returns-then-ne-clause-ok c =
    let time_fits = c.ranges.time in
    let now_fits = c.ranges.now in
    let last = c.self.inside.last in
    let moment = moment-of last c.args.now c.args.self.now.table c.self.invariant.from (ap (λ (kept : LogTable). kept.last) (same_table c.self.view_is)) c.requires.moment in
    let last_fits = moment-fits last c.args.now moment in
    let wrong : c.write_status-status.result ≢ status.Ok = search rules in
    refused-as last c.self.inside.users c.self.inside.streams.items c.args.self.now.table (same_table c.self.view_is) c.self.invariant.few c.self.invariant.busy
    _ _ _ _ c.write_status-status.result c.refused.result (simp to_z-of_z at c.write_status-status.ensures) wrong c.self.invariant.from (simp to_z-of_z at c.refused.ensures)

pub returns-clause-room : goal.returns-clause-room
returns-clause-room c =
    subst (λ (p : LogPlan). HasRoom p c.args.self.now.spare) (sym c.marked.ensures) (c.in_ok-plan.ensures.room c.args.self.now.spare)

pub returns-in_err-plan-clause-memory : goal.returns-in_err-plan-clause-memory
returns-in_err-plan-clause-memory c =
    let time_fits = c.ranges.time in
    let now_fits = c.ranges.now in
    let ok : c.write_status-status.result ≡ status.Ok = search rules in
    OnErr-from c.from_residual.result (sym (simp to_z-of_z at c.write_status-status.ensures) ∙ ok)

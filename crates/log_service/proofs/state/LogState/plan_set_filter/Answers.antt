use mir.Syntax.{w64}
use mir.Val.{SFits}
use Rattle.std.proofs.Common.{◌≡◌, List, sym, subst, ◌∙◌, rules}
use Rattle.std.proofs.lemmas.Int.{to_z-of_z}
use Rattle.ais_values.specs.declared.status.Status.TheVariants as status
use Rattle.stream_config.specs.declared.mark.Mark.{Mark}
use Rattle.log_history.specs.Changes.{LogChange, Filtered}
use Rattle.log_history.specs.KeptAnswers.{filter_status}
use Rattle.log_history.specs.Table.{OpenStream}
use Rattle.log_service.specs.Planning.{HasRoom}
use Rattle.log_service.specs.PlanningParts.{PlansMarking}
use Rattle.log_service.specs.declared.plan.LogPlan.{LogPlan}
use Rattle.log_service.proofs.KeptLemmas.{same_table}
use Rattle.log_service.proofs.StatePlans.{set-as, marked-as}
use Rattle.log_service.proofs.state.LogState.plan_set_filter.Goals as goal

pub returns-clause-ok : goal.returns-clause-ok
returns-clause-ok c =
    let last = c.self.inside.last in
    let items = c.self.inside.streams.items in
    let table = c.args.self.now.table in
    let mark : Mark = record { since = c.args.number; mask = c.args.mask } in
    let change : LogChange = Filtered c.args.client c.args.name.now c.args.mask c.args.number in
    let expected = filter_status table c.args.client c.args.name.now c.args.mask in
    let ok : c.filter_status-status.result ≡ status.Ok = search rules in
    let last_fits : SFits w64 last = search rules in
    let told = simp to_z-of_z at c.marking_plan-plan.ensures in
    let plans = subst (λ (list : List OpenStream). PlansMarking last c.args.name.now mark list c.marking_plan-plan.result) c.as_slice-streams.ensures.value told in
    let made = set-as last c.self.inside.users items table (same_table c.self.view_is) c.self.invariant.few c.self.invariant.busy expected c.args.client c.args.name.now c.args.mask c.args.number c.marking_plan-plan.result c.self.invariant.from (sym ok ∙ c.filter_status-status.ensures) plans in
    marked-as last c.self.inside.users items table (same_table c.self.view_is) c.self.invariant.few c.self.invariant.busy expected mark change c.marking_plan-plan.result c.marked.result plans.sound.ok made c.marked.ensures

pub returns-clause-room : goal.returns-clause-room
returns-clause-room c =
    subst (λ (p : LogPlan). HasRoom p c.args.self.now.spare) (sym c.marked.ensures) (c.marking_plan-plan.ensures.room c.args.self.now.spare)

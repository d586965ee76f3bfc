use Rattle.std.proofs.Common.{List, sym, subst, ap, ◌∙◌}
use Rattle.std.specs.Option.{option_copied, ForSome}
use Rattle.std.proofs.lemmas.Int.{to_z-of_z}
use Rattle.stream_config.specs.Attributes.{kind_of, PassesAttrs}
use Rattle.stream_config.specs.declared.mark.Mark.{Mark}
use Rattle.log_history.specs.Table.{OpenStream, LogTable}
use Rattle.log_history.specs.KeptAnswers.{open_status, making_in}
use Rattle.log_service.specs.Opening.{opening_in, mark_in}
use Rattle.log_service.specs.Planning.{marked_plan}
use Rattle.log_service.specs.PlanningParts.{PlansOpening}
use Rattle.log_service.proofs.KeptLemmas.{moment-of, moment-fits, same_table}
use Rattle.log_service.proofs.OpenLemmas.{making-passes}
use Rattle.log_service.proofs.StatePlans.{opened-as, marked-as, room-for}
use Rattle.log_service.proofs.state.LogState.accepted_open.Goals as goal

pub opening_plan-requires-clause-passes : goal.opening_plan-requires-clause-passes
opening_plan-requires-clause-passes c =
    let create = option_copied c.args.create in
    subst (λ (list : List OpenStream). ForSome (making_in list c.args.name.now create) (PassesAttrs (kind_of c.args.name.now))) (sym c.as_slice-streams.ensures.value)
    (subst (λ (kept : LogTable). ForSome (making_in kept.streams c.args.name.now create) (PassesAttrs (kind_of c.args.name.now))) (sym (same_table c.self.view_is))
    (making-passes c.args.self.now.table c.args.client c.args.name.now create c.requires.ok))

pub returns-clause-ok : goal.returns-clause-ok
returns-clause-ok c =
    let now_fits = c.ranges.now in
    let last = c.self.inside.last in
    let moment = moment-of last c.args.now c.args.self.now.table c.self.invariant.from (ap (λ (kept : LogTable). kept.last) (same_table c.self.view_is)) c.requires.moment in
    let last_fits = moment-fits last c.args.now moment in
    let items = c.self.inside.streams.items in
    let create = option_copied c.args.create in
    let told = simp to_z-of_z at c.in_ok-plan.ensures in
    let plans = subst (λ (list : List OpenStream). PlansOpening last c.args.now c.args.client c.args.number c.args.name.now (making_in list c.args.name.now create) list c.in_ok-plan.plan) c.as_slice-streams.ensures.value told in
    let table = c.args.self.now.table in
    let streams_are = c.as_slice-streams.ensures.value ∙ ap (λ (kept : LogTable). kept.streams) (same_table c.self.view_is) in
    let opened = opened-as last c.self.inside.users items table (same_table c.self.view_is) c.self.invariant.few c.self.invariant.busy c.args.now c.args.client c.args.number c.args.name.now create c.in_ok-plan.plan moment (sym c.requires.ok) plans in
    marked-as last c.self.inside.users items table (same_table c.self.view_is) c.self.invariant.few c.self.invariant.busy (open_status table c.args.client c.args.name.now create) (mark_in table.streams c.args.name.now create c.args.number) (opening_in table.streams c.args.client c.args.name.now create c.args.now c.args.number) c.in_ok-plan.plan c.marked.result plans.sound.ok opened
    (c.marked.ensures ∙ ap (λ (m : Mark). marked_plan m c.in_ok-plan.plan) (c.mark_opened-mark.ensures ∙ ap (λ (list : List OpenStream). mark_in list c.args.name.now create c.args.number) streams_are))

pub returns-clause-room : goal.returns-clause-room
returns-clause-room c = room-for c.marked.result c.args.self.now.spare c.requires.room

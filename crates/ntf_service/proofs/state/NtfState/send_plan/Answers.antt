use Rattle.std.proofs.Common.{◌≡◌, ◌+◌, ap, refl, sym, subst, ◌∙◌}
use Rattle.ntf_types.specs.declared.notification.Notification.{Notification}
use Rattle.ntf_history.specs.Tables.{NtfTable, with_id}
use Rattle.ntf_service.specs.State.{HaveNumbersLeft}
use Rattle.ntf_service.specs.Inside.{table_inside}
use Rattle.ntf_service.specs.Planning.{PlansSend}
use Rattle.ntf_service.specs.Offering.{AreOffers}
use Rattle.ntf_service.specs.Told.{all_told}
use Rattle.ntf_service.proofs.Telling.{same_table, filters-told}
use Rattle.ntf_service.specs.ByKind.{kind_for, has_filter, positions, filters_of}
use Rattle.ntf_service.proofs.Positions.{kept-rise}
use Rattle.ntf_service.proofs.Planned.{plans-send}
use Rattle.ntf_service.proofs.state.NtfState.send_plan.Goals as goal
use Rattle.ntf_service.proofs.state.NtfState.send_plan.Goals.{After-as_slice}

-- the places are those of the notification's type
placed : (c : After-as_slice) → c.places-places.result.now ≡ positions (has_filter (kind_for c.args.notification.now.body)) (filters_of c.self.inside.subs.items)
placed c =
    c.places-places.ensures ∙ c.self.invariant.places c.kind_for.result ∙ ap (λ kind. positions (has_filter kind) (filters_of c.self.inside.subs.items)) (c.kind_for.ensures ∙ ap (λ (one : Notification). kind_for one.body) c.get.ensures)

pub offers_for-requires-clause-places : goal.offers_for-requires-clause-places
offers_for-requires-clause-places c =
    kept-rise (has_filter (kind_for c.args.notification.now.body)) c.self.inside.subs.items c.as_slice.result.now c.places-places.result.now c.as_slice.ensures.value (placed (goal.at.offers_for-requires-clause-places c).After-as_slice)

pub returns : goal.returns
returns c =
    let items = c.self.inside.subs.items in
    let table = table_inside c.self.inside in
    let test = has_filter (kind_for c.args.notification.now.body) in
    let P : NtfTable → Type 0 = λ t. HaveNumbersLeft t.subs in
    let left : HaveNumbersLeft table.subs = subst P (sym (same_table c.self.view_is)) c.requires.can.items in
    let places = placed (goal.at.returns c).After-as_slice ∙ ap (positions test) (sym (filters-told items)) in
    let named = subst (λ (t : NtfTable). with_id (t.last_id + 1) c.args.notification.now ≡ c.args.notification.now) (sym (same_table c.self.view_is)) c.requires.named in
    let offers = subst (λ (one : Notification). AreOffers one c.places-places.result.now (all_told c.as_slice.result.now) c.in_ok-offers.offers.items) (sym named) c.in_ok-offers.ensures in
    let plans = plans-send table c.args.notification.now c.places-places.result.now (all_told c.as_slice.result.now) _ c.self.invariant.table left (ap all_told c.as_slice.ensures.value) places refl offers in
    subst (λ t. PlansSend t c.args.notification.now (record { id = c.self.inside.last_id + 1; offers = c.in_ok-offers.offers })) (same_table c.self.view_is) plans

-- The plan of a send is one for the table that was looked at.
use Rattle.std.proofs.Common.{◌≡◌, ℕ, ◌+◌, List, length, map, refl, ap, sym, subst, ◌∙◌}
use Rattle.std.proofs.lemmas.List.{length-map}
use Rattle.ntf_types.specs.declared.notification.Notification.{Notification}
use Rattle.ntf_history.specs.Kept.{Subscription}
use Rattle.ntf_history.specs.Tables.{NtfTable, IsSoundTable, offered_sub, with_id, after_send}
use Rattle.ntf_service.specs.declared.plan.SendPlan.{SendPlan}
use Rattle.ntf_service.specs.State.{HaveNumbersLeft}
use Rattle.ntf_service.specs.Planning.{offers_made, offer_places, sent_by, PlansSend, RiseBetween}
use Rattle.ntf_service.specs.ByKind.{kind_for, has_filter, positions}
use Rattle.ntf_service.specs.Offering.{change_each, AreOffers}
use Rattle.ntf_service.proofs.Kept.{kept-offered, kept-table, sound-with}
use Rattle.ntf_service.proofs.Offers.{offers-all}
use Rattle.ntf_service.proofs.Changed.{rise-each}
use Rattle.ntf_service.proofs.Positions.{positions-rise}
use Rattle.ntf_service.proofs.Telling.{filters_in}

pub plans-send : (table : NtfTable) (notification : Notification) (places : List ℕ) (shown : List Subscription) (plan : SendPlan) → IsSoundTable table → HaveNumbersLeft table.subs → shown ≡ table.subs → places ≡ positions (has_filter (kind_for notification.body)) (filters_in table.subs) → plan.id ≡ table.last_id + 1 → AreOffers (with_id (table.last_id + 1) notification) places shown plan.offers.items → PlansSend table notification plan
plans-send table notification places shown plan sound left same is_places next offers =
    let sent = with_id (table.last_id + 1) notification in
    let change = offered_sub sent in
    let all = plan.offers.items in
    let are : AreOffers sent places table.subs all = subst (λ subs. AreOffers sent places subs all) same offers in
    let made : offers_made all table.subs ≡ map change table.subs = are.made ∙ ap (λ ps. change_each change ps table.subs) is_places ∙ offers-all sent table.subs in
    let after : sent_by plan table ≡ after_send sent table = λ i. record { capacity = table.capacity; users = table.users; last_id = next i; subs = made i } in
    let kept = sound-with table (table.last_id + 1) (map change table.subs) (map change table.subs) sound (kept-offered table.capacity sent table.subs (kept-table table sound) left) refl in
    let test = has_filter (kind_for notification.body) in
    let long : length (filters_in table.subs) ≡ length table.subs = length-map table.subs (λ (kept : Subscription). kept.filters) in
    let rising : RiseBetween 0 (length table.subs) places = subst (λ n. RiseBetween 0 n places) long (subst (λ ps. RiseBetween 0 (length (filters_in table.subs)) ps) (sym is_places) (positions-rise test (filters_in table.subs))) in
    let rise : RiseBetween 0 (length table.subs) (offer_places all) = are.rise (length table.subs) (rise-each 0 (length table.subs) places rising) in
    record {
      id = next;
      after = after;
      can = record { can = are.can; rise = rise; sound = subst IsSoundTable (sym after) kept };
    }

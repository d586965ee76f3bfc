use Rattle.std.proofs.Common.{List, refl, ap, sym, subst, ◌∙◌, arith}
use Rattle.ntf_service.specs.declared.plan.Offer.{Offer}
use Rattle.ntf_service.specs.Planning.{HoldsAt, offers_made, CanOfferAll}
use Rattle.ntf_service.specs.Told.{all_told, HasRoom}
use Rattle.ntf_service.specs.Rooms.{HaveRoomsBut, RoomsStayBut}
use Rattle.ntf_service.proofs.Changed.{holds-within}
use Rattle.ntf_service.proofs.HavingRoom.{rooms-begin, rooms-here, rooms-next, others-next}
use Rattle.ntf_service.proofs.Lacking.{rooms-full}
use Rattle.ntf_service.proofs.plan.make_offers.Goals as goal
use Rattle.ntf_service.proofs.plan.make_offers.Goals.{In-Some}

pub loop-offer-init : goal.loop-offer-init
loop-offer-init c =
    let gives = c.into_iter-offer-iterator.ensures.into_iter_gives in
    let items = c.args.subs.now.items in
    (tt, tt, subst (λ (os : List Offer). CanOfferAll os (all_told items)) (sym gives.0) c.requires.can, ap (λ (os : List Offer). offers_made os (all_told items)) gives.0, rooms-begin _ c.args.offers.items _ items gives.0 c.requires.rise c.requires.room, refl, rooms-full _ items c.requires.room)

-- there is room for the offer in hand
room : (c : In-Some) → HoldsAt HasRoom c.loop-offer.subs.items c.in-Some.offer.place
room c =
    let steps = c.in-Some.ensures.steps in
    let now = c.loop-offer.invariant in
    let can = subst (λ (os : List Offer). CanOfferAll os (all_told c.loop-offer.subs.items)) steps.0 now.2 in
    rooms-here _ _ _ c.in-Some.offer c.loop-offer.subs.items steps.0 now.4 can.0

pub make_offer-requires-clause-room : goal.make_offer-requires-clause-room
make_offer-requires-clause-room c = room (goal.at.make_offer-requires-clause-room c).In-Some

pub lack_at-requires-clause-few : goal.lack_at-requires-clause-few
lack_at-requires-clause-few c =
    omega (arith, c.as_slice.ensures.len, c.make_offer.ensures.count, c.loop-offer.invariant.5, c.requires.few)

pub lack_at-requires-clause-within : goal.lack_at-requires-clause-within
lack_at-requires-clause-within c =
    let within = holds-within HasRoom c.loop-offer.subs.items c.in-Some.offer.place (room (goal.at.lack_at-requires-clause-within c).In-Some) in
    omega (arith, within, c.loop-offer.subs.ok.0, c.make_offer.ensures.count, c.as_slice.ensures.len)

pub loop-offer-preserved : goal.loop-offer-preserved
loop-offer-preserved c =
    let steps = c.in-Some.ensures.steps in
    let items = c.loop-offer.subs.items in
    let now = c.loop-offer.invariant in
    let made = c.make_offer.ensures in
    let place = c.in-Some.offer.place in
    let shown = c.as_slice.ensures.value in
    let others = others-next _ _ c.in-Some.offer (all_told items) _ _ steps.0 made.told now.2 now.3 in
    let rooms = rooms-next _ _ _ c.in-Some.offer items steps.0 now.4 c.make_offer.new.subs.items made.behind in
    let told = c.lack_at.ensures items now.6 (subst (RoomsStayBut place items) (sym shown) made.beside) in
    (tt, tt, others.0, others.1, rooms, made.count ∙ now.5, subst (HaveRoomsBut c.lack_at.new.lacking.items) shown told)

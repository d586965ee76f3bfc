use Rattle.std.proofs.Common.{◌≡◌}
use Rattle.std.specs.Prelude.{vec_len}
use Rattle.std.specs.Vec.Iter.{into_iter_items}
use Rattle.ntf_service.specs.Planning.{offers_made, CanOfferAll}
use Rattle.ntf_service.specs.Told.{all_told}
use Rattle.ntf_service.specs.Rooms.{HaveRoomsBut}
use Rattle.ntf_service.proofs.HavingRoom.{HaveRooms}
use Rattle.ntf_service.proofs.plan.make_offers.Given as goal

abbrev pub invariant-loop-offer : goal.invariant-loop-offer
invariant-loop-offer l =
    (goal.iterator-loop-offer).can_next l.offer-iterator × (goal.iterator-loop-offer).is_finite l.offer-iterator × CanOfferAll (into_iter_items l.offer-iterator) (all_told l.subs.items)
    × (offers_made (into_iter_items l.offer-iterator) (all_told l.subs.items) ≡ offers_made l.fn.offers.items (all_told l.initial.subs.items))
    × HaveRooms (vec_len l.initial.subs) (into_iter_items l.offer-iterator) l.subs.items × (vec_len l.subs ≡ vec_len l.initial.subs)
    × HaveRoomsBut l.lacking.items l.subs.items

-- Room in the queues of the subscriptions to which offers are still to be made.
use Rattle.std.proofs.Common.{◌≡◌, ℕ, ◌+◌, ◌<◌, ◌≤◌, suc, List, ◌∷◌, length, drop, ap, sym, subst, ◌∙◌, arith}
use Rattle.std.specs.List.{AllByRecursion}
use Rattle.std.proofs.lemmas.List.{length-map}
use Rattle.ntf_history.specs.Kept.{Subscription}
use Rattle.ntf_service.specs.declared.subscription.Subscription.{Subscription as KeptSub}
use Rattle.ntf_service.specs.declared.plan.Offer.{Offer}
use Rattle.client_set.specs.Edits.{change_at}
use Rattle.ntf_service.specs.Planning.{HoldsAt, RiseBetween, CanGive, CanOffer, CanOfferAll, sub_with_share, offers_made, offer_places}
use Rattle.ntf_service.specs.Told.{told, all_told, HasRoom, spare_in}
use Rattle.ntf_service.proofs.Changed.{holds-within}
use Rattle.ntf_service.proofs.Telling.{rooms-each, each-behind, each-holds}

-- the offers go to places that rise, from a place on behind which each queue has room
pub record HaveRooms (high : ℕ) (offers : List Offer) (subs : List KeptSub) : Type 0 where
  pub low : ℕ
  pub rise : RiseBetween low high (offer_places offers)
  pub rooms : AllByRecursion HasRoom (drop low subs)

pub rooms-begin : (high : ℕ) (all offers : List Offer) (subs : List KeptSub) → offers ≡ all → RiseBetween 0 high (offer_places all) → 1 ≤ spare_in subs → HaveRooms high offers subs
rooms-begin high all offers subs same rise room = record {
  low = 0;
  rise = subst (λ (os : List Offer). RiseBetween 0 high (offer_places os)) (sym same) rise;
  rooms = rooms-each subs room;
}

module _ (high : ℕ) (before others : List Offer) (offer : Offer) (subs : List KeptSub) (is : before ≡ offer ∷ others) (have : HaveRooms high before subs) where
  rise : RiseBetween have.low high (offer_places (offer ∷ others))
  rise = subst (λ (os : List Offer). RiseBetween have.low high (offer_places os)) is have.rise

  -- there is room for the offer
  pub rooms-here : CanOffer offer (all_told subs) → HoldsAt HasRoom subs offer.place
  rooms-here can =
      let within = holds-within (λ (kept : Subscription). CanGive offer kept.queue) (all_told subs) offer.place can in
      let there : offer.place < length subs = omega (arith, within, length-map subs told) in
      each-holds HasRoom have.low offer.place subs rise.0 there have.rooms

  -- and for the others once it is made
  pub rooms-next : (now : List KeptSub) → drop (offer.place + 1) now ≡ drop (offer.place + 1) subs → HaveRooms high others now
  rooms-next now behind =
      let from = rise.0 in
      let next : suc offer.place ≡ offer.place + 1 = omega arith in
      record {
        low = offer.place + 1;
        rise = subst (λ n. RiseBetween n high (offer_places others)) next rise.2;
        rooms = subst (AllByRecursion HasRoom) (sym behind) (each-behind HasRoom have.low (offer.place + 1) subs (omega (arith, from)) have.rooms);
      }

-- once one is made, the others can be, and come to the same
pub others-next : (before others : List Offer) (offer : Offer) (subs now all : List Subscription) → before ≡ offer ∷ others → now ≡ change_at (sub_with_share offer.share) subs offer.place → CanOfferAll before subs → offers_made before subs ≡ all → CanOfferAll others now × (offers_made others now ≡ all)
others-next before others offer subs now all is made can come =
    let rest = subst (λ (os : List Offer). CanOfferAll os subs) is can in
    (subst (λ (xs : List Subscription). CanOfferAll others xs) (sym made) rest.1, ap (offers_made others) made ∙ ap (λ (os : List Offer). offers_made os subs) (sym is) ∙ come)

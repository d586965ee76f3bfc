-- Words of bodies alone: the offers that a plan gathers, place by place.
use Rattle.std.specs.Prelude.{◌≡◌, ℕ, ◌<◌, Bool, true, false, List, [], ◌∷◌, ◌++◌}
use Rattle.std.specs.List.{AllByRecursion}
use Rattle.ntf_types.specs.declared.notification.Notification.{Notification}
use Rattle.sub_queue.specs.Queue.{Queue, offered}
use Rattle.ntf_history.specs.Kept.{Subscription}
use Rattle.ntf_history.specs.Tables.{offered_sub}
use Rattle.ntf_service.specs.declared.plan.Offer.{Offer}
use Rattle.client_set.specs.Edits.{change_at}
use Rattle.ntf_service.specs.Planning.{queue_with, offers_made, offer_places, Suits, CanOfferAll, RiseBetween}

-- the list with the elements at these places changed, one after another
abbrev pub change_each : {X : Type 0} → (X → X) → List ℕ → List X → List X
change_each change [] xs = xs
change_each change (place ∷ places) xs = change_each change places (change_at change xs place)

-- an offer of a notification to a queue at a place: it suits the queue, which it makes what the notification makes of it
pub record IsOffer (place : ℕ) (notification : Notification) (queue : Queue) (offer : Offer) : Type 0 where
  pub placed : offer.place ≡ place
  pub suits : Suits offer.share queue
  pub made : queue_with offer.share queue ≡ offered notification queue

-- an offer to the subscription at a place joins the others where it asks for the notification
abbrev pub Joins : (asked : Bool) → ℕ → Notification → Subscription → List Offer → List Offer → Type 0
Joins true place notification kept old new =
    (offer : Offer) × IsOffer place notification kept.queue offer × (new ≡ old ++ offer ∷ [])
Joins false place notification kept old new = new ≡ old

-- the offers to those of the subscriptions at these places that ask for a notification
pub record AreOffers (notification : Notification) (places : List ℕ) (subs : List Subscription) (offers : List Offer) : Type 0 where
  pub can : CanOfferAll offers subs
  pub made : offers_made offers subs ≡ change_each (offered_sub notification) places subs
  pub rise : (bound : ℕ) → AllByRecursion (λ place. place < bound) places → RiseBetween 0 bound (offer_places offers)

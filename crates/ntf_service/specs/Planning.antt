-- Words of public clauses: what a planned send makes of the table, and when it can be made.
use Rattle.std.specs.Prelude.{◌≡◌, ℕ, zero, suc, ◌+◌, ◌<◌, ◌≤◌, ⊤, true, false, List, [], ◌∷◌, length, map}
use Rattle.ntf_types.specs.declared.notification.Notification.{Notification}
use Rattle.client_set.specs.Edits.{change_at}
use Rattle.sub_queue.specs.Queue.{Queue, HasNumberLeft, has_room, offered, with_lost}
use Rattle.ntf_history.specs.Kept.{Subscription}
use Rattle.ntf_history.specs.Tables.{NtfTable, IsSoundTable, table_with, requeued, with_id, after_send}
use Rattle.ntf_service.specs.declared.plan.Share.{Share}
use Rattle.ntf_service.specs.declared.plan.Share.TheVariants.{Whole, Mark}
use Rattle.ntf_service.specs.declared.plan.Offer.{Offer}
use Rattle.ntf_service.specs.declared.plan.SendPlan.{SendPlan}

-- there is an element at a place, and this holds of it
abbrev pub HoldsAt : {X : Type 0} → (X → Type 0) → List X → ℕ → Type 0
HoldsAt P [] place = ⊥
HoldsAt P (x ∷ xs) zero = P x
HoldsAt P (x ∷ xs) (suc place) = HoldsAt P xs place

-- the queue once it is given its share
abbrev pub queue_with : Share → Queue → Queue
queue_with (Whole notification) queue = offered notification queue
queue_with (Mark mark) queue = with_lost mark queue

-- all of a notification is for a queue that has a place free, and its mark alone for one that has none
abbrev pub Suits : Share → Queue → Type 0
Suits (Whole notification) queue = has_room queue ≡ true
Suits (Mark mark) queue = has_room queue ≡ false

-- the subscription once its queue is given its share
abbrev pub sub_with_share : Share → Subscription → Subscription
sub_with_share share kept = requeued kept (queue_with share kept.queue)

-- the subscriptions once the offers are made, one after another
abbrev pub offers_made : List Offer → List Subscription → List Subscription
offers_made [] subs = subs
offers_made (offer ∷ offers) subs = offers_made offers (change_at (sub_with_share offer.share) subs offer.place)

-- a queue can be given an offer: it has a number left for the item, and the share suits it
pub record CanGive (offer : Offer) (queue : Queue) : Type 0 where
  pub numbers : HasNumberLeft queue
  pub suits : Suits offer.share queue

-- there is the subscription of an offer, and its queue can be given it
abbrev pub CanOffer : Offer → List Subscription → Type 0
CanOffer offer subs = HoldsAt (λ (kept : Subscription). CanGive offer kept.queue) subs offer.place

abbrev pub CanOfferAll : List Offer → List Subscription → Type 0
CanOfferAll [] subs = ⊤
CanOfferAll (offer ∷ offers) subs =
    CanOffer offer subs × CanOfferAll offers (change_at (sub_with_share offer.share) subs offer.place)

-- places that rise, from one number on and below another
abbrev pub RiseBetween : (low high : ℕ) → List ℕ → Type 0
RiseBetween low high [] = ⊤
RiseBetween low high (place ∷ places) = (low ≤ place) × (place < high) × RiseBetween (suc place) high places

abbrev pub offer_places : List Offer → List ℕ
offer_places offers = map (λ (offer : Offer). offer.place) offers

-- what the planned send makes of a table
abbrev pub sent_by : SendPlan → NtfTable → NtfTable
sent_by plan before =
    table_with before.capacity before.users plan.id (offers_made plan.offers.items before.subs)

-- the planned send can be made of a table: each of its offers can be, each to another subscription, and what it makes of it is a table that is kept
pub record CanCommitSend (before : NtfTable) (plan : SendPlan) : Type 0 where
  pub can : CanOfferAll plan.offers.items before.subs
  pub rise : RiseBetween 0 (length before.subs) (offer_places plan.offers.items)
  pub sound : IsSoundTable (sent_by plan before)

-- the plan, for this table, of a send of the notification: it gives the next id
pub record PlansSend (before : NtfTable) (notification : Notification) (plan : SendPlan) : Type 0 where
  pub id : plan.id ≡ before.last_id + 1
  pub after : sent_by plan before ≡ after_send (with_id (before.last_id + 1) notification) before
  pub can : CanCommitSend before plan

-- Offers that are planned, and what they make of the subscriptions.
use Rattle.std.proofs.Common.{◌≡◌, ℕ, suc, ◌<◌, Bool, true, false, cond, List, [], ◌∷◌, ◌++◌, length, map, take, get_or, Option, None, Some, is_some, zero, refl, ap, sym, subst, ◌∙◌, arith}
use Rattle.std.specs.List.{AllByRecursion}
use Rattle.std.proofs.Math.Seq.{take-suc}
use Rattle.std.proofs.lemmas.List.{map-append}
use Rattle.ntf_types.specs.declared.notification.Body.{Body}
use Rattle.ntf_types.specs.declared.notification.Body.TheVariants as body
use Rattle.ntf_types.specs.declared.notification.Notification.{Notification}
use Rattle.ntf_filters.specs.declared.filter.Filter.{Filter}
use Rattle.ntf_filters.specs.declared.filter.FilterSet.{FilterSet}
use Rattle.ntf_filters.specs.Meaning.{filter_for}
use Rattle.ntf_filters.specs.Matching.{admitted_by, matches}
use Rattle.sub_queue.specs.Queue.{HasNumberLeft, offered}
use Rattle.ntf_history.specs.Kept.{Subscription}
use Rattle.ntf_history.specs.Tables.{requeued, offered_sub}
use Rattle.ntf_service.specs.declared.plan.Offer.{Offer}
use Rattle.ntf_service.specs.State.{HaveNumbersLeft}
use Rattle.client_set.specs.Edits.{change_at}
use Rattle.ntf_service.specs.Planning.{HoldsAt, sub_with_share, offers_made, offer_places, CanGive, CanOffer, CanOfferAll, RiseBetween}
use Rattle.ntf_service.proofs.Telling.{filters_in}
use Rattle.ntf_service.specs.ByKind.{kind_for, filter_of, has_filter, positions}
use Rattle.ntf_service.specs.Offering.{change_each, IsOffer, Joins, AreOffers}
use Rattle.ntf_service.proofs.Changed.{holds-read, holds-weaker, holds-behind, change_at-same, change_at-none, map-change_at, change_each-append, change_each-positions, rise-before, rise-below, rise-more}
use Rattle.ntf_service.proofs.Positions.{positions-map}

pub number-at : (xs : List Subscription) (n : ℕ) (d : Subscription) → HaveNumbersLeft xs → n < length xs → HasNumberLeft (get_or xs n d).queue
number-at [] n d left within = absurd (omega arith)
number-at (x ∷ xs) zero d left within = left.0
number-at (x ∷ xs) (suc n) d left within = number-at xs n d left.1 (omega arith)

offers_made-append : (offers more : List Offer) (subs : List Subscription) → offers_made (offers ++ more) subs ≡ offers_made more (offers_made offers subs)
offers_made-append [] more subs = refl
offers_made-append (offer ∷ offers) more subs =
    offers_made-append offers more (change_at (sub_with_share offer.share) subs offer.place)

can-append : (offers more : List Offer) (subs : List Subscription) → CanOfferAll offers subs → CanOfferAll more (offers_made offers subs) → CanOfferAll (offers ++ more) subs
can-append [] more subs can then_more = then_more
can-append (offer ∷ offers) more subs can then_more =
    (can.0, can-append offers more (change_at (sub_with_share offer.share) subs offer.place) can.1 then_more)

-- offers leave what subscriptions ask for
pub filters-made : (offers : List Offer) (subs : List Subscription) → filters_in (offers_made offers subs) ≡ filters_in subs
filters-made [] subs = refl
filters-made (offer ∷ offers) subs =
    let change = sub_with_share offer.share in
    filters-made offers (change_at change subs offer.place) ∙ map-change_at (λ (kept : Subscription). kept.filters) change (λ kept. refl) subs offer.place

-- a subscription that asks, or does not
asking : (place : ℕ) (notification : Notification) (kept : Subscription) (offer : Offer) → IsOffer place notification kept.queue offer → matches kept.filters notification ≡ true → sub_with_share offer.share kept ≡ offered_sub notification kept
asking place notification kept offer is asks =
    ap (requeued kept) is.made ∙ ap (λ b. requeued kept (cond b (offered notification kept.queue) kept.queue)) (sym asks)

not_asking : (notification : Notification) (kept : Subscription) → matches kept.filters notification ≡ false → offered_sub notification kept ≡ kept
not_asking notification kept asks =
    ap (λ b. requeued kept (cond b (offered notification kept.queue) kept.queue)) asks

-- of elements and one more behind them
each-last : {X : Type 0} (P : X → Type 0) (xs : List X) (x : X) → AllByRecursion P (xs ++ x ∷ []) → AllByRecursion P xs × P x
each-last P [] x each = (tt, each.0)
each-last P (y ∷ xs) x each = let rest = each-last P xs x each.1 in ((each.0, rest.0), rest.1)

module _ (notification : Notification) (subs : List Subscription) (places : List ℕ) (offers new : List Offer) (index place next d : ℕ) (kept : Subscription) (follows : next ≡ suc index) (is_place : place ≡ get_or places index d) (read : kept ≡ get_or subs place kept) (inside : index < length places) (rise : RiseBetween 0 (length subs) places) (left : HaveNumbersLeft subs) (so_far : AreOffers notification (take index places) subs offers) where
  before : AllByRecursion (λ other. other < place) (take index places)
  before =
      subst (λ p. AllByRecursion (λ other. other < p) (take index places)) (sym is_place) (rise-before 0 (length subs) places index d rise inside).0

  within : place < length subs
  within = rise-below (length subs) places index d place is_place rise inside

  -- what is offered so far is not the subscription at this place
  unchanged : HoldsAt (λ x. x ≡ kept) (offers_made offers subs) place
  unchanged =
      let P : Subscription → Type 0 = λ x. x ≡ kept in
      subst (λ xs. HoldsAt P xs place) (sym so_far.made) (holds-behind P (offered_sub notification) (take index places) subs place before (holds-read P subs place kept within (sym read)))

  taken : take next places ≡ take index places ++ place ∷ []
  taken =
      ap (λ k. take k places) follows ∙ take-suc places index d inside ∙ ap (λ p. take index places ++ p ∷ []) (sym is_place)

  all : change_each (offered_sub notification) (take next places) subs ≡ change_at (offered_sub notification) (offers_made offers subs) place
  all =
      ap (λ ps. change_each (offered_sub notification) ps subs) taken ∙ change_each-append (offered_sub notification) (take index places) (place ∷ []) subs ∙ ap (λ xs. change_at (offered_sub notification) xs place) (sym so_far.made)

  number : HasNumberLeft kept.queue
  number = subst (λ (x : Subscription). HasNumberLeft x.queue) (sym read) (number-at subs place kept left within)

  -- places that are below a number
  below-next : (bound : ℕ) → AllByRecursion (λ other. other < bound) (take next places) → AllByRecursion (λ other. other < bound) (take index places) × (place < bound)
  below-next bound below =
      each-last (λ other. other < bound) (take index places) place (subst (λ ps. AllByRecursion (λ other. other < bound) ps) taken below)

  -- the place of one offer more
  rises : (offer : Offer) → offer.place ≡ place → (bound : ℕ) → AllByRecursion (λ other. other < bound) (take next places) → RiseBetween 0 bound (offer_places (offers ++ offer ∷ []))
  rises offer placed bound below =
      let all = offer_places offers in
      let more : offer_places (offers ++ offer ∷ []) ≡ all ++ place ∷ [] = map-append (λ (o : Offer). o.place) offers (offer ∷ []) ∙ ap (λ p. all ++ p ∷ []) placed in
      subst (λ ps. RiseBetween 0 bound ps) (sym more) (rise-more 0 bound place all (omega arith) (below-next bound below).1 (so_far.rise place before))

  pub next-offers : (asked : Bool) → matches kept.filters notification ≡ asked → Joins asked place notification kept offers new → AreOffers notification (take next places) subs new
  next-offers true asks joins =
      let offer = joins.0 in
      let now = offers_made offers subs in
      let can : CanGive offer kept.queue = record { numbers = number; suits = joins.1.suits } in
      let there = subst (λ k. HoldsAt (λ x. x ≡ kept) now k) (sym joins.1.placed) unchanged in
      let served : CanOffer offer now = holds-weaker (λ x. x ≡ kept) (λ x. CanGive offer x.queue) (λ x same. subst (λ (y : Subscription). CanGive offer y.queue) (sym same) can) now offer.place there in
      let Same : Subscription → Type 0 = λ x. sub_with_share offer.share x ≡ offered_sub notification x in
      let as_asked = holds-weaker (λ x. x ≡ kept) Same (λ x same. subst Same (sym same) (asking place notification kept offer joins.1 asks)) now place unchanged in
      record {
        can = subst (λ os. CanOfferAll os subs) (sym joins.2) (can-append offers (offer ∷ []) subs so_far.can (served, tt));
        made = ap (λ os. offers_made os subs) joins.2 ∙ offers_made-append offers (offer ∷ []) subs ∙ ap (change_at (sub_with_share offer.share) now) joins.1.placed ∙ change_at-same (sub_with_share offer.share) (offered_sub notification) now place as_asked ∙ sym all;
        rise = λ bound below. subst (λ os. RiseBetween 0 bound (offer_places os)) (sym joins.2) (rises offer joins.1.placed bound below);
      }
  next-offers false asks joins =
      let stays = holds-weaker (λ x. x ≡ kept) (λ x. offered_sub notification x ≡ x) (λ x same. not_asking notification x (ap (λ (y : Subscription). matches y.filters notification) same ∙ asks)) (offers_made offers subs) place unchanged in
      record {
        can = subst (λ os. CanOfferAll os subs) (sym joins) so_far.can;
        made = ap (λ os. offers_made os subs) joins ∙ sym (change_at-none (offered_sub notification) (offers_made offers subs) place stays) ∙ sym all;
        rise = λ bound below. subst (λ os. RiseBetween 0 bound (offer_places os)) (sym joins) (so_far.rise bound (below-next bound below).0);
      }

-- the filter of a body's type
filter_for-kind : (body : Body) (set : FilterSet) → filter_of (kind_for body) set ≡ filter_for set body
filter_for-kind (body.Objects source attrs) set = refl
filter_for-kind (body.Attributes source changes) set = refl
filter_for-kind (body.States source changes) set = refl
filter_for-kind (body.Alarm cause severity) set = refl
filter_for-kind (body.Security cause severity detector user provider) set = refl

-- without a filter of its type nothing is asked for
no_filter : (notification : Notification) (filter : Option Filter) → is_some filter ≡ false → admitted_by notification filter ≡ false
no_filter notification None none = refl
no_filter notification (Some filter) none = absurd (cc)

-- offers at the places by type are offers to all that ask
pub offers-all : (notification : Notification) (subs : List Subscription) → change_each (offered_sub notification) (positions (has_filter (kind_for notification.body)) (filters_in subs)) subs ≡ map (offered_sub notification) subs
offers-all notification subs =
    let kind = kind_for notification.body in
    let filters = λ (kept : Subscription). kept.filters in
    let others : (kept : Subscription) → has_filter kind kept.filters ≡ false → offered_sub notification kept ≡ kept = λ kept none. not_asking notification kept (no_filter notification (filter_for kept.filters notification.body) (ap (λ (filter : Option Filter). is_some filter) (sym (filter_for-kind notification.body kept.filters)) ∙ none)) in
    ap (λ ps. change_each (offered_sub notification) ps subs) (positions-map (has_filter kind) filters subs) ∙ change_each-positions (λ kept. has_filter kind kept.filters) (offered_sub notification) others subs

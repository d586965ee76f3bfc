-- A receipt for the subscription that stands at a place.
use Rattle.std.proofs.Common.{◌≡◌, ℕ, ◌<◌, ◌≤◌, Bool, true, false, not, ◌&&◌, cond, List, [], ◌∷◌, length, map, get_or, set, refl, ap, sym, subst, ◌∙◌, arith}
use Rattle.std.specs.Prelude.{Some, find, filter}
use Rattle.sub_queue.specs.Queue.{Queue, IsNew, HasNumberLeft, received}
use Rattle.client_set.specs.Rising.{IsRising, without}
use Rattle.ntf_history.specs.Kept.{Subscription}
use Rattle.ntf_history.specs.Tables.{requeued, is_kept_at, is_new_for, has_item, kept_first, received_sub}
use Rattle.ntf_history.proofs.TableLaws.{has_item-decides}
use Rattle.ntf_service.specs.State.{HaveNumbersLeft}
use Rattle.ntf_service.proofs.Telling.{filters_in}
use Rattle.ntf_service.proofs.Places.{place_in, set-map, map-absent, find-at}
use Rattle.ntf_service.proofs.Offers.{number-at}

-- a filter by what does not pass takes out what passes
pub filter-without : {X : Type 0} (test : X → Bool) (xs : List X) → filter (λ x. not (test x)) xs ≡ without test xs
filter-without test [] = refl
filter-without {X} test (x ∷ xs) = left (test x) (filter-without test xs) where
  left : (gone : Bool) → filter (λ y. not (test y)) xs ≡ without test xs → cond (not gone) (x ∷ filter (λ y. not (test y)) xs) (filter (λ y. not (test y)) xs) ≡ cond gone (without test xs) (x ∷ without test xs)
  left true rest = rest
  left false rest = ap (λ ys. x ∷ ys) rest

-- receipts leave what subscriptions ask for
pub filters-received : (client key through : ℕ) (subs : List Subscription) → filters_in (map (received_sub client key through) subs) ≡ filters_in subs
filters-received client key through [] = refl
filters-received client key through (kept ∷ subs) =
    ap (λ sets. kept.filters ∷ sets) (filters-received client key through subs)

received-other : (client key through : ℕ) (x : Subscription) → is_kept_at client key x ≡ false → received_sub client key through x ≡ x
received-other client key through x other =
    ap (λ b. requeued x (cond (b && has_item through x.queue) (received through x.queue) x.queue)) other

received-mine : (client key through : ℕ) (x : Subscription) → is_kept_at client key x ≡ true → has_item through x.queue ≡ true → received_sub client key through x ≡ requeued x (received through x.queue)
received-mine client key through x mine has =
    ap (λ b. requeued x (cond (b && has_item through x.queue) (received through x.queue) x.queue)) mine ∙ ap (λ b. requeued x (cond b (received through x.queue) x.queue)) has

module _ (client key through : ℕ) (xs : List Subscription) (d : Subscription) (i : ℕ) (is_place : i ≡ place_in client key xs) (within : i < length xs) (is_there : d ≡ get_or xs i d) (new : is_new_for (find (is_kept_at client key) xs) through ≡ true) where
  -- the place is that of the subscription
  placed : place_in client key xs < length xs
  placed = omega (arith, sym is_place, within)

  element : get_or xs (place_in client key xs) d ≡ d
  element = ap (λ k. get_or xs k d) (sym is_place) ∙ sym is_there

  mine : is_kept_at client key d ≡ true
  mine = ap (λ x. is_kept_at client key x) (sym element) ∙ (find-at client key xs d placed).1

  has : has_item through d.queue ≡ true
  has =
      let found = (find-at client key xs d placed).0 ∙ ap (λ (x : Subscription). Some x) element in
      ap (λ o. is_new_for o through) (sym found) ∙ new

  pub place-new : IsNew through d.queue
  place-new = (has_item-decides through d.queue).0 has

  pub place-number : HaveNumbersLeft xs → HasNumberLeft d.queue
  place-number left =
      let P : Subscription → Type 0 = λ x. HasNumberLeft x.queue in
      subst P (sym is_there) (number-at xs i d left within)

  pub place-received : IsRising kept_first xs → (queue : Queue) → queue ≡ received through d.queue → set xs i (requeued d queue) ≡ map (received_sub client key through) xs
  place-received rising queue is =
      let change = received_sub client key through in
      let at = place_in client key xs in
      let all = set-map client key change (received-other client key through) xs d rising placed in
      let this : requeued d queue ≡ change (get_or xs at d) = ap (requeued d) is ∙ sym (received-mine client key through d mine has) ∙ ap change (sym element) in
      ap (λ x. set xs i x) this ∙ ap (λ k. set xs k (change (get_or xs at d))) is_place ∙ all

-- no subscription is there to receive
pub none-received : (client key through : ℕ) (xs : List Subscription) (i : ℕ) → i ≡ place_in client key xs → length xs ≤ i → xs ≡ map (received_sub client key through) xs
none-received client key through xs i is_place beyond =
    map-absent client key (received_sub client key through) (received-other client key through) xs (omega (arith, sym is_place, beyond))

-- The state stays sound.
use Rattle.std.proofs.Common.{◌≡◌, ℕ, suc, ◌<◌, ◌≤◌, ◌==◌, nat_lt, Bool, true, false, ◌&&◌, cond, inl, inr, List, [], ◌∷◌, ◌++◌, length, map, refl, ap, sym, subst, ◌∙◌, arith}
use Rattle.std.proofs.lemmas.Bool.Decides.{leb_tells}
use Rattle.std.proofs.lemmas.List.{length-map}
use Rattle.ntf_types.specs.declared.notification.Notification.{Notification}
use Rattle.ntf_filters.specs.Matching.{matches}
use Rattle.sub_queue.specs.declared.item.Content.TheVariants.{Notified}
use Rattle.sub_queue.specs.Items.{mark_of}
use Rattle.sub_queue.specs.Queue.{Queue, IsCapacity, IsSound, HasNumberLeft, empty_queue, offered, received}
use Rattle.sub_queue.proofs.Keeping.{IsSound-more, IsSound-lost, IsSound-received}
use Rattle.client_set.specs.Rising.{put, without, ComesFirst, IsRising, IsOrder}
use Rattle.client_set.proofs.RisingLaws.{IsOrder-nat_lt, IsRising-put, IsRising-without}
use Rattle.ntf_history.specs.Kept.{Subscription}
use Rattle.ntf_history.specs.Tables.{NtfTable, HaveQueues, IsSoundTable, table_with, is_kept_at, is_kept_for, kept_first, has_item, offered_sub, received_sub, requeued}
use Rattle.ntf_history.proofs.TableLaws.{has_item-decides}
use Rattle.ntf_history.proofs.KeyLaws.{key_first-self, key_first-onward, key_first-beside}
use Rattle.ntf_history.proofs.FitLaws.{length-put, length-without}
use Rattle.ais_values.specs.declared.status.Status.{Status}
use Rattle.ais_values.specs.declared.status.Status.TheVariants as status
use Rattle.ntf_filters.specs.declared.filter.FilterSet.{FilterSet}
use Rattle.ntf_service.specs.State.{HaveNumbersLeft, subscribe_answer}
use Rattle.ntf_service.proofs.Answered.{room-left}

IsOrder-kept_first : IsOrder kept_first
IsOrder-kept_first = record {
  self = λ x. key_first-self x.client x.key;
  onward = λ x y z. key_first-onward x.client x.key y.client y.key z.client z.key;
  beside = λ x y z. key_first-beside x.client x.key y.client y.key z.client z.key;
}

-- subscriptions with other queues stand in the same order
module _ (change : Subscription → Subscription) (same : (x y : Subscription) → kept_first (change x) (change y) ≡ kept_first x y) where
  ComesFirst-map : (x : Subscription) (xs : List Subscription) → ComesFirst kept_first x xs → ComesFirst kept_first (change x) (map change xs)
  ComesFirst-map x [] first = tt
  ComesFirst-map x (y ∷ ys) first = (same x y ∙ first.0, ComesFirst-map x ys first.1)

  IsRising-map : (xs : List Subscription) → IsRising kept_first xs → IsRising kept_first (map change xs)
  IsRising-map [] rising = tt
  IsRising-map (x ∷ xs) rising = (ComesFirst-map x xs rising.0, IsRising-map xs rising.1)

-- an offer keeps a queue sound
IsSound-offered : (notification : Notification) (queue : Queue) → IsSound queue → HasNumberLeft queue → IsSound (offered notification queue)
IsSound-offered notification queue sound left =
    let P : Bool → Type 0 = λ room. IsSound (record { capacity = queue.capacity; first = queue.first; held = cond room (queue.held ++ Notified notification ∷ []) queue.held; lost = cond room queue.lost (queue.lost ++ mark_of notification ∷ []) }) in
    elim (leb_tells (suc (length queue.held)) queue.capacity) [
      | inl room ↦ subst P (sym room.0) (IsSound-more queue (Notified notification) sound left room.1)
      | inr full ↦ let taken = full.1 in subst P (sym full.0) (IsSound-lost queue (queue.lost ++ mark_of notification ∷ []) sound (omega arith))
    ]

HaveQueues-offered : (capacity : ℕ) (notification : Notification) (xs : List Subscription) → HaveQueues capacity xs → HaveNumbersLeft xs → HaveQueues capacity (map (offered_sub notification) xs)
HaveQueues-offered capacity notification [] queues left = tt
HaveQueues-offered capacity notification (x ∷ xs) queues left =
    let rest = HaveQueues-offered capacity notification xs queues.2 left.1 in
    asked (matches x.filters notification) rest where
      asked : (b : Bool) → HaveQueues capacity (map (offered_sub notification) xs) → HaveQueues capacity (requeued x (cond b (offered notification x.queue) x.queue) ∷ map (offered_sub notification) xs)
      asked true rest = (queues.0, IsSound-offered notification x.queue queues.1 left.0, rest)
      asked false rest = (queues.0, queues.1, rest)

HaveQueues-received : (capacity client key through : ℕ) (xs : List Subscription) → HaveQueues capacity xs → HaveNumbersLeft xs → HaveQueues capacity (map (received_sub client key through) xs)
HaveQueues-received capacity client key through [] queues left = tt
HaveQueues-received capacity client key through (x ∷ xs) queues left =
    let rest = HaveQueues-received capacity client key through xs queues.2 left.1 in
    taken (is_kept_at client key x) (has_item through x.queue) refl rest where
      taken : (mine has : Bool) → has_item through x.queue ≡ has → HaveQueues capacity (map (received_sub client key through) xs) → HaveQueues capacity (requeued x (cond (mine && has) (received through x.queue) x.queue) ∷ map (received_sub client key through) xs)
      taken true true is rest =
          (queues.0, IsSound-received through x.queue queues.1 ((has_item-decides through x.queue).0 is) left.0, rest)
      taken true false is rest = (queues.0, queues.1, rest)
      taken false has is rest = (queues.0, queues.1, rest)

HaveQueues-put : (capacity : ℕ) (x : Subscription) (xs : List Subscription) → x.queue.capacity ≡ capacity → IsSound x.queue → HaveQueues capacity xs → HaveQueues capacity (put kept_first x xs)
HaveQueues-put capacity x [] same sound queues = (same, sound, tt)
HaveQueues-put capacity x (y ∷ ys) same sound queues = placed (kept_first x y) (kept_first y x) (HaveQueues-put capacity x ys same sound queues.2) where
  placed : (below above : Bool) → HaveQueues capacity (put kept_first x ys) → HaveQueues capacity (cond below (x ∷ y ∷ ys) (cond above (y ∷ put kept_first x ys) (x ∷ ys)))
  placed true above rest = (same, sound, queues)
  placed false true rest = (queues.0, queues.1, rest)
  placed false false rest = (same, sound, queues.2)

HaveQueues-without : (capacity : ℕ) (test : Subscription → Bool) (xs : List Subscription) → HaveQueues capacity xs → HaveQueues capacity (without test xs)
HaveQueues-without capacity test [] queues = tt
HaveQueues-without capacity test (x ∷ xs) queues = left (test x) (HaveQueues-without capacity test xs queues.2) where
  left : (gone : Bool) → HaveQueues capacity (without test xs) → HaveQueues capacity (cond gone (without test xs) (x ∷ without test xs))
  left true rest = rest
  left false rest = (queues.0, queues.1, rest)

-- the queue of a new subscription is sound
IsSound-empty : (capacity : ℕ) → IsCapacity capacity → IsSound (empty_queue capacity)
IsSound-empty capacity fits = record {
  capacity = fits;
  first = omega arith;
  numbers = omega arith;
  places = omega arith;
  lost = inl refl;
}

-- subscriptions after a change, with the users and the last id as they may be then
pub record AreKept (capacity : ℕ) (xs : List Subscription) : Type 0 where
  pub order : IsRising kept_first xs
  pub queues : HaveQueues capacity xs
  pub few : length xs ≤ 64

pub kept-offered : (capacity : ℕ) (notification : Notification) (xs : List Subscription) → AreKept capacity xs → HaveNumbersLeft xs → AreKept capacity (map (offered_sub notification) xs)
kept-offered capacity notification xs are left = record {
  order = IsRising-map (offered_sub notification) (λ x y. refl) xs are.order;
  queues = HaveQueues-offered capacity notification xs are.queues left;
  few = omega (arith, are.few, length-map xs (offered_sub notification));
}

pub kept-received : (capacity client key through : ℕ) (xs : List Subscription) → AreKept capacity xs → HaveNumbersLeft xs → AreKept capacity (map (received_sub client key through) xs)
kept-received capacity client key through xs are left = record {
  order = IsRising-map (received_sub client key through) (λ x y. refl) xs are.order;
  queues = HaveQueues-received capacity client key through xs are.queues left;
  few = omega (arith, are.few, length-map xs (received_sub client key through));
}

pub kept-without : (capacity : ℕ) (test : Subscription → Bool) (xs : List Subscription) → AreKept capacity xs → AreKept capacity (without test xs)
kept-without capacity test xs are = record {
  order = IsRising-without kept_first test xs are.order;
  queues = HaveQueues-without capacity test xs are.queues;
  few = omega (arith, are.few, length-without test xs);
}

pub kept-put : (capacity : ℕ) (x : Subscription) (xs : List Subscription) → IsCapacity capacity → AreKept capacity xs → x.queue ≡ empty_queue capacity → length xs < 64 → AreKept capacity (put kept_first x xs)
kept-put capacity x xs fits are new room =
    let P : Queue → Type 0 = IsSound in
    record {
      order = IsRising-put kept_first IsOrder-kept_first x xs are.order;
      queues = HaveQueues-put capacity x xs (ap (λ (q : Queue). q.capacity) new) (subst P (sym new) (IsSound-empty capacity fits)) are.queues;
      few = omega (arith, room, length-put kept_first x xs);
    }

-- a sound table's subscriptions are kept
pub kept-table : (table : NtfTable) → IsSoundTable table → AreKept table.capacity table.subs
kept-table table sound = record { order = sound.order; queues = sound.queues; few = sound.few }

-- the table after each kind of change

pub sound-begun : (table : NtfTable) (client : ℕ) (users : List ℕ) → IsSoundTable table → users ≡ put nat_lt client table.users → IsSoundTable (table_with table.capacity users table.last_id table.subs)
sound-begun table client users sound is =
    let P : List ℕ → Type 0 = IsRising nat_lt in
    record {
      capacity = sound.capacity;
      users = subst P (sym is) (IsRising-put nat_lt IsOrder-nat_lt client table.users sound.users);
      order = sound.order;
      queues = sound.queues;
      few = sound.few;
    }

pub sound-ended : (table : NtfTable) (client : ℕ) (users : List ℕ) (subs : List Subscription) → IsSoundTable table → users ≡ without (λ other. other == client) table.users → subs ≡ without (is_kept_for client) table.subs → IsSoundTable (table_with table.capacity users table.last_id subs)
sound-ended table client users subs sound is left =
    let P : List ℕ → Type 0 = IsRising nat_lt in
    let Q : List Subscription → Type 0 = AreKept table.capacity in
    let are : AreKept table.capacity subs = subst Q (sym left) (kept-without table.capacity (is_kept_for client) table.subs (kept-table table sound)) in
    record {
      capacity = sound.capacity;
      users = subst P (sym is) (IsRising-without nat_lt (λ other. other == client) table.users sound.users);
      order = are.order;
      queues = are.queues;
      few = are.few;
    }

pub sound-with : (table : NtfTable) (last_id : ℕ) (changed subs : List Subscription) → IsSoundTable table → AreKept table.capacity changed → subs ≡ changed → IsSoundTable (table_with table.capacity table.users last_id subs)
sound-with table last_id changed subs sound were is =
    let Q : List Subscription → Type 0 = AreKept table.capacity in
    let are : AreKept table.capacity subs = subst Q (sym is) were in
    record { capacity = sound.capacity; users = sound.users; order = are.order; queues = are.queues; few = are.few }

-- with a subscription that was made for this table
pub kept-new : (table now : NtfTable) (client id : ℕ) (filters : FilterSet) (answered : Status) (kept : Subscription) → table ≡ now → IsSoundTable table → answered ≡ subscribe_answer client id filters now → answered ≡ status.Ok → kept.queue ≡ empty_queue table.capacity → AreKept table.capacity (put kept_first kept table.subs)
kept-new table now client id filters answered kept is sound as_said ok queue =
    let P : NtfTable → Type 0 = λ t. length t.subs < 64 in
    let room = room-left client id filters now (sym as_said ∙ ok) in
    kept-put table.capacity kept table.subs sound.capacity (kept-table table sound) queue (subst P (sym is) room)

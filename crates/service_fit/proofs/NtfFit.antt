-- The subscriptions and users of a fit value stay fit as they change.
use Rattle.std.proofs.Common.{◌≡◌, ℕ, ◌+◌, ◌-◌, ◌<◌, ◌≤◌, ◌==◌, nat_le, nat_lt, Bool, true, false, not, ◌&&◌, ◌||◌, cond, List, [], ◌∷◌, ◌++◌, length, drop, map, refl, ap, ◌∙◌, subst, arith, length-append, length-drop}
use Rattle.std.specs.List.{AllByRecursion, list_any}
use Rattle.std.proofs.lemmas.Bool.{and_parts, and_from, or_parts, or_from, not-true}
use Rattle.std.proofs.lemmas.Bool.Decides.{nat_tests}
use Rattle.ais_values.specs.Codes.{all_differ}
use Rattle.client_set.specs.Rising.{put, without}
use Rattle.client_set.proofs.RisingLaws.{IsOrder-nat_lt, IsRising-put, IsRising-without}
use Rattle.ntf_types.specs.declared.notification.Notification.{Notification}
use Rattle.ntf_filters.specs.Fit as filters
use Rattle.ntf_filters.specs.Matching.{matches}
use Rattle.sub_queue.specs.declared.item.Content.TheVariants.{Notified}
use Rattle.sub_queue.specs.Items.{discarded}
use Rattle.sub_queue.specs.Queue.{Queue, IsCapacity, next_number, empty_queue, has_room, offered, received}
use Rattle.sub_queue.proofs.Keeping.{length-discarded}
use Rattle.ntf_history.specs.Kept.{Subscription}
use Rattle.ntf_history.specs.Changes.{Sub, NtfChange}
use Rattle.ntf_history.specs.Changes.NtfChange.{Began, Ended, Subscribed, Unsubscribed, Sent, Receipted}
use Rattle.ntf_history.specs.Tables.{NtfTable, sub_with, requeued, is_kept_at, is_kept_under, is_kept_for, kept_first, has_item, offered_sub, received_sub, after_change}
use Rattle.ntf_service.specs.State.{HaveNumbersLeft, CanSendMore, IsKeyAbove}
use Rattle.ntf_service.proofs.Kept.{AreKept, kept-offered, kept-received, kept-without, kept-put}
use Rattle.ntf_service.proofs.Received.{filter-without}
use Rattle.plain_service.specs.Fitness.{AreClients, IsAmong}
use Rattle.plain_service.specs.Legal.{IsClient}
use Rattle.plain_service.proofs.ListLaws.{each-weaker, each-put, each-without, each-mapped, differ-filtered, differ-mapped}
use Rattle.service_table.specs.declared.caller.ClientWindow.{ClientWindow}
use Rattle.service_table.specs.Steps.{window_for}
use Rattle.service_fit.proofs.KeptStreams.{among-put, among-without}
use Rattle.service_fit.proofs.WindowsFit.{HasCalledIn, called-number}

-- a kept subscription of a fit value, by the number of entries, the windows and the users
pub record IsFitSub (number : ℕ) (windows : List ClientWindow) (using : List ℕ) (kept : Subscription) : Type 0 where
  pub user : IsAmong using kept.client
  pub key : HasCalledIn windows kept.client kept.key
  pub filters : filters.IsFit kept.filters
  pub items : next_number kept.queue ≤ number + 1

abbrev pub have_one_id : Subscription → Subscription → Bool
have_one_id one other = one.client == other.client && one.id == other.id

-- what is kept of the notifications of a fit value
pub record IsFitNtf (number : ℕ) (windows : List ClientWindow) (kept : NtfTable) : Type 0 where
  pub capacity : IsCapacity kept.capacity
  pub ids : kept.last_id ≤ number
  pub users : AreClients kept.users
  pub subs : AreKept kept.capacity kept.subs
  pub differ : all_differ have_one_id kept.subs ≡ true
  pub each : AllByRecursion (IsFitSub number windows kept.users) kept.subs

-- a client can subscribe so
pub record CanSubscribe (kept : NtfTable) (later : List ClientWindow) (sub : Sub) : Type 0 where
  pub user : IsAmong kept.users sub.client
  pub key : HasCalledIn later sub.client sub.key
  pub filters : filters.IsFit sub.filters
  pub new : list_any (is_kept_under sub.client sub.id) kept.subs ≡ false
  pub room : length kept.subs < 64

-- what a change needs so that what it leaves is fit
abbrev pub CanNotify : NtfTable → List ClientWindow → NtfChange → Type 0
CanNotify kept later (Began client) = IsClient client
CanNotify kept later (Subscribed sub) = CanSubscribe kept later sub
CanNotify kept later _ = Unit {0}

-- the next number of a queue grows by one at most

offered-next : (notification : Notification) (queue : Queue) → next_number (offered notification queue) ≤ next_number queue + 1
offered-next notification queue = by_case (has_room queue) where
  by_case : (room : Bool) → queue.first + length (cond room (queue.held ++ Notified notification ∷ []) queue.held) ≤ queue.first + length queue.held + 1
  by_case true = omega (arith, length-append queue.held (Notified notification ∷ []))
  by_case false = omega arith

has-item : (through : ℕ) (queue : Queue) → has_item through queue ≡ true → (queue.first ≤ through) × (through < next_number queue)
has-item through queue is = tests (nat_le queue.first through) (nat_lt through (next_number queue)) refl refl is where
  tests : (low high : Bool) → nat_le queue.first through ≡ low → nat_lt through (next_number queue) ≡ high → (low && high) ≡ true → (queue.first ≤ through) × (through < next_number queue)
  tests true true low high both = (grind (arith, nat_tests), grind (arith, nat_tests))
  tests true false low high both = cc
  tests false high_is low high both = cc

received-next : (through : ℕ) (queue : Queue) → has_item through queue ≡ true → next_number (received through queue) ≤ next_number queue + 1
received-next through queue is =
    let within = has-item through queue is in
    let left = drop (through + 1 - queue.first) queue.held in
    omega (arith, length-append left (discarded queue.lost), length-drop (through + 1 - queue.first) queue.held, length-discarded queue.lost, within.0, within.1)

-- one of several subscriptions that is new under its client and id differs from all

differs : (c i d j : ℕ) → (d == c && j == i) ≡ false → (c == d && i == j) ≡ false
differs c i d j apart = grind (arith, nat_tests)

any-put : (test : Subscription → Bool) (new : Subscription) (subs : List Subscription) → test new ≡ false → list_any test subs ≡ false → list_any test (put kept_first new subs) ≡ false
any-put test new [] own none = or_from (test new) false own refl
any-put test new (sub ∷ subs) own none =
    let two = or_parts (test sub) (list_any test subs) none in
    by_case (kept_first new sub) (kept_first sub new) two.0 two.1 (any-put test new subs own two.1) where
      by_case : (below above : Bool) → test sub ≡ false → list_any test subs ≡ false → list_any test (put kept_first new subs) ≡ false → list_any test (cond below (new ∷ sub ∷ subs) (cond above (sub ∷ put kept_first new subs) (new ∷ subs))) ≡ false
      by_case true above one rest behind = or_from (test new) (test sub || list_any test subs) own (or_from (test sub) (list_any test subs) one rest)
      by_case false true one rest behind = or_from (test sub) (list_any test (put kept_first new subs)) one behind
      by_case false false one rest behind = or_from (test new) (list_any test subs) own rest

apart-from : (new : Subscription) (subs : List Subscription) → list_any (is_kept_under new.client new.id) subs ≡ false → list_any (have_one_id new) subs ≡ false
apart-from new [] none = refl
apart-from new (sub ∷ subs) none =
    let two = or_parts (is_kept_under new.client new.id sub) (list_any (is_kept_under new.client new.id) subs) none in
    or_from (have_one_id new sub) (list_any (have_one_id new) subs) (differs new.client new.id sub.client sub.id two.0) (apart-from new subs two.1)

differ-put : (new : Subscription) (subs : List Subscription) → list_any (is_kept_under new.client new.id) subs ≡ false → all_differ have_one_id subs ≡ true → all_differ have_one_id (put kept_first new subs) ≡ true
differ-put new [] none differ = refl
differ-put new (sub ∷ subs) none differ =
    let two = or_parts (is_kept_under new.client new.id sub) (list_any (is_kept_under new.client new.id) subs) none in
    let apart = apart-from new (sub ∷ subs) none in
    let behind = apart-from new subs two.1 in
    let old = and_parts (not (list_any (have_one_id sub) subs)) (all_differ have_one_id subs) differ in
    by_case (kept_first new sub) (kept_first sub new) two.0 apart behind (not-true (list_any (have_one_id sub) subs) old.0) old.1 (differ-put new subs two.1 old.1) where
      by_case : (below above : Bool) → is_kept_under new.client new.id sub ≡ false → list_any (have_one_id new) (sub ∷ subs) ≡ false → list_any (have_one_id new) subs ≡ false → list_any (have_one_id sub) subs ≡ false → all_differ have_one_id subs ≡ true → all_differ have_one_id (put kept_first new subs) ≡ true → all_differ have_one_id (cond below (new ∷ sub ∷ subs) (cond above (sub ∷ put kept_first new subs) (new ∷ subs))) ≡ true
      by_case true above one apart behind first rest later =
          and_from (not (list_any (have_one_id new) (sub ∷ subs))) (all_differ have_one_id (sub ∷ subs)) (ap not apart) differ
      by_case false true one apart behind first rest later =
          and_from (not (list_any (have_one_id sub) (put kept_first new subs))) (all_differ have_one_id (put kept_first new subs)) (ap not (any-put (have_one_id sub) new subs one first)) later
      by_case false false one apart behind first rest later =
          and_from (not (list_any (have_one_id new) subs)) (all_differ have_one_id subs) (ap not behind) rest

differ-without : (test : Subscription → Bool) (subs : List Subscription) → all_differ have_one_id subs ≡ true → all_differ have_one_id (without test subs) ≡ true
differ-without test subs differ =
    subst (λ left. all_differ have_one_id left ≡ true) (filter-without test subs) (differ-filtered have_one_id (λ sub. not (test sub)) subs differ)

-- what holds of each that is left

pub each-left : {X : Type 0} (P Q : X → Type 0) (test : X → Bool) → ((x : X) → P x → test x ≡ false → Q x) → (xs : List X) → AllByRecursion P xs → AllByRecursion Q (without test xs)
each-left P Q test stays [] each = tt
each-left P Q test stays (x ∷ xs) each = by_case (test x) refl (each-left P Q test stays xs each.1) where
  by_case : (gone : Bool) → test x ≡ gone → AllByRecursion Q (without test xs) → AllByRecursion Q (cond gone (without test xs) (x ∷ without test xs))
  by_case true is rest = rest
  by_case false is rest = (stays x each.0 is, rest)

-- what the calls of the Notification Service ask

pub numbers-left : (number : ℕ) (windows : List ClientWindow) (using : List ℕ) (subs : List Subscription) → number ≤ 4000000000 → AllByRecursion (IsFitSub number windows using) subs → HaveNumbersLeft subs
numbers-left number windows using [] few each = tt
numbers-left number windows using (kept ∷ subs) few each = (omega (arith, few, each.0.items), numbers-left number windows using subs few each.1)

pub can-send : (number : ℕ) (windows : List ClientWindow) (kept : NtfTable) → number ≤ 4000000000 → IsFitNtf number windows kept → CanSendMore kept
can-send number windows kept few fit =
    record { ids = omega (arith, few, fit.ids); items = numbers-left number windows kept.users kept.subs few fit.each }

pub key-above : (number client seq : ℕ) (windows : List ClientWindow) (using : List ℕ) (subs : List Subscription) → seq ≡ (window_for client windows).next → AllByRecursion (IsFitSub number windows using) subs → IsKeyAbove client seq subs
key-above number client seq windows using [] next each = tt
key-above number client seq windows using (sub ∷ subs) next each = (
  λ same.
      let below = called-number windows sub.client sub.key each.0.key in
      let e = ap (λ c. (window_for c windows).next) same in
      omega (arith, e, next, below),
  key-above number client seq windows using subs next each.1,
)

-- the changes

module _ (number : ℕ) (few : number ≤ 4000000000) (windows later : List ClientWindow) (grows : (client call : ℕ) → HasCalledIn windows client call → HasCalledIn later client call) where
  later-sub : (using other : List ℕ) → ((client : ℕ) → IsAmong using client → IsAmong other client) → (kept : Subscription) → IsFitSub number windows using kept → IsFitSub (number + 1) later other kept
  later-sub using other more kept is = record {
    user = more kept.client is.user;
    key = grows kept.client kept.key is.key;
    filters = is.filters;
    items = omega (arith, is.items);
  }

  requeued-fit : (using : List ℕ) (kept : Subscription) (queue : Queue) → next_number queue ≤ next_number kept.queue + 1 → IsFitSub number windows using kept → IsFitSub (number + 1) later using (requeued kept queue)
  requeued-fit using kept queue next is = record {
    user = is.user;
    key = grows kept.client kept.key is.key;
    filters = is.filters;
    items = omega (arith, is.items, next);
  }

  offered-fit : (using : List ℕ) (notification : Notification) (kept : Subscription) → IsFitSub number windows using kept → IsFitSub (number + 1) later using (offered_sub notification kept)
  offered-fit using notification kept is =
      requeued-fit using kept (cond (matches kept.filters notification) (offered notification kept.queue) kept.queue) (next (matches kept.filters notification)) is where
        next : (asked : Bool) → next_number (cond asked (offered notification kept.queue) kept.queue) ≤ next_number kept.queue + 1
        next true = offered-next notification kept.queue
        next false = omega arith

  received-fit : (using : List ℕ) (client key through : ℕ) (kept : Subscription) → IsFitSub number windows using kept → IsFitSub (number + 1) later using (received_sub client key through kept)
  received-fit using client key through kept is =
      requeued-fit using kept (cond (is_kept_at client key kept && has_item through kept.queue) (received through kept.queue) kept.queue) (next (is_kept_at client key kept) (has_item through kept.queue) refl) is where
        next : (mine has : Bool) → has_item through kept.queue ≡ has → next_number (cond (mine && has) (received through kept.queue) kept.queue) ≤ next_number kept.queue + 1
        next true true has = received-next through kept.queue has
        next true false has = omega arith
        next false has_is has = omega arith

  all-mapped : (using : List ℕ) (change : Subscription → Subscription) → ((kept : Subscription) → IsFitSub number windows using kept → IsFitSub (number + 1) later using (change kept)) → (subs : List Subscription) → AllByRecursion (IsFitSub number windows using) subs → AllByRecursion (IsFitSub (number + 1) later using) (map change subs)
  all-mapped using change is subs each =
      each-mapped (IsFitSub (number + 1) later using) change subs
      (each-weaker (IsFitSub number windows using) (λ kept. IsFitSub (number + 1) later using (change kept)) is subs each)

  module _ (kept : NtfTable) (fit : IsFitNtf number windows kept) where
    all-later : AllByRecursion (IsFitSub (number + 1) later kept.users) kept.subs
    all-later =
        each-weaker (IsFitSub number windows kept.users) (IsFitSub (number + 1) later kept.users) (later-sub kept.users kept.users (λ client is. is)) kept.subs fit.each

    pub ntf-same : IsFitNtf (number + 1) later kept
    ntf-same = record {
      capacity = fit.capacity;
      ids = omega (arith, fit.ids);
      users = fit.users;
      subs = fit.subs;
      differ = fit.differ;
      each = all-later;
    }

    ntf-began : (client : ℕ) → IsClient client → IsFitNtf (number + 1) later (after_change (Began client) kept)
    ntf-began client caller = record {
      capacity = fit.capacity;
      ids = omega (arith, fit.ids);
      users = record {
        rising = IsRising-put nat_lt IsOrder-nat_lt client kept.users fit.users.rising;
        each = each-put IsClient nat_lt client kept.users caller fit.users.each;
      };
      subs = fit.subs;
      differ = fit.differ;
      each = each-weaker (IsFitSub number windows kept.users) (IsFitSub (number + 1) later (put nat_lt client kept.users)) (later-sub kept.users (put nat_lt client kept.users) (λ user is. among-put client kept.users user is)) kept.subs fit.each;
    }

    ntf-ended : (client : ℕ) → IsFitNtf (number + 1) later (after_change (Ended client) kept)
    ntf-ended client =
        let using = without (λ other. other == client) kept.users in
        record {
          capacity = fit.capacity;
          ids = omega (arith, fit.ids);
          users = record {
            rising = IsRising-without nat_lt (λ other. other == client) kept.users fit.users.rising;
            each = each-without IsClient (λ other. other == client) kept.users fit.users.each;
          };
          subs = kept-without kept.capacity (is_kept_for client) kept.subs fit.subs;
          differ = differ-without (is_kept_for client) kept.subs fit.differ;
          each = each-left (IsFitSub number windows kept.users) (IsFitSub (number + 1) later using) (is_kept_for client)
              (λ sub is stays. record { user = among-without client kept.users sub.client is.user stays; key = grows sub.client sub.key is.key; filters = is.filters; items = omega (arith, is.items) }) kept.subs fit.each;
        }

    ntf-subscribed : (sub : Sub) → CanSubscribe kept later sub → IsFitNtf (number + 1) later (after_change (Subscribed sub) kept)
    ntf-subscribed sub can =
        let new = sub_with sub (empty_queue kept.capacity) in
        record {
          capacity = fit.capacity;
          ids = omega (arith, fit.ids);
          users = fit.users;
          subs = kept-put kept.capacity new kept.subs fit.capacity fit.subs refl can.room;
          differ = differ-put new kept.subs can.new fit.differ;
          each = each-put (IsFitSub (number + 1) later kept.users) kept_first new kept.subs (record { user = can.user; key = can.key; filters = can.filters; items = omega arith }) all-later;
        }

    ntf-unsubscribed : (client id : ℕ) → IsFitNtf (number + 1) later (after_change (Unsubscribed client id) kept)
    ntf-unsubscribed client id = record {
      capacity = fit.capacity;
      ids = omega (arith, fit.ids);
      users = fit.users;
      subs = kept-without kept.capacity (is_kept_under client id) kept.subs fit.subs;
      differ = differ-without (is_kept_under client id) kept.subs fit.differ;
      each = each-without (IsFitSub (number + 1) later kept.users) (is_kept_under client id) kept.subs all-later;
    }

    ntf-sent : (notification : Notification) (record_number : ℕ) → IsFitNtf (number + 1) later (after_change (Sent notification record_number) kept)
    ntf-sent notification record_number = record {
      capacity = fit.capacity;
      ids = omega (arith, fit.ids);
      users = fit.users;
      subs = kept-offered kept.capacity notification kept.subs fit.subs (numbers-left number windows kept.users kept.subs few fit.each);
      differ = differ-mapped (offered_sub notification) have_one_id have_one_id (λ _ _. refl) kept.subs ∙ fit.differ;
      each = all-mapped kept.users (offered_sub notification) (offered-fit kept.users notification) kept.subs fit.each;
    }

    ntf-received : (client key through : ℕ) → IsFitNtf (number + 1) later (after_change (Receipted client key through) kept)
    ntf-received client key through = record {
      capacity = fit.capacity;
      ids = omega (arith, fit.ids);
      users = fit.users;
      subs = kept-received kept.capacity client key through kept.subs fit.subs (numbers-left number windows kept.users kept.subs few fit.each);
      differ = differ-mapped (received_sub client key through) have_one_id have_one_id (λ _ _. refl) kept.subs ∙ fit.differ;
      each = all-mapped kept.users (received_sub client key through) (received-fit kept.users client key through) kept.subs fit.each;
    }

    -- **what is kept of the notifications after a change**
    pub fit-ntf : (change : NtfChange) → CanNotify kept later change → IsFitNtf (number + 1) later (after_change change kept)
    fit-ntf (Began client) can = ntf-began client can
    fit-ntf (Ended client) can = ntf-ended client
    fit-ntf (Subscribed sub) can = ntf-subscribed sub can
    fit-ntf (Unsubscribed client id) can = ntf-unsubscribed client id
    fit-ntf (Sent notification record_number) can = ntf-sent notification record_number
    fit-ntf (Receipted client key through) can = ntf-received client key through

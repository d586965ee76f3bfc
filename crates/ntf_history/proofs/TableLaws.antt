-- What is kept after one more change is what the call makes of what was kept.
use Rattle.std.proofs.Common.{◌≡◌, ℕ, suc, ◌==◌, nat_lt, nat_le, Bool, true, false, ◌&&◌, cond, inl, inr, List, [], ◌∷◌, ◌++◌, map, refl, ap, sym, subst, ◌∙◌}
use Rattle.std.specs.Prelude.{Option, Some, None, is_some, Decides}
use Rattle.std.specs.Bool.{one_answer}
use Rattle.std.specs.Cmp.Derive.{both_true}
use Rattle.std.proofs.lemmas.Bool.{leb-true, le-leb, and_parts, and_right, or_left, or_parts, or_right}
use Rattle.ntf_types.specs.declared.notification.Notification.{Notification}
use Rattle.ntf_filters.specs.Matching.{matches}
use Rattle.sub_queue.specs.Items.{discarded}
use Rattle.sub_queue.specs.Queue.{Queue, IsNew, empty_queue, next_number, offered, received}
use Rattle.sub_queue.specs.History.{Happening, Account, account_of, is_new_receipt, after_receipt, queue_for}
use Rattle.sub_queue.specs.History.{Happening as happening}
use Rattle.sub_queue.proofs.Accounts.{account_of-possible, offered-queue_for, received-queue_for, is_new_receipt-decides}
use Rattle.client_set.specs.Members.{Stands}
use Rattle.client_set.specs.Rising.{put}
use Rattle.client_set.proofs.RisingLaws.{map-put, map-without, Stands-put, Stands-without}
use Rattle.ntf_history.specs.Kept.{Subscription}
use Rattle.ntf_history.specs.Changes.{Sub, NtfChange}
use Rattle.ntf_history.specs.Changes.NtfChange.{Began, Ended, Subscribed, Unsubscribed, Sent, Receipted}
use Rattle.ntf_history.specs.Subscriptions.{has_key, has_id, is_of, comes_first, subs, sub_at, lasts, offered_to, happened, account, is_known}
use Rattle.ntf_history.specs.Possible.{CanFollow}
use Rattle.ntf_history.specs.Tables.{NtfTable, sub_with, is_kept_under, is_kept_for, kept_first, has_item, offered_sub, received_sub, after_change, kept_of, table_of}
use Rattle.ntf_history.proofs.KeyLaws.{has_key-self, has_key-is, sub_at-member, sub_at-stands}

-- functions that agree on what stands in a list map it alike
map-same : {X Y : Type 0} (f g : X → Y) (xs : List X) → ((x : X) → Stands x xs → f x ≡ g x) → map f xs ≡ map g xs
map-same f g [] same = refl
map-same {X} {Y} f g (x ∷ xs) same =
    let rest : map f xs ≡ map g xs = map-same f g xs (λ y there. same y (inr there)) in
    ap (λ y. y ∷ map f xs) (same x (inl refl)) ∙ ap (λ ys. g x ∷ ys) rest

map-twice : {X Y Z : Type 0} (f : X → Y) (g : Y → Z) (xs : List X) → map g (map f xs) ≡ map (λ x. g (f x)) xs
map-twice f g [] = refl
map-twice f g (x ∷ xs) = ap (λ ys. g (f x) ∷ ys) (map-twice f g xs)

-- the queue after a notification, by the subscription that lasts
queue-sent : (capacity : ℕ) (sub : Sub) (notification : Notification) (before : List Happening) → queue_for capacity (account_of capacity (offered_to (Some sub) notification before)) ≡ cond (matches sub.filters notification) (offered notification (queue_for capacity (account_of capacity before))) (queue_for capacity (account_of capacity before))
queue-sent capacity sub notification before = asked (matches sub.filters notification) where
  asked : (b : Bool) → queue_for capacity (account_of capacity (cond b (happening.Offered notification ∷ before) before)) ≡ cond b (offered notification (queue_for capacity (account_of capacity before))) (queue_for capacity (account_of capacity before))
  asked true = sym (offered-queue_for capacity notification (account_of capacity before) (account_of-possible capacity before))
  asked false = refl

kept-sent : (capacity : ℕ) (past : List NtfChange) (notification : Notification) (record_number : ℕ) (sub : Sub) → Stands sub (subs past) → kept_of capacity (Sent notification record_number ∷ past) sub ≡ offered_sub notification (kept_of capacity past sub)
kept-sent capacity past notification record_number sub stands =
    let before = happened past sub.client sub.key in
    let found : offered_to (sub_at past sub.client sub.key) notification before ≡ offered_to (Some sub) notification before = ap (λ o. offered_to o notification before) (sub_at-member past sub stands) in
    let queue = ap (λ h. queue_for capacity (account_of capacity h)) found ∙ queue-sent capacity sub notification before in
    ap (sub_with sub) queue

-- a receipt is new for a queue exactly where the queue has the item
pub has_item-decides : (through : ℕ) (queue : Queue) → Decides (has_item through queue) (IsNew through queue)
has_item-decides through queue = (
  λ e. let tests = and_parts (nat_le queue.first through) (nat_lt through (next_number queue)) e in record { from = leb-true queue.first through tests.0; below = leb-true (suc through) (next_number queue) tests.1 },
  λ new. both_true (le-leb queue.first through new.from) (le-leb (suc through) (next_number queue) new.below),
)

pub has_item-queue_for : (capacity through : ℕ) (account : Account) → has_item through (queue_for capacity account) ≡ is_new_receipt through account
has_item-queue_for capacity through account =
    let P : Type 0 = IsNew through (queue_for capacity account) in
    one_answer {P = P} (has_item through (queue_for capacity account)) (is_new_receipt through account) (has_item-decides through (queue_for capacity account)) (is_new_receipt-decides capacity through account)

-- the account after a receipt, by whether it is new
receipted-account : (through : ℕ) (account : Account) → is_new_receipt through account ≡ false → after_receipt through account ≡ account
receipted-account through account old =
    let last : Bool → Account = λ b. record { made = cond b (account.made ++ discarded account.lost) account.made; through = cond b through account.through; lost = cond b [] account.lost } in
    ap last old

-- the queue after a receipt, by whether it is this subscription's, and whether it is new
queue-receipted : (capacity through : ℕ) (before : List Happening) (mine : Bool) → queue_for capacity (account_of capacity (cond mine (happening.Receipted through ∷ before) before)) ≡ cond (mine && has_item through (queue_for capacity (account_of capacity before))) (received through (queue_for capacity (account_of capacity before))) (queue_for capacity (account_of capacity before))
queue-receipted capacity through before false = refl
queue-receipted capacity through before true =
    let account = account_of capacity before in
    let queue = queue_for capacity account in
    has (has_item through queue) refl where
      has : (b : Bool) → has_item through (queue_for capacity (account_of capacity before)) ≡ b → queue_for capacity (after_receipt through (account_of capacity before)) ≡ cond b (received through (queue_for capacity (account_of capacity before))) (queue_for capacity (account_of capacity before))
      has true is = sym (received-queue_for capacity through (account_of capacity before) ((has_item-decides through (queue_for capacity (account_of capacity before))).0 is))
      has false is =
          ap (queue_for capacity) (receipted-account through (account_of capacity before) (sym (has_item-queue_for capacity through (account_of capacity before)) ∙ is))

and_true : (a b : Bool) → b ≡ true → (a && b) ≡ a
and_true true b e = e
and_true false b e = refl

kept-receipted : (capacity : ℕ) (past : List NtfChange) (client key through : ℕ) (sub : Sub) → Stands sub (subs past) → kept_of capacity (Receipted client key through ∷ past) sub ≡ received_sub client key through (kept_of capacity past sub)
kept-receipted capacity past client key through sub stands =
    let before = happened past sub.client sub.key in
    let mine = (sub.client == client && sub.key == key) in
    let alive : lasts past sub.client sub.key ≡ true = ap is_some (sub_at-member past sub stands) in
    let same = and_true mine (lasts past sub.client sub.key) alive in
    let queue = ap (λ b. queue_for capacity (account_of capacity (cond b (happening.Receipted through ∷ before) before))) same ∙ queue-receipted capacity through before mine in
    ap (sub_with sub) queue

-- a subscription that stands among those that last was made
stands-known : (past : List NtfChange) (sub : Sub) → Stands sub (subs past) → is_known past sub.client sub.key ≡ true
stands-known [] sub stands = absurd stands
stands-known (Began client ∷ past) sub stands = stands-known past sub stands
stands-known (Ended client ∷ past) sub stands =
    stands-known past sub (Stands-without (is_of client) sub (subs past) stands).0
stands-known (Subscribed new ∷ past) sub stands = elim (Stands-put comes_first sub new (subs past) stands) [
  | inl same ↦ or_left (has_key sub.client sub.key new) (is_known past sub.client sub.key) (ap (λ (s : Sub). has_key sub.client sub.key s) (sym same) ∙ has_key-self sub)
  | inr there ↦ or_right (has_key sub.client sub.key new) (is_known past sub.client sub.key) (stands-known past sub there)
]
stands-known (Unsubscribed client id ∷ past) sub stands =
    stands-known past sub (Stands-without (has_id client id) sub (subs past) stands).0
stands-known (Sent notification record_number ∷ past) sub stands = stands-known past sub stands
stands-known (Receipted client key through ∷ past) sub stands = stands-known past sub stands

-- nothing is found under a client and a key that were never used together
pub unknown-absent : (past : List NtfChange) (client key : ℕ) → is_known past client key ≡ false → sub_at past client key ≡ None
unknown-absent past client key new = absent (sub_at past client key) refl where
  absent : (o : Option Sub) → sub_at past client key ≡ o → sub_at past client key ≡ None
  absent None is = is
  absent (Some sub) is =
      let there = sub_at-stands past client key sub is in
      let named = has_key-is client key sub there.1 in
      let P : ℕ → Type 0 = λ c. is_known past c sub.key ≡ true in
      let Q : ℕ → Type 0 = λ k. is_known past client k ≡ true in
      let known : is_known past client key ≡ true = subst Q named.1 (subst P named.0 (stands-known past sub there.0)) in
      absurd (cc (known, new))

-- nothing happened to it
pub unknown-nothing : (past : List NtfChange) (client key : ℕ) → is_known past client key ≡ false → happened past client key ≡ []
unknown-nothing [] client key new = refl
unknown-nothing (Began other ∷ past) client key new = unknown-nothing past client key new
unknown-nothing (Ended other ∷ past) client key new = unknown-nothing past client key new
unknown-nothing (Subscribed sub ∷ past) client key new =
    unknown-nothing past client key (or_parts (has_key client key sub) (is_known past client key) new).1
unknown-nothing (Unsubscribed other id ∷ past) client key new = unknown-nothing past client key new
unknown-nothing (Sent notification record_number ∷ past) client key new =
    ap (λ o. offered_to o notification (happened past client key)) (unknown-absent past client key new) ∙ unknown-nothing past client key new
unknown-nothing (Receipted other number through ∷ past) client key new =
    let before = happened past client key in
    let mine = (client == other && key == number) in
    let gone : lasts past client key ≡ false = ap is_some (unknown-absent past client key new) in
    ap (λ b. cond b (happening.Receipted through ∷ before) before) (and_right mine (lasts past client key) gone) ∙ unknown-nothing past client key new

-- a new subscription has an empty queue
kept-new : (capacity : ℕ) (past : List NtfChange) (sub : Sub) → is_known past sub.client sub.key ≡ false → kept_of capacity past sub ≡ sub_with sub (empty_queue capacity)
kept-new capacity past sub new =
    ap (λ h. sub_with sub (queue_for capacity (account_of capacity h))) (unknown-nothing past sub.client sub.key new)

-- what is kept of the subscriptions is what the call makes of what was kept
subs-step : (capacity : ℕ) (change : NtfChange) (past : List NtfChange) → CanFollow change past → map (kept_of capacity (change ∷ past)) (subs (change ∷ past)) ≡ (after_change change (table_of capacity past)).subs
subs-step capacity (Began client) past can = refl
subs-step capacity (Ended client) past can =
    map-without (kept_of capacity past) (is_of client) (is_kept_for client) (λ sub. refl) (subs past)
subs-step capacity (Subscribed sub) past can =
    map-put (kept_of capacity past) comes_first kept_first (λ one other. refl) sub (subs past) ∙ ap (λ kept. put kept_first kept (map (kept_of capacity past) (subs past))) (kept-new capacity past sub can.new)
subs-step capacity (Unsubscribed client id) past can =
    map-without (kept_of capacity past) (has_id client id) (is_kept_under client id) (λ sub. refl) (subs past)
subs-step capacity (Sent notification record_number) past can =
    map-same (kept_of capacity (Sent notification record_number ∷ past)) (λ sub. offered_sub notification (kept_of capacity past sub)) (subs past) (kept-sent capacity past notification record_number) ∙ sym (map-twice (kept_of capacity past) (offered_sub notification) (subs past))
subs-step capacity (Receipted client key through) past can =
    map-same (kept_of capacity (Receipted client key through ∷ past)) (λ sub. received_sub client key through (kept_of capacity past sub)) (subs past) (kept-receipted capacity past client key through) ∙ sym (map-twice (kept_of capacity past) (received_sub client key through) (subs past))

-- the table with other subscriptions
abbrev with_subs : NtfTable → List Subscription → NtfTable
with_subs table kept = record {
  capacity = table.capacity;
  users = table.users;
  last_id = table.last_id;
  subs = kept;
}

-- what is kept after one more change is what the call makes of what was kept
pub table_of-step : (capacity : ℕ) (change : NtfChange) (past : List NtfChange) → CanFollow change past → table_of capacity (change ∷ past) ≡ after_change change (table_of capacity past)
table_of-step capacity (Began client) past can =
    ap (with_subs (after_change (Began client) (table_of capacity past))) (subs-step capacity (Began client) past can)
table_of-step capacity (Ended client) past can =
    ap (with_subs (after_change (Ended client) (table_of capacity past))) (subs-step capacity (Ended client) past can)
table_of-step capacity (Subscribed sub) past can =
    ap (with_subs (after_change (Subscribed sub) (table_of capacity past))) (subs-step capacity (Subscribed sub) past can)
table_of-step capacity (Unsubscribed client id) past can =
    ap (with_subs (after_change (Unsubscribed client id) (table_of capacity past))) (subs-step capacity (Unsubscribed client id) past can)
table_of-step capacity (Sent notification record_number) past can =
    ap (with_subs (after_change (Sent notification record_number) (table_of capacity past))) (subs-step capacity (Sent notification record_number) past can)
table_of-step capacity (Receipted client key through) past can =
    ap (with_subs (after_change (Receipted client key through) (table_of capacity past))) (subs-step capacity (Receipted client key through) past can)

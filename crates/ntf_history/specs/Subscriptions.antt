-- Words of public clauses: subscriptions, and all that happened to each.
use Rattle.std.specs.Prelude.{◌≡◌, ℕ, ◌==◌, nat_lt, Bool, false, ◌&&◌, ◌||◌, if◌then◌else◌, List, [], ◌∷◌, ◌++◌, Option, Some, None, is_some, find, filter}
use Rattle.std.specs.List.{flat_map}
use Rattle.ntf_types.specs.declared.notification.Notification.{Notification}
use Rattle.ntf_filters.specs.Matching.{matches}
use Rattle.sub_queue.specs.declared.item.Lost.{Lost}
use Rattle.sub_queue.specs.declared.item.Content.{Content}
use Rattle.sub_queue.specs.declared.item.Content.TheVariants.{Notified, Discarded}
use Rattle.sub_queue.specs.History.{Happening, Account, account_of, has_place, is_new_receipt}
use Rattle.sub_queue.specs.History.{Happening as happening}
use Rattle.client_set.specs.Rising.{put, without}
use Rattle.ntf_history.specs.Changes.{Sub, NtfChange}
use Rattle.ntf_history.specs.Changes.NtfChange.{Ended, Subscribed, Unsubscribed, Sent, Receipted}

-- whether a subscription has this client and this key
abbrev pub has_key : ℕ → ℕ → Sub → Bool
has_key client key sub = sub.client == client && sub.key == key

-- whether a subscription has this client and this id
abbrev pub has_id : ℕ → ℕ → Sub → Bool
has_id client id sub = sub.client == client && sub.id == id

-- whether a subscription is the client's
abbrev pub is_of : ℕ → Sub → Bool
is_of client sub = sub.client == client

-- the first client and key come before the second: the client is lower, or it is the same and the key is lower
abbrev pub key_first : ℕ → ℕ → ℕ → ℕ → Bool
key_first client key other number = nat_lt client other || (client == other && nat_lt key number)

-- subscriptions stand in order of their clients, and those of one client in order of their keys
abbrev pub comes_first : Sub → Sub → Bool
comes_first one other = key_first one.client one.key other.client other.key

-- the subscriptions that last, in order
abbrev pub subs : List NtfChange → List Sub
subs [] = []
subs (Subscribed sub ∷ past) = put comes_first sub (subs past)
subs (Unsubscribed client id ∷ past) = without (has_id client id) (subs past)
subs (Ended client ∷ past) = without (is_of client) (subs past)
subs (_ ∷ past) = subs past

-- the subscription of this client and key, while it lasts
abbrev pub sub_at : List NtfChange → ℕ → ℕ → Option Sub
sub_at past client key = find (has_key client key) (subs past)

-- whether the subscription of this client and key lasts
abbrev pub lasts : List NtfChange → ℕ → ℕ → Bool
lasts past client key = is_some (sub_at past client key)

-- what a notification adds to what happened to a subscription, if it lasts: it was offered where it matches
abbrev pub offered_to : Option Sub → Notification → List Happening → List Happening
offered_to None notification before = before
offered_to (Some sub) notification before =
    if matches sub.filters notification then happening.Offered notification ∷ before else before

-- all that happened to the subscription of this client and key, newest first
abbrev pub happened : List NtfChange → ℕ → ℕ → List Happening
happened [] client key = []
happened (Sent notification record_number ∷ past) client key =
    offered_to (sub_at past client key) notification (happened past client key)
happened (Receipted other number through ∷ past) client key =
    if client == other && key == number && lasts past client key then happening.Receipted through ∷ happened past client key else happened past client key
happened (_ ∷ past) client key = happened past client key

-- what the subscription of this client and key has come to, by the capacity of queues
abbrev pub account : ℕ → List NtfChange → ℕ → ℕ → Account
account capacity past client key = account_of capacity (happened past client key)

-- what all items ever made for the subscription hold, the first being number 1
abbrev pub made : ℕ → List NtfChange → ℕ → ℕ → List Content
made capacity past client key = (account capacity past client key).made

-- what was lost of it since the last of these items
abbrev pub lost_of : ℕ → List NtfChange → ℕ → ℕ → List Lost
lost_of capacity past client key = (account capacity past client key).lost

-- the number through which its items have a receipt
abbrev pub through_of : ℕ → List NtfChange → ℕ → ℕ → ℕ
through_of capacity past client key = (account capacity past client key).through

-- a receipt is new where the subscription lasts and its number is that of an item without receipt
abbrev pub is_new : ℕ → List NtfChange → ℕ → ℕ → ℕ → Bool
is_new capacity past client key through =
    lasts past client key && is_new_receipt through (account capacity past client key)

-- whether a subscription of this client and key was ever made
abbrev pub is_known : List NtfChange → ℕ → ℕ → Bool
is_known [] client key = false
is_known (Subscribed sub ∷ past) client key = has_key client key sub || is_known past client key
is_known (_ ∷ past) client key = is_known past client key

-- the notifications that were sent since the subscription of this client and key was made, in order of time
abbrev pub sent_since : List NtfChange → ℕ → ℕ → List Notification
sent_since [] client key = []
sent_since (Subscribed sub ∷ past) client key = if has_key client key sub then [] else sent_since past client key
sent_since (Sent notification record_number ∷ past) client key = sent_since past client key ++ notification ∷ []
sent_since (_ ∷ past) client key = sent_since past client key

-- those of them for which a subscription asks
abbrev pub asked_since : List NtfChange → Sub → List Notification
asked_since past sub = filter (matches sub.filters) (sent_since past sub.client sub.key)

-- a notification, if there is a subscription that asks for it
abbrev pub asked_by : Option Sub → Notification → List Notification
asked_by None notification = []
asked_by (Some sub) notification = if matches sub.filters notification then notification ∷ [] else []

-- the notifications for which the subscription of this client and key asked, of those sent while it lasted, in order of time
abbrev pub asked_while : List NtfChange → ℕ → ℕ → List Notification
asked_while [] client key = []
asked_while (Sent notification record_number ∷ past) client key =
    asked_while past client key ++ asked_by (sub_at past client key) notification
asked_while (_ ∷ past) client key = asked_while past client key

-- those of them that were dropped: as they came, as many items as the capacity were without receipt
abbrev pub dropped_while : ℕ → List NtfChange → ℕ → ℕ → List Notification
dropped_while capacity [] client key = []
dropped_while capacity (Sent notification record_number ∷ past) client key =
    dropped_while capacity past client key
    ++ (if has_place capacity (account capacity past client key) then [] else asked_by (sub_at past client key) notification)
dropped_while capacity (_ ∷ past) client key = dropped_while capacity past client key

-- what is told as lost in an item, and in items, in order
abbrev pub losses_of : Content → List Lost
losses_of (Notified notification) = []
losses_of (Discarded lost) = lost

abbrev pub losses_in : List Content → List Lost
losses_in contents = flat_map losses_of contents

-- one list is another with more behind it
pub record Extends {X : Type 0} (before after : List X) : Type 0 where
  pub more : List X
  pub is : after ≡ before ++ more

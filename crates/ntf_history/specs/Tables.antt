-- Words of public clauses: what the service keeps, what each call makes of it, and what it is after all that changed.
use Rattle.std.specs.Prelude.{◌≡◌, ℕ, ◌+◌, ◌==◌, ◌≤◌, nat_lt, nat_le, Bool, false, ◌&&◌, ⊤, if◌then◌else◌, List, [], ◌∷◌, length, map, Option, Some, None, find}
use Rattle.ntf_types.specs.declared.notification.Notification.{Notification}
use Rattle.ntf_filters.specs.Matching.{matches}
use Rattle.sub_queue.specs.Queue.{Queue, IsCapacity, IsSound, empty_queue, next_number, offered, received}
use Rattle.sub_queue.specs.History.{queue_for}
use Rattle.client_set.specs.Rising.{put, without, IsRising}
use Rattle.ntf_history.specs.Kept.{Subscription}
use Rattle.ntf_history.specs.Changes.{Sub, NtfChange, users, last_id}
use Rattle.ntf_history.specs.Changes.NtfChange.{Began, Ended, Subscribed, Unsubscribed, Sent, Receipted}
use Rattle.ntf_history.specs.Subscriptions.{key_first, subs, account}

-- the capacity of queues, the clients that use the service, the last id that was given, and the subscriptions that last
pub record NtfTable : Type 0 where
  pub capacity : ℕ
  pub users : List ℕ
  pub last_id : ℕ
  pub subs : List Subscription

-- a subscription with its queue
abbrev pub sub_with : Sub → Queue → Subscription
sub_with sub queue = record {
  client = sub.client;
  key = sub.key;
  id = sub.id;
  filters = sub.filters;
  queue = queue;
}

-- the same subscription with another queue
abbrev pub requeued : Subscription → Queue → Subscription
requeued kept queue = record {
  client = kept.client;
  key = kept.key;
  id = kept.id;
  filters = kept.filters;
  queue = queue;
}

-- whether a subscription is of this client and this key
abbrev pub is_kept_at : ℕ → ℕ → Subscription → Bool
is_kept_at client key kept = kept.client == client && kept.key == key

-- whether a subscription is of this client and this id
abbrev pub is_kept_under : ℕ → ℕ → Subscription → Bool
is_kept_under client id kept = kept.client == client && kept.id == id

-- whether a subscription is the client's
abbrev pub is_kept_for : ℕ → Subscription → Bool
is_kept_for client kept = kept.client == client

-- kept subscriptions stand in order of their clients, and those of one client in order of their keys
abbrev pub kept_first : Subscription → Subscription → Bool
kept_first one other = key_first one.client one.key other.client other.key

-- a queue has an item of this number
abbrev pub has_item : ℕ → Queue → Bool
has_item number queue = nat_le queue.first number && nat_lt number (next_number queue)

-- a notification is offered to a subscription that asks for it
abbrev pub offered_sub : Notification → Subscription → Subscription
offered_sub notification kept =
    requeued kept (if matches kept.filters notification then offered notification kept.queue else kept.queue)

-- a receipt reaches the subscription of its client and key, if the queue has the item
abbrev pub received_sub : ℕ → ℕ → ℕ → Subscription → Subscription
received_sub client key through kept =
    requeued kept (if is_kept_at client key kept && has_item through kept.queue then received through kept.queue else kept.queue)

-- each subscription has a queue of this capacity that can be rebuilt
abbrev pub HaveQueues : ℕ → List Subscription → Type 0
HaveQueues capacity [] = ⊤
HaveQueues capacity (kept ∷ others) =
    (kept.queue.capacity ≡ capacity) × IsSound kept.queue × HaveQueues capacity others

-- what holds of a table that the service keeps
pub record IsSoundTable (table : NtfTable) : Type 0 where
  pub capacity : IsCapacity table.capacity
  pub users : IsRising nat_lt table.users
  pub order : IsRising kept_first table.subs
  pub queues : HaveQueues table.capacity table.subs
  pub few : length table.subs ≤ 64

-- the table of these parts
abbrev pub table_with : ℕ → List ℕ → ℕ → List Subscription → NtfTable
table_with capacity users last_id kept = record {
  capacity = capacity;
  users = users;
  last_id = last_id;
  subs = kept;
}

-- the table of a service that nobody has used
abbrev pub empty_table : ℕ → NtfTable
empty_table capacity = table_with capacity [] 0 []

-- whether a receipt through a number is new for a subscription, if there is one
abbrev pub is_new_for : Option Subscription → ℕ → Bool
is_new_for None through = false
is_new_for (Some kept) through = has_item through kept.queue

-- whether a receipt is new: the subscription lasts, and its queue has the item
abbrev pub is_new_in : NtfTable → ℕ → ℕ → ℕ → Bool
is_new_in table client key through = is_new_for (find (is_kept_at client key) table.subs) through

-- the same notification with an id
abbrev pub with_id : ℕ → Notification → Notification
with_id id notification = record {
  id = id;
  event_type = notification.event_type;
  object = notification.object;
  notifier = notification.notifier;
  class = notification.class;
  event_time = notification.event_time;
  correlated = notification.correlated;
  text = notification.text;
  info = notification.info;
  body = notification.body;
}

-- what each call makes of the table

abbrev pub after_begin : ℕ → NtfTable → NtfTable
after_begin client table = record {
  capacity = table.capacity;
  users = put nat_lt client table.users;
  last_id = table.last_id;
  subs = table.subs;
}

abbrev pub after_end : ℕ → NtfTable → NtfTable
after_end client table = record {
  capacity = table.capacity;
  users = without (λ other. other == client) table.users;
  last_id = table.last_id;
  subs = without (is_kept_for client) table.subs;
}

abbrev pub after_subscribe : Sub → NtfTable → NtfTable
after_subscribe sub table = record {
  capacity = table.capacity;
  users = table.users;
  last_id = table.last_id;
  subs = put kept_first (sub_with sub (empty_queue table.capacity)) table.subs;
}

abbrev pub after_unsubscribe : ℕ → ℕ → NtfTable → NtfTable
after_unsubscribe client id table = record {
  capacity = table.capacity;
  users = table.users;
  last_id = table.last_id;
  subs = without (is_kept_under client id) table.subs;
}

abbrev pub after_send : Notification → NtfTable → NtfTable
after_send notification table = record {
  capacity = table.capacity;
  users = table.users;
  last_id = table.last_id + 1;
  subs = map (offered_sub notification) table.subs;
}

abbrev pub after_receipt : ℕ → ℕ → ℕ → NtfTable → NtfTable
after_receipt client key through table = record {
  capacity = table.capacity;
  users = table.users;
  last_id = table.last_id;
  subs = map (received_sub client key through) table.subs;
}

abbrev pub after_change : NtfChange → NtfTable → NtfTable
after_change (Began client) table = after_begin client table
after_change (Ended client) table = after_end client table
after_change (Subscribed sub) table = after_subscribe sub table
after_change (Unsubscribed client id) table = after_unsubscribe client id table
after_change (Sent notification record_number) table = after_send notification table
after_change (Receipted client key through) table = after_receipt client key through table

-- a subscription as it is kept after all that happened to it
abbrev pub kept_of : ℕ → List NtfChange → Sub → Subscription
kept_of capacity past sub = sub_with sub (queue_for capacity (account capacity past sub.client sub.key))

-- what is kept after all that changed
abbrev pub table_of : ℕ → List NtfChange → NtfTable
table_of capacity past = record {
  capacity = capacity;
  users = users past;
  last_id = last_id past;
  subs = map (kept_of capacity past) (subs past);
}

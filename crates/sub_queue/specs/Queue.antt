-- Words of public clauses: a subscription's queue as its calls see it, and what each call makes of it.
use Rattle.std.specs.Prelude.{◌≡◌, ℕ, ◌+◌, ◌-◌, ◌<◌, ◌≤◌, ◌⊎◌, Bool, nat_lt, if◌then◌else◌, List, [], ◌∷◌, ◌++◌, length, drop}
use Rattle.ntf_types.specs.declared.notification.Notification.{Notification}
use Rattle.sub_queue.specs.declared.item.Lost.{Lost}
use Rattle.sub_queue.specs.declared.item.Content.{Content}
use Rattle.sub_queue.specs.declared.item.Content.TheVariants.{Notified}
use Rattle.sub_queue.specs.Items.{mark_of, discarded}

-- how many items may be without receipt, the number of the first of them, what they hold, and what was lost since
pub record Queue : Type 0 where
  pub capacity : ℕ
  pub first : ℕ
  pub held : List Content
  pub lost : List Lost

-- a queue, and for how many notifications more there is room
pub record KeptQueue : Type 0 where
  pub queue : Queue
  pub spare : ℕ

abbrev pub queue_of_parts : ℕ → ℕ → List Content → List Lost → Queue
queue_of_parts capacity first held lost =
    record { capacity = capacity; first = first; held = held; lost = lost }

-- the queue of a new subscription
abbrev pub empty_queue : ℕ → Queue
empty_queue capacity = queue_of_parts capacity 1 [] []

-- the number of the next item
abbrev pub next_number : Queue → ℕ
next_number queue = queue.first + length queue.held

-- fewer than 4,294,967,294 items were numbered, so that the next has a number and another may follow
abbrev pub HasNumberLeft : Queue → Type 0
HasNumberLeft queue = next_number queue < 4294967295

-- a place is free
abbrev pub has_room : Queue → Bool
has_room queue = nat_lt (length queue.held) queue.capacity

-- a notification becomes the next item where a place is free; otherwise it is lost
abbrev pub offered : Notification → Queue → Queue
offered notification queue = record {
  capacity = queue.capacity;
  first = queue.first;
  held = if has_room queue then queue.held ++ Notified notification ∷ [] else queue.held;
  lost = if has_room queue then queue.lost else queue.lost ++ mark_of notification ∷ [];
}

-- a mark joins those lost
abbrev pub with_lost : Lost → Queue → Queue
with_lost mark queue = queue_of_parts queue.capacity queue.first queue.held (queue.lost ++ mark ∷ [])

-- a receipt is new where its number is that of an item without receipt
pub record IsNew (through : ℕ) (queue : Queue) : Type 0 where
  pub from : queue.first ≤ through
  pub below : through < next_number queue

-- a receipt removes the items through its number; where some were lost, one item more holds them all
abbrev pub received : ℕ → Queue → Queue
received through queue = record {
  capacity = queue.capacity;
  first = through + 1;
  held = drop (through + 1 - queue.first) queue.held ++ discarded queue.lost;
  lost = [];
}

-- a capacity is 1 to 256
pub record IsCapacity (capacity : ℕ) : Type 0 where
  pub some : 1 ≤ capacity
  pub most : capacity ≤ 256

-- what holds of each queue: its items have numbers and places, and something is lost only while all places are taken
pub record IsSound (queue : Queue) : Type 0 where
  pub capacity : IsCapacity queue.capacity
  pub first : 1 ≤ queue.first
  pub numbers : next_number queue ≤ 4294967295
  pub places : length queue.held ≤ queue.capacity
  pub lost : (queue.lost ≡ []) ⊎ (length queue.held ≡ queue.capacity)

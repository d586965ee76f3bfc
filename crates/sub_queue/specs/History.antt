-- Words of public clauses, those of the laws: one subscription by what happened to it, what was offered and which receipts came.
use Rattle.std.specs.Prelude.{ℕ, ◌+◌, ◌-◌, Bool, ◌&&◌, nat_lt, nat_le, if◌then◌else◌, List, [], ◌∷◌, ◌++◌, length, drop}
use Rattle.ntf_types.specs.declared.notification.Notification.{Notification}
use Rattle.sub_queue.specs.declared.item.Lost.{Lost}
use Rattle.sub_queue.specs.declared.item.Content.{Content}
use Rattle.sub_queue.specs.declared.item.Content.TheVariants.{Notified}
use Rattle.sub_queue.specs.Items.{mark_of, discarded}
use Rattle.sub_queue.specs.Queue.{Queue}

-- a matching notification was offered, or a receipt through a number came
pub data Happening : Type 0 where
  Offered : (notification : Notification) → Happening
  Receipted : (through : ℕ) → Happening

-- what all items ever made hold, the first made being number 1; the number through which they have a receipt; what was lost since the last was made
pub record Account : Type 0 where
  pub made : List Content
  pub through : ℕ
  pub lost : List Lost

-- fewer items than the capacity are without receipt
abbrev pub has_place : ℕ → Account → Bool
has_place capacity account = nat_lt (length account.made - account.through) capacity

-- a receipt is new where its number is that of an item without receipt
abbrev pub is_new_receipt : ℕ → Account → Bool
is_new_receipt through account = nat_lt account.through through && nat_le through (length account.made)

-- a notification is the next item where a place is free, and otherwise lost
abbrev pub after_offer : ℕ → Notification → Account → Account
after_offer capacity notification account =
    let place = has_place capacity account in
    record {
      made = if place then account.made ++ Notified notification ∷ [] else account.made;
      through = account.through;
      lost = if place then account.lost else account.lost ++ mark_of notification ∷ [];
    }

-- a new receipt counts, and where something was lost, one item more holds it all; another receipt changes nothing
abbrev pub after_receipt : ℕ → Account → Account
after_receipt through account =
    let new = is_new_receipt through account in
    record {
      made = if new then account.made ++ discarded account.lost else account.made;
      through = if new then through else account.through;
      lost = if new then [] else account.lost;
    }

-- what a subscription has come to, by its capacity and all that happened to it, the newest first
abbrev pub account_of : ℕ → List Happening → Account
account_of capacity [] = record { made = []; through = 0; lost = [] }
account_of capacity (Offered notification ∷ past) = after_offer capacity notification (account_of capacity past)
account_of capacity (Receipted through ∷ past) = after_receipt through (account_of capacity past)

-- the marks of what was offered, in order of time
abbrev pub marks_offered : List Happening → List Lost
marks_offered [] = []
marks_offered (Offered notification ∷ past) = marks_offered past ++ mark_of notification ∷ []
marks_offered (Receipted through ∷ past) = marks_offered past

-- the queue that stands for an account: an item is held where its number is above that of the last receipt
abbrev pub queue_for : ℕ → Account → Queue
queue_for capacity account = record {
  capacity = capacity;
  first = account.through + 1;
  held = drop account.through account.made;
  lost = account.lost;
}

-- Words of public clauses: the items that subscriptions hold, and which receipts are new.
use Rattle.std.specs.Prelude.{◌≡◌, ℕ, suc, ◌+◌, ◌<◌, ◌≤◌, Bool, true, false, ◌⊎◌, Some, List, ◌∷◌, drop, map, slice_get}
use Rattle.std.specs.List.{flat_map}
use Rattle.sub_queue.specs.declared.item.Content.{Content}
use Rattle.sub_queue.specs.declared.item.Item.{Item}
use Rattle.sub_queue.specs.Items.{numbered}
use Rattle.calls.specs.declared.entry.Entry.{Entry}
use Rattle.calls.specs.declared.entry.Entry.TheVariants.{Called, Receipted}
use Rattle.calls.specs.declared.entry.Held.{Held}
use Rattle.ntf_history.specs.Changes.{Sub, NtfChange}
use Rattle.ntf_history.specs.Subscriptions.{subs, lasts, made, through_of, is_new}
use Rattle.plain_service.specs.Setups.{Setup}
use Rattle.plain_service.specs.Changing.{past_of}

-- an item of a subscription
abbrev pub held_for : (client key : ℕ) → Item → Held
held_for client key item = record { client = client; key = key; item = item }

-- the items of a subscription without receipt, in order of their numbers
abbrev pub items_for : (capacity : ℕ) → List NtfChange → Sub → List Held
items_for capacity past sub =
    map (held_for sub.client sub.key)
    (numbered (through_of capacity past sub.client sub.key + 1)
    (drop (through_of capacity past sub.client sub.key) (made capacity past sub.client sub.key)))

-- the items of all subscriptions that last, in order of client, key and number
abbrev pub items_after : (capacity : ℕ) → List NtfChange → List Held
items_after capacity past = flat_map (items_for capacity past) (subs past)

-- the items held after a history
unfoldable pub items_of : Setup → List Entry → List Held
items_of setup past = items_after setup.capacity (past_of setup past).ntf

-- what all items hold that were ever made for the subscription of this client and key, the first being number 1
unfoldable pub made_for : Setup → List Entry → (client key : ℕ) → List Content
made_for setup past client key = made setup.capacity (past_of setup past).ntf client key

-- the number of the item through which that subscription has a receipt
unfoldable pub through_for : Setup → List Entry → (client key : ℕ) → ℕ
through_for setup past client key = through_of setup.capacity (past_of setup past).ntf client key

-- whether that subscription lasts
unfoldable pub lasts_for : Setup → List Entry → (client key : ℕ) → Bool
lasts_for setup past client key = lasts (past_of setup past).ntf client key

-- a receipt is new where the subscription lasts and its number is that of an item without receipt
unfoldable pub is_new_receipt : Setup → List Entry → (client key through : ℕ) → Bool
is_new_receipt setup past client key through = is_new setup.capacity (past_of setup past).ntf client key through

-- an item that was made, under its number, for a subscription that lasts, and has no receipt
pub record IsHeldItem (setup : Setup) (past : List Entry) (held : Held) : Type 0 where
  pub lasting : lasts_for setup past held.client held.key ≡ true
  pub above : through_for setup past held.client held.key < held.item.number
  pub before : ℕ
  pub numbered : held.item.number ≡ suc before
  pub made : slice_get (made_for setup past held.client held.key) before ≡ Some held.item.content

-- the entry is a receipt for the item, through its number or a later one
abbrev pub IsReceipt : Entry → Held → Type 0
IsReceipt (Called client seq now call) held = ⊥
IsReceipt (Receipted client key through now) held =
    (client ≡ held.client) × (key ≡ held.key) × (held.item.number ≤ through)

-- an item leaves with its subscription, or by a receipt
abbrev pub Leaves : Setup → Entry → List Entry → Held → Type 0
Leaves setup entry past held = (lasts_for setup (entry ∷ past) held.client held.key ≡ false) ⊎ IsReceipt entry held

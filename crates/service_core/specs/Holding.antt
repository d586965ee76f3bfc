-- Words of bodies alone: the items that subscriptions hold.
use Rattle.std.specs.Prelude.{ℕ, List, [], map, slice_get}
use Rattle.std.specs.List.{flat_map}
use Rattle.std.specs.Option.{option_map_or}
use Rattle.sub_queue.specs.declared.item.Content.{Content}
use Rattle.sub_queue.specs.declared.item.Item.{Item}
use Rattle.sub_queue.specs.Items.{numbered}
use Rattle.calls.specs.declared.entry.Held.{Held}
use Rattle.ntf_history.specs.Kept.{Subscription}
use Rattle.ntf_history.specs.Tables.{NtfTable}
use Rattle.plain_service.specs.Items.{held_for}

abbrev pub contents_in : List Item → List Content
contents_in items = map (λ (item : Item). item.content) items

-- the items of a subscription
abbrev pub items_by : Subscription → List Held
items_by sub = map (held_for sub.client sub.key) (numbered sub.queue.first sub.queue.held)

-- the items of the subscription at a place, if there is one
abbrev pub items_at : List Subscription → ℕ → List Held
items_at subs place = option_map_or items_by (slice_get subs place) []

-- the items of all subscriptions
abbrev pub items_in : NtfTable → List Held
items_in kept = flat_map items_by kept.subs

-- The items that subscriptions hold are those of the history.
use Rattle.std.proofs.Common.{◌≡◌, ℕ, ◌+◌, List, [], ◌∷◌, ◌++◌, map, refl, ap, ◌∙◌}
use Rattle.std.specs.List.{flat_map}
use Rattle.sub_queue.specs.declared.item.Content.{Content}
use Rattle.sub_queue.specs.Items.{numbered}
use Rattle.calls.specs.declared.entry.Entry.{Entry}
use Rattle.ntf_history.specs.Kept.{Subscription}
use Rattle.ntf_history.specs.Changes.{Sub, NtfChange}
use Rattle.ntf_history.specs.Subscriptions.{subs}
use Rattle.ntf_history.specs.Tables.{HaveQueues, kept_of}
use Rattle.plain_service.specs.Setups.{Setup}
use Rattle.plain_service.specs.Changing.{past_of}
use Rattle.plain_service.specs.Items.{items_for, items_of}
use Rattle.plain_service.specs.Values.{StandsFor}
use Rattle.service_table.specs.Tables.{ServiceTable, saved_queue, saved_table}
use Rattle.service_table.specs.Histories.{service_of}
use Rattle.service_table.proofs.SavedLaws.{stands-table}
use Rattle.service_core.specs.Holding.{contents_in, items_by, items_in}
use Rattle.service_core.specs.Valuing.{items_of_sub}

pub contents-numbered : (number : ℕ) (contents : List Content) → contents_in (numbered number contents) ≡ contents
contents-numbered number [] = refl
contents-numbered number (content ∷ contents) =
    ap (λ rest. content ∷ rest) (contents-numbered (number + 1) contents)

-- **the items of a value**
pub items-saved : (subs : List Subscription) → flat_map items_of_sub (map saved_queue subs) ≡ flat_map items_by subs
items-saved [] = refl
items-saved (sub ∷ subs) = ap (λ rest. items_by sub ++ rest) (items-saved subs)

items-by-history : (capacity : ℕ) (past : List NtfChange) (lasting : List Sub) → flat_map items_by (map (kept_of capacity past) lasting) ≡ flat_map (items_for capacity past) lasting
items-by-history capacity past [] = refl
items-by-history capacity past (sub ∷ lasting) =
    ap (λ rest. items_for capacity past sub ++ rest) (items-by-history capacity past lasting)

items-are : (setup : Setup) (entries : List Entry) → items_in (service_of setup entries).ntf ≡ items_of setup entries
unfolding service_of items_of
items-are setup entries =
    items-by-history setup.capacity (past_of setup entries).ntf (subs (past_of setup entries).ntf)

-- **the items of a table whose value stands for a history**
pub items-stand : (setup : Setup) (entries : List Entry) (kept : ServiceTable) → HaveQueues kept.ntf.capacity kept.ntf.subs → StandsFor setup entries (saved_table kept) → items_in kept.ntf ≡ items_of setup entries
items-stand setup entries kept queues stands =
    ap (λ (table : ServiceTable). items_in table.ntf) (stands-table setup entries kept queues stands)
    ∙ items-are setup entries

-- Words of public clauses: what a service tells of its value, and what an entry makes of it.
use Rattle.std.specs.Prelude.{◌≡◌, ℕ, ◌==◌, List, [], map, Option, Some, None, find}
use Rattle.std.specs.Option.{option_map_or}
use Rattle.std.specs.List.{flat_map}
use Rattle.stream_layout.specs.declared.deed.Deed.{Deed}
use Rattle.client_window.specs.Windows.{Kept, window_of, window_of_parts}
use Rattle.sub_queue.specs.Items.{numbered}
use Rattle.calls.specs.declared.entry.Entry.{Entry}
use Rattle.calls.specs.declared.entry.Entry.TheVariants.{Called, Receipted}
use Rattle.calls.specs.declared.entry.Held.{Held}
use Rattle.calls.specs.declared.reply.Reply.{Reply}
use Rattle.calls.specs.declared.saved.Saved.{Saved}
use Rattle.calls.specs.declared.saved.SavedSub.{SavedSub}
use Rattle.calls.specs.declared.saved.SavedWindow.{SavedWindow}
use Rattle.log_history.specs.Deeds.{deeds_of_all}
use Rattle.plain_service.specs.Items.{held_for}
use Rattle.service_table.specs.Tables.{saved_table, table_of_saved}
use Rattle.service_table.specs.Answering.{reply_in}
use Rattle.service_table.specs.Steps.{after_call, after_receipt_in, events_in}
use Rattle.service_core.specs.declared.effect.Effect.{Effect}

-- the window of a client's calls: that of the value, or one of no call
abbrev pub window_in : Saved → (client : ℕ) → Kept Reply
window_in saved client =
    option_map_or (λ (window : SavedWindow). window_of_parts window.next window.replies)
    (find (λ (window : SavedWindow). window.client == client) saved.windows) (window_of [])

-- the items that a subscription holds, under their numbers
abbrev pub items_of_sub : SavedSub → List Held
items_of_sub sub = map (held_for sub.client sub.key) (numbered sub.first sub.held)

-- the items that all subscriptions hold
abbrev pub items_held : Saved → List Held
items_held saved = flat_map items_of_sub saved.subs

-- what an entry makes of a value
abbrev pub value_after : Entry → Saved → Saved
value_after (Called client seq now call) saved = saved_table (after_call (table_of_saved saved) client seq now call)
value_after (Receipted client key through now) saved =
    saved_table (after_receipt_in (table_of_saved saved) client key through)

-- the reply to an entry, which a receipt has none of
abbrev pub reply_by_value : Entry → Saved → Option Reply
reply_by_value (Called client seq now call) saved = Some (reply_in (table_of_saved saved) client now call)
reply_by_value (Receipted client key through now) saved = None

-- and its deeds, in order
abbrev pub deeds_by_value : Entry → Saved → List Deed
deeds_by_value (Called client seq now call) saved = deeds_of_all (events_in (table_of_saved saved) client now call)
deeds_by_value (Receipted client key through now) saved = []

-- an entry was applied to a value
pub record Applies (entry : Entry) (before after : Saved) (effect : Effect) : Type 0 where
  pub value : after ≡ value_after entry before
  pub reply : effect.reply ≡ reply_by_value entry before
  pub deeds : effect.deeds ≡ deeds_by_value entry before

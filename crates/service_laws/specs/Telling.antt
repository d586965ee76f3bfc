-- Words of public clauses: of which sends the callbacks of a subscription tell.
use Rattle.std.specs.Prelude.{List, [], ◌∷◌, ℕ}
use Rattle.std.specs.List.{flat_map}
use Rattle.client_set.specs.Rising.{IsRising}
use Rattle.sub_queue.specs.declared.item.Lost.{Lost}
use Rattle.sub_queue.specs.Items.{mark_of}
use Rattle.calls.specs.declared.call.Call.{Call}
use Rattle.calls.specs.declared.entry.Entry.{Entry}
use Rattle.calls.specs.declared.reply.Callback.{Callback}
use Rattle.calls.specs.declared.reply.Callback.TheVariants.{Written, Notified, Discarded, FilterSet}
use Rattle.ntf_history.specs.Subscriptions.{Extends}
use Rattle.plain_service.specs.Setups.{Setup}
use Rattle.plain_service.specs.Asked.{sends_asked, sends_dropped, lower_id}
use Rattle.cluster_facts.specs.Lists.{IsNumbered, IsCounted}
use Rattle.cluster_facts.specs.Facts.{Fits, IsToldItem}
use Rattle.cluster_events.specs.Taking.{items_in, taken_of, in_order}
use Rattle.service_laws.specs.PlainOf.{plain_of}

-- the marks of the notifications that a callback tells, by themselves or as lost, in order
abbrev pub marks_told : Callback → List Lost
marks_told (Written invocation status) = []
marks_told (FilterSet name mask written) = []
marks_told (Notified id notification) = mark_of notification ∷ []
marks_told (Discarded id lost) = lost

-- the marks that it tells as lost
abbrev pub losses_told : Callback → List Lost
losses_told (Discarded id lost) = lost
losses_told _ = []

-- callbacks, the first one first, tell of the first ok sends for which the subscription of this client and key asked while it lasted, in order; what they
-- tell as lost are the first of those that were dropped; and no send is told twice, since the ids rise
pub record TellSends (setup : Setup) (past : List Entry) (client key : ℕ) (callbacks : List Callback) : Type 0 where
  pub asked : Extends (flat_map marks_told callbacks) (sends_asked setup past client key)
  pub dropped : Extends (flat_map losses_told callbacks) (sends_dropped setup past client key)
  pub once : IsRising lower_id (flat_map marks_told callbacks)

-- what a client of these calls was fed are the callbacks of the items with these marks, a subscription's key and a number that goes
-- through 1, 2, 3 and so on of each, with those of replies between them; the newest comes first
pub record IsFedBy (setup : Setup) (past : List Entry) (sent : List (ℕ × Call)) (client : ℕ) (marks : List (ℕ × ℕ)) (fed : List Callback) : Type 0 where
  pub numbered : IsNumbered sent
  pub counted : IsCounted marks
  pub items : Fits (IsToldItem (plain_of setup) past sent client) marks fed

-- those of them that came of the subscription of this key, the first one first; each callback of an item has its mark, so none is
-- left out
abbrev pub callbacks_of : (key : ℕ) → (marks : List (ℕ × ℕ)) → (fed : List Callback) → List Callback
callbacks_of key marks fed = in_order (taken_of key marks (items_in fed))

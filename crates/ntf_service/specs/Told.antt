-- Words of public clauses: what is told of the subscriptions that are kept, and for how many sends more there is room.
use Rattle.std.specs.Prelude.{ℕ, ◌≤◌, min, List, [], ◌∷◌, map}
use Rattle.ntf_history.specs.Kept.{Subscription}
use Rattle.ntf_history.specs.Tables.{NtfTable}
use Rattle.ntf_service.specs.declared.subscription.Subscription.{Subscription as KeptSub}

-- a subscription with its queue, whatever room there is in that
abbrev pub told : KeptSub → Subscription
told kept = record {
  client = kept.client;
  key = kept.key;
  id = kept.id;
  filters = kept.filters;
  queue = kept.queue.queue;
}

abbrev pub all_told : List KeptSub → List Subscription
all_told subs = map told subs

-- its queue has room for a notification more
abbrev pub HasRoom : KeptSub → Type 0
HasRoom kept = 1 ≤ kept.queue.spare

-- room for a send is room in each queue, so there is no more than in the one with the least, and for one where there is none
abbrev pub spare_in : List KeptSub → ℕ
spare_in [] = 1
spare_in (kept ∷ others) = min kept.queue.spare (spare_in others)

-- what is kept, and for how many sends more there is room
pub record KeptNtf : Type 0 where
  pub table : NtfTable
  pub spare : ℕ

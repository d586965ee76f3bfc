-- Words of public clauses: a subscription as it is kept.
use Rattle.std.specs.Prelude.{ℕ}
use Rattle.ntf_filters.specs.declared.filter.FilterSet.{FilterSet}
use Rattle.sub_queue.specs.Queue.{Queue}

-- a subscription: its client, its key, which is the number of the client's call that made it, the id that the client gave it, what it asks for, and its queue
pub record Subscription : Type 0 where
  pub client : ℕ
  pub key : ℕ
  pub id : ℕ
  pub filters : FilterSet
  pub queue : Queue

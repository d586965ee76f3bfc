-- Words of public clauses: what an entry finds that leaves a fit value.
use Rattle.std.specs.Prelude.{◌≡◌, ℕ, ◌<◌, ℤ}
use Rattle.ais_values.specs.Bounds.{most_entries}
use Rattle.ntf_history.specs.Tables.{HaveQueues}
use Rattle.plain_service.specs.Setups.{IsMoment}
use Rattle.plain_service.specs.Fitness.{IsFit}
use Rattle.plain_service.specs.Legal.{IsClient}
use Rattle.service_table.specs.Tables.{ServiceTable, saved_table}
use Rattle.service_table.specs.Steps.{window_for}

-- the table of a fit value, after fewer than 4,000,000,000 entries; each queue has the capacity of the value
pub record CanGoOn (kept : ServiceTable) : Type 0 where
  pub queues : HaveQueues kept.ntf.capacity kept.ntf.subs
  pub fit : IsFit (saved_table kept)
  pub few : kept.number < most_entries

-- a client's next call can come at a moment
pub record CanComeNext (kept : ServiceTable) (client seq : ℕ) (now : ℤ) : Type 0 where
  pub table : CanGoOn kept
  pub caller : IsClient client
  pub moment : IsMoment now
  pub next : seq ≡ (window_for client kept.windows).next

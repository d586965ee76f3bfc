-- Words of public clauses: what a world is after `settle`.
use Rattle.std.specs.Prelude.{◌≡◌, ℕ, true, ◌≤◌, Some, length}
use Rattle.cluster_facts.specs.Types.{Call, Reply, Item, Delivery}
use Rattle.cluster_facts.specs.Lists.{Stands}
use Rattle.cluster_facts.specs.Messages.{sent_by, calls_in, messages_in}
use Rattle.cluster_facts.specs.Service.{Plain, answers_in}
use Rattle.cluster_facts.specs.Agents.{kept_call, callbacks_of, lacks_place}
use Rattle.cluster_facts.specs.History.{Empty}
use Rattle.cluster_facts.specs.World.{World}

pub record IsSettled (plain : Plain) (world : World) : Type 0 where
  -- no entry is in hand
  pub rests : world.core.hand ≡ Empty
  -- every call that was sent stands in the history
  pub heard : (client : ℕ) → calls_in client world.core.answered ≡ sent_by client (messages_in world.net)
  -- its reply is taken, unless it gives a callback for which the client's queue lacks a place
  pub taken : (client number : ℕ) (call : Call) → kept_call number (world.agents client).kept ≡ Some call → (reply : Reply)
      × Stands (number, reply) (answers_in plain client world.core.answered)
      × (lacks_place world.places (world.agents client).queue (callbacks_of (world.agents client).marks call reply) ≡ true)
  -- no item is held, unless its client's queue is full
  pub held : (client key : ℕ) (item : Item) → Stands (Delivery client key item) (plain.held world.core.answered)
      → world.places ≤ length (world.agents client).queue

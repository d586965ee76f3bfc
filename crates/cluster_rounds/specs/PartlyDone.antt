-- Words of laws: events in which nobody asks.
use Rattle.std.specs.Prelude.{◌≡◌, ℕ, List}
use Rattle.cluster_facts.specs.Messages.{sent_by, messages_in}
use Rattle.cluster_facts.specs.Service.{Plain}
use Rattle.cluster_facts.specs.World.{World}
use Rattle.cluster_events.specs.Lines.{Told}
use Rattle.cluster_events.specs.Saying.{Says}
use Rattle.cluster_rounds.specs.Timely.{AreTimely, IsTimelyIn}

-- no client asked anything, the time in force stayed, and the entries that lines tell are of it or waited for the partner before, as is
-- one that waits now
pub record AsksNone (old new : World) (told : List Told) : Type 0 where
  pub sent : (client : ℕ) → sent_by client (messages_in new.net) ≡ sent_by client (messages_in old.net)
  pub now : new.now ≡ old.now
  pub times : AreTimely old told
  pub waits : IsTimelyIn old new.core.hand

-- and the lines say what happened
pub record SaysUnasked (plain : Plain) (old new : World) (told : List Told) : Type 0 where
  pub says : Says plain old new told
  pub asks : AsksNone old new told

-- Words of public clauses: an event that breaks off: what holds of the world that it leaves.
use Rattle.std.specs.Prelude.{◌≡◌, ℕ, List, ◌++◌}
use Rattle.cluster_facts.specs.Types.{Call, Entry, Callback}
use Rattle.cluster_facts.specs.Lists.{EndsIn, IsCounted}
use Rattle.cluster_facts.specs.Messages.{sent_by, calls_in, messages_in}
use Rattle.cluster_facts.specs.Service.{Plain, answers_in}
use Rattle.cluster_facts.specs.Agents.{fed_of}
use Rattle.cluster_facts.specs.History.{IsLegal, committed}
use Rattle.cluster_facts.specs.World.{World}
use Rattle.cluster_facts.specs.Facts.{Fits, IsToldItem}
use Rattle.cluster_events.specs.Lines.{Told}
use Rattle.cluster_events.specs.Saying.{Grows, TellsReplies, entries_told, replies_told, callbacks_told, marks_seen, called_back, of_replies}

-- what lines say of history, replies and callbacks, the net left out
pub record Tells (plain : Plain) (old new : World) (told : List Told) : Type 0 where
  pub entries : Grows (committed old.core) (committed new.core) (entries_told told)
  pub answers : EndsIn new.core.answered old.core.answered
  pub replies : (client : ℕ) → TellsReplies (old.agents client) (new.agents client) (answers_in plain client new.core.answered) (replies_told client told)
  pub callbacks : (client : ℕ) → Grows (old.agents client).handed (new.agents client).handed (callbacks_told client told)
  pub marks : (client : ℕ) → (new.agents client).marks ≡ marks_seen client (old.agents client).marks told
  pub called : (client : ℕ)
      → of_replies (fed_of (new.agents client)) ≡ called_back client (old.agents client).marks told ++ of_replies (fed_of (old.agents client))

-- the callbacks of items that a client got are, in order, those of receipts that go through 1, 2, 3 and so on of each
-- subscription; the last receipt need not be posted
pub record IsFed (plain : Plain) (past : List Entry) (client : ℕ) (fed : List Callback) : Type 0 where
  pub sent : List (ℕ × Call)
  pub marks : List (ℕ × ℕ)
  pub counted : IsCounted marks
  pub items : Fits (IsToldItem plain past sent client) marks fed

-- the history is legal and has each client's first calls, and what each client got is the beginning of its items
pub record Holds (plain : Plain) (world : World) : Type 0 where
  pub legal : IsLegal plain world.now (committed world.core)
  pub calls : (client : ℕ) → EndsIn (sent_by client (messages_in world.net)) (calls_in client (committed world.core))
  pub fed : (client : ℕ) → IsFed plain world.core.answered client (fed_of (world.agents client))

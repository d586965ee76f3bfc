-- Words of public clauses: what is seen of a client's agent: all that it keeps, and of the callbacks that were handed out the count.
use Rattle.std.specs.Prelude.{ℕ, Bool, List, length}
use Rattle.calls.specs.declared.call.Call.{Call}
use Rattle.calls.specs.declared.reply.Callback.{Callback}
use Rattle.cluster_facts.specs.Types.{Mark, StreamName}
use Rattle.cluster_facts.specs.Agents.{Living, Agent}

-- lists have the newest first
pub record Seen : Type 0 where
  -- the client whose agent it is, and how many callbacks its queue holds
  pub client : ℕ
  pub places : ℕ
  pub next : ℕ
  pub log_handle : Bool
  pub ntf_handle : Bool
  pub kept : List (ℕ × Call)
  pub living : List Living
  pub queue : List Callback
  -- how many callbacks were handed out
  pub given : ℕ
  -- the marks of streams that were told last, one of a name, by the order in which the names were told first
  pub marks : List (StreamName × Mark)

abbrev pub seen_of : ℕ → ℕ → Agent → Seen
seen_of client places agent = record {
  client = client;
  places = places;
  next = agent.next;
  log_handle = agent.log_handle;
  ntf_handle = agent.ntf_handle;
  kept = agent.kept;
  living = agent.living;
  queue = agent.queue;
  given = length agent.handed;
  marks = agent.marks;
}

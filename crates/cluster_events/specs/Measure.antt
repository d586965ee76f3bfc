-- Words of public clauses: a number that falls with each round that is not the last of `settle`.
use Rattle.std.specs.Prelude.{ℕ, ◌+◌, ◌-◌, ◌*◌, ◌≤◌, Bool, false, ◌&&◌, ◌||◌, ◌==◌, if◌then◌else◌, List, [], ◌∷◌, length}
use Rattle.cluster_facts.specs.Types.{Entry, Called, Receipted, Message, Request, Receipt}
use Rattle.cluster_facts.specs.Messages.{messages_in}
use Rattle.cluster_facts.specs.Agents.{Agent}
use Rattle.cluster_facts.specs.History.{committed}
use Rattle.cluster_facts.specs.World.{World}
use Rattle.cluster_events.specs.Lines.{Told, is_progress}

-- the entry is the acceptance of the message
abbrev pub is_acceptance : Message → Entry → Bool
is_acceptance (Request client number call) (Called caller other time asked) = client == caller && number == other
is_acceptance (Receipt client key through) (Receipted sender other number time) = client == sender && (key == other && through == number)
is_acceptance _ _ = false

abbrev pub is_accepted : Message → List Entry → Bool
is_accepted message [] = false
is_accepted message (entry ∷ past) = is_acceptance message entry || is_accepted message past

-- 1 for a request or receipt that the history lacks
abbrev pub waiting : Message → List Entry → ℕ
waiting (Request client number call) past = if is_accepted (Request client number call) past then 0 else 1
waiting (Receipt client key through) past = if is_accepted (Receipt client key through) past then 0 else 1
waiting _ past = 0

-- how many requests and receipts among the messages of a net the history lacks
abbrev pub unheard : List Message → List Entry → ℕ
unheard [] past = 0
unheard (message ∷ net) past = waiting message past + unheard net past

-- what an agent may still take: a reply to each call without one, and two for each free place of its queue
abbrev pub untaken : ℕ → Agent → ℕ
untaken places agent = length agent.kept + 2 * (places - length agent.queue)

abbrev pub all_untaken : ℕ → (ℕ → Agent) → List ℕ → ℕ
all_untaken places agents [] = 0
all_untaken places agents (client ∷ clients) = untaken places (agents client) + all_untaken places agents clients

-- what is left to do at most
abbrev pub potential : World → ℕ
potential world = unheard (messages_in world.net) (committed world.core) + all_untaken world.places world.agents world.clients

-- how many lines tell that something went on
abbrev pub progress : List Told → ℕ
progress [] = 0
progress (line ∷ told) = (if is_progress line then 1 else 0) + progress told

-- each line of progress is paid by what is left to do
pub record Spends (old new : World) (told : List Told) : Type 0 where
  pub paid : potential new + progress told ≤ potential old

-- Words of public clauses: the world of clients, net and history, whatever its servers are.
use Rattle.std.specs.Prelude.{ℕ, suc, Bool, false, ◌||◌, ◌==◌, nat_lt, if◌then◌else◌, ℤ, Option, Some, None, List, [], ◌∷◌, length}
use Rattle.std.specs.Str.{bytes_eq}
use Rattle.cluster_facts.specs.Types.{Message, WireWhy}
use Rattle.cluster_facts.specs.Lists.{put}
use Rattle.cluster_facts.specs.Messages.{Posting, Spelled, Raw}
use Rattle.cluster_facts.specs.Service.{Plain}
use Rattle.cluster_facts.specs.Agents.{Agent, fresh}
use Rattle.cluster_facts.specs.History.{Core, Empty}

pub record World : Type 0 where
  pub core : Core
  -- the byte strings that were posted or injected, the newest first
  pub net : List Posting
  -- each client's agent, and the clients that were ever called, rising
  pub agents : ℕ → Agent
  pub clients : List ℕ
  -- the time in force
  pub now : ℤ
  -- how many callbacks each client's queue holds
  pub places : ℕ

-- a world in which nothing was asked yet
abbrev pub empty_world : ℤ → ℕ → World
empty_world now places = record {
  core = record { answered = []; hand = Empty };
  net = [];
  agents = λ client. fresh;
  clients = [];
  now = now;
  places = places;
}

-- whether a message of this spelling stands in the net
abbrev pub knows : Plain → Message → List Posting → Bool
knows plain message [] = false
knows plain message (Spelled known ∷ net) = plain.same message known || knows plain message net
knows plain message (Raw bytes front why ∷ net) = knows plain message net

-- a message is posted: the net gets it once
abbrev pub posted : Plain → Message → List Posting → List Posting
posted plain message net = if knows plain message net then net else Spelled message ∷ net

-- whether these bytes, which no message spells, stand in the net
abbrev pub knows_raw : List ℕ → List Posting → Bool
knows_raw bytes [] = false
knows_raw bytes (Spelled message ∷ net) = knows_raw bytes net
knows_raw bytes (Raw known front why ∷ net) = bytes_eq bytes known || knows_raw bytes net

-- such bytes are injected: the net gets them once
abbrev pub injected : List ℕ → ℕ → WireWhy → List Posting → List Posting
injected bytes front why net = if knows_raw bytes net then net else Raw bytes front why ∷ net

-- the byte string of this number, the first that came being number 1
abbrev pub posting_at : ℕ → List Posting → Option Posting
posting_at number [] = None
posting_at number (posting ∷ net) =
    if number == suc (length net) then Some posting else posting_at number net

-- the number of a message of the net, and 0 of one that does not stand there
abbrev pub number_of : Plain → Message → List Posting → ℕ
number_of plain message [] = 0
number_of plain message (Spelled known ∷ net) =
    if plain.same message known then suc (length net) else number_of plain message net
number_of plain message (Raw bytes front why ∷ net) = number_of plain message net

-- the agents with one of them changed
abbrev pub with_agent : ℕ → Agent → (ℕ → Agent) → ℕ → Agent
with_agent client agent agents other = if client == other then agent else agents other

-- the clients with this one, rising
abbrev pub enlisted : ℕ → List ℕ → List ℕ
enlisted client clients = put nat_lt client clients

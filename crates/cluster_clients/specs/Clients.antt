-- Words of public clauses: how a list of agents is that of a world.
use Rattle.std.specs.Prelude.{◌≡◌, ◌⊎◌, ℕ, nat_lt, ◌==◌, true, false, Option, Some, None, option_map}
use Rattle.std.specs.Prelude.{List, [], ◌∷◌, ◌++◌, slice_get, slice_set}
use Rattle.std.specs.List.{position}
use Rattle.std.specs.List.Sorted.{IsPartitionPoint}
use Rattle.client_set.specs.Rising.{IsRising}
use Rattle.cluster_facts.specs.Lists.{Stands}
use Rattle.cluster_facts.specs.Agents.{Agent, fresh}
use Rattle.cluster_facts.specs.World.{World}
use Rattle.cluster_events.specs.Outcomes.{Outcome}
use Rattle.cluster_events.specs.ClientEvents.{dispatch_one, dispatch_all}
use Rattle.client_agent.specs.declared.answers.How.{How}
use Rattle.client_agent.specs.declared.answers.How.TheVariants.{One, All}
use Rattle.client_agent.specs.declared.answers.Dispatched.{Dispatched}
use Rattle.client_agent.specs.Seen.{Seen, seen_of}
use Rattle.client_agent.specs.Steps.{IsDispatched}
use Rattle.event_text.specs.Texts.{printed}

-- the agents of these clients, as they are seen
abbrev pub seen_all : ℕ → (ℕ → Agent) → List ℕ → List Seen
seen_all places agents [] = []
seen_all places agents (client ∷ clients) = seen_of client places (agents client) ∷ seen_all places agents clients

-- the agents stand by rising client, and every other client has a fresh one
pub record ShowsAgents (world : World) (seen : List Seen) : Type 0 where
  pub shown : seen ≡ seen_all world.places world.agents world.clients
  pub rising : IsRising nat_lt world.clients
  pub listed : (client : ℕ) → Stands client world.clients ⊎ (world.agents client ≡ fresh)

-- agents stand by rising client
abbrev pub AreByClient : List Seen → Type 0
AreByClient seen = IsRising (λ (one other : Seen). nat_lt one.client other.client) seen

-- the place of a client's agent
abbrev pub place_of : ℕ → List Seen → Option ℕ
place_of client seen = position (λ (one : Seen). one.client == client) seen

-- the agent at this place is the client's
abbrev pub StandsAt : ℕ → ℕ → List Seen → Type 0
StandsAt client place seen = option_map (λ (one : Seen). one.client) (slice_get seen place) ≡ Some client

-- where agents stand by rising client, none of them is the client's
abbrev pub IsAbsent : ℕ → List Seen → Type 0
IsAbsent client seen = AreByClient seen → place_of client seen ≡ None

-- the agents before this place, and no others, are those of lower clients
abbrev pub IsCutAt : ℕ → ℕ → List Seen → Type 0
IsCutAt client place seen =
    IsPartitionPoint (λ (one : Seen). nat_lt one.client client ≡ true) (λ (one : Seen). nat_lt one.client client ≡ false) seen place

-- the agent at a place handed out callbacks
abbrev pub IsDispatchedAt : How → ℕ → List Seen → Dispatched → List Seen → Type 0
IsDispatchedAt how place old dispatched new =
    (client places : ℕ) (agent : Agent) → slice_get old place ≡ Some (seen_of client places agent) → (seen : Seen)
    × IsDispatched client places how agent dispatched seen × (new ≡ slice_set old place seen)

abbrev pub dispatch_as : How → ℕ → World → Outcome World
dispatch_as One client world = dispatch_one client world
dispatch_as (All workers) client world = dispatch_all client world

-- a dispatch of a client happened: the agents that there are now, and the lines
abbrev pub Dispatches : How → ℕ → List Seen → List Seen → List (List ℕ) → List (List ℕ) → Type 0
Dispatches how client old new before after =
    (world : World) → ShowsAgents world old → ShowsAgents (dispatch_as how client world).state new
    × (after ≡ before ++ printed (dispatch_as how client world).told)

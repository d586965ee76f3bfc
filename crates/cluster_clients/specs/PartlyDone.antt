-- Words of public clauses: how much was done where memory ran out within it.
use Rattle.std.specs.Prelude.{◌≡◌, ℕ, ◌⊎◌, List}
use Rattle.cluster_facts.specs.Types.{Ask, Message}
use Rattle.cluster_facts.specs.Service.{Plain, IsPlain}
use Rattle.cluster_facts.specs.World.{World}
use Rattle.cluster_events.specs.ClientEvents.{ask}
use Rattle.client_agent.specs.declared.answers.How.{How}
use Rattle.client_agent.specs.Seen.{Seen}
use Rattle.cluster_clients.specs.Spelled.{AreSpelled}
use Rattle.cluster_clients.specs.Clients.{ShowsAgents, dispatch_as}
use Rattle.cluster_clients.specs.Taken.{taken_as}

-- net and agents of the code are each as before an event or as after it
pub record PartlyShows (old new : World) (net : List (List ℕ)) (agents : List Seen) : Type 0 where
  pub net_is : AreSpelled old.net net ⊎ AreSpelled new.net net
  pub agents_are : ShowsAgents old agents ⊎ ShowsAgents new agents

-- a reply or an item was delivered in part
abbrev pub TakesPartly : ℕ → Message → List (List ℕ) → List (List ℕ) → List Seen → List Seen → Type 0
TakesPartly place message old_net new_net old new =
    (plain : Plain) (world : World) → IsPlain plain → AreSpelled world.net old_net → ShowsAgents world old
    → PartlyShows world (taken_as plain place message world).state new_net new

-- a client asked in part
abbrev pub AsksPartly : ℕ → ℕ → Ask → List (List ℕ) → List (List ℕ) → List Seen → List Seen → Type 0
AsksPartly callbacks client asked old_net new_net old new =
    (plain : Plain) (world : World) → IsPlain plain → AreSpelled world.net old_net → ShowsAgents world old → world.places ≡ callbacks
    → PartlyShows world (ask plain client asked world).state new_net new

-- callbacks were handed out or not
abbrev pub MayDispatch : How → ℕ → List Seen → List Seen → Type 0
MayDispatch how client old new =
    (world : World) → ShowsAgents world old → ShowsAgents world new ⊎ ShowsAgents (dispatch_as how client world).state new

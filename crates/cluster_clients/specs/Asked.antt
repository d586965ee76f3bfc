-- Words of public clauses: a client asks for a call.
use Rattle.std.specs.Prelude.{◌≡◌, ◌⊎◌, ℕ, ◌<◌, ◌≤◌, nat_lt, Bool, true, false, if◌then◌else◌, Some}
use Rattle.std.specs.Prelude.{List, [], ◌∷◌, ◌++◌, slice_get, slice_set}
use Rattle.std.specs.List.{prefix_len, insert}
use Rattle.wire.specs.MessageSpelling.{MessageInRange}
use Rattle.cluster_facts.specs.Types.{Ask}
use Rattle.cluster_facts.specs.Service.{Plain, IsPlain}
use Rattle.cluster_facts.specs.Agents.{Agent}
use Rattle.cluster_facts.specs.World.{World}
use Rattle.cluster_events.specs.ClientEvents.{ask}
use Rattle.client_agent.specs.declared.answers.Sent.{Sent}
use Rattle.client_agent.specs.declared.answers.Sent.TheVariants.{Posted, Refused}
use Rattle.client_agent.specs.Seen.{Seen, seen_of}
use Rattle.client_agent.specs.Steps.{IsSent}
use Rattle.event_text.specs.Texts.{printed, declined_line}
use Rattle.cluster_clients.specs.Spelled.{AreSpelled, Posts, PostsOrNot}
use Rattle.cluster_clients.specs.Clients.{AreByClient, ShowsAgents}

-- the agent numbers its next call from 1, and can number one more
pub record CanCall (seen : Seen) : Type 0 where
  pub from : 1 ≤ seen.next
  pub to : seen.next < 4294967295

-- so can the agent at a place
abbrev pub CanCallAt : ℕ → List Seen → Type 0
CanCallAt place agents = (one : Seen) → slice_get agents place ≡ Some one → CanCall one

-- each agent numbers its next call from 1
abbrev pub AllStarted : List Seen → Type 0
AllStarted agents = (place : ℕ) (one : Seen) → slice_get agents place ≡ Some one → 1 ≤ one.next

-- the agent at a place was asked
abbrev pub IsSentAt : Ask → ℕ → List Seen → Sent → List Seen → Type 0
IsSentAt asked place old sent new =
    (client places : ℕ) (agent : Agent) → slice_get old place ≡ Some (seen_of client places agent) → (seen : Seen)
    × IsSent client places asked agent sent seen × (new ≡ slice_set old place seen)

-- the request, if there is one, can be posted
abbrev pub HasFitRequest : Sent → Type 0
HasFitRequest (Posted message) = MessageInRange message
HasFitRequest (Refused status) = Unit {0}

-- what became of the call is told: by the posting of its request, or by a line
abbrev pub IsToldSent : ℕ → Sent → List (List ℕ) → List (List ℕ) → List (List ℕ) → List (List ℕ) → Type 0
IsToldSent client (Posted message) old new before after = Posts message old new before after
IsToldSent client (Refused status) old new before after =
    (new ≡ old) × (after ≡ before ++ declined_line client status ∷ [])

-- where the agent of a client stands among those of others
abbrev pub place_for : ℕ → List Seen → ℕ
place_for client agents = prefix_len (λ (one : Seen). nat_lt one.client client) agents

-- whether a request is to be posted
abbrev pub is_posted : Sent → Bool
is_posted (Posted message) = true
is_posted (Refused status) = false

-- an agent joined others that stand by rising client, or did not
abbrev pub Enlists : ℕ → Seen → (joins : Bool) → List Seen → List Seen → Type 0
Enlists client agent joins old new =
    AreByClient old → new ≡ (if joins then insert old (place_for client old) agent else old)

-- the first call of a new agent was told; the agent joined the others where its request was posted
abbrev pub IsPlaced : ℕ → Seen → Sent → List (List ℕ) → List (List ℕ) → List Seen → List Seen
    → List (List ℕ) → List (List ℕ) → Type 0
IsPlaced client agent sent old_net new_net old new before after =
    IsToldSent client sent old_net new_net before after × Enlists client agent (is_posted sent) old new

-- a client asked: the net and the agents that there are now, and the lines
abbrev pub Asks : ℕ → ℕ → Ask → List (List ℕ) → List (List ℕ) → List Seen → List Seen → List (List ℕ) → List (List ℕ) → Type 0
Asks callbacks client asked old_net new_net old new before after =
    (plain : Plain) (world : World) → IsPlain plain → AreSpelled world.net old_net → ShowsAgents world old → world.places ≡ callbacks
    → AreSpelled (ask plain client asked world).state.net new_net × ShowsAgents (ask plain client asked world).state new
    × (after ≡ before ++ printed (ask plain client asked world).told)

-- the request, if there is one, was posted or not
abbrev pub MayPost : Sent → List (List ℕ) → List (List ℕ) → Type 0
MayPost (Posted message) old new = PostsOrNot message old new
MayPost (Refused status) old new = new ≡ old

-- the first call of a new agent was not told: nothing was done, or the agent joined the others and its request was posted or not
abbrev pub IsPartlyPlaced : ℕ → Seen → Sent → List (List ℕ) → List (List ℕ) → List Seen → List Seen → Type 0
IsPartlyPlaced client agent sent old_net new_net old new =
    ((new_net ≡ old_net) × (new ≡ old)) ⊎ (MayPost sent old_net new_net × Enlists client agent (is_posted sent) old new)

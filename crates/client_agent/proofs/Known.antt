-- What is seen of an agent tells all of it but the callbacks that were handed out; and what an agent refuses does not rest on these.
use Rattle.std.proofs.Common.{◌≡◌, ℕ, Bool, true, false, not, cond, if◌then◌else◌, Option, Some, None, List, length, refl, ap, subst}
use Rattle.cluster_facts.specs.Types.{Status, VersionRefused, TryAgain, BadHandle, Ask, Start, Other, Callback}
use Rattle.cluster_facts.specs.Agents.{Agent, can_serve, service_of, has_handle, is_shut, refusal}
use Rattle.client_agent.specs.Seen.{Seen, seen_of}
use Rattle.client_agent.specs.Inside.{agent_of, lack}

-- a fact of what is seen, whatever was handed out, is one of each agent of which this is seen
pub known : (P : ℕ → ℕ → Agent → Type 0) (seen : Seen) (client places : ℕ) (agent : Agent) → seen ≡ seen_of client places agent → ((handed : List Callback) → seen.given ≡ length handed → P seen.client seen.places (agent_of seen handed)) → P client places agent
known P seen client places agent is each =
    let Q : Seen → Type 0 = λ s. P s.client s.places (agent_of s agent.handed) in
    subst Q is (each agent.handed (ap (λ (s : Seen). s.given) is))

-- what is seen of an agent that stays
pub same_seen : (seen : Seen) (handed : List Callback) → seen.given ≡ length handed → seen ≡ seen_of seen.client seen.places (agent_of seen handed)
same_seen seen handed is = λ i. record {
  client = seen.client;
  places = seen.places;
  next = seen.next;
  log_handle = seen.log_handle;
  ntf_handle = seen.ntf_handle;
  kept = seen.kept;
  living = seen.living;
  queue = seen.queue;
  given = is i;
  marks = seen.marks;
}

-- a refusal by what is lacked, or else by the window
abbrev pub refuse : Option Status → Bool → Option Status
refuse (Some status) shut = Some status
refuse None shut = if shut then Some TryAgain else None

pub refusal-parts : (ask : Ask) (agent : Agent) → refuse (lack ask agent) (is_shut agent.next agent.kept) ≡ refusal ask agent
refusal-parts (Start service version) agent =
    elim (can_serve service version) as (λ b. refuse (if b then None else Some VersionRefused) (is_shut agent.next agent.kept) ≡ cond (not b) (Some VersionRefused) (cond (is_shut agent.next agent.kept) (Some TryAgain) None)) [ true ↦ refl | false ↦ refl ]
refusal-parts (Other call) agent =
    elim (has_handle (service_of call) agent) as (λ b. refuse (if b then None else Some BadHandle) (is_shut agent.next agent.kept) ≡ cond (not b) (Some BadHandle) (cond (is_shut agent.next agent.kept) (Some TryAgain) None)) [ true ↦ refl | false ↦ refl ]

-- Words of public clauses: a reply or an item is delivered to its client's agent.
use Rattle.std.specs.Prelude.{◌≡◌, ℕ, Option, Some, None, List, ◌++◌, Bool}
use Rattle.cluster_facts.specs.Types.{Message, Answer, Delivery}
use Rattle.cluster_facts.specs.Service.{Plain, IsPlain}
use Rattle.cluster_facts.specs.World.{World}
use Rattle.cluster_events.specs.Outcomes.{Outcome, quietly}
use Rattle.cluster_events.specs.ClientEvents.{take_reply, take_item}
use Rattle.client_agent.specs.Seen.{Seen}
use Rattle.event_text.specs.Texts.{printed}
use Rattle.cluster_clients.specs.Spelled.{AreSpelled}
use Rattle.cluster_clients.specs.Clients.{ShowsAgents}
use Rattle.cluster_facts.specs.Lists.{without}
use Rattle.cluster_events.specs.Lines.{Told, is_ignored}
use Rattle.cluster_events.specs.Settling.{is_loud}

-- the message of this number in the net is delivered to its client's agent
abbrev pub taken_as : Plain → ℕ → Message → World → Outcome World
taken_as plain place (Answer client number reply) world = take_reply place client number reply world
taken_as plain place (Delivery client key item) world = take_item plain place client key item world
taken_as plain place _ world = quietly world

-- what is printed of lines, but for those on messages without effect
abbrev pub kept_lines : List Told → List (List ℕ)
kept_lines told = printed (without is_ignored told)

-- A delivery has the number of its message where a line tells of one without effect; without a number nothing is told of those.

abbrev pub number_told : Option ℕ → ℕ
number_told None = 0
number_told (Some place) = place

abbrev pub lines_told : Option ℕ → List Told → List (List ℕ)
lines_told None told = kept_lines told
lines_told (Some place) told = printed told

-- it was delivered: the net and the agents that there are now, the lines, and whether it was taken
abbrev pub Takes : Option ℕ → Message → List (List ℕ) → List (List ℕ) → List Seen → List Seen
    → List (List ℕ) → List (List ℕ) → Bool → Type 0
Takes place message old_net new_net old new before after loud =
    (plain : Plain) (world : World) → IsPlain plain → AreSpelled world.net old_net → ShowsAgents world old
    → AreSpelled (taken_as plain (number_told place) message world).state.net new_net
    × ShowsAgents (taken_as plain (number_told place) message world).state new
    × (after ≡ before ++ lines_told place (taken_as plain (number_told place) message world).told)
    × (loud ≡ is_loud (taken_as plain (number_told place) message world).told)

-- Words of public clauses: `settle`: rounds until one in which nothing goes on.
use Rattle.std.specs.Prelude.{ℕ, Bool, true, false, ◌≡◌, Option, Some, None, List, [], ◌++◌}
use Rattle.std.specs.List.{list_any}
use Rattle.cluster_facts.specs.Types.{Reply, Message, Request, Answer, Delivery}
use Rattle.cluster_facts.specs.Lists.{without}
use Rattle.cluster_facts.specs.Messages.{answers_to, messages_in}
use Rattle.cluster_facts.specs.Service.{Plain}
use Rattle.cluster_facts.specs.Agents.{resent}
use Rattle.cluster_facts.specs.World.{World, number_of}
use Rattle.cluster_events.specs.Lines.{Told, is_ignored, is_progress}
use Rattle.cluster_events.specs.Outcomes.{Outcome, quietly, and_then, for_each}
use Rattle.cluster_events.specs.Servers.{State, Servers, in_world, drain}
use Rattle.cluster_events.specs.ClientEvents.{take_reply, take_item}
use Rattle.cluster_events.specs.Events.{reply_at, hear, push}

abbrev pub take_answer_by : Plain → ℕ → ℕ → Option Reply → World → Outcome World
take_answer_by plain client number None world = quietly world
take_answer_by plain client number (Some reply) world =
    take_reply (number_of plain (Answer client number reply) world.net) client number reply world

-- the reply to a request is delivered, if the net has one
abbrev pub take_answer : Plain → Message → World → Outcome World
take_answer plain (Request client number call) world = take_answer_by plain client number (reply_at number (answers_to client (messages_in world.net))) world
take_answer plain _ world = quietly world

-- one message of a client is delivered, the servers drain, and the reply to it is delivered
abbrev pub turn : {P : Type 0} → Plain → Servers P → Message → State P → Outcome (State P)
turn plain servers message state =
    and_then (and_then (hear plain servers (number_of plain message state.world.net) message state) (drain servers)) (in_world (take_answer plain message))

-- a turn for each message that a client sends again
abbrev pub client_turns : {P : Type 0} → Plain → Servers P → ℕ → State P → Outcome (State P)
client_turns plain servers client state = for_each (turn plain servers) (resent client (state.world.agents client)) state

-- the items that were pushed are delivered, in order
abbrev pub take_pushed : Plain → Message → World → Outcome World
take_pushed plain (Delivery client key item) world = take_item plain (number_of plain (Delivery client key item) world.net) client key item world
take_pushed plain _ world = quietly world

abbrev pub push_round : {P : Type 0} → Plain → Servers P → State P → Outcome (State P)
push_round plain servers state =
    and_then (push plain servers state) (for_each (λ item. in_world (take_pushed plain item)) (plain.held state.world.core.answered))

-- a round: the servers drain, each client has its turns, by rising numbers, and all items are pushed and delivered
abbrev pub round : {P : Type 0} → Plain → Servers P → State P → Outcome (State P)
round plain servers state =
    and_then (and_then (drain servers state) (λ drained. for_each (client_turns plain servers) drained.world.clients drained)) (push_round plain servers)

-- an entry was committed, a reply taken or an item taken
abbrev pub is_loud : List Told → Bool
is_loud told = list_any is_progress told

-- rounds up to the first that is not loud
pub data Rounds {P : Type 0} (plain : Plain) (servers : Servers P) (start : State P) : State P → List Told → Bool → Type 0 where
  Begun : Rounds plain servers start start [] true
  Further : {state : State P} {told : List Told} → Rounds plain servers start state told true
      → Rounds plain servers start (round plain servers state).state ((round plain servers state).told ++ told) (is_loud (round plain servers state).told)

-- `settle`: what it leads to and the lines that it prints, those on messages without effect left out
pub record Settles {P : Type 0} (plain : Plain) (servers : Servers P) (old new : State P) (told : List Told) : Type 0 where
  pub lines : List Told
  pub rounds : Rounds plain servers old new lines false
  pub printed : told ≡ without is_ignored lines

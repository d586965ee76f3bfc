-- Words of public clauses: what is asked of servers, and of a relation of worlds and lines, so that a whole round keeps them.
use Rattle.std.specs.Prelude.{◌≡◌, ℕ, suc, true, false, nat_le, Option, Some, List, [], ◌∷◌, ◌++◌, length}
use Rattle.cluster_facts.specs.Types.{Call, Reply, Item, Entry, Message, Answer, Delivery, Receipt}
use Rattle.cluster_facts.specs.Lists.{Stands, EndsIn}
use Rattle.cluster_facts.specs.Messages.{message_of, Spelled, messages_in}
use Rattle.cluster_facts.specs.Service.{Plain, answers_in}
use Rattle.cluster_facts.specs.Agents.{Living, kept_call, callbacks_of, lacks_place, after_reply, find_living, after_item}
use Rattle.cluster_facts.specs.History.{Hand, Empty, accepted, accepted_by, MayFollow, time_of}
use Rattle.cluster_facts.specs.World.{World, with_agent}
use Rattle.cluster_facts.specs.Facts.{IsSound, IsOfRun}
use Rattle.cluster_events.specs.Lines.{Told, Posted, Replied, Ignored, Why}
use Rattle.cluster_events.specs.Outcomes.{Outcome}
use Rattle.cluster_events.specs.Servers.{State, Servers, drain}
use Rattle.cluster_events.specs.Settling.{is_loud}

-- what was posted stays posted, answered entries stay, and clients, time and places are the same
pub record Stays (old new : World) : Type 0 where
  pub net : (message : Message) → Stands message (messages_in old.net) → Stands message (messages_in new.net)
  pub answered : EndsIn new.core.answered old.core.answered
  pub clients : new.clients ≡ old.clients
  pub now : new.now ≡ old.now
  pub places : new.places ≡ old.places

-- the facts of the world hold, and those of the servers
pub record IsSteady {P : Type 0} (plain : Plain) (Good : State P → Type 0) (state : State P) : Type 0 where
  pub sound : IsSound plain state.world
  pub good : Good state

-- an entry was accepted: it is in hand, and nothing else of the world changed
pub record Accepts {P : Type 0} (Good : State P → Type 0) (entry : Entry) (old new : State P) : Type 0 where
  pub hand : Hand
  pub accepted : accepted_by old.world.core.answered hand ≡ entry ∷ old.world.core.answered
  pub world : new.world ≡ record old.world { core = record { answered = old.world.core.answered; hand = hand } }
  pub good : Good new

-- the servers drained: all that was accepted is answered, and the agents are as they were
pub record Drains {P : Type 0} (plain : Plain) (Good : State P → Type 0) (old new : State P) : Type 0 where
  pub empty : new.world.core.hand ≡ Empty
  pub done : new.world.core.answered ≡ accepted old.world.core
  pub agents : new.world.agents ≡ old.world.agents
  pub stays : Stays old.world new.world
  pub steady : IsSteady plain Good new
  pub idle : old.world.core.hand ≡ Empty → new.world ≡ old.world

-- what is asked of servers: their facts speak of the history alone, and they accept, commit and drain
pub record IsServing {P : Type 0} (plain : Plain) (servers : Servers P) (Good : State P → Type 0) : Type 0 where
  pub front : (state : State P) (world : World) → world.core ≡ state.world.core → Good state → Good (record { world = world; peers = state.peers })
  pub accepts : (entry : Entry) (state : State P) → state.world.core.hand ≡ Empty → Good state → Accepts Good entry state (servers.accept entry state).state
  pub drains : (state : State P) → IsSteady plain Good state → Drains plain Good state (drain servers state).state
  pub commits : (entry : Entry) (state : State P) → state.world.core.hand ≡ Empty → Good state
      → is_loud ((drain servers (servers.accept entry state).state).told ++ (servers.accept entry state).told) ≡ true

-- what is asked of a relation between the worlds before and after events and their lines: it holds of nothing, of one event
-- after another, and of each step that a round is made of
pub record IsCarried {P : Type 0} (plain : Plain) (servers : Servers P) (Good : State P → Type 0) (R : World → World → List Told → Type 0) : Type 0 where
  pub same : (world : World) → R world world []
  pub both : (one two three : World) (first second : List Told) → R one two first → R two three second → R one three (second ++ first)
  pub ignored : (world : World) (place : ℕ) (why : Why) → R world world (Ignored place why ∷ [])
  pub answer : (world : World) (client number : ℕ) (reply : Reply) → IsSound plain world
      → Stands (number, reply) (answers_in plain client world.core.answered)
      → R world (record world { net = Spelled (Answer client number reply) ∷ world.net }) (Posted (suc (length world.net)) (Answer client number reply) ∷ [])
  pub pushed : (world : World) (client key : ℕ) (item : Item) → IsSound plain world → IsOfRun plain world.core.answered (Delivery client key item)
      → R world (record world { net = Spelled (Delivery client key item) ∷ world.net }) (Posted (suc (length world.net)) (Delivery client key item) ∷ [])
  pub reply : (world : World) (client number : ℕ) (call : Call) (reply : Reply) → IsSound plain world
      → kept_call number (world.agents client).kept ≡ Some call
      → lacks_place world.places (world.agents client).queue (callbacks_of (world.agents client).marks call reply) ≡ false
      → Stands (Answer client number reply) (messages_in world.net)
      → R world (record world { agents = with_agent client (after_reply number call reply (world.agents client)) world.agents })
      (Replied client number call reply ∷ [])
  pub item : (world : World) (client key : ℕ) (item : Item) (found : Living) → IsSound plain world
      → find_living key (world.agents client).living ≡ Some found → item.number ≡ found.next
      → nat_le world.places (length (world.agents client).queue) ≡ false → Stands (Delivery client key item) (messages_in world.net)
      → R world (record world {
        net = Spelled (Receipt client key item.number) ∷ world.net;
        agents = with_agent client (after_item key found.id item.content (world.agents client)) world.agents;
      }) (Posted (suc (length world.net)) (Receipt client key item.number) ∷ [])
  pub accept : (entry : Entry) (state : State P) → IsSteady plain Good state → state.world.core.hand ≡ Empty
      → MayFollow plain state.world.core.answered entry → time_of entry ≡ state.world.now → Stands (message_of entry) (messages_in state.world.net)
      → R state.world (servers.accept entry state).state.world (servers.accept entry state).told
  pub drain : (state : State P) → IsSteady plain Good state → R state.world (drain servers state).state.world (drain servers state).told

-- a step of the servers, where there is one, keeps the facts and a relation
pub record IsStepped {P : Type 0} (plain : Plain) (Good : State P → Type 0) (R : World → World → List Told → Type 0)
    (step : State P → Option (Outcome (State P))) : Type 0 where
  pub steps : (state : State P) (outcome : Outcome (State P)) → step state ≡ Some outcome → IsSteady plain Good state
      → IsSteady plain Good outcome.state × R state.world outcome.state.world outcome.told

pub record AreStepped {P : Type 0} (plain : Plain) (servers : Servers P) (Good : State P → Type 0) (R : World → World → List Told → Type 0) : Type 0 where
  pub mirror : IsStepped plain Good R servers.mirror
  pub ack : IsStepped plain Good R servers.ack
  pub work : IsStepped plain Good R servers.work

-- Words of public clauses: what agents do: they send calls, take replies and items, and hand out callbacks; and how byte strings
-- enter the net.
use Rattle.std.specs.Prelude.{ℕ, suc, ◌+◌, Bool, nat_lt, nat_le, if◌then◌else◌, ℤ, Option, Some, None, List, [], ◌∷◌, length}
use Rattle.cluster_facts.specs.Types.{Ask, Call, Reply, Status, Item, Callback, Message, Request, Receipt, WireWhy}
use Rattle.cluster_facts.specs.Service.{Plain}
use Rattle.cluster_facts.specs.Agents.{Living, Agent, call_of, refusal, dispatch_refusal, after_call, kept_call, callbacks_of}
use Rattle.cluster_facts.specs.Agents.{lacks_place, after_reply, find_living, after_item, oldest, after_dispatch_all, after_dispatch_one}
use Rattle.cluster_facts.specs.Messages.{Posting}
use Rattle.cluster_facts.specs.World.{World, knows, posted, knows_raw, injected, with_agent, enlisted}
use Rattle.cluster_events.specs.Lines.{Told, Posted, Injected, Replied, Declined, HandedOut, Dispatched, Ignored, Why}
use Rattle.cluster_events.specs.declared.lines.Why.TheVariants.{AnsweredReply, Left, TakenItem, AheadItem, GoneItem}
use Rattle.cluster_events.specs.Outcomes.{Outcome, quietly, telling}

-- the line of a message that is posted: none where the net knows it
abbrev pub post_lines : Plain → Message → List Posting → List Told
post_lines plain message net = if knows plain message net then [] else Posted (suc (length net)) message ∷ []

-- a message is posted
abbrev pub post : Plain → Message → World → Outcome World
post plain message world = record {
  state = record world { net = posted plain message world.net };
  told = post_lines plain message world.net;
}

-- the line of bytes that are injected: none where the net knows them
abbrev pub inject_lines : List ℕ → ℕ → WireWhy → List Posting → List Told
inject_lines bytes front why net =
    if knows_raw bytes net then [] else Injected (suc (length net)) bytes front why ∷ []

-- bytes are injected that no message spells
abbrev pub inject : List ℕ → ℕ → WireWhy → World → Outcome World
inject bytes front why world = record {
  state = record world { net = injected bytes front why world.net };
  told = inject_lines bytes front why world.net;
}

-- A call is asked of a client's agent.

abbrev pub send : Plain → ℕ → Call → World → Outcome World
send plain client call world =
    let agent = world.agents client in
    let request = Request client agent.next call in
    record {
      state = record world {
        net = posted plain request world.net;
        agents = with_agent client (after_call call agent) world.agents;
        clients = enlisted client world.clients;
      };
      told = post_lines plain request world.net;
    }

abbrev pub ask_by : Plain → ℕ → Call → Option Status → World → Outcome World
ask_by plain client call (Some status) world = telling world (Declined client status)
ask_by plain client call None world = send plain client call world

-- the agent refuses the call by itself, or posts its request
abbrev pub ask : Plain → ℕ → Ask → World → Outcome World
ask plain client asked world = ask_by plain client (call_of asked) (refusal asked (world.agents client)) world

-- A reply is delivered, the message of this place in the net.

abbrev pub reply_by : ℕ → ℕ → ℕ → Reply → Option Call → World → Outcome World
reply_by place client number reply None world = telling world (Ignored place AnsweredReply)
reply_by place client number reply (Some call) world =
    let agent = world.agents client in
    let full = lacks_place world.places agent.queue (callbacks_of agent.marks call reply) in
    record {
      state = record world { agents = if full then world.agents else with_agent client (after_reply number call reply agent) world.agents };
      told = (if full then Ignored place Left else Replied client number call reply) ∷ [];
    }

-- the agent takes it where the call is unanswered and its callback, if there is one, has a place
abbrev pub take_reply : ℕ → ℕ → ℕ → Reply → World → Outcome World
take_reply place client number reply world =
    reply_by place client number reply (kept_call number (world.agents client).kept) world

-- An item is delivered, the message of this place in the net.

pub data Fate : Type 0 where
  Takes : Fate
  Misses : (why : Why) → Fate

-- the item of this number, where that one is next, and the queue is full or not
abbrev pub fate_of : ℕ → ℕ → Bool → Fate
fate_of number next full =
    if nat_lt number next then Misses TakenItem else
    if nat_lt next number then Misses AheadItem else
    if full then Misses Left else Takes

abbrev pub item_as : Plain → ℕ → ℕ → ℕ → Item → Living → Fate → World → Outcome World
item_as plain place client key item found (Misses why) world = telling world (Ignored place why)
item_as plain place client key item found Takes world =
    let receipt = Receipt client key item.number in
    record {
      state = record world {
        net = posted plain receipt world.net;
        agents = with_agent client (after_item key found.id item.content (world.agents client)) world.agents;
      };
      told = post_lines plain receipt world.net;
    }

abbrev pub item_by : Plain → ℕ → ℕ → ℕ → Item → Option Living → World → Outcome World
item_by plain place client key item None world = telling world (Ignored place GoneItem)
item_by plain place client key item (Some found) world =
    item_as plain place client key item found (fate_of item.number found.next (nat_le world.places (length (world.agents client).queue))) world

-- the agent takes it where the subscription lives, the item is its next, and the callback has a place; it posts a receipt
abbrev pub take_item : Plain → ℕ → ℕ → ℕ → Item → World → Outcome World
take_item plain place client key item world =
    item_by plain place client key item (find_living key (world.agents client).living) world

-- Callbacks are handed out.

-- the lines of callbacks, the oldest being the last in the list, that follow so many others of the client
abbrev pub handed_lines : ℕ → ℕ → List Callback → List Told
handed_lines client before [] = []
handed_lines client before (callback ∷ callbacks) =
    HandedOut client (suc (before + length callbacks)) callback ∷ handed_lines client before callbacks

abbrev pub hand_out : ℕ → List Callback → Agent → World → Outcome World
hand_out client callbacks after world = record {
  state = record world { agents = with_agent client after world.agents };
  told = Dispatched client (length callbacks) ∷ handed_lines client (length (world.agents client).handed) callbacks;
}

abbrev pub dispatch_all_by : ℕ → Option Status → World → Outcome World
dispatch_all_by client (Some status) world = telling world (Declined client status)
dispatch_all_by client None world =
    let agent = world.agents client in
    hand_out client agent.queue (after_dispatch_all agent) world

abbrev pub dispatch_one_by : ℕ → Option Status → World → Outcome World
dispatch_one_by client (Some status) world = telling world (Declined client status)
dispatch_one_by client None world =
    let agent = world.agents client in
    hand_out client (oldest agent.queue) (after_dispatch_one agent) world

-- all callbacks of the client's queue are handed out, in order
abbrev pub dispatch_all : ℕ → World → Outcome World
dispatch_all client world = dispatch_all_by client (dispatch_refusal (world.agents client)) world

-- the oldest callback of the client's queue is handed out, if there is one
abbrev pub dispatch_one : ℕ → World → Outcome World
dispatch_one client world = dispatch_one_by client (dispatch_refusal (world.agents client)) world

-- The time in force.
abbrev pub set_time : ℤ → World → Outcome World
set_time now world = quietly (record world { now = now })

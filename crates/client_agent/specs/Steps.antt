-- Words of public clauses: what each call of an agent answers, and what is seen of the agent after it.
use Rattle.std.specs.Prelude.{◌≡◌, ℕ, suc, ◌+◌, ◌≤◌, ⊤, Bool, true, false}
use Rattle.std.specs.Prelude.{nat_lt, nat_le, Option, Some, None, List, [], ◌∷◌, length, reverse}
use Rattle.callback_dispatch.specs.declared.numbered.Numbered.{Numbered}
use Rattle.cluster_facts.specs.Types.{Ask, Call, Reply, Item, Callback, Message, Request, Answer, Delivery, Receipt}
use Rattle.cluster_facts.specs.Agents.{Living, Agent, call_of, refusal, dispatch_refusal, after_call, kept_call, callbacks_of, lacks_place, after_reply}
use Rattle.cluster_facts.specs.Agents.{find_living, after_item, oldest, after_dispatch_all, after_dispatch_one}
use Rattle.client_agent.specs.declared.answers.Sent.{Sent}
use Rattle.client_agent.specs.declared.answers.Sent.TheVariants.{Posted, Refused}
use Rattle.client_agent.specs.declared.answers.MissedWhy.TheVariants.{Answered as AnsweredBefore, Left, Taken as TakenBefore, Ahead, Gone}
use Rattle.client_agent.specs.declared.answers.Taken.{Taken}
use Rattle.client_agent.specs.declared.answers.Taken.TheVariants.{Answered, Item as TakenItem, Missed}
use Rattle.client_agent.specs.declared.answers.How.{How}
use Rattle.client_agent.specs.declared.answers.How.TheVariants.{One, All}
use Rattle.client_agent.specs.declared.answers.Dispatched.{Dispatched}
use Rattle.client_agent.specs.declared.answers.Dispatched.TheVariants.{Refused as RefusedDispatch, Given}
use Rattle.client_agent.specs.Seen.{Seen, seen_of}

-- A call is asked: the request of the next number is to be posted, or the agent refuses the call by itself.

abbrev pub IsSent : ℕ → ℕ → Ask → Agent → Sent → Seen → Type 0
IsSent client places asked agent (Posted message) seen =
    (refusal asked agent ≡ None) × (message ≡ Request client agent.next (call_of asked))
    × (seen ≡ seen_of client places (after_call (call_of asked) agent))
IsSent client places asked agent (Refused status) seen =
    (refusal asked agent ≡ Some status) × (seen ≡ seen_of client places agent)

-- A reply comes. It is taken where its call is unanswered and its callback, if it gives one, has a place.

abbrev pub IsReplyTo : ℕ → ℕ → ℕ → Reply → Agent → Call → Bool → Taken → Seen → Type 0
IsReplyTo client places number reply agent call true taken seen =
    (taken ≡ Missed Left) × (seen ≡ seen_of client places agent)
IsReplyTo client places number reply agent call false taken seen =
    (taken ≡ Answered number reply) × (seen ≡ seen_of client places (after_reply number call reply agent))

abbrev pub IsReply : ℕ → ℕ → ℕ → Reply → Agent → Option Call → Taken → Seen → Type 0
IsReply client places number reply agent None taken seen =
    (taken ≡ Missed AnsweredBefore) × (seen ≡ seen_of client places agent)
IsReply client places number reply agent (Some call) taken seen =
    IsReplyTo client places number reply agent call (lacks_place places agent.queue (callbacks_of agent.marks call reply)) taken seen

-- An item comes. It is taken where its subscription lives, its number is the next, and its callback has a place.

-- by whether its number was taken before, whether it is ahead of the next, and whether the queue is full
abbrev pub IsItemBy : ℕ → ℕ → ℕ → Item → Agent → Living → Bool → Bool → Bool → Taken → Seen → Type 0
IsItemBy client places key item agent found true ahead full taken seen =
    (taken ≡ Missed TakenBefore) × (seen ≡ seen_of client places agent)
IsItemBy client places key item agent found false true full taken seen =
    (taken ≡ Missed Ahead) × (seen ≡ seen_of client places agent)
IsItemBy client places key item agent found false false true taken seen =
    (taken ≡ Missed Left) × (seen ≡ seen_of client places agent)
IsItemBy client places key item agent found false false false taken seen =
    (taken ≡ TakenItem (Receipt client key item.number)) × (seen ≡ seen_of client places (after_item key found.id item.content agent))

abbrev pub IsItem : ℕ → ℕ → ℕ → Item → Agent → Option Living → Taken → Seen → Type 0
IsItem client places key item agent None taken seen =
    (taken ≡ Missed Gone) × (seen ≡ seen_of client places agent)
IsItem client places key item agent (Some found) taken seen =
    IsItemBy client places key item agent found (nat_lt item.number found.next) (nat_lt found.next item.number) (nat_le places (length agent.queue)) taken seen

-- a message that agents take: a reply to this client, or an item for it
abbrev pub IsFor : ℕ → Message → Type 0
IsFor client (Answer receiver number reply) = receiver ≡ client
IsFor client (Delivery receiver key item) = receiver ≡ client
IsFor client _ = ⊥

abbrev pub IsTaken : ℕ → ℕ → Message → Agent → Taken → Seen → Type 0
IsTaken client places (Answer receiver number reply) agent taken seen =
    IsReply client places number reply agent (kept_call number agent.kept) taken seen
IsTaken client places (Delivery receiver key item) agent taken seen =
    IsItem client places key item agent (find_living key agent.living) taken seen
IsTaken client places _ agent taken seen = ⊥

-- Callbacks are handed out, under their numbers.

-- all of them are handed out by 1 to 8 workers
abbrev pub HasWorkers : How → Type 0
HasWorkers One = ⊤
HasWorkers (All workers) = (1 ≤ workers) × (workers ≤ 8)

-- callbacks that follow so many others, each with its number, the newest first
abbrev pub numbered : ℕ → List Callback → List Numbered
numbered before [] = []
numbered before (callback ∷ callbacks) =
    record { number = suc (before + length callbacks); callback = callback } ∷ numbered before callbacks

abbrev pub handed_out : How → List Callback → List Callback
handed_out One queue = oldest queue
handed_out (All workers) queue = queue

abbrev pub after_dispatch : How → Agent → Agent
after_dispatch One agent = after_dispatch_one agent
after_dispatch (All workers) agent = after_dispatch_all agent

abbrev pub IsDispatched : ℕ → ℕ → How → Agent → Dispatched → Seen → Type 0
IsDispatched client places how agent (Given taken) seen =
    (dispatch_refusal agent ≡ None) × (taken ≡ reverse (numbered (length agent.handed) (handed_out how agent.queue)))
    × (seen ≡ seen_of client places (after_dispatch how agent))
IsDispatched client places how agent (RefusedDispatch status) seen =
    (dispatch_refusal agent ≡ Some status) × (seen ≡ seen_of client places agent)

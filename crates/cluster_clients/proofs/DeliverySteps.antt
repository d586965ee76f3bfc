-- What an agent makes of a reply or an item is what the world has it make.
use Rattle.std.proofs.Common.{◌≡◌, ℕ, zero, suc, ◌<◌, Bool, true, false, nat_lt, nat_le, if◌then◌else◌, Option, Some, None, List, [], ◌∷◌, length, slice_get, slice_set, refl, ap, sym, ◌∙◌, subst, arith}
use Rattle.std.specs.Prelude.{option_map}
use Rattle.wire.specs.MessageSpelling.{MessageInRange}
use Rattle.cluster_facts.specs.Types.{Call, Reply, Item, Callback, Written, Success, Message, Answer, Delivery, Receipt}
use Rattle.cluster_facts.specs.Service.{Plain}
use Rattle.cluster_facts.specs.Agents.{Living, Agent, kept_call, callbacks_of, lacks_place, after_reply, find_living, after_item}
use Rattle.cluster_facts.specs.World.{World, posted, with_agent}
use Rattle.cluster_events.specs.Lines.{Ignored, Replied}
use Rattle.cluster_events.specs.Outcomes.{Outcome}
use Rattle.cluster_events.specs.ClientEvents.{post_lines, reply_by, take_reply, item_as, item_by, take_item, Takes as TakesIt, Misses}
use Rattle.cluster_events.specs.declared.lines.Why.TheVariants.{Left, TakenItem, AheadItem}
use Rattle.client_agent.specs.declared.answers.Taken.{Taken}
use Rattle.client_agent.specs.declared.answers.Taken.TheVariants.{Answered, Item as TookItem, Missed}
use Rattle.client_agent.specs.Seen.{Seen, seen_of}
use Rattle.client_agent.specs.Steps.{IsReplyTo, IsReply, IsItemBy, IsItem, IsTaken, IsFor}
use Rattle.cluster_clients.specs.Clients.{ShowsAgents, StandsAt}
use Rattle.cluster_clients.specs.Taken.{taken_as}
use Rattle.cluster_clients.specs.Taking.{receiver_of, why_of, IsTakenAt, HasFitReceipt}
use Rattle.cluster_clients.proofs.DispatchSteps.{seen-at}

-- The agent that is found is its client's.

pub found-within : (client at : ℕ) (seen : List Seen) → StandsAt client at seen → at < length seen
found-within client at [] stands = cc
found-within client zero (first ∷ seen) stands = omega arith
found-within client (suc at) (first ∷ seen) stands = let rest = found-within client at seen stands in omega arith

pub found-own : (client at : ℕ) (seen : List Seen) (one : Seen) → StandsAt client at seen → slice_get seen at ≡ Some one → one.client ≡ client
found-own client at seen one stands is =
    let same : Some one.client ≡ Some client = sym (ap (option_map (λ (s : Seen). s.client)) is) ∙ stands in
    cc

for-receiver : (message : Message) (client other : ℕ) → receiver_of message ≡ Some client → other ≡ client → IsFor other message
for-receiver (Answer receiver number reply) client other is same = let e : receiver ≡ client = cc in e ∙ sym same
for-receiver (Delivery receiver key item) client other is same = let e : receiver ≡ client = cc in e ∙ sym same
for-receiver _ client other is same = cc

-- so it may take the message
pub found-for : (client at : ℕ) (seen : List Seen) (message : Message) → StandsAt client at seen → receiver_of message ≡ Some client → (one : Seen) → slice_get seen at ≡ Some one → IsFor one.client message
found-for client at seen message found receiver one is =
    for-receiver message client one.client receiver (found-own client at seen one found is)

pub get-some : (seen : List Seen) (n : ℕ) → n < length seen → (one : Seen) × (slice_get seen n ≡ Some one)
get-some [] n below = absurd (omega arith)
get-some (first ∷ seen) zero below = (first, refl)
get-some (first ∷ seen) (suc n) below = get-some seen n (omega arith)

-- Whatever is seen is seen of some agent, so the receipt of an item is known.

abbrev pub some_callbacks : ℕ → List Callback
some_callbacks zero = []
some_callbacks (suc count) = Written 0 Success ∷ some_callbacks count

some_callbacks-length : (count : ℕ) → length (some_callbacks count) ≡ count
some_callbacks-length zero = refl
some_callbacks-length (suc count) = ap suc (some_callbacks-length count)

abbrev pub agent_for : Seen → Agent
agent_for seen = record {
  next = seen.next;
  log_handle = seen.log_handle;
  ntf_handle = seen.ntf_handle;
  kept = seen.kept;
  living = seen.living;
  queue = seen.queue;
  handed = some_callbacks seen.given;
  marks = seen.marks;
}

pub seen-some : (seen : Seen) → seen ≡ seen_of seen.client seen.places (agent_for seen)
seen-some seen = λ i. record {
  client = seen.client;
  places = seen.places;
  next = seen.next;
  log_handle = seen.log_handle;
  ntf_handle = seen.ntf_handle;
  kept = seen.kept;
  living = seen.living;
  queue = seen.queue;
  given = sym (some_callbacks-length seen.given) i;
  marks = seen.marks;
}

pub reply-no-item : (client places number : ℕ) (reply : Reply) (agent : Agent) (call : Option Call) (receipt : Message) (seen : Seen) → IsReply client places number reply agent call (TookItem receipt) seen → ⊥
reply-no-item client places number reply agent None receipt seen is = let e = is.0 in cc
reply-no-item client places number reply agent (Some call) receipt seen is =
    by-place (lacks_place places agent.queue (callbacks_of agent.marks call reply)) is
  where
    by-place : (b : Bool) → IsReplyTo client places number reply agent call b (TookItem receipt) seen → ⊥
    by-place true is = let e = is.0 in cc
    by-place false is = let e = is.0 in cc

pub item-receipt : (client places key : ℕ) (item : Item) (agent : Agent) (found : Option Living) (receipt : Message) (seen : Seen) → IsItem client places key item agent found (TookItem receipt) seen → receipt ≡ Receipt client key item.number
item-receipt client places key item agent None receipt seen is = let e = is.0 in cc
item-receipt client places key item agent (Some found) receipt seen is =
    by-tests (nat_lt item.number found.next) (nat_lt found.next item.number) (nat_le places (length agent.queue)) is
  where
    by-tests : (a b c : Bool) → IsItemBy client places key item agent found a b c (TookItem receipt) seen → receipt ≡ Receipt client key item.number
    by-tests true b c is = let e = is.0 in cc
    by-tests false true c is = let e = is.0 in cc
    by-tests false false true is = let e = is.0 in cc
    by-tests false false false is = let e = is.0 in cc

taken-receipt : (client places : ℕ) (message : Message) (agent : Agent) (receipt : Message) (seen : Seen) → IsFor client message → MessageInRange message → IsTaken client places message agent (TookItem receipt) seen → MessageInRange receipt
taken-receipt client places (Answer receiver number reply) agent receipt seen own range is =
    absurd (reply-no-item client places number reply agent (kept_call number agent.kept) receipt seen is)
taken-receipt client places (Delivery receiver key item) agent receipt seen own range is =
    let e = item-receipt client places key item agent (find_living key agent.living) receipt seen is in
    let P : Message → Type 0 = λ m. MessageInRange m in
    let R : ℕ → Type 0 = λ c. MessageInRange (Receipt c key item.number) in
    subst P (sym e) (subst R own (range.0, range.1, range.2.number))
taken-receipt client places _ agent receipt seen own range is = elim is [ ]

pub receipt-range : (client at : ℕ) (message : Message) (old new : List Seen) (receipt : Message) → StandsAt client at old → receiver_of message ≡ Some client → MessageInRange message → at < length old → IsTakenAt at message old (TookItem receipt) new → MessageInRange receipt
receipt-range client at message old new receipt found receiver range within is =
    let one = get-some old at within in
    let there : slice_get old at ≡ Some (seen_of one.0.client one.0.places (agent_for one.0)) = one.1 ∙ ap Some (seen-some one.0) in
    let done = is one.0.client one.0.places (agent_for one.0) there in
    taken-receipt one.0.client one.0.places message (agent_for one.0) receipt done.0 (found-for client at old message found receiver one.0 one.1) range done.1

-- What becomes of the message.

abbrev pub agents_with : ℕ → Agent → World → World
agents_with client next world = record world { agents = with_agent client next world.agents }

abbrev pub Became : Plain → ℕ → ℕ → World → Taken → Seen → Outcome World → Type 0
Became plain place client world (Answered number reply) seen outcome =
    (call : Call) × (next : Agent) × (outcome ≡ record { state = agents_with client next world; told = Replied client number call reply ∷ [] }) × (seen ≡ seen_of client world.places next)
Became plain place client world (TookItem receipt) seen outcome =
    (next : Agent) × (outcome ≡ record { state = record world { net = posted plain receipt world.net; agents = with_agent client next world.agents }; told = post_lines plain receipt world.net }) × (seen ≡ seen_of client world.places next)
Became plain place client world (Missed why) seen outcome =
    (outcome ≡ record { state = world; told = Ignored place (why_of why) ∷ [] }) × (seen ≡ seen_of client world.places (world.agents client))

-- a reply to a call that is kept, by whether its callback lacks a place
abbrev reply_outcome : ℕ → ℕ → ℕ → Call → Reply → World → Bool → Outcome World
reply_outcome place client number call reply world full = record {
  state = record world { agents = if full then world.agents else with_agent client (after_reply number call reply (world.agents client)) world.agents };
  told = (if full then Ignored place Left else Replied client number call reply) ∷ [];
}

reply-becomes : (plain : Plain) (place client number : ℕ) (reply : Reply) (world : World) (kept : Option Call) (taken : Taken) (seen : Seen) → IsReply client world.places number reply (world.agents client) kept taken seen → Became plain place client world taken seen (reply_by place client number reply kept world)
reply-becomes plain place client number reply world None taken seen is =
    let B : Taken → Type 0 = λ t. Became plain place client world t seen (reply_by place client number reply None world) in
    subst B (sym is.0) (refl, is.1)
reply-becomes plain place client number reply world (Some call) taken seen is =
    by-place (lacks_place world.places (world.agents client).queue (callbacks_of (world.agents client).marks call reply)) is
  where
    by-place : (b : Bool) → IsReplyTo client world.places number reply (world.agents client) call b taken seen → Became plain place client world taken seen (reply_outcome place client number call reply world b)
    by-place true is =
        let B : Taken → Type 0 = λ t. Became plain place client world t seen (reply_outcome place client number call reply world true) in
        subst B (sym is.0) (refl, is.1)
    by-place false is =
        let B : Taken → Type 0 = λ t. Became plain place client world t seen (reply_outcome place client number call reply world false) in
        subst B (sym is.0) (call, after_reply number call reply (world.agents client), refl, is.1)

item-becomes : (plain : Plain) (place client key : ℕ) (item : Item) (world : World) (found : Option Living) (taken : Taken) (seen : Seen) → IsItem client world.places key item (world.agents client) found taken seen → Became plain place client world taken seen (item_by plain place client key item found world)
item-becomes plain place client key item world None taken seen is =
    let B : Taken → Type 0 = λ t. Became plain place client world t seen (item_by plain place client key item None world) in
    subst B (sym is.0) (refl, is.1)
item-becomes plain place client key item world (Some found) taken seen is =
    by-tests (nat_lt item.number found.next) (nat_lt found.next item.number) (nat_le world.places (length (world.agents client).queue)) is
  where
    by-tests : (a b c : Bool) → IsItemBy client world.places key item (world.agents client) found a b c taken seen → Became plain place client world taken seen (item_as plain place client key item found (if a then Misses TakenItem else if b then Misses AheadItem else if c then Misses Left else TakesIt) world)
    by-tests true b c is =
        let B : Taken → Type 0 = λ t. Became plain place client world t seen (item_as plain place client key item found (Misses TakenItem) world) in
        subst B (sym is.0) (refl, is.1)
    by-tests false true c is =
        let B : Taken → Type 0 = λ t. Became plain place client world t seen (item_as plain place client key item found (Misses AheadItem) world) in
        subst B (sym is.0) (refl, is.1)
    by-tests false false true is =
        let B : Taken → Type 0 = λ t. Became plain place client world t seen (item_as plain place client key item found (Misses Left) world) in
        subst B (sym is.0) (refl, is.1)
    by-tests false false false is =
        let B : Taken → Type 0 = λ t. Became plain place client world t seen (item_as plain place client key item found TakesIt world) in
        subst B (sym is.0) (after_item key found.id item.content (world.agents client), refl, is.1)

taken-becomes : (plain : Plain) (place client : ℕ) (message : Message) (world : World) (taken : Taken) (seen : Seen) → receiver_of message ≡ Some client → IsTaken client world.places message (world.agents client) taken seen → Became plain place client world taken seen (taken_as plain place message world)
taken-becomes plain place client (Answer receiver number reply) world taken seen receives is =
    let same : client ≡ receiver = cc in
    let P : ℕ → Type 0 = λ c. Became plain place client world taken seen (take_reply place c number reply world) in
    subst P same (reply-becomes plain place client number reply world (kept_call number (world.agents client).kept) taken seen is)
taken-becomes plain place client (Delivery receiver key item) world taken seen receives is =
    let same : client ≡ receiver = cc in
    let P : ℕ → Type 0 = λ c. Became plain place client world taken seen (take_item plain place c key item world) in
    subst P same (item-becomes plain place client key item world (find_living key (world.agents client).living) taken seen is)
taken-becomes plain place client _ world taken seen receives is = elim is [ ]

-- the agent at the place took or missed the message, over each world
pub record Came (plain : Plain) (place client at : ℕ) (message : Message) (world : World) (old new : List Seen) (taken : Taken) : Type 0 where
  pub here : slice_get world.clients at ≡ Some client
  pub seen : Seen
  pub became : Became plain place client world taken seen (taken_as plain place message world)
  pub new_is : new ≡ slice_set old at seen
  pub old_is : slice_get old at ≡ Some (seen_of client world.places (world.agents client))

pub came : (plain : Plain) (place client at : ℕ) (message : Message) (world : World) (old new : List Seen) (taken : Taken) → ShowsAgents world old → StandsAt client at old → receiver_of message ≡ Some client → IsTakenAt at message old taken new → Came plain place client at message world old new taken
came plain place client at message world old new taken shows found receiver is =
    let there = seen-at client at old world shows found in
    let done = is client world.places (world.agents client) there.1 in
    record {
      here = there.0;
      seen = done.0;
      became = taken-becomes plain place client message world taken done.0 receiver done.1;
      new_is = done.2;
      old_is = there.1;
    }

pub fit-receipt : (client at : ℕ) (message : Message) (old new : List Seen) (taken : Taken) → StandsAt client at old → receiver_of message ≡ Some client → MessageInRange message → at < length old → IsTakenAt at message old taken new → HasFitReceipt taken
fit-receipt client at message old new (TookItem receipt) found receiver range within is = receipt-range client at message old new receipt found receiver range within is
fit-receipt client at message old new _ found receiver range within is = tt

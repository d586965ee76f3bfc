-- What a server posts in a world whose history is not read; and that the clients of a state are such as that world has.
use Rattle.std.proofs.Common.{inl, inr, ℕ, Bool, true, false, if◌then◌else◌, ◌==◌, List, [], ◌∷◌, ap, sym, subst, append-nil}
use Rattle.std.specs.List.{AllByRecursion}
use Rattle.plain_service.specs.Setups.{IsMoment}
use Rattle.cluster_facts.specs.Types.{Call, Reply, Entry, Called, Receipted, Message, Request, Answer, Delivery, Receipt}
use Rattle.cluster_facts.specs.Lists.{Stands}
use Rattle.cluster_facts.specs.Messages.{Posting, message_of, messages_in, sent_by, answers_to, receipts_of, calls_in}
use Rattle.cluster_facts.specs.Service.{Plain, IsPlain, answers_in}
use Rattle.cluster_facts.specs.Agents.{Agent}
use Rattle.cluster_facts.specs.History.{Hand, Empty, Waiting, Applied, Ready, accepted, accepted_by}
use Rattle.cluster_facts.specs.World.{World, posted}
use Rattle.cluster_facts.specs.Facts.{IsClient, IsOfRun, IsSound, view_of}
use Rattle.cluster_facts.proofs.Words.{All-map, by_test}
use Rattle.cluster_facts.proofs.Clients.{IsClient-calls, IsClient-hears}
use Rattle.cluster_facts.proofs.Posting.{posted-cases, posted-keeps, posted-stands}
use Rattle.cluster_clients.specs.Posted.{posted_all}
use Rattle.cluster_rounds.specs.Wild.{AreClients, NamesCall}
use Rattle.cold_servers.specs.Silent.{AnswersCall}

abbrev Grown : List Message → List Message → Type 0
Grown old new = (message : Message) → Stands message old → Stands message new

-- items, and replies to calls of the net
abbrev pub IsPostable : List Message → Message → Type 0
IsPostable net (Answer client number reply) = (call : Call) × Stands (Request client number call) net
IsPostable net (Delivery client key item) = Unit {0}
IsPostable net _ = ⊥

pub answers-postable : (net : List Message) (message : Message) → AnswersCall net message → IsPostable net message
answers-postable net (Answer client number reply) answers = answers
answers-postable net message answers = elim answers [ ]

postable-grows : (old new : List Message) → Grown old new → (message : Message) → IsPostable old message → IsPostable new message
postable-grows old new grows (Answer client number reply) can = (can.0, grows (Request client number can.0) can.1)
postable-grows old new grows (Delivery client key item) can = tt
postable-grows old new grows message can = elim can [ ]

postable-named : (net : List Message) (message : Message) → IsPostable net message → NamesCall net message
postable-named net (Answer client number reply) can = can
postable-named net (Delivery client key item) can = tt
postable-named net message can = elim can [ ]

named-grows : (old new : List Message) → Grown old new → (message : Message) → NamesCall old message → NamesCall new message
named-grows old new grows (Request client number call) named = tt
named-grows old new grows (Answer client number reply) named = (named.0, grows (Request client number named.0) named.1)
named-grows old new grows (Delivery client key item) named = tt
named-grows old new grows (Receipt client key through) named = tt
named-grows old new grows _ named = elim named [ ]

-- A message is posted.

post-client : (net : List Message) (message : Message) → IsPostable net message → (client : ℕ) (agent : Agent) → IsClient (view_of client net []) agent → IsClient (view_of client (message ∷ net) []) agent
post-client net (Answer receiver number reply) can client agent own =
    elim (receiver == client) as (λ b. IsClient (record {
      sent = sent_by client net;
      heard = if b then (number, reply) ∷ answers_to client net else answers_to client net;
      marks = receipts_of client net;
      calls = [];
    }) agent) [
      | true ↦ IsClient-hears (view_of client net []) agent (number, reply) own
      | false ↦ own
    ]
post-client net (Delivery receiver key item) can client agent own = own
post-client net message can client agent own = elim can [ ]

module _ (plain : Plain) (is_plain : IsPlain plain) where
  post-one : (message : Message) (world : World) → IsPostable (messages_in world.net) message → AreClients world → AreClients (record world { net = posted plain message world.net })
  post-one message world can clients =
      let net = messages_in world.net in
      let A : List Posting → Type 0 = λ postings. AreClients (record world { net = postings }) in
      let grown : Grown net (message ∷ net) = λ other stands. inr stands in
      elim (posted-cases plain is_plain message world.net) [
        | inl known ↦ subst A (sym known.1) (record { clients = clients.clients; named = clients.named; moment = clients.moment })
        | inr new ↦ subst A (sym new) (record {
          clients = λ client. post-client net message can client (world.agents client) (clients.clients client);
          named = (
            postable-named (message ∷ net) message (postable-grows net (message ∷ net) grown message can),
            All-map (NamesCall net) (NamesCall (message ∷ net)) net (named-grows net (message ∷ net) grown) clients.named,
          );
          moment = clients.moment;
        })
      ]

  pub all-grown : (messages : List Message) (net : List Posting) (other : Message) → Stands other (messages_in net) → Stands other (messages_in (posted_all plain messages net))
  all-grown [] net other stands = stands
  all-grown (message ∷ messages) net other stands =
      all-grown messages (posted plain message net) other (posted-keeps plain is_plain message other net stands)

  -- **messages are posted**
  pub post-all : (messages : List Message) (world : World) → AllByRecursion (IsPostable (messages_in world.net)) messages → AreClients world → AreClients (record world { net = posted_all plain messages world.net })
  post-all [] world can clients = record { clients = clients.clients; named = clients.named; moment = clients.moment }
  post-all (message ∷ messages) world can clients =
      let next : World = record world { net = posted plain message world.net } in
      let grown : Grown (messages_in world.net) (messages_in next.net) = λ other stands. posted-keeps plain is_plain message other world.net stands in
      post-all messages next
      (All-map (IsPostable (messages_in world.net)) (IsPostable (messages_in next.net)) messages (postable-grows (messages_in world.net) (messages_in next.net) grown) can.1)
      (post-one message world can.0 clients)

  -- and stand there
  pub all-posted : (messages : List Message) (net : List Posting) → AllByRecursion (λ message. Stands message (messages_in (posted_all plain messages net))) messages
  all-posted [] net = tt
  all-posted (message ∷ messages) net = (
    all-grown messages (posted plain message net) message (posted-stands plain is_plain message net),
    all-posted messages (posted plain message net),
  )

-- **The clients of a state.**

-- a reply of the service is one to a call whose request stands in the net
answered-asks : (plain : Plain) (client number : ℕ) (reply : Reply) (net : List Message) (past : List Entry) → Stands (number, reply) (answers_in plain client past) → AllByRecursion (λ (entry : Entry). Stands (message_of entry) net) past → (call : Call) × Stands (Request client number call) net
answered-asks plain client number reply net [] stands heard = elim stands [ ]
answered-asks plain client number reply net (Called caller seq time call ∷ past) stands heard =
    let P : Bool → Type 0 = λ b.
    Stands (number, reply) (if b then (seq, plain.reply past caller seq time call) ∷ answers_in plain client past else answers_in plain client past)
    → (asked : Call) × Stands (Request client number asked) net
    in
    by_test P caller client
    (λ same here. elim here [
      | inl is ↦ (
        call,
        subst (λ (c : ℕ). Stands (Request c number call) net) same
            (subst (λ (n : ℕ). Stands (Request caller n call) net) (sym (ap (λ (x : ℕ × Reply). x.0) is)) heard.0),
      )
      | inr deeper ↦ answered-asks plain client number reply net past deeper heard.1
    ])
    (λ apart there. answered-asks plain client number reply net past there heard.1)
    stands
answered-asks plain client number reply net (Receipted caller key through time ∷ past) stands heard =
    answered-asks plain client number reply net past stands heard.1

run-named : (plain : Plain) (net : List Message) (past : List Entry) → AllByRecursion (λ (entry : Entry). Stands (message_of entry) net) past → (message : Message) → IsOfRun plain past message → NamesCall net message
run-named plain net past heard (Request client number call) run = tt
run-named plain net past heard (Answer client number reply) run = answered-asks plain client number reply net past run heard
run-named plain net past heard (Delivery client key item) run = tt
run-named plain net past heard (Receipt client key through) run = tt
run-named plain net past heard _ run = elim run [ ]

answered-all : (P : Entry → Type 0) (past : List Entry) (hand : Hand) → AllByRecursion P (accepted_by past hand) → AllByRecursion P past
answered-all P past Empty all = all
answered-all P past (Waiting entry) all = all.1
answered-all P past (Applied entry) all = all.1
answered-all P past (Ready entry) all = all.1

pub state-clients : (plain : Plain) (world : World) → IsSound plain world → IsMoment world.now → AreClients world
state-clients plain world sound moment =
    let net = messages_in world.net in
    let past = world.core.answered in
    let facts = sound.facts in
    let heard = answered-all (λ (entry : Entry). Stands (message_of entry) net) past world.core.hand facts.heard in
    record {
      clients = λ client.
          let sent = sent_by client net in
          IsClient-calls sent (calls_in client (accepted world.core)) [] (answers_to client net) (receipts_of client net) (world.agents client)
          (sent, sym (append-nil sent)) (facts.clients client);
      named = All-map (IsOfRun plain past) (NamesCall net) net (run-named plain net past heard) facts.run;
      moment = moment;
    }

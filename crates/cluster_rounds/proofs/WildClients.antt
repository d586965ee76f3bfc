-- A reply or an item is delivered to a client's agent, in a world whose history is not read.
use Rattle.std.proofs.Common.{◌≡◌, inl, inr, ℕ, ◌≤◌, Bool, true, false, if◌then◌else◌, nat_le, Option, Some, None, slice_get, get_or, List, [], ◌∷◌, ◌++◌, length, refl, sym, subst, ◌∙◌, arith}
use Rattle.std.proofs.lemmas.Option.{get_or_from_slice_get}
use Rattle.std.proofs.lemmas.Bool.{cases_Bool}
use Rattle.std.specs.List.{AllByRecursion}
use Rattle.cluster_facts.specs.Types.{Ask, Call, Reply, Status, Callback, Item, WireWhy, Message, Request, Answer, Delivery, Receipt}
use Rattle.cluster_facts.specs.Lists.{Stands}
use Rattle.cluster_facts.specs.Messages.{Posting, Raw, messages_in, sent_by, answers_to, receipts_of}
use Rattle.cluster_facts.specs.Service.{Plain, IsPlain}
use Rattle.cluster_facts.specs.Agents.{Living, Agent, after_reply, kept_call, callbacks_of, lacks_place, find_living, after_item, requests_of, greatest_receipts, resent, is_shut, after_call, call_of, refusal, dispatch_refusal, after_dispatch_one}
use Rattle.cluster_facts.specs.World.{World, with_agent, enlisted, injected, knows_raw}
use Rattle.cluster_facts.specs.Facts.{IsClient, view_of}
use Rattle.cluster_clients.specs.Spelled.{AreSpelled, Injects, IsFetched}
use Rattle.cluster_clients.specs.Replies.{FindsReply}
use Rattle.cluster_clients.specs.Clients.{StandsAt, dispatch_as, Dispatches, ShowsAgents}
use Rattle.cluster_clients.proofs.DispatchSteps.{seen-at}
use Rattle.cluster_facts.proofs.Words.{each_client, All-map, All-append, IsCounted-bound, IsNumbered-bound}
use Rattle.cluster_facts.proofs.Clients.{IsClient-call, IsClient-reply, IsClient-item, find_living-found, subscribed-asked, asked_for-number}
use Rattle.cluster_facts.proofs.Posting.{posted-new, posted-keeps, answers_to-stands, receipts_of-stands, sent_by-stands, answers_to-posted, posting_at-stands}
use Rattle.cluster_events.proofs.Carrying.{Keeps-sent, reply_at-stands, requests_of-posted, greatest_receipts-posted}
use Rattle.cluster_events.specs.ClientEvents.Fate.{Takes, Misses}
use Rattle.cluster_events.specs.ClientEvents.{reply_by, Fate, fate_of, item_as, item_by, send, ask_by, ask, inject, dispatch_all_by, dispatch_one_by}
use Rattle.cluster_events.proofs.Sound.{fate_of-takes, refusal-open}
use Rattle.service_laws.specs.PlainOf.{plain_of}
use Rattle.service_laws.proofs.ServiceLaws.{is_plain}
use Rattle.client_agent.specs.Seen.{Seen, seen_of}
use Rattle.cluster_clients.specs.Taken.{taken_as, number_told, Takes as TakesOf}
use Rattle.cluster_clients.specs.Asked.{Asks, AllStarted}
use Rattle.client_agent.specs.declared.answers.How.{How}
use Rattle.client_agent.specs.declared.answers.How.TheVariants.{One, All}
use Rattle.cluster_clients.specs.declared.fetching.Fetched.TheVariants.{Whole}
use Rattle.cluster_rounds.specs.declared.cluster.Cluster.{Cluster}
use Rattle.cluster_rounds.specs.Kits.{IsKit, Kit}
use Rattle.cluster_rounds.specs.Wild.{NamesCall, AreClients, ShowsClients, Posted, AllPosted, Grows, always, KeepsWild, IsWild, WildOn}
use Rattle.cluster_rounds.proofs.TakenSteps.{started-from}

-- what a delivery leaves
pub record Delivers (old new : World) : Type 0 where
  pub clients : AreClients new
  pub net : Grows old new
  pub now : new.now ≡ old.now
  pub places : new.places ≡ old.places

delivers-none : (world : World) → AreClients world → Delivers world world
delivers-none world clients = record { clients = clients; net = λ message posted. posted; now = refl; places = refl }

named-more : (extra : Message) (net : List Message) (message : Message) → NamesCall net message → NamesCall (extra ∷ net) message
named-more extra net (Request other number call) named = tt
named-more extra net (Answer other number reply) named = (named.0, inr named.1)
named-more extra net (Delivery other sub item) named = tt
named-more extra net (Receipt other sub through_it) named = tt
named-more extra net _ named = elim named [ ]

module _ (plain : Plain) (is_plain : IsPlain plain) where
  reply_by-delivers : (place client number : ℕ) (reply : Reply) (found : Option Call) (world : World) → kept_call number (world.agents client).kept ≡ found
      → Posted (Answer client number reply) world → AreClients world → Delivers world (reply_by place client number reply found world).state
  reply_by-delivers place client number reply None world here stands clients = delivers-none world clients
  reply_by-delivers place client number reply (Some call) world here stands clients =
      let net = messages_in world.net in
      let agent = world.agents client in
      let after = after_reply number call reply agent in
      let full = lacks_place world.places agent.queue (callbacks_of agent.marks call reply) in
      let G : Bool → Type 0 = λ b. Delivers world (record world { agents = if b then world.agents else with_agent client after world.agents }) in
      elim (cases_Bool full) [
        | inl is_full ↦ subst G (sym is_full) (record {
          clients = record { clients = clients.clients; named = clients.named; moment = clients.moment };
          net = λ message posted. posted;
          now = refl;
          places = refl;
        })
        | inr has_place ↦ subst G (sym has_place) (record {
          clients = record {
            clients = each_client (λ other b. IsClient (view_of other net []) (if b then after else world.agents other)) client
                (IsClient-reply (view_of client net []) agent number call reply (answers_to-stands client number reply net stands) here (clients.clients client))
                (λ other. clients.clients other);
            named = clients.named;
            moment = clients.moment;
          };
          net = λ message posted. posted;
          now = refl;
          places = refl;
        })
      ]

  item-delivers : (place client key : ℕ) (item : Item) (found : Living) (world : World) → find_living key (world.agents client).living ≡ Some found → item.number ≡ found.next
      → Posted (Delivery client key item) world → AreClients world → Delivers world (item_as plain place client key item found Takes world).state
  item-delivers place client key item found world here next stands clients =
      let net = messages_in world.net in
      let agent = world.agents client in
      let after = after_item key found.id item.content agent in
      let own = clients.clients client in
      let is_found = find_living-found key found own.follows.lives here in
      let asked = subscribed-asked key found.id (sent_by client net) is_found.asked in
      let receipt = Receipt client key item.number in
      let next_is = is_found.next_is in
      let new = posted-new plain is_plain receipt world.net (λ known.
      let bound = IsCounted-bound key item.number (receipts_of client net) own.follows.counted (receipts_of-stands client key item.number net known) in
      absurd (omega (arith, bound, next, next_is))) in
      let marks : ℕ → Bool → List (ℕ × ℕ) = λ other b. if b then (key, item.number) ∷ receipts_of other net else receipts_of other net in
      let A : List Posting → Type 0 = λ postings. AreClients (record world { net = postings; agents = with_agent client after world.agents }) in
      record {
        clients = subst A (sym new) (record {
          clients = each_client (λ other b. IsClient (record { sent = sent_by other net; heard = answers_to other net; marks = marks other b; calls = [] }) (if b then after else world.agents other)) client
              (IsClient-item (view_of client net []) agent key item.number found.id item.content (next ∙ is_found.next_is) (asked_for-number key found.id (sent_by client net) own.sends.numbered asked) own)
              (λ other. clients.clients other);
          named = (tt, All-map (NamesCall net) (NamesCall (receipt ∷ net)) net (named-more receipt net) clients.named);
          moment = clients.moment;
        });
        net = λ message posted. posted-keeps plain is_plain receipt message world.net posted;
        now = refl;
        places = refl;
      }

  item_as-delivers : (place client key : ℕ) (item : Item) (found : Living) (fate : Fate) (world : World) → find_living key (world.agents client).living ≡ Some found
      → fate_of item.number found.next (nat_le world.places (length (world.agents client).queue)) ≡ fate → Posted (Delivery client key item) world → AreClients world
      → Delivers world (item_as plain place client key item found fate world).state
  item_as-delivers place client key item found (Misses why) world here is stands clients = delivers-none world clients
  item_as-delivers place client key item found Takes world here is stands clients =
      let taken = fate_of-takes item.number found.next (nat_le world.places (length (world.agents client).queue)) is in
      item-delivers place client key item found world here taken.0 stands clients

  item_by-delivers : (place client key : ℕ) (item : Item) (found : Option Living) (world : World) → find_living key (world.agents client).living ≡ found
      → Posted (Delivery client key item) world → AreClients world → Delivers world (item_by plain place client key item found world).state
  item_by-delivers place client key item None world here stands clients = delivers-none world clients
  item_by-delivers place client key item (Some found) world here stands clients =
      item_as-delivers place client key item found (fate_of item.number found.next (nat_le world.places (length (world.agents client).queue))) world here refl stands clients

  -- A client asks for a call.

  send-delivers : (client : ℕ) (call : Call) (world : World) → is_shut (world.agents client).next (world.agents client).kept ≡ false → AreClients world → Delivers world (send plain client call world).state
  send-delivers client call world open_ clients =
      let net = messages_in world.net in
      let agent = world.agents client in
      let after = after_call call agent in
      let request = Request client agent.next call in
      let sends = (clients.clients client).sends in
      let next_is = sends.next_is in
      let new = posted-new plain is_plain request world.net (λ known.
      let bound = IsNumbered-bound (agent.next, call) (sent_by client net) sends.numbered (sent_by-stands client agent.next call net known) in
      absurd (omega arith)) in
      let sent : ℕ → Bool → List (ℕ × Call) = λ other b. if b then (agent.next, call) ∷ sent_by other net else sent_by other net in
      let A : List Posting → Type 0 = λ postings. AreClients (record world { net = postings; agents = with_agent client after world.agents; clients = enlisted client world.clients }) in
      record {
        clients = subst A (sym new) (record {
          clients = each_client (λ other b. IsClient (record { sent = sent other b; heard = answers_to other net; marks = receipts_of other net; calls = [] }) (if b then after else world.agents other)) client
              (IsClient-call (sent_by client net) [] (answers_to client net) (receipts_of client net) agent call open_ (clients.clients client))
              (λ other. clients.clients other);
          named = (tt, All-map (NamesCall net) (NamesCall (request ∷ net)) net (named-more request net) clients.named);
          moment = clients.moment;
        });
        net = λ message posted. posted-keeps plain is_plain request message world.net posted;
        now = refl;
        places = refl;
      }

  ask_by-delivers : (client : ℕ) (asked : Ask) (world : World) (status : Option Status) → refusal asked (world.agents client) ≡ status → AreClients world → Delivers world (ask_by plain client (call_of asked) status world).state
  ask_by-delivers client asked world (Some status) is clients = delivers-none world clients
  ask_by-delivers client asked world None is clients = send-delivers client (call_of asked) world (refusal-open asked (world.agents client) is) clients

  pub ask-delivers : (client : ℕ) (asked : Ask) (world : World) → AreClients world → Delivers world (ask plain client asked world).state
  ask-delivers client asked world clients = ask_by-delivers client asked world (refusal asked (world.agents client)) refl clients

  pub taken-delivers : (place : ℕ) (message : Message) (world : World) → Posted message world → AreClients world → Delivers world (taken_as plain place message world).state
  taken-delivers place (Answer client number reply) world stands clients =
      reply_by-delivers place client number reply (kept_call number (world.agents client).kept) world refl stands clients
  taken-delivers place (Delivery client key item) world stands clients =
      item_by-delivers place client key item (find_living key (world.agents client).living) world refl stands clients
  taken-delivers place _ world stands clients = delivers-none world clients

-- Callbacks are handed out.
handed-delivers : (client : ℕ) (queue handed : List Callback) (world : World) → AreClients world → Delivers world (record world { agents = with_agent client (record (world.agents client) { queue = queue; handed = handed }) world.agents })
handed-delivers client queue handed world clients =
    let agent = world.agents client in
    let net = messages_in world.net in
    let after : Agent = record agent { queue = queue; handed = handed } in
    let own = clients.clients client in
    record {
      clients = record {
        clients = each_client (λ other b. IsClient (view_of other net []) (if b then after else world.agents other)) client
            (record { sends = own.sends; awaits = own.awaits; follows = own.follows })
            (λ other. clients.clients other);
        named = clients.named;
        moment = clients.moment;
      };
      net = λ message posted. posted;
      now = refl;
      places = refl;
    }

all_by-delivers : (client : ℕ) (status : Option Status) (world : World) → AreClients world → Delivers world (dispatch_all_by client status world).state
all_by-delivers client (Some status) world clients = delivers-none world clients
all_by-delivers client None world clients = handed-delivers client [] ((world.agents client).queue ++ (world.agents client).handed) world clients

one_by-delivers : (client : ℕ) (status : Option Status) (world : World) → AreClients world → Delivers world (dispatch_one_by client status world).state
one_by-delivers client (Some status) world clients = delivers-none world clients
one_by-delivers client None world clients =
    handed-delivers client (after_dispatch_one (world.agents client)).queue (after_dispatch_one (world.agents client)).handed world clients

dispatch-delivers : (how : How) (client : ℕ) (world : World) → AreClients world → Delivers world (dispatch_as how client world).state
dispatch-delivers One client world clients = one_by-delivers client (dispatch_refusal (world.agents client)) world clients
dispatch-delivers (All workers) client world clients = all_by-delivers client (dispatch_refusal (world.agents client)) world clients

-- Bytes are injected.
inject-messages : (bytes : List ℕ) (front : ℕ) (why : WireWhy) (net : List Posting) → messages_in (injected bytes front why net) ≡ messages_in net
inject-messages bytes front why net = elim (knows_raw bytes net) as (λ b. messages_in (if b then net else Raw bytes front why ∷ net) ≡ messages_in net) [
  | true ↦ refl
  | false ↦ refl
]

inject-delivers : (bytes : List ℕ) (front : ℕ) (why : WireWhy) (world : World) → AreClients world → Delivers world (inject bytes front why world).state
inject-delivers bytes front why world clients =
    let same = inject-messages bytes front why world.net in
    record {
      clients = record {
        clients = λ client. subst (λ net. IsClient (view_of client net []) (world.agents client)) (sym same) (clients.clients client);
        named = subst (λ net. AllByRecursion (NamesCall net) net) (sym same) clients.named;
        moment = clients.moment;
      };
      net = λ message posted. subst (λ net. Stands message net) (sym same) posted;
      now = refl;
      places = refl;
    }

-- What an agent sends again stands in the net.

pub resent-wild : (client : ℕ) (world : World) → AreClients world → AllPosted (resent client (world.agents client)) world
resent-wild client world clients =
    let own = clients.clients client in
    All-append (λ message. Stands message (messages_in world.net)) (requests_of client (world.agents client).kept) (greatest_receipts client (world.agents client).living)
    (requests_of-posted client (messages_in world.net) (world.agents client).kept (λ x stands. Keeps-sent x own.awaits.keeps stands))
    (greatest_receipts-posted client (messages_in world.net) own.follows.counted own.follows.lives)

-- a reply that was found in the net stands there
pub found-posted : (client number : ℕ) (found : Message) (net : List (List ℕ)) (seen : World) → FindsReply client number net (Some found) → AreSpelled seen.net net → Posted found seen
found-posted client number found net seen finds spelled =
    let messages = messages_in seen.net in
    let is = finds seen.net spelled in
    let stands : Stands (Answer client number is.0) messages = answers_to-posted client number is.0 messages (reply_at-stands number (answers_to client messages) is.0 is.2) in
    subst (λ (m : Message). Stands m messages) (sym is.1) stands

-- what the agent of a client sends again stands in the net
pub sent-posted : {S : Type 0} (client at : ℕ) (messages : List Message) (world : Cluster S) (seen : World) → StandsAt client at world.agents
    → ((receiver places : ℕ) (agent : Agent) → slice_get world.agents at ≡ Some (seen_of receiver places agent) → messages ≡ resent receiver agent)
    → AreClients seen → ShowsClients seen world → AllPosted messages seen
sent-posted client at messages world seen found sent clients shows =
    let is : messages ≡ resent client (seen.agents client) = sent client seen.places (seen.agents client) (seen-at client at world.agents seen shows.agents found).1 in
    subst (λ (ms : List Message). AllPosted ms seen) (sym is) (resent-wild client seen clients)

-- a dispatch leaves the net
dispatch-spelled : (how : How) (client : ℕ) (seen : World) (net : List (List ℕ)) → AreSpelled seen.net net → AreSpelled (dispatch_as how client seen).state.net net
dispatch-spelled One client seen net spelled = elim (dispatch_refusal (seen.agents client)) as (λ o. AreSpelled (dispatch_one_by client o seen).state.net net) [
  | Some status ↦ spelled
  | None ↦ spelled
]
dispatch-spelled (All workers) client seen net spelled = elim (dispatch_refusal (seen.agents client)) as (λ o. AreSpelled (dispatch_all_by client o seen).state.net net) [
  | Some status ↦ spelled
  | None ↦ spelled
]

module _ {Peers Group : Type 0} (kit : Kit Peers Group) (laws : IsKit kit) where
  -- what left the servers alone
  wild-left : (old : Cluster Group) (net : List (List ℕ)) (agents : List Seen) (seen new : World) (disks : kit.Seen) → (IsWild kit) seen old disks → Delivers seen new → AreSpelled new.net net → ShowsAgents new agents
      → (WildOn kit) seen (record old { net = net; agents = agents }) disks
  wild-left old net agents seen new disks wild left spelled shown = record {
    now = new;
    wild = record {
      setup = wild.setup;
      clients = left.clients;
      shows = record { net = spelled; agents = shown; now = wild.shows.now ∙ sym left.now; callbacks = wild.shows.callbacks ∙ sym left.places };
      servers = laws.wild old.servers (messages_in seen.net) (messages_in new.net) (length old.history.entries) disks left.net wild.servers;
    };
    net = left.net;
  }

  -- a delivery in a cluster that may stand for no history
  pub wild-takes : (place : Option ℕ) (message : Message) (old : Cluster Group) (net : List (List ℕ)) (agents : List Seen) (before after : List (List ℕ)) (loud : Bool)
      → TakesOf place message old.net net old.agents agents before after loud → (KeepsWild kit) (Posted message) old (record old { net = net; agents = agents })
  wild-takes place message old net agents before after loud takes disks seen wild stands =
      let plain = plain_of wild.setup in
      let new = (taken_as plain (number_told place) message seen).state in
      let done = takes plain seen (is_plain wild.setup) wild.shows.net wild.shows.agents in
      wild-left old net agents seen new disks wild (taken-delivers plain (is_plain wild.setup) (number_told place) message seen stands wild.clients) done.0 done.1

  pub wild-asks : (client : ℕ) (asked : Ask) (old : Cluster Group) (net : List (List ℕ)) (agents : List Seen) (before after : List (List ℕ))
      → Asks old.callbacks client asked old.net net old.agents agents before after → (KeepsWild kit) always old (record old { net = net; agents = agents })
  wild-asks client asked old net agents before after asks disks seen wild so =
      let plain = plain_of wild.setup in
      let done = asks plain seen (is_plain wild.setup) wild.shows.net wild.shows.agents (sym wild.shows.callbacks) in
      wild-left old net agents seen (ask plain client asked seen).state disks wild (ask-delivers plain (is_plain wild.setup) client asked seen wild.clients) done.0 done.1

  pub wild-dispatches : (how : How) (client : ℕ) (old : Cluster Group) (agents : List Seen) (before after : List (List ℕ))
      → Dispatches how client old.agents agents before after → (KeepsWild kit) always old (record old { agents = agents })
  wild-dispatches how client old agents before after dispatches disks seen wild so =
      let left = dispatch-delivers how client seen wild.clients in
      let spelled : (h : How) → AreSpelled (dispatch_as h client seen).state.net old.net = λ h. dispatch-spelled h client seen old.net wild.shows.net in
      wild-left old old.net agents seen (dispatch_as how client seen).state disks wild left (spelled how) (dispatches seen wild.shows.agents).0

  pub wild-injects : (bytes : List ℕ) (done : Bool) (old : Cluster Group) (net : List (List ℕ)) (before after : List (List ℕ))
      → Injects bytes done old.net net before after → (KeepsWild kit) always old (record old { net = net })
  wild-injects bytes true old net before after injects disks seen wild so =
      let raw = injects.0 in
      let done = injects.1 raw.front raw.why seen.net raw.refused wild.shows.net in
      let agents = wild.shows.agents in
      wild-left old net old.agents seen (inject bytes raw.front raw.why seen).state disks wild (inject-delivers bytes raw.front raw.why seen wild.clients) done.0
      (record { shown = agents.shown; rising = agents.rising; listed = agents.listed })
  wild-injects bytes false old net before after injects disks seen wild so =
      subst (λ n. (WildOn kit) seen (record old { net = n }) disks) (sym injects.1) (record { now = seen; wild = record { setup = wild.setup; clients = wild.clients; shows = record { net = wild.shows.net; agents = wild.shows.agents; now = wild.shows.now; callbacks = wild.shows.callbacks }; servers = wild.servers }; net = λ message posted. posted })

  -- the agents of a client that was ever called are started
  pub wild-started : (seen : World) (old : Cluster Group) (disks : kit.Seen) → (IsWild kit) seen old disks → AllStarted old.agents
  wild-started seen old disks wild =
      let next : (client : ℕ) → 1 ≤ (seen.agents client).next = λ client. let is = (wild.clients.clients client).sends.next_is in omega arith in
      subst AllStarted (sym wild.shows.agents.shown) (started-from seen.places seen.agents seen.clients next)

-- a message that was fetched stands in the net
pub fetched-posted : {S : Type 0} (place : ℕ) (message : Message) (world : Cluster S) (seen : World) → IsFetched place world.net (Some (Whole message)) → ShowsClients seen world → Posted message seen
fetched-posted place message world seen fetched shows = posting_at-stands place seen.net message (fetched.1 seen.net shows.net)

-- and what the agent of a client sends again, at its place in the list
pub resent-at : {S : Type 0} (client at : ℕ) (old : Cluster S) (agent : Seen) (messages : List Message) (seen : World) → StandsAt client at old.agents → agent ≡ get_or old.agents at agent
    → ((c places : ℕ) (a : Agent) → agent ≡ seen_of c places a → messages ≡ resent c a) → AreClients seen → ShowsClients seen old → AllPosted messages seen
resent-at client at old agent messages seen found is are clients shows =
    let there = seen-at client at old.agents seen shows.agents found in
    let same : messages ≡ resent client (seen.agents client) = are client seen.places (seen.agents client) (is ∙ get_or_from_slice_get old.agents at (seen_of client seen.places (seen.agents client)) agent there.1) in
    subst (λ (ms : List Message). AllPosted ms seen) (sym same) (resent-wild client seen clients)

-- Each event of agents, net and history keeps the facts.
use Rattle.std.proofs.Common.{◌≡◌, ℕ, inl, inr, Bool, false, if◌then◌else◌, ℤ, ◌≤ℤ◌, Some, List, [], ◌∷◌, ◌++◌, length, refl, sym, ◌∙◌, subst, arith, append_assoc}
use Rattle.cluster_facts.specs.Types.{Call, Reply, Item, Entry, Called, Receipted, Callback, Message, Request, Answer, Delivery, Receipt}
use Rattle.cluster_facts.specs.Lists.{Stands, EndsIn, IsNumbered}
use Rattle.cluster_facts.specs.Messages.{Posting, Spelled, messages_in, sent_by, answers_to, receipts_of, calls_in, message_of}
use Rattle.cluster_facts.specs.Service.{Plain, IsPlain, answers_in}
use Rattle.cluster_facts.specs.Agents.{Living, Agent, fresh, fed_of, is_shut, after_call, after_reply, kept_call, callbacks_of, find_living, after_item, callback_of, after_dispatch_all, after_dispatch_one}
use Rattle.cluster_facts.specs.History.{MayFollow, time_of}
use Rattle.cluster_facts.specs.World.{posted, with_agent, empty_world}
use Rattle.cluster_facts.specs.Facts.{view_of, IsClient, Fits, IsToldItem, IsOfRun, Facts, IsSound}
use Rattle.cluster_facts.specs.Facts.Keeps.{starts}
use Rattle.cluster_facts.specs.Facts.Lives.{none as none_live}
use Rattle.cluster_facts.specs.Facts.Fits.{empty, of_item}
use Rattle.cluster_facts.proofs.Words.{each_client, All-at, All-map, IsNumbered-bound, EndsIn-more, IsCounted-bound}
use Rattle.cluster_facts.proofs.Clients.{IsClient-call, IsClient-reply, IsClient-item, IsClient-hears, IsClient-calls, Fits-reply, Fits-map, find_living-found, subscribed-asked, asked_for-number, oldest-append}
use Rattle.cluster_facts.proofs.Growing.{IsOfRun-grows, IsToldItem-grows, IsToldItem-sends, IsLegal-follow, IsLegal-later, judged-new}
use Rattle.cluster_facts.proofs.Posting.{posted-cases, posted-new, sent_by-stands, receipts_of-stands}

-- An agent sends a call.
pub Facts-call : (plain : Plain) (now : ℤ) (accepted answered : List Entry) (net : List Message) (agents : ℕ → Agent) (client : ℕ) (call : Call) → is_shut (agents client).next (agents client).kept ≡ false → Facts plain now accepted answered net agents → Facts plain now accepted answered (Request client (agents client).next call ∷ net) (with_agent client (after_call call (agents client)) agents)
Facts-call plain now accepted answered net agents client call open_ facts =
    let agent = agents client in
    let sent : ℕ → Bool → List (ℕ × Call) = λ other b. if b then (agent.next, call) ∷ sent_by other net else sent_by other net in
    record {
      clients = each_client (λ other b. IsClient (record { sent = sent other b; heard = answers_to other net; marks = receipts_of other net; calls = calls_in other accepted }) (if b then after_call call agent else agents other)) client
          (IsClient-call (sent_by client net) (calls_in client accepted) (answers_to client net) (receipts_of client net) agent call open_ (facts.clients client))
          (λ other. facts.clients other);
      told = each_client (λ other b. Fits (IsToldItem plain answered (sent other b) other) (receipts_of other net) (fed_of (if b then after_call call agent else agents other))) client
          (Fits-map (IsToldItem plain answered (sent_by client net) client) (IsToldItem plain answered ((agent.next, call) ∷ sent_by client net) client) (IsToldItem-sends plain answered (agent.next, call) (sent_by client net) client) (facts.told client))
          (λ other. facts.told other);
      run = (tt, facts.run);
      heard = All-map (λ (entry : Entry). Stands (message_of entry) net) (λ (entry : Entry). Stands (message_of entry) (Request client agent.next call ∷ net)) accepted (λ entry stands. inr stands) facts.heard;
      legal = facts.legal;
    }

-- the request of a call that is sent is new to the net
pub call-new : (plain : Plain) → IsPlain plain → (now : ℤ) (accepted answered : List Entry) (net : List Posting) (agents : ℕ → Agent) (client : ℕ) (call : Call) → Facts plain now accepted answered (messages_in net) agents → posted plain (Request client (agents client).next call) net ≡ Spelled (Request client (agents client).next call) ∷ net
call-new plain is_plain now accepted answered net agents client call facts =
    let sends = (facts.clients client).sends in
    let next_is = sends.next_is in
    posted-new plain is_plain (Request client (agents client).next call) net (λ stands.
    let bound = IsNumbered-bound ((agents client).next, call) (sent_by client (messages_in net)) sends.numbered (sent_by-stands client (agents client).next call (messages_in net) stands) in
    absurd (omega arith))

-- An agent takes a reply that stands in the net.
pub Facts-reply : (plain : Plain) (now : ℤ) (accepted answered : List Entry) (net : List Message) (agents : ℕ → Agent) (client number : ℕ) (call : Call) (reply : Reply) → Stands (number, reply) (answers_to client net) → kept_call number (agents client).kept ≡ Some call → Facts plain now accepted answered net agents → Facts plain now accepted answered net (with_agent client (after_reply number call reply (agents client)) agents)
Facts-reply plain now accepted answered net agents client number call reply stands found facts =
    let agent = agents client in
    let after = after_reply number call reply agent in
    let F : List Callback → Type 0 = λ fed. Fits (IsToldItem plain answered (sent_by client net) client) (receipts_of client net) fed in
    record {
      clients = each_client (λ other b. IsClient (view_of other net accepted) (if b then after else agents other)) client
          (IsClient-reply (view_of client net accepted) agent number call reply stands found (facts.clients client))
          (λ other. facts.clients other);
      told = each_client (λ other b. Fits (IsToldItem plain answered (sent_by other net) other) (receipts_of other net) (fed_of (if b then after else agents other))) client
          (subst F (sym (append_assoc (callbacks_of agent.marks call reply) agent.queue agent.handed)) (Fits-reply (IsToldItem plain answered (sent_by client net) client) agent.marks call reply (receipts_of client net) (fed_of agent) (facts.told client)))
          (λ other. facts.told other);
      run = facts.run;
      heard = facts.heard;
      legal = facts.legal;
    }

-- An agent takes an item that stands in the net, and posts its receipt.
pub Facts-item : (plain : Plain) (now : ℤ) (accepted answered : List Entry) (net : List Message) (agents : ℕ → Agent) (client key : ℕ) (item : Item) (found : Living) → find_living key (agents client).living ≡ Some found → item.number ≡ found.next → Stands (Delivery client key item) net → Facts plain now accepted answered net agents → Facts plain now accepted answered (Receipt client key item.number ∷ net) (with_agent client (after_item key found.id item.content (agents client)) agents)
Facts-item plain now accepted answered net agents client key item found here next stands facts =
    let agent = agents client in
    let after = after_item key found.id item.content agent in
    let own = facts.clients client in
    let is_found = find_living-found key found own.follows.lives here in
    let asked = subscribed-asked key found.id (sent_by client net) is_found.asked in
    let marks : ℕ → Bool → List (ℕ × ℕ) = λ other b. if b then (key, item.number) ∷ receipts_of other net else receipts_of other net in
    record {
      clients = each_client (λ other b. IsClient (record { sent = sent_by other net; heard = answers_to other net; marks = marks other b; calls = calls_in other accepted }) (if b then after else agents other)) client
          (IsClient-item (view_of client net accepted) agent key item.number found.id item.content (next ∙ is_found.next_is) (asked_for-number key found.id (sent_by client net) own.sends.numbered asked) own)
          (λ other. facts.clients other);
      told = each_client (λ other b. Fits (IsToldItem plain answered (sent_by other net) other) (marks other b) (fed_of (if b then after else agents other))) client
          (of_item (key, item.number) (callback_of found.id item.content) (record {
            id = found.id;
            asked = asked;
            content = item.content;
            made = All-at (IsOfRun plain answered) (Delivery client key item) net facts.run stands;
            is = refl;
          }) (facts.told client))
          (λ other. facts.told other);
      run = (tt, facts.run);
      heard = All-map (λ (entry : Entry). Stands (message_of entry) net) (λ (entry : Entry). Stands (message_of entry) (Receipt client key item.number ∷ net)) accepted (λ entry stands. inr stands) facts.heard;
      legal = facts.legal;
    }

-- the receipt of an item that is taken is new to the net
pub receipt-new : (plain : Plain) → IsPlain plain → (now : ℤ) (accepted answered : List Entry) (net : List Posting) (agents : ℕ → Agent) (client key number : ℕ) (found : Living) → find_living key (agents client).living ≡ Some found → number ≡ found.next → Facts plain now accepted answered (messages_in net) agents → posted plain (Receipt client key number) net ≡ Spelled (Receipt client key number) ∷ net
receipt-new plain is_plain now accepted answered net agents client key number found here next facts =
    let follows = (facts.clients client).follows in
    let is_found = find_living-found key found follows.lives here in
    let next_is = is_found.next_is in
    posted-new plain is_plain (Receipt client key number) net (λ stands.
    let bound = IsCounted-bound key number (receipts_of client (messages_in net)) follows.counted (receipts_of-stands client key number (messages_in net) stands) in
    absurd (omega arith))

-- A server posts a reply or an item.
Facts-answer : (plain : Plain) (now : ℤ) (accepted answered : List Entry) (net : List Message) (agents : ℕ → Agent) (client number : ℕ) (reply : Reply) → Stands (number, reply) (answers_in plain client answered) → Facts plain now accepted answered net agents → Facts plain now accepted answered (Answer client number reply ∷ net) agents
Facts-answer plain now accepted answered net agents client number reply is facts =
    record {
      clients = each_client (λ other b. IsClient (record { sent = sent_by other net; heard = if b then (number, reply) ∷ answers_to other net else answers_to other net; marks = receipts_of other net; calls = calls_in other accepted }) (agents other)) client
          (IsClient-hears (view_of client net accepted) (agents client) (number, reply) (facts.clients client))
          (λ other. facts.clients other);
      told = facts.told;
      run = (is, facts.run);
      heard = All-map (λ (entry : Entry). Stands (message_of entry) net) (λ (entry : Entry). Stands (message_of entry) (Answer client number reply ∷ net)) accepted (λ entry stands. inr stands) facts.heard;
      legal = facts.legal;
    }

pub Facts-post_answer : (plain : Plain) → IsPlain plain → (now : ℤ) (accepted answered : List Entry) (net : List Posting) (agents : ℕ → Agent) (client number : ℕ) (reply : Reply) → Stands (number, reply) (answers_in plain client answered) → Facts plain now accepted answered (messages_in net) agents → Facts plain now accepted answered (messages_in (posted plain (Answer client number reply) net)) agents
Facts-post_answer plain is_plain now accepted answered net agents client number reply is facts =
    let F : List Posting → Type 0 = λ postings. Facts plain now accepted answered (messages_in postings) agents in
    elim (posted-cases plain is_plain (Answer client number reply) net) [
      | inl known ↦ subst F (sym known.1) facts
      | inr new ↦ subst F (sym new) (Facts-answer plain now accepted answered (messages_in net) agents client number reply is facts)
    ]

pub Facts-post_item : (plain : Plain) → IsPlain plain → (now : ℤ) (accepted answered : List Entry) (net : List Posting) (agents : ℕ → Agent) (client key : ℕ) (item : Item) → IsOfRun plain answered (Delivery client key item) → Facts plain now accepted answered (messages_in net) agents → Facts plain now accepted answered (messages_in (posted plain (Delivery client key item) net)) agents
Facts-post_item plain is_plain now accepted answered net agents client key item is facts =
    let F : List Posting → Type 0 = λ postings. Facts plain now accepted answered (messages_in postings) agents in
    elim (posted-cases plain is_plain (Delivery client key item) net) [
      | inl known ↦ subst F (sym known.1) facts
      | inr new ↦ subst F (sym new) (record {
        clients = facts.clients;
        told = facts.told;
        run = (is, facts.run);
        heard = All-map (λ (entry : Entry). Stands (message_of entry) (messages_in net)) (λ (entry : Entry). Stands (message_of entry) (Delivery client key item ∷ messages_in net)) accepted (λ entry stands. inr stands) facts.heard;
        legal = facts.legal;
      })
    ]

-- An entry is accepted.
accept-clients : (plain : Plain) (now : ℤ) (accepted answered : List Entry) (net : List Message) (agents : ℕ → Agent) (entry : Entry) → MayFollow plain accepted entry → Stands (message_of entry) net → Facts plain now accepted answered net agents → (client : ℕ) → IsClient (view_of client net (entry ∷ accepted)) (agents client)
accept-clients plain now accepted answered net agents (Called client number time call) may stands facts =
    let own = facts.clients client in
    let first = own.sends.first in
    let S : List (ℕ × Call) → Type 0 = λ sent. IsNumbered sent in
    let T : List (ℕ × Call) → Type 0 = λ sent. Stands (number, call) sent in
    let E : List (ℕ × Call) → Type 0 = λ sent. EndsIn sent ((number, call) ∷ calls_in client accepted) in
    let more = EndsIn-more (number, call) first.0 (calls_in client accepted) (subst S first.1 own.sends.numbered) (subst T first.1 (sent_by-stands client number call net stands)) (judged-new number (length (calls_in client accepted)) may) in
    each_client (λ other b. IsClient (record { sent = sent_by other net; heard = answers_to other net; marks = receipts_of other net; calls = if b then (number, call) ∷ calls_in other accepted else calls_in other accepted }) (agents other)) client
    (IsClient-calls (sent_by client net) (calls_in client accepted) ((number, call) ∷ calls_in client accepted) (answers_to client net) (receipts_of client net) (agents client) (subst E (sym first.1) more) own)
    (λ other. facts.clients other)
accept-clients plain now accepted answered net agents (Receipted client key through time) may stands facts = facts.clients

pub Facts-accept : (plain : Plain) (now : ℤ) (accepted answered : List Entry) (net : List Message) (agents : ℕ → Agent) (entry : Entry) → MayFollow plain accepted entry → time_of entry ≡ now → Stands (message_of entry) net → Facts plain now accepted answered net agents → Facts plain now (entry ∷ accepted) answered net agents
Facts-accept plain now accepted answered net agents entry may at stands facts = record {
  clients = accept-clients plain now accepted answered net agents entry may stands facts;
  told = facts.told;
  run = facts.run;
  heard = (stands, facts.heard);
  legal = IsLegal-follow plain now accepted entry may at facts.legal;
}

-- The work of an entry is done.
pub Facts-answered : (plain : Plain) → IsPlain plain → (now : ℤ) (accepted answered : List Entry) (net : List Message) (agents : ℕ → Agent) (entry : Entry) → Facts plain now accepted answered net agents → Facts plain now accepted (entry ∷ answered) net agents
Facts-answered plain is_plain now accepted answered net agents entry facts = record {
  clients = facts.clients;
  told = λ client. Fits-map (IsToldItem plain answered (sent_by client net) client) (IsToldItem plain (entry ∷ answered) (sent_by client net) client) (IsToldItem-grows plain is_plain entry answered (sent_by client net) client) (facts.told client);
  run = All-map (IsOfRun plain answered) (IsOfRun plain (entry ∷ answered)) net (IsOfRun-grows plain is_plain entry answered) facts.run;
  heard = facts.heard;
  legal = facts.legal;
}

-- An agent hands out callbacks.
handed-agent : (plain : Plain) (now : ℤ) (accepted answered : List Entry) (net : List Message) (agents : ℕ → Agent) (client : ℕ) (queue handed : List Callback) → queue ++ handed ≡ fed_of (agents client) → Facts plain now accepted answered net agents → Facts plain now accepted answered net (with_agent client (record (agents client) { queue = queue; handed = handed }) agents)
handed-agent plain now accepted answered net agents client queue handed same facts =
    let agent = agents client in
    let after : Agent = record agent { queue = queue; handed = handed } in
    let own = facts.clients client in
    let F : List Callback → Type 0 = λ fed. Fits (IsToldItem plain answered (sent_by client net) client) (receipts_of client net) fed in
    record {
      clients = each_client (λ other b. IsClient (view_of other net accepted) (if b then after else agents other)) client
          (record { sends = own.sends; awaits = own.awaits; follows = own.follows })
          (λ other. facts.clients other);
      told = each_client (λ other b. Fits (IsToldItem plain answered (sent_by other net) other) (receipts_of other net) (fed_of (if b then after else agents other))) client
          (subst F (sym same) (facts.told client))
          (λ other. facts.told other);
      run = facts.run;
      heard = facts.heard;
      legal = facts.legal;
    }

pub Facts-dispatch_all : (plain : Plain) (now : ℤ) (accepted answered : List Entry) (net : List Message) (agents : ℕ → Agent) (client : ℕ) → Facts plain now accepted answered net agents → Facts plain now accepted answered net (with_agent client (after_dispatch_all (agents client)) agents)
Facts-dispatch_all plain now accepted answered net agents client facts =
    handed-agent plain now accepted answered net agents client [] ((agents client).queue ++ (agents client).handed) refl facts

pub Facts-dispatch_one : (plain : Plain) (now : ℤ) (accepted answered : List Entry) (net : List Message) (agents : ℕ → Agent) (client : ℕ) → Facts plain now accepted answered net agents → Facts plain now accepted answered net (with_agent client (after_dispatch_one (agents client)) agents)
Facts-dispatch_one plain now accepted answered net agents client facts =
    handed-agent plain now accepted answered net agents client (after_dispatch_one (agents client)).queue (after_dispatch_one (agents client)).handed (oldest-append (agents client).queue (agents client).handed) facts

-- The time in force goes on.
pub Facts-later : (plain : Plain) (now later : ℤ) (accepted answered : List Entry) (net : List Message) (agents : ℕ → Agent) → now ≤ℤ later → Facts plain now accepted answered net agents → Facts plain later accepted answered net agents
Facts-later plain now later accepted answered net agents after facts = record {
  clients = facts.clients;
  told = facts.told;
  run = facts.run;
  heard = facts.heard;
  legal = IsLegal-later plain now later accepted after facts.legal;
}

-- At the start.
pub Facts-start : (plain : Plain) (now : ℤ) → Facts plain now [] [] [] (λ client. fresh)
Facts-start plain now = record {
  clients = λ client. record {
    sends = record { numbered = tt; next_is = refl; log_is = refl; ntf_is = refl; first = ([], refl) };
    awaits = record { told = []; keeps = starts; last = λ name. record { stands = inl refl; most = λ mark there. elim there [ ] }; window = tt };
    follows = record { lives = none_live; counted = tt; known = tt };
  };
  told = λ client. empty;
  run = tt;
  heard = tt;
  legal = record { numbered = λ client. tt; receipts = tt; times = tt };
}

pub IsSound-start : (plain : Plain) (now : ℤ) (places : ℕ) → IsSound plain (empty_world now places)
IsSound-start plain now places = record { facts = Facts-start plain now; listed = λ client. inr refl }

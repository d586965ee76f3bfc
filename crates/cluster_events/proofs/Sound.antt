-- Each event of agents, net and history leaves a sound world.
use Rattle.std.proofs.Common.{◌≡◌, ℕ, suc, ◌⊎◌, inl, inr, Bool, true, false, not, nat_lt, cond, if◌then◌else◌, ℤ, ◌≤ℤ◌, Option, Some, None, List, [], ◌∷◌, refl, ap, sym, subst, arith}
use Rattle.std.proofs.lemmas.Bool.Decides.{leb_tells}
use Rattle.cluster_facts.specs.Types.{Ask, Start, Other, VersionRefused, TryAgain, BadHandle, Call, Reply, Status, Item, Entry, Answer, Delivery, Receipt, WireWhy}
use Rattle.cluster_facts.specs.Lists.{Stands, put}
use Rattle.cluster_facts.specs.Messages.{Posting, Raw, messages_in, message_of}
use Rattle.cluster_facts.specs.Service.{Plain, IsPlain, answers_in}
use Rattle.cluster_facts.specs.Agents.{Living, Agent, fresh, is_shut, can_serve, service_of, has_handle, call_of, refusal, dispatch_refusal, after_call, kept_call, after_reply, find_living, after_item, after_dispatch_all, after_dispatch_one}
use Rattle.cluster_facts.specs.History.{Hand, Empty, accepted, accepted_by, MayFollow, time_of}
use Rattle.cluster_facts.specs.World.{World, posted, knows_raw, with_agent, enlisted}
use Rattle.cluster_facts.specs.Facts.{Facts, IsSound, IsOfRun}
use Rattle.cluster_facts.proofs.Words.{each_client}
use Rattle.cluster_facts.proofs.Posting.{answers_to-stands}
use Rattle.cluster_facts.proofs.Keeping.{Facts-call, call-new, Facts-reply, Facts-item, receipt-new, Facts-post_answer, Facts-post_item, Facts-accept, Facts-dispatch_all, Facts-dispatch_one, Facts-later}
use Rattle.cluster_events.specs.declared.lines.Why.TheVariants as because
use Rattle.cluster_events.specs.ClientEvents.{post, inject, send, ask_by, ask, fate_of, dispatch_all_by, dispatch_all, dispatch_one_by, dispatch_one, set_time}
use Rattle.cluster_events.specs.ClientEvents.Fate.{Takes, Misses}

-- What is posted by servers.

pub post-answer-sound : (plain : Plain) → IsPlain plain → (client number : ℕ) (reply : Reply) (world : World) → Stands (number, reply) (answers_in plain client world.core.answered) → IsSound plain world → IsSound plain (post plain (Answer client number reply) world).state
post-answer-sound plain is_plain client number reply world stands sound = record {
  facts = Facts-post_answer plain is_plain world.now (accepted world.core) world.core.answered world.net world.agents client number reply stands sound.facts;
  listed = sound.listed;
}

pub post-item-sound : (plain : Plain) → IsPlain plain → (client key : ℕ) (item : Item) (world : World) → IsOfRun plain world.core.answered (Delivery client key item) → IsSound plain world → IsSound plain (post plain (Delivery client key item) world).state
post-item-sound plain is_plain client key item world is sound = record {
  facts = Facts-post_item plain is_plain world.now (accepted world.core) world.core.answered world.net world.agents client key item is sound.facts;
  listed = sound.listed;
}

-- Bytes are injected: the net has the messages that it had.

pub inject-sound : (plain : Plain) (bytes : List ℕ) (front : ℕ) (why : WireWhy) (world : World) → IsSound plain world → IsSound plain (inject bytes front why world).state
inject-sound plain bytes front why world sound =
    elim (knows_raw bytes world.net) as (λ b. IsSound plain (record world { net = if b then world.net else Raw bytes front why ∷ world.net })) [
      | true ↦ sound
      | false ↦ record { facts = sound.facts; listed = sound.listed }
    ]

-- A call is asked.

second_row : (first second : Bool) (one other : Status) → cond first (Some one) (cond second (Some other) None) ≡ None → second ≡ false
second_row true second one other none = cc
second_row false true one other none = cc
second_row false false one other none = refl

pub refusal-open : (asked : Ask) (agent : Agent) → refusal asked agent ≡ None → is_shut agent.next agent.kept ≡ false
refusal-open (Start service version) agent none = second_row (not (can_serve service version)) (is_shut agent.next agent.kept) VersionRefused TryAgain none
refusal-open (Other call) agent none = second_row (not (has_handle (service_of call) agent)) (is_shut agent.next agent.kept) BadHandle TryAgain none

pub put-stands : (client : ℕ) (clients : List ℕ) → Stands client (put nat_lt client clients)
put-stands client [] = inl refl
put-stands client (other ∷ clients) =
    let P : Bool → Bool → Type 0 = λ b c. Stands client (if b then client ∷ other ∷ clients else if c then other ∷ put nat_lt client clients else client ∷ clients) in
    let deeper = put-stands client clients in
    let cases : (b c : Bool) → P b c = elim [ true ↦ λ c. inl refl | false ↦ elim [ true ↦ inr deeper | false ↦ inl refl ] ] in
    cases (nat_lt client other) (nat_lt other client)

pub put-keeps : (client known : ℕ) (clients : List ℕ) → Stands known clients → Stands known (put nat_lt client clients)
put-keeps client known [] stands = elim stands [ ]
put-keeps client known (other ∷ clients) stands =
    let P : Bool → Bool → Type 0 = λ b c. Stands known (if b then client ∷ other ∷ clients else if c then other ∷ put nat_lt client clients else client ∷ clients) in
    let Q : Bool → Type 0 = λ b. P b (nat_lt other client) in
    elim (leb_tells (suc client) other) [
      | inl below ↦ subst Q (sym below.0) (inr stands)
      | inr not_below ↦ subst Q (sym not_below.0) (elim (leb_tells (suc other) client) [
        | inl above ↦ subst (λ c. P false c) (sym above.0) (elim stands [ inl same ↦ inl same | inr deeper ↦ inr (put-keeps client known clients deeper) ])
        | inr not_above ↦ subst (λ c. P false c) (sym not_above.0) (elim stands [
          | inl same ↦ let one = not_below.1 in let two = not_above.1 in let is : known ≡ client = omega arith in inl is
          | inr deeper ↦ inr deeper
        ])
      ])
    ]

pub send-sound : (plain : Plain) → IsPlain plain → (client : ℕ) (call : Call) (world : World) → is_shut (world.agents client).next (world.agents client).kept ≡ false → IsSound plain world → IsSound plain (send plain client call world).state
send-sound plain is_plain client call world open_ sound =
    let agent = world.agents client in
    let after = after_call call agent in
    let F : List Posting → Type 0 = λ net. Facts plain world.now (accepted world.core) world.core.answered (messages_in net) (with_agent client after world.agents) in
    record {
      facts = subst F (sym (call-new plain is_plain world.now (accepted world.core) world.core.answered world.net world.agents client call sound.facts)) (Facts-call plain world.now (accepted world.core) world.core.answered (messages_in world.net) world.agents client call open_ sound.facts);
      listed = each_client (λ other b. Stands other (enlisted client world.clients) ⊎ ((if b then after else world.agents other) ≡ fresh)) client
          (inl (put-stands client world.clients))
          (λ other. elim (sound.listed other) [ inl stands ↦ inl (put-keeps client other world.clients stands) | inr new ↦ inr new ]);
    }

ask_by-sound : (plain : Plain) → IsPlain plain → (client : ℕ) (asked : Ask) (world : World) (status : Option Status) → refusal asked (world.agents client) ≡ status → IsSound plain world → IsSound plain (ask_by plain client (call_of asked) status world).state
ask_by-sound plain is_plain client asked world (Some status) is sound = sound
ask_by-sound plain is_plain client asked world None is sound =
    send-sound plain is_plain client (call_of asked) world (refusal-open asked (world.agents client) is) sound

pub ask-sound : (plain : Plain) → IsPlain plain → (client : ℕ) (asked : Ask) (world : World) → IsSound plain world → IsSound plain (ask plain client asked world).state
ask-sound plain is_plain client asked world sound = ask_by-sound plain is_plain client asked world (refusal asked (world.agents client)) refl sound

-- one agent changes that is not fresh
listed-change : (plain : Plain) (client : ℕ) (after : Agent) (world : World) → ((world.agents client ≡ fresh) → ⊥) → IsSound plain world → (other : ℕ) → Stands other world.clients ⊎ (with_agent client after world.agents other ≡ fresh)
listed-change plain client after world used sound =
    each_client (λ other b. Stands other world.clients ⊎ ((if b then after else world.agents other) ≡ fresh)) client
    (elim (sound.listed client) [ inl stands ↦ inl stands | inr new ↦ absurd (used new) ])
    (λ other. sound.listed other)

-- A reply is taken.

pub reply-sound : (plain : Plain) (client number : ℕ) (call : Call) (reply : Reply) (world : World) → kept_call number (world.agents client).kept ≡ Some call → Stands (Answer client number reply) (messages_in world.net) → IsSound plain world → IsSound plain (record world { agents = with_agent client (after_reply number call reply (world.agents client)) world.agents })
reply-sound plain client number call reply world kept stands sound = record {
  facts = Facts-reply plain world.now (accepted world.core) world.core.answered (messages_in world.net) world.agents client number call reply (answers_to-stands client number reply (messages_in world.net) stands) kept sound.facts;
  listed = listed-change plain client (after_reply number call reply (world.agents client)) world (λ new. let none : kept_call number (world.agents client).kept ≡ None = ap (λ (agent : Agent). kept_call number agent.kept) new in cc) sound;
}

-- An item is taken.

-- an item is taken only where it is the next and there is a place
pub fate_of-takes : (number next : ℕ) (full : Bool) → fate_of number next full ≡ Takes → (number ≡ next) × (full ≡ false)
fate_of-takes number next full is =
    let P : Bool → Type 0 = λ b. (if b then Misses because.TakenItem else if nat_lt next number then Misses because.AheadItem else if full then Misses because.Left else Takes) ≡ Takes → (number ≡ next) × (full ≡ false) in
    let Q : Bool → Type 0 = λ b. (if b then Misses because.AheadItem else if full then Misses because.Left else Takes) ≡ Takes → (number ≡ next) × (full ≡ false) in
    let last : (number ≡ next) → (full : Bool) → (if full then Misses because.Left else Takes) ≡ Takes → (number ≡ next) × (full ≡ false) = λ same. elim [ true ↦ λ e. cc | false ↦ λ e. (same, refl) ] in
    elim (leb_tells (suc number) next) [
      | inl below ↦ subst P (sym below.0) (λ e. cc) is
      | inr not_below ↦ subst P (sym not_below.0) (λ e. elim (leb_tells (suc next) number) [
        | inl above ↦ subst Q (sym above.0) (λ never. cc) e
        | inr not_above ↦ let one = not_below.1 in let two = not_above.1 in subst Q (sym not_above.0) (λ rest. last (omega arith) full rest) e
      ]) is
    ]

pub item-sound : (plain : Plain) → IsPlain plain → (client key : ℕ) (item : Item) (found : Living) (world : World) → find_living key (world.agents client).living ≡ Some found → item.number ≡ found.next → Stands (Delivery client key item) (messages_in world.net) → IsSound plain world → IsSound plain (record world { net = posted plain (Receipt client key item.number) world.net; agents = with_agent client (after_item key found.id item.content (world.agents client)) world.agents })
item-sound plain is_plain client key item found world here next stands sound =
    let after = after_item key found.id item.content (world.agents client) in
    let F : List Posting → Type 0 = λ net. Facts plain world.now (accepted world.core) world.core.answered (messages_in net) (with_agent client after world.agents) in
    record {
      facts = subst F (sym (receipt-new plain is_plain world.now (accepted world.core) world.core.answered world.net world.agents client key item.number found here next sound.facts)) (Facts-item plain world.now (accepted world.core) world.core.answered (messages_in world.net) world.agents client key item found here next stands sound.facts);
      listed = listed-change plain client after world (λ new. let none : find_living key (world.agents client).living ≡ None = ap (λ (agent : Agent). find_living key agent.living) new in cc) sound;
    }

-- Callbacks are handed out.

dispatch_refusal-used : (agent : Agent) → dispatch_refusal agent ≡ None → (agent ≡ fresh) → ⊥
dispatch_refusal-used agent none new =
    let refused : dispatch_refusal agent ≡ dispatch_refusal fresh = ap dispatch_refusal new in
    cc

dispatch_all_by-sound : (plain : Plain) (client : ℕ) (status : Option Status) (world : World) → dispatch_refusal (world.agents client) ≡ status → IsSound plain world → IsSound plain (dispatch_all_by client status world).state
dispatch_all_by-sound plain client (Some status) world is sound = sound
dispatch_all_by-sound plain client None world is sound = record {
  facts = Facts-dispatch_all plain world.now (accepted world.core) world.core.answered (messages_in world.net) world.agents client sound.facts;
  listed = listed-change plain client (after_dispatch_all (world.agents client)) world (dispatch_refusal-used (world.agents client) is) sound;
}

pub dispatch_all-sound : (plain : Plain) (client : ℕ) (world : World) → IsSound plain world → IsSound plain (dispatch_all client world).state
dispatch_all-sound plain client world sound = dispatch_all_by-sound plain client (dispatch_refusal (world.agents client)) world refl sound

dispatch_one_by-sound : (plain : Plain) (client : ℕ) (status : Option Status) (world : World) → dispatch_refusal (world.agents client) ≡ status → IsSound plain world → IsSound plain (dispatch_one_by client status world).state
dispatch_one_by-sound plain client (Some status) world is sound = sound
dispatch_one_by-sound plain client None world is sound = record {
  facts = Facts-dispatch_one plain world.now (accepted world.core) world.core.answered (messages_in world.net) world.agents client sound.facts;
  listed = listed-change plain client (after_dispatch_one (world.agents client)) world (dispatch_refusal-used (world.agents client) is) sound;
}

pub dispatch_one-sound : (plain : Plain) (client : ℕ) (world : World) → IsSound plain world → IsSound plain (dispatch_one client world).state
dispatch_one-sound plain client world sound = dispatch_one_by-sound plain client (dispatch_refusal (world.agents client)) world refl sound

-- The time goes on.

pub set_time-sound : (plain : Plain) (now : ℤ) (world : World) → world.now ≤ℤ now → IsSound plain world → IsSound plain (set_time now world).state
set_time-sound plain now world after sound = record {
  facts = Facts-later plain world.now now (accepted world.core) world.core.answered (messages_in world.net) world.agents after sound.facts;
  listed = sound.listed;
}

-- An entry is accepted, in whatever way it is then in hand.

pub accept-sound : (plain : Plain) (entry : Entry) (hand : Hand) (world : World) → world.core.hand ≡ Empty → accepted_by world.core.answered hand ≡ entry ∷ world.core.answered → MayFollow plain world.core.answered entry → time_of entry ≡ world.now → Stands (message_of entry) (messages_in world.net) → IsSound plain world → IsSound plain (record world { core = record { answered = world.core.answered; hand = hand } })
accept-sound plain entry hand world empty holds may at stands sound =
    let past = world.core.answered in
    let none : accepted world.core ≡ past = ap (λ h. accepted_by past h) empty in
    let F : List Entry → Type 0 = λ accepted. Facts plain world.now accepted past (messages_in world.net) world.agents in
    record {
      facts = subst F (sym holds) (Facts-accept plain world.now past past (messages_in world.net) world.agents entry may at stands (subst F none sound.facts));
      listed = sound.listed;
    }

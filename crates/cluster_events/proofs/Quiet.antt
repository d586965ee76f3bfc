-- After a round in which nothing goes on everything is settled.
use Rattle.std.proofs.Common.{◌≡◌, ℕ, zero, suc, ◌+◌, ◌<◌, ◌≤◌, ◌⊎◌, inl, inr, Bool, true, false, ◌&&◌, ◌||◌, ◌==◌, nat_lt, nat_le, if◌then◌else◌, Option, Some, None, List, [], ◌∷◌, ◌++◌, length, slice_get, refl, ap, sym, ◌∙◌, subst, arith, length-append}
use Rattle.std.specs.List.{AllByRecursion}
use Rattle.std.proofs.lemmas.Bool.Decides.{leb_tells}
use Rattle.std.proofs.lemmas.Bool.{le-leb, cases_Bool}
use Rattle.std.proofs.lemmas.Option.{slice_get_within}
use Rattle.cluster_facts.specs.Types.{Call, Reply, Refused, Status, Item, Entry, Called, Receipted, Callback, StreamName, Mark, Message, Request, Answer, Delivery, Receipt}
use Rattle.cluster_facts.specs.Lists.{Stands, count_of}
use Rattle.cluster_facts.specs.Messages.{messages_in, sent_by, answers_to, receipts_of, calls_in, message_of}
use Rattle.cluster_facts.specs.Service.{Plain, IsPlain, IsHeldItem, answers_in, is_new, subscribed}
use Rattle.cluster_facts.specs.Agents.{Living, Agent, fresh, kept_call, callbacks_of, lacks_place, after_reply, find_living, requests_of, greatest_receipt, greatest_receipts, resent}
use Rattle.cluster_facts.specs.History.{Hand, Empty, Core, Judged, New, Repeat, Old, Ahead, judged, judged_call, accepted, accepted_by}
use Rattle.cluster_facts.specs.World.{World, with_agent, number_of}
use Rattle.cluster_facts.specs.Facts.{Facts, IsSound, IsOfRun, IsToldItem, Fits, Keeps, Lives}
use Rattle.cluster_facts.specs.Facts.Keeps.{starts, waits, answered}
use Rattle.cluster_facts.specs.Facts.Lives.{none as none_live, lives, refused}
use Rattle.cluster_facts.specs.Facts.Fits.{empty, of_item, of_write, of_mask}
use Rattle.cluster_facts.proofs.Words.{by_test, Stands-left, Stands-right, All-at, All-map, All-of, All-append, IsNumbered-bound, IsNumbered-at, IsCounted-bound}
use Rattle.cluster_facts.proofs.Clients.{kept_call-stands, find_living-found}
use Rattle.cluster_facts.proofs.Posting.{answers_to-stands, answers_to-posted, receipts_of-stands, posted-stands}
use Rattle.cluster_events.specs.Lines.{Told, Posted, Replied, Ignored, is_progress}
use Rattle.cluster_events.specs.declared.lines.Why.TheVariants as because
use Rattle.cluster_events.specs.Outcomes.{Outcome, quietly, telling, and_then, for_each}
use Rattle.cluster_events.specs.ClientEvents.{post, reply_by, Fate, fate_of, item_as, item_by}
use Rattle.cluster_events.specs.ClientEvents.Fate.{Takes, Misses}
use Rattle.cluster_events.specs.Servers.{State, Servers, in_world, drain}
use Rattle.cluster_events.specs.Events.{reply_at, post_again, request_as, receipt_as, hear_by, push_by, push}
use Rattle.cluster_events.specs.Settling.{take_answer_by, take_answer, turn, client_turns, take_pushed, push_round, round, is_loud}
use Rattle.cluster_events.specs.Serving.{Stays, IsSteady, IsServing, IsCarried}
use Rattle.cluster_events.specs.Settled.{IsSettled}
use Rattle.cluster_events.proofs.Carrying.{posted-unknown, post_answer-goes, in_world-rests, Keeps-sent, Stays-same, Stays-both, IsAtRest, IsCounted-at, reply_at-stands, resent-posted, turn-goes, push-goes, push-stands, take_pushed-rests, drain-goes}
use Rattle.cluster_facts.proofs.Keeping.{receipt-new}
use Rattle.cluster_events.proofs.Sound.{fate_of-takes}
use Rattle.ais_values.proofs.Basics.{eqb_self}

-- What follows from the facts where nothing is in hand.

-- a call that was sent is kept, or its reply stands in the net
Keeps-cases : (x : ℕ × Call) {heard : List (ℕ × Reply)} {sent kept : List (ℕ × Call)} {told : List (StreamName × Mark)} → Keeps heard sent kept told → Stands x sent → Stands x kept ⊎ ((reply : Reply) × Stands (x.0, reply) heard)
Keeps-cases x starts stands = elim stands [ ]
Keeps-cases x (waits call rest) (inl same) = inl (inl same)
Keeps-cases x (waits call rest) (inr stands) = elim (Keeps-cases x rest stands) [ inl kept ↦ inl (inr kept) | inr told ↦ inr told ]
Keeps-cases x {heard = heard} (answered call reply told rest) (inl same) =
    let Q : ℕ × Call → Type 0 = λ y. Stands (y.0, reply) heard in
    inr (reply, subst Q (sym same) told)
Keeps-cases x (answered call reply told rest) (inr stands) = Keeps-cases x rest stands

-- a call that is answered was accepted, and the other way round
pub answers-called : (plain : Plain) (client number : ℕ) (reply : Reply) (past : List Entry) → Stands (number, reply) (answers_in plain client past) → (call : Call) × Stands (number, call) (calls_in client past)
answers-called plain client number reply [] stands = elim stands [ ]
answers-called plain client number reply (Called caller other time asked ∷ past) stands =
    let A : Bool → List (ℕ × Reply) = λ b. if b then (other, plain.reply past caller other time asked) ∷ answers_in plain client past else answers_in plain client past in
    let C : Bool → List (ℕ × Call) = λ b. if b then (other, asked) ∷ calls_in client past else calls_in client past in
    let cases : (b : Bool) → Stands (number, reply) (A b) → (call : Call) × Stands (number, call) (C b) = elim [
      | true ↦ elim [
        | inl here ↦ (asked, inl (ap (λ (p : ℕ × Reply). (p.0, asked)) here))
        | inr there ↦ let deeper = answers-called plain client number reply past there in (deeper.0, inr deeper.1)
      ]
      | false ↦ λ there. answers-called plain client number reply past there
    ] in
    cases (caller == client) stands
answers-called plain client number reply (Receipted sender key through time ∷ past) stands = answers-called plain client number reply past stands

calls-answered : (plain : Plain) (client number : ℕ) (call : Call) (past : List Entry) → Stands (number, call) (calls_in client past) → (reply : Reply) × (reply_at number (answers_in plain client past) ≡ Some reply)
calls-answered plain client number call [] stands = elim stands [ ]
calls-answered plain client number call (Called caller other time asked ∷ past) stands =
    let told : Reply = plain.reply past caller other time asked in
    let A : Bool → List (ℕ × Reply) = λ b. if b then (other, told) ∷ answers_in plain client past else answers_in plain client past in
    let C : Bool → List (ℕ × Call) = λ b. if b then (other, asked) ∷ calls_in client past else calls_in client past in
    let F : List (ℕ × Reply) → Bool → Type 0 = λ rest b. (reply : Reply) × ((if b then Some told else reply_at number rest) ≡ Some reply) in
    let cases : (b : Bool) → Stands (number, call) (C b) → (reply : Reply) × (reply_at number (A b) ≡ Some reply) = elim [
      | true ↦ λ here. by_test (F (answers_in plain client past)) other number (λ same. (told, refl)) (λ different. elim here [
        | inl first ↦ absurd (different (ap (λ (p : ℕ × Call). p.0) (sym first)))
        | inr there ↦ calls-answered plain client number call past there
      ])
      | false ↦ λ there. calls-answered plain client number call past there
    ] in
    cases (caller == client) stands
calls-answered plain client number call (Receipted sender key through time ∷ past) stands = calls-answered plain client number call past stands

judged-next : (count : ℕ) → judged (suc count) count ≡ New
judged-next count = ap (λ b. if b then New else if nat_lt count (suc count) then Ahead else if nat_le (suc count + 32) count then Old else Repeat) (eqb_self (suc count))

judged-again : (number count : ℕ) → number ≤ count → count < number + 32 → judged number count ≡ Repeat
judged-again number count within near =
    let P : Bool → Type 0 = λ b. (if b then New else if nat_lt count number then Ahead else if nat_le (number + 32) count then Old else Repeat) ≡ Repeat in
    let Q : Bool → Type 0 = λ b. (if b then Ahead else if nat_le (number + 32) count then Old else Repeat) ≡ Repeat in
    let R : Bool → Type 0 = λ b. (if b then Old else Repeat) ≡ Repeat in
    by_test P number (suc count) (λ same. absurd (omega arith)) (λ different. elim (leb_tells (suc count) number) [
      | inl above ↦ let a = above.1 in absurd (omega arith)
      | inr below ↦ subst Q (sym below.0) (elim (leb_tells (number + 32) count) [
        | inl far ↦ let f = far.1 in absurd (omega arith)
        | inr close ↦ subst R (sym close.0) refl
      ])
    ])

-- a request of a call that is kept is sent again, and so is the greatest receipt of a subscription that lives
requests_of-stands : (client : ℕ) (x : ℕ × Call) (kept : List (ℕ × Call)) → Stands x kept → Stands (Request client x.0 x.1) (requests_of client kept)
requests_of-stands client x [] stands = elim stands [ ]
requests_of-stands client x (first ∷ kept) (inl same) =
    Stands-right (Request client x.0 x.1) (requests_of client kept) (Request client first.0 first.1 ∷ []) (inl (ap (λ (y : ℕ × Call). Request client y.0 y.1) same))
requests_of-stands client x (first ∷ kept) (inr stands) =
    Stands-left (Request client x.0 x.1) (requests_of client kept) (Request client first.0 first.1 ∷ []) (requests_of-stands client x kept stands)

greatest_receipt-stands : (client key count : ℕ) → 1 ≤ count → Stands (Receipt client key count) (greatest_receipt client key (suc count))
greatest_receipt-stands client key count some =
    let P : Bool → Type 0 = λ b. Stands (Receipt client key count) (if b then [] else Receipt client key count ∷ []) in
    by_test P count 0 (λ none. absurd (omega arith)) (λ different. inl refl)

greatest_receipts-stands : (client key count : ℕ) (found : Living) (living : List Living) → find_living key living ≡ Some found → found.next ≡ suc count → 1 ≤ count → Stands (Receipt client key count) (greatest_receipts client living)
greatest_receipts-stands client key count found [] here next some = cc
greatest_receipts-stands client key count found (first ∷ living) here next some =
    let goal : Type 0 = Stands (Receipt client key count) (greatest_receipts client living ++ greatest_receipt client first.key first.next) in
    let P : Bool → Type 0 = λ b. (if b then Some first else find_living key living) ≡ Some found → goal in
    by_test P first.key key
    (λ same it.
    let is : first ≡ found = cc in
    let numbers : first.next ≡ suc count = ap (λ (l : Living). l.next) is ∙ next in
    let G : ℕ → ℕ → Type 0 = λ k n. Stands (Receipt client key count) (greatest_receipt client k n) in
    let own : G first.key first.next = subst (λ k. G k first.next) (sym same) (subst (λ n. G key n) (sym numbers) (greatest_receipt-stands client key count some)) in
    Stands-right (Receipt client key count) (greatest_receipts client living) (greatest_receipt client first.key first.next) own)
    (λ different there. Stands-left (Receipt client key count) (greatest_receipts client living) (greatest_receipt client first.key first.next) (greatest_receipts-stands client key count found living there next some))
    here

-- a subscription that was asked for and not refused lives
Lives-living : (key id : ℕ) {heard : List (ℕ × Reply)} {marks subscriptions : List (ℕ × ℕ)} {living : List Living} → Lives heard marks subscriptions living → Stands (key, id) subscriptions → ((status : Status) → Stands (key, Refused status) heard → ⊥) → (found : Living) × (find_living key living ≡ Some found)
Lives-living key id none_live stands open_ = elim stands [ ]
Lives-living key id (lives {living = living} subscription next_is rest) (inl same) open_ =
    let P : Bool → Type 0 = λ b. (found : Living) × ((if b then Some subscription else find_living key living) ≡ Some found) in
    by_test P subscription.key key (λ is. (subscription, refl)) (λ different. absurd (different (ap (λ (p : ℕ × ℕ). p.0) (sym same))))
Lives-living key id (lives {living = living} subscription next_is rest) (inr stands) open_ =
    let P : Bool → Type 0 = λ b. (found : Living) × ((if b then Some subscription else find_living key living) ≡ Some found) in
    by_test P subscription.key key (λ is. (subscription, refl)) (λ different. Lives-living key id rest stands open_)
Lives-living key id {heard = heard} (refused subscription status told rest) (inl same) open_ =
    let keys : key ≡ subscription.0 = ap (λ (p : ℕ × ℕ). p.0) same in
    let Q : ℕ → Type 0 = λ k. Stands (k, Refused status) heard in
    absurd (open_ status (subst Q (sym keys) told))
Lives-living key id (refused subscription status told rest) (inr stands) open_ = Lives-living key id rest stands open_

-- each receipt that was posted came with an item that was made
Fits-at : (R : ℕ × ℕ → Callback → Type 0) (mark : ℕ × ℕ) {marks : List (ℕ × ℕ)} {fed : List Callback} → Fits R marks fed → Stands mark marks → (callback : Callback) × R mark callback
Fits-at R mark empty stands = elim stands [ ]
Fits-at R mark (of_item first callback here rest) (inl same) =
    let Q : ℕ × ℕ → Type 0 = λ m. R m callback in
    (callback, subst Q (sym same) here)
Fits-at R mark (of_item first callback here rest) (inr stands) = Fits-at R mark rest stands
Fits-at R mark (of_write invocation status rest) stands = Fits-at R mark rest stands
Fits-at R mark (of_mask name mask written rest) stands = Fits-at R mark rest stands

-- the number through which a subscription has a receipt is that of a receipt in the net
through-posted : (plain : Plain) → IsPlain plain → (client key : ℕ) (net : List Message) (past : List Entry) → AllByRecursion (λ (entry : Entry). Stands (message_of entry) net) past → 1 ≤ plain.through past client key → Stands (Receipt client key (plain.through past client key)) net
through-posted plain is_plain client key net [] heard some = let begins = is_plain.begins client key in absurd (omega arith)
through-posted plain is_plain client key net (entry ∷ past) heard some =
    let through = plain.through (entry ∷ past) client key in
    elim (is_plain.moves entry past client key) [
      | inl same ↦
          let Q : ℕ → Type 0 = λ n. Stands (Receipt client key n) net in
          subst Q (sym same) (through-posted plain is_plain client key net past heard.1 (omega arith))
      | inr receipt ↦
          let Q : Message → Type 0 = λ m. Stands m net in
          subst Q receipt heard.0
    ]

slice_get-some : {X : Type 0} (xs : List X) (place : ℕ) → place < length xs → (x : X) × (slice_get xs place ≡ Some x)
slice_get-some [] place within = absurd (omega arith)
slice_get-some (x ∷ xs) zero within = (x, refl)
slice_get-some (x ∷ xs) (suc place) within = slice_get-some xs place (omega arith)

reply_at-some : (number : ℕ) (reply : Reply) (replies : List (ℕ × Reply)) → Stands (number, reply) replies → (found : Reply) × (reply_at number replies ≡ Some found)
reply_at-some number reply [] stands = elim stands [ ]
reply_at-some number reply (first ∷ replies) stands =
    let P : Bool → Type 0 = λ b. (found : Reply) × ((if b then Some first.1 else reply_at number replies) ≡ Some found) in
    by_test P first.0 number (λ same. (first.1, refl)) (λ different. elim stands [
      | inl here ↦ absurd (different (ap (λ (p : ℕ × Reply). p.0) (sym here)))
      | inr there ↦ reply_at-some number reply replies there
    ])

all-three : (a b c : Bool) → a ≡ true → b ≡ true → c ≡ true → (a && (b && c)) ≡ true
all-three true true true p q r = refl
all-three true true false p q r = r
all-three true false c p q r = q
all-three false b c p q r = p

-- What a quiet round saw of each message, told of the world at rest in which it was delivered: no request is new; of a repeat
-- whose call is unanswered the callback found no place; no receipt is new; of an item that is the next the callback found none.

pub record SawRequest (plain : Plain) (past : List Entry) (agent : Agent) (places client number : ℕ) : Type 0 where
  pub not_new : judged_call past client number ≡ New → ⊥
  pub left : (call : Call) (told : Reply) → kept_call number agent.kept ≡ Some call → judged_call past client number ≡ Repeat → reply_at number (answers_in plain client past) ≡ Some told → (reply : Reply) × Stands (number, reply) (answers_in plain client past) × (lacks_place places agent.queue (callbacks_of agent.marks call reply) ≡ true)

abbrev pub SawBy : Plain → List Entry → (ℕ → Agent) → ℕ → Message → Type 0
SawBy plain past agents places (Request client number call) = SawRequest plain past (agents client) places client number
SawBy plain past agents places (Receipt client key through) = is_new plain past client key through ≡ true → ⊥
SawBy plain past agents places (Delivery client key item) = (found : Living) → find_living key (agents client).living ≡ Some found → item.number ≡ found.next → places ≤ length (agents client).queue
SawBy plain past agents places _ = Unit {0}

abbrev pub Saw : Plain → World → Message → Type 0
Saw plain world message = SawBy plain world.core.answered world.agents world.places message

-- what a quiet round has seen of all messages
pub record SawAll (plain : Plain) (world : World) : Type 0 where
  pub turns : AllByRecursion (λ client. AllByRecursion (Saw plain world) (resent client (world.agents client))) world.clients
  pub items : AllByRecursion (Saw plain world) (plain.held world.core.answered)

-- Where a quiet round saw all of this, everything is settled.
module _ (plain : Plain) (is_plain : IsPlain plain) (world : World) (facts : Facts plain world.now world.core.answered world.core.answered (messages_in world.net) world.agents) (listed : (client : ℕ) → Stands client world.clients ⊎ (world.agents client ≡ fresh)) (saw : SawAll plain world) where
  saw-resent : (client : ℕ) (message : Message) → ((world.agents client ≡ fresh) → ⊥) → Stands message (resent client (world.agents client)) → Saw plain world message
  saw-resent client message used stands =
      elim (listed client) [
        | inl in_list ↦ All-at (Saw plain world) message (resent client (world.agents client)) (All-at (λ c. AllByRecursion (Saw plain world) (resent c (world.agents c))) client world.clients saw.turns in_list) stands
        | inr new ↦ absurd (used new)
      ]

  kept-used : (client : ℕ) (x : ℕ × Call) → Stands x (world.agents client).kept → (world.agents client ≡ fresh) → ⊥
  kept-used client x stands new =
      let S : Agent → Type 0 = λ agent. Stands x agent.kept in
      let never : Stands x fresh.kept = subst S new stands in
      elim never [ ]

  saw-request : (client : ℕ) (x : ℕ × Call) → Stands x (world.agents client).kept → SawRequest plain world.core.answered (world.agents client) world.places client x.0
  saw-request client x stands =
      saw-resent client (Request client x.0 x.1) (kept-used client x stands) (Stands-left (Request client x.0 x.1) (requests_of client (world.agents client).kept) (greatest_receipts client (world.agents client).living) (requests_of-stands client x (world.agents client).kept stands))

  heard-run : (client number : ℕ) (reply : Reply) → Stands (number, reply) (answers_to client (messages_in world.net)) → Stands (number, reply) (answers_in plain client world.core.answered)
  heard-run client number reply stands =
      All-at (IsOfRun plain world.core.answered) (Answer client number reply) (messages_in world.net) facts.run (answers_to-posted client number reply (messages_in world.net) stands)

  heard-by : (client : ℕ) (more : List (ℕ × Call)) → sent_by client (messages_in world.net) ≡ more ++ calls_in client world.core.answered → calls_in client world.core.answered ≡ sent_by client (messages_in world.net)
  heard-by client [] is = sym is
  heard-by client (first ∷ more) is =
      let past = world.core.answered in
      let own = facts.clients client in
      let count = length (calls_in client past) in
      let whole = ap length is in
      let longer = length-append more (calls_in client past) in
      let next = IsNumbered-at (suc count) (sent_by client (messages_in world.net)) own.sends.numbered (omega arith) (omega arith) in
      let x : ℕ × Call = (suc count, next.0) in
      elim (Keeps-cases x own.awaits.keeps next.1) [
        | inl kept ↦ absurd ((saw-request client x kept).not_new (judged-next count))
        | inr told ↦
            let called = answers-called plain client (suc count) told.0 past (heard-run client (suc count) told.0 told.1) in
            let bound = IsNumbered-bound (suc count, called.0) (calls_in client past) (facts.legal.numbered client) called.1 in
            absurd (omega arith)
      ]

  -- every call that was sent was accepted
  all-heard : (client : ℕ) → calls_in client world.core.answered ≡ sent_by client (messages_in world.net)
  all-heard client = heard-by client (facts.clients client).sends.first.0 (facts.clients client).sends.first.1

  all-taken : (client number : ℕ) (call : Call) → kept_call number (world.agents client).kept ≡ Some call → (reply : Reply) × Stands (number, reply) (answers_in plain client world.core.answered) × (lacks_place world.places (world.agents client).queue (callbacks_of (world.agents client).marks call reply) ≡ true)
  all-taken client number call kept =
      let past = world.core.answered in
      let own = facts.clients client in
      let stands = kept_call-stands number (world.agents client).kept call kept in
      let sent = Keeps-sent (number, call) own.awaits.keeps stands in
      let bound = IsNumbered-bound (number, call) (sent_by client (messages_in world.net)) own.sends.numbered sent in
      let lengths = ap length (all-heard client) in
      let near : (world.agents client).next ≤ number + 32 = All-at (λ (c : ℕ × Call). (world.agents client).next ≤ c.0 + 32) (number, call) (world.agents client).kept own.awaits.window stands in
      let next_is = own.sends.next_is in
      let again : judged_call past client number ≡ Repeat = judged-again number (length (calls_in client past)) (omega arith) (omega arith) in
      let C : List (ℕ × Call) → Type 0 = λ calls. Stands (number, call) calls in
      let told = calls-answered plain client number call past (subst C (sym (all-heard client)) sent) in
      (saw-request client (number, call) stands).left call told.0 kept again told.1

  -- the receipts of a subscription that lives were all accepted
  receipts-passed : (client key : ℕ) (found : Living) → find_living key (world.agents client).living ≡ Some found → plain.lasts world.core.answered client key ≡ true → count_of key (receipts_of client (messages_in world.net)) ≤ plain.through world.core.answered client key
  receipts-passed client key found here lasts =
      let past = world.core.answered in
      let marks = receipts_of client (messages_in world.net) in
      let count = count_of key marks in
      let own = facts.clients client in
      elim (leb_tells count (plain.through past client key)) [
        | inl within ↦ within.1
        | inr beyond ↦
            let above = beyond.1 in
            let mark = IsCounted-at key count marks own.follows.counted (omega arith) (omega arith) in
            let told = Fits-at (IsToldItem plain past (sent_by client (messages_in world.net)) client) (key, count) (facts.told client) mark in
            let made = told.1.made in
            let number = made.1 in
            let place = slice_get_within (plain.made past client key) made.0 told.1.content made.2 in
            let is_found = find_living-found key found own.follows.lives here in
            let used : (world.agents client ≡ fresh) → ⊥ = λ new. let none : find_living key (world.agents client).living ≡ None = ap (λ (agent : Agent). find_living key agent.living) new in cc in
            let new : is_new plain past client key count ≡ true = all-three (plain.lasts past client key) (nat_lt (plain.through past client key) count) (nat_le count (length (plain.made past client key))) lasts (le-leb (suc (plain.through past client key)) count (omega arith)) (le-leb count (length (plain.made past client key)) (omega arith)) in
            absurd (saw-resent client (Receipt client key count) used (Stands-right (Receipt client key count) (requests_of client (world.agents client).kept) (greatest_receipts client (world.agents client).living) (greatest_receipts-stands client key count found (world.agents client).living here is_found.next_is (omega arith))) new)
      ]

  receipts-posted : (client key : ℕ) → plain.through world.core.answered client key ≤ count_of key (receipts_of client (messages_in world.net))
  receipts-posted client key =
      let past = world.core.answered in
      let through = plain.through past client key in
      elim (leb_tells 1 through) [
        | inl some ↦
            let posted_ = through-posted plain is_plain client key (messages_in world.net) past facts.heard some.1 in
            let bound = IsCounted-bound key through (receipts_of client (messages_in world.net)) (facts.clients client).follows.counted (receipts_of-stands client key through (messages_in world.net) posted_) in
            bound.1
        | inr none ↦ let below = none.1 in omega arith
      ]

  all-held : (client key : ℕ) (item : Item) → Stands (Delivery client key item) (plain.held world.core.answered) → world.places ≤ length (world.agents client).queue
  all-held client key item stands =
      let past = world.core.answered in
      let own = facts.clients client in
      let through = plain.through past client key in
      let held = All-at (IsHeldItem plain past) (Delivery client key item) (plain.held past) (is_plain.held_of past) stands in
      let above = held.1 in
      let made = held.2 in
      let number = made.1 in
      let within = slice_get_within (plain.made past client key) made.0 item.content made.2 in
      let first = slice_get-some (plain.made past client key) through (omega arith) in
      let asks = is_plain.lasting past client key (facts.legal.numbered client) held.0 in
      let S : List (ℕ × Call) → Type 0 = λ calls. Stands (key, asks.0) (subscribed calls) in
      let found = Lives-living key asks.0 own.follows.lives (subst S (all-heard client) asks.1) (λ status told. asks.2 status (heard-run client key (Refused status) told)) in
      let is_found = find_living-found key found.0 own.follows.lives found.1 in
      let next_is = is_found.next_is in
      let passed = receipts-passed client key found.0 found.1 held.0 in
      let posted_ = receipts-posted client key in
      let first_item : Item = record { number = suc through; content = first.0 } in
      let saw_item : Saw plain world (Delivery client key first_item) = All-at (Saw plain world) (Delivery client key first_item) (plain.held past) saw.items (is_plain.held_first past client key first.0 held.0 first.1) in
      saw_item found.0 found.1 (omega arith)

  pub settled : world.core.hand ≡ Empty → IsSettled plain world
  settled rests = record { rests = rests; heard = all-heard; taken = all-taken; held = all-held }

-- Nothing but the net changes in a quiet round.

-- history and agents are the same
pub record Same (old new : World) : Type 0 where
  pub core : new.core ≡ old.core
  pub agents : new.agents ≡ old.agents
  pub stays : Stays old new

Same-same : (world : World) → Same world world
Same-same world = record { core = refl; agents = refl; stays = Stays-same world }

Same-both : (one two three : World) → Same one two → Same two three → Same one three
Same-both one two three first second = record {
  core = second.core ∙ first.core;
  agents = second.agents ∙ first.agents;
  stays = Stays-both one two three first.stays second.stays;
}

Same-equal : (old new : World) → new ≡ old → Same old new
Same-equal old new is = let S : World → Type 0 = λ world. Same old world in subst S (sym is) (Same-same old)

Saw-move : (plain : Plain) (old new : World) (message : Message) → new.core ≡ old.core → new.agents ≡ old.agents → new.places ≡ old.places → Saw plain old message → Saw plain new message
Saw-move plain old new message core agents places saw =
    let A : Core → Type 0 = λ c. SawBy plain c.answered old.agents old.places message in
    let B : (ℕ → Agent) → Type 0 = λ a. SawBy plain new.core.answered a old.places message in
    let C : ℕ → Type 0 = λ n. SawBy plain new.core.answered new.agents n message in
    subst C (sym places) (subst B (sym agents) (subst A (sym core) saw))

Saw-back : (plain : Plain) (old new : World) (message : Message) → Same old new → Saw plain new message → Saw plain old message
Saw-back plain old new message same saw = Saw-move plain new old message (sym same.core) (sym same.agents) (sym same.stays.places) saw

loud-split : (second first : List Told) → is_loud (second ++ first) ≡ false → (is_loud second ≡ false) × (is_loud first ≡ false)
loud-split [] first quiet = (refl, quiet)
loud-split (line ∷ second) first quiet =
    let P : Bool → Type 0 = λ b. (b || is_loud (second ++ first)) ≡ false → ((b || is_loud second) ≡ false) × (is_loud first ≡ false) in
    let cases : (b : Bool) → P b = elim [ true ↦ λ e. cc | false ↦ λ e. loud-split second first e ] in
    cases (is_progress line) quiet

reply_by-quiet : (place client number : ℕ) (reply : Reply) (found : Option Call) (world : World) → is_loud (reply_by place client number reply found world).told ≡ false → ((reply_by place client number reply found world).state ≡ world) × ((call : Call) → found ≡ Some call → lacks_place world.places (world.agents client).queue (callbacks_of (world.agents client).marks call reply) ≡ true)
reply_by-quiet place client number reply None world quiet = (refl, λ call is. cc)
reply_by-quiet place client number reply (Some call) world quiet =
    let after = with_agent client (after_reply number call reply (world.agents client)) world.agents in
    let full = lacks_place world.places (world.agents client).queue (callbacks_of (world.agents client).marks call reply) in
    let P : Bool → Type 0 = λ b. is_loud ((if b then Ignored place because.Left else Replied client number call reply) ∷ []) ≡ false → (record world { agents = if b then world.agents else after } ≡ world) × ((other : Call) → Some call ≡ Some other → lacks_place world.places (world.agents client).queue (callbacks_of (world.agents client).marks other reply) ≡ true) in
    let L : Call → Type 0 = λ c. lacks_place world.places (world.agents client).queue (callbacks_of (world.agents client).marks c reply) ≡ true in
    elim (cases_Bool full) [
      | inl is_full ↦ subst P (sym is_full) (λ q. (refl, λ other same. let is : call ≡ other = cc in subst L is is_full)) quiet
      | inr has_place ↦ subst P (sym has_place) (λ q. cc) quiet
    ]

-- a reply that is delivered quietly leaves the world, and was left for want of a place if its call is unanswered
record TakenQuietly (client number : ℕ) (world : World) (outcome : Outcome World) : Type 0 where
  state : outcome.state ≡ world
  left : (call : Call) (reply : Reply) → kept_call number (world.agents client).kept ≡ Some call → reply_at number (answers_to client (messages_in world.net)) ≡ Some reply → lacks_place world.places (world.agents client).queue (callbacks_of (world.agents client).marks call reply) ≡ true

take_answer_by-quiet : (plain : Plain) (client number : ℕ) (found : Option Reply) (world : World) → reply_at number (answers_to client (messages_in world.net)) ≡ found → is_loud (take_answer_by plain client number found world).told ≡ false → TakenQuietly client number world (take_answer_by plain client number found world)
take_answer_by-quiet plain client number None world is quiet = record { state = refl; left = λ call reply kept told. cc }
take_answer_by-quiet plain client number (Some reply) world is quiet =
    let taken = reply_by-quiet (number_of plain (Answer client number reply) world.net) client number reply (kept_call number (world.agents client).kept) world quiet in
    record {
      state = taken.0;
      left = λ call other kept told.
          let same : reply ≡ other = cc in
          let L : Reply → Type 0 = λ r. lacks_place world.places (world.agents client).queue (callbacks_of (world.agents client).marks call r) ≡ true in
          subst L same (taken.1 call kept);
    }

fate_of-next : (number next : ℕ) (full : Bool) → number ≡ next → full ≡ false → fate_of number next full ≡ Takes
fate_of-next number next full same free =
    let P : Bool → Type 0 = λ b. (if b then Misses because.TakenItem else if nat_lt next number then Misses because.AheadItem else if full then Misses because.Left else Takes) ≡ Takes in
    let Q : Bool → Type 0 = λ b. (if b then Misses because.AheadItem else if full then Misses because.Left else Takes) ≡ Takes in
    elim (leb_tells (suc number) next) [
      | inl below ↦ let b = below.1 in absurd (omega arith)
      | inr not_below ↦ subst P (sym not_below.0) (elim (leb_tells (suc next) number) [
        | inl above ↦ let a = above.1 in absurd (omega arith)
        | inr not_above ↦ subst Q (sym not_above.0) (ap (λ b. if b then Misses because.Left else Takes) free)
      ])
    ]

item_as-quiet : (plain : Plain) → IsPlain plain → (place client key : ℕ) (item : Item) (found : Living) (fate : Fate) (full : Bool) (world : World) → IsSound plain world → find_living key (world.agents client).living ≡ Some found → fate_of item.number found.next full ≡ fate → is_loud (item_as plain place client key item found fate world).told ≡ false → ((item_as plain place client key item found fate world).state ≡ world) × (fate ≡ Takes → ⊥)
item_as-quiet plain is_plain place client key item found (Misses why) full world sound here is quiet = (refl, λ takes. cc)
item_as-quiet plain is_plain place client key item found Takes full world sound here is quiet =
    let receipt = Receipt client key item.number in
    let next = (fate_of-takes item.number found.next full is).0 in
    let unknown = posted-unknown plain receipt world.net (receipt-new plain is_plain world.now (accepted world.core) world.core.answered world.net world.agents client key item.number found here next sound.facts) in
    let P : Bool → Type 0 = λ b. is_loud (if b then [] else Posted (suc (length world.net)) receipt ∷ []) ≡ false → ⊥ in
    absurd (subst P (sym unknown) (λ loud. cc) quiet)

item_by-quiet : (plain : Plain) → IsPlain plain → (place client key : ℕ) (item : Item) (found : Option Living) (world : World) → IsSound plain world → find_living key (world.agents client).living ≡ found → is_loud (item_by plain place client key item found world).told ≡ false → ((item_by plain place client key item found world).state ≡ world) × Saw plain world (Delivery client key item)
item_by-quiet plain is_plain place client key item None world sound is quiet = (refl, λ found here next. cc)
item_by-quiet plain is_plain place client key item (Some found) world sound is quiet =
    let full = nat_le world.places (length (world.agents client).queue) in
    let taken = item_as-quiet plain is_plain place client key item found (fate_of item.number found.next full) full world sound is refl quiet in (
      taken.0,
      λ other here next.
          let same : other ≡ found = cc in
          let numbers : item.number ≡ found.next = next ∙ ap (λ (l : Living). l.next) same in
          elim (leb_tells world.places (length (world.agents client).queue)) [
            | inl is_full ↦ is_full.1
            | inr has_place ↦ absurd (taken.1 (fate_of-next item.number found.next full numbers has_place.0))
          ],
    )

-- The messages of turns.

-- a message that clients send
abbrev pub IsAsked : Message → Type 0
IsAsked (Request client number call) = Unit {0}
IsAsked (Receipt client key through) = Unit {0}
IsAsked _ = ⊥

requests_of-asked : (client : ℕ) (kept : List (ℕ × Call)) → AllByRecursion IsAsked (requests_of client kept)
requests_of-asked client [] = tt
requests_of-asked client (x ∷ kept) = All-append IsAsked (requests_of client kept) (Request client x.0 x.1 ∷ []) (requests_of-asked client kept) (tt, tt)

greatest_receipt-asked : (client key next : ℕ) → AllByRecursion IsAsked (greatest_receipt client key next)
greatest_receipt-asked client key zero = tt
greatest_receipt-asked client key (suc taken) =
    elim (taken == 0) as (λ b. AllByRecursion IsAsked (if b then [] else Receipt client key taken ∷ [])) [ true ↦ tt | false ↦ (tt, tt) ]

greatest_receipts-asked : (client : ℕ) (living : List Living) → AllByRecursion IsAsked (greatest_receipts client living)
greatest_receipts-asked client [] = tt
greatest_receipts-asked client (first ∷ living) =
    All-append IsAsked (greatest_receipts client living) (greatest_receipt client first.key first.next) (greatest_receipts-asked client living) (greatest_receipt-asked client first.key first.next)

resent-asked : (client : ℕ) (agent : Agent) → AllByRecursion IsAsked (resent client agent)
resent-asked client agent = All-append IsAsked (requests_of client agent.kept) (greatest_receipts client agent.living) (requests_of-asked client agent.kept) (greatest_receipts-asked client agent.living)

-- a message is an item
abbrev pub IsItem : Message → Type 0
IsItem (Delivery client key item) = Unit {0}
IsItem _ = ⊥

IsHeldItem-item : (plain : Plain) (past : List Entry) (message : Message) → IsHeldItem plain past message → IsItem message
IsHeldItem-item plain past (Delivery client key item) held = tt
IsHeldItem-item plain past _ held = elim held [ ]

All-both : {X : Type 0} (P Q : X → Type 0) (xs : List X) → AllByRecursion P xs → AllByRecursion Q xs → AllByRecursion (λ x. P x × Q x) xs
All-both P Q [] one other = tt
All-both P Q (x ∷ xs) one other = ((one.0, other.0), All-both P Q xs one.1 other.1)

-- posting leaves history and agents
posts-same : {P : Type 0} (plain : Plain) (items : List Message) (state : State P) → ((for_each (λ item. in_world (post plain item)) items state).state.world.core ≡ state.world.core) × ((for_each (λ item. in_world (post plain item)) items state).state.world.agents ≡ state.world.agents)
posts-same plain [] state = (refl, refl)
posts-same plain (item ∷ items) state = posts-same plain items (in_world (post plain item) state).state

-- A relation that holds of anything, to learn what rounds leave.
abbrev Anything : World → World → List Told → Type 0
Anything old new told = Unit {0}

anything : {P : Type 0} (plain : Plain) (servers : Servers P) (Good : State P → Type 0) → IsCarried plain servers Good Anything
anything plain servers Good = record {
  same = λ world. tt;
  both = λ one two three first second a b. tt;
  ignored = λ world place why. tt;
  answer = λ world client number reply sound stands. tt;
  pushed = λ world client key item sound is. tt;
  reply = λ world client number call reply sound kept place stands. tt;
  item = λ world client key item found sound here next place stands. tt;
  accept = λ entry state steady empty may at stands. tt;
  drain = λ state steady. tt;
}

-- at rest, with history and agents as in a world before
pub record IsSince {P : Type 0} (plain : Plain) (Good : State P → Type 0) (base : World) (state : State P) : Type 0 where
  pub rest : IsAtRest plain Good state
  pub same : Same base state.world

-- each of several quiet events saw what it should
visits : {P X : Type 0} (Inv : State P → Type 0) (C V : X → Type 0) (event : X → State P → Outcome (State P)) → ((x : X) (state : State P) → Inv state → C x → is_loud (event x state).told ≡ false → V x × Inv (event x state).state) → (xs : List X) (state : State P) → Inv state → AllByRecursion C xs → is_loud (for_each event xs state).told ≡ false → AllByRecursion V xs × Inv (for_each event xs state).state
visits Inv C V event step [] state holds all quiet = (tt, holds)
visits Inv C V event step (x ∷ xs) state holds all quiet =
    let split = loud-split (for_each event xs (event x state).state).told (event x state).told quiet in
    let first = step x state holds all.0 split.1 in
    let others = visits Inv C V event step xs (event x state).state first.1 all.1 split.0 in
    ((first.0, others.0), others.1)

module _ {P : Type 0} (plain : Plain) (is_plain : IsPlain plain) (servers : Servers P) (Good : State P → Type 0) (serving : IsServing plain servers Good) where
  -- what follows a hearing in a turn
  abbrev turn_after : Message → Outcome (State P) → Outcome (State P)
  turn_after message heard = and_then (and_then heard (drain servers)) (in_world (take_answer plain message))

  -- what a reply that is taken quietly tells of a world
  abbrev IsLeftIn : ℕ → ℕ → World → Type 0
  IsLeftIn client number world = (call : Call) (reply : Reply) → kept_call number (world.agents client).kept ≡ Some call → reply_at number (answers_to client (messages_in world.net)) ≡ Some reply → lacks_place world.places (world.agents client).queue (callbacks_of (world.agents client).marks call reply) ≡ true

  request_after : (client number : ℕ) (call : Call) (base : World) (heard : Outcome (State P)) → IsAtRest plain Good heard.state → Same base heard.state.world → is_loud (turn_after (Request client number call) heard).told ≡ false → IsLeftIn client number heard.state.world × Same base (turn_after (Request client number call) heard).state.world
  request_after client number call base heard rest same quiet =
      let drained = drain servers heard.state in
      let world = drained.state.world in
      let idle = (serving.drains heard.state rest.steady).idle rest.empty in
      let found = reply_at number (answers_to client (messages_in world.net)) in
      let take = take_answer_by plain client number found world in
      let taken = take_answer_by-quiet plain client number found world refl (loud-split take.told (drained.told ++ heard.told) quiet).0 in
      (subst (IsLeftIn client number) idle taken.left, Same-both base heard.state.world take.state same (Same-equal heard.state.world take.state (taken.state ∙ idle)))

  post_again-saw : (client number : ℕ) (call : Call) (found : Option Reply) (state : State P) → IsAtRest plain Good state → judged_call state.world.core.answered client number ≡ Repeat → reply_at number (answers_in plain client state.world.core.answered) ≡ found → is_loud (turn_after (Request client number call) (in_world (post_again plain client number found) state)).told ≡ false → SawRequest plain state.world.core.answered (state.world.agents client) state.world.places client number × Same state.world (turn_after (Request client number call) (in_world (post_again plain client number found) state)).state.world
  post_again-saw client number call None state rest again is quiet =
      let after = request_after client number call state.world (in_world (quietly) state) rest (Same-same state.world) quiet in
      (record { not_new = λ new. cc; left = λ asked told kept repeat there. cc }, after.1)
  post_again-saw client number call (Some reply) state rest again is quiet =
      let past = state.world.core.answered in
      let message = Answer client number reply in
      let stands = reply_at-stands number (answers_in plain client past) reply is in
      let goes = in_world-rests plain is_plain servers Good serving Anything (anything plain servers Good) (post plain message) state rest (post_answer-goes plain is_plain servers Good serving Anything (anything plain servers Good) client number reply state.world rest.steady.sound stands) in
      let heard = in_world (post plain message) state in
      let after = request_after client number call state.world heard goes.holds (record { core = refl; agents = refl; stays = goes.stays }) quiet in
      let net = messages_in heard.state.world.net in
      let there = reply_at-some number reply (answers_to client net) (answers_to-stands client number reply net (posted-stands plain is_plain message state.world.net)) in
      let run = All-at (IsOfRun plain past) (Answer client number there.0) net goes.holds.steady.sound.facts.run (answers_to-posted client number there.0 net (reply_at-stands number (answers_to client net) there.0 there.1)) in (
        record {
          not_new = λ new. cc;
          left = λ asked told kept repeat it. (there.0, run, after.0 asked there.0 kept there.1);
        },
        after.1,
      )

  request-saw : (place client number : ℕ) (call : Call) (verdict : Judged) (state : State P) → IsAtRest plain Good state → judged_call state.world.core.answered client number ≡ verdict → is_loud (turn_after (Request client number call) (request_as plain servers place client number call verdict state)).told ≡ false → SawRequest plain state.world.core.answered (state.world.agents client) state.world.places client number × Same state.world (turn_after (Request client number call) (request_as plain servers place client number call verdict state)).state.world
  request-saw place client number call New state rest is quiet =
      let entry = Called client number state.world.now call in
      let accept = servers.accept entry state in
      let drained = drain servers accept.state in
      let take = in_world (take_answer plain (Request client number call)) drained.state in
      let loud = serving.commits entry state rest.empty rest.steady.good in
      let quiet_part = (loud-split take.told (drained.told ++ accept.told) quiet).1 in
      cc
  request-saw place client number call Repeat state rest is quiet =
      post_again-saw client number call (reply_at number (answers_in plain client state.world.core.answered)) state rest is refl quiet
  request-saw place client number call Old state rest is quiet =
      let after = request_after client number call state.world (telling state (Ignored place because.OldRequest)) rest (Same-same state.world) quiet in
      (record { not_new = λ new. cc; left = λ asked told kept repeat it. cc }, after.1)
  request-saw place client number call Ahead state rest is quiet =
      let after = request_after client number call state.world (telling state (Ignored place because.AheadRequest)) rest (Same-same state.world) quiet in
      (record { not_new = λ new. cc; left = λ asked told kept repeat it. cc }, after.1)

  receipt-saw : (place client key through : ℕ) (new : Bool) (state : State P) → IsAtRest plain Good state → is_new plain state.world.core.answered client key through ≡ new → is_loud (turn_after (Receipt client key through) (receipt_as servers place client key through new state)).told ≡ false → (is_new plain state.world.core.answered client key through ≡ true → ⊥) × Same state.world (turn_after (Receipt client key through) (receipt_as servers place client key through new state)).state.world
  receipt-saw place client key through true state rest is quiet =
      let entry = Receipted client key through state.world.now in
      let accept = servers.accept entry state in
      let drained = drain servers accept.state in
      let loud = serving.commits entry state rest.empty rest.steady.good in
      cc
  receipt-saw place client key through false state rest is quiet =
      let drained = drain servers state in
      let idle = (serving.drains state rest.steady).idle rest.empty in
      (λ new. cc, Same-equal state.world drained.state.world idle)

  -- what a quiet turn saw
  turn-saw : (message : Message) (state : State P) → IsAtRest plain Good state → IsAsked message → is_loud (turn plain servers message state).told ≡ false → Saw plain state.world message × Same state.world (turn plain servers message state).state.world
  turn-saw (Request client number call) state rest asked quiet =
      let place = number_of plain (Request client number call) state.world.net in
      let T : Hand → Type 0 = λ hand. is_loud (turn_after (Request client number call) (hear_by plain servers place (Request client number call) hand state)).told ≡ false → Saw plain state.world (Request client number call) × Same state.world (turn_after (Request client number call) (hear_by plain servers place (Request client number call) hand state)).state.world in
      subst T (sym rest.empty) (request-saw place client number call (judged_call state.world.core.answered client number) state rest refl) quiet
  turn-saw (Receipt client key through) state rest asked quiet =
      let place = number_of plain (Receipt client key through) state.world.net in
      let T : Hand → Type 0 = λ hand. is_loud (turn_after (Receipt client key through) (hear_by plain servers place (Receipt client key through) hand state)).told ≡ false → Saw plain state.world (Receipt client key through) × Same state.world (turn_after (Receipt client key through) (hear_by plain servers place (Receipt client key through) hand state)).state.world in
      subst T (sym rest.empty) (receipt-saw place client key through (is_new plain state.world.core.answered client key through) state rest refl) quiet
  turn-saw _ state rest asked quiet = elim asked [ ]

  turn-visit : (base : World) (message : Message) (state : State P) → IsSince plain Good base state → (IsAsked message × Stands message (messages_in base.net)) → is_loud (turn plain servers message state).told ≡ false → Saw plain base message × IsSince plain Good base (turn plain servers message state).state
  turn-visit base message state since asked quiet =
      let goes = turn-goes plain is_plain servers Good serving Anything (anything plain servers Good) message state since.rest (since.same.stays.net message asked.1) in
      let saw = turn-saw message state since.rest asked.0 quiet in
      (Saw-back plain base state.world message since.same saw.0, record { rest = goes.holds; same = Same-both base state.world (turn plain servers message state).state.world since.same saw.1 })

  turns-visit : (base : World) → IsSound plain base → (client : ℕ) (state : State P) → IsSince plain Good base state → Unit {0} → is_loud (client_turns plain servers client state).told ≡ false → AllByRecursion (Saw plain base) (resent client (base.agents client)) × IsSince plain Good base (client_turns plain servers client state).state
  turns-visit base sound client state since it quiet =
      let M : Agent → List Message = λ agent. resent client agent in
      let same : state.world.agents client ≡ base.agents client = ap (λ (agents : ℕ → Agent). agents client) since.same.agents in
      let W : Agent → Type 0 = λ agent. is_loud (for_each (turn plain servers) (resent client agent) state).told ≡ false → AllByRecursion (Saw plain base) (resent client (base.agents client)) × IsSince plain Good base (for_each (turn plain servers) (resent client agent) state).state in
      subst W (sym same) (visits (IsSince plain Good base) (λ message. IsAsked message × Stands message (messages_in base.net)) (Saw plain base) (turn plain servers) (turn-visit base) (resent client (base.agents client)) state since (All-both IsAsked (λ message. Stands message (messages_in base.net)) (resent client (base.agents client)) (resent-asked client (base.agents client)) (resent-posted plain client base sound))) quiet

  item-saw : (message : Message) (state : State P) → IsAtRest plain Good state → IsItem message → is_loud (in_world (take_pushed plain message) state).told ≡ false → Saw plain state.world message × ((take_pushed plain message state.world).state ≡ state.world)
  item-saw (Delivery client key item) state rest is quiet =
      let place = number_of plain (Delivery client key item) state.world.net in
      let taken = item_by-quiet plain is_plain place client key item (find_living key (state.world.agents client).living) state.world rest.steady.sound refl quiet in
      (taken.1, taken.0)
  item-saw _ state rest is quiet = elim is [ ]

  item-visit : (base : World) (message : Message) (state : State P) → IsSince plain Good base state → (IsItem message × Stands message (messages_in base.net)) → is_loud (in_world (take_pushed plain message) state).told ≡ false → Saw plain base message × IsSince plain Good base (in_world (take_pushed plain message) state).state
  item-visit base message state since is quiet =
      let goes = take_pushed-rests plain is_plain servers Good serving Anything (anything plain servers Good) message state since.rest (since.same.stays.net message is.1) in
      let saw = item-saw message state since.rest is.0 quiet in
      (Saw-back plain base state.world message since.same saw.0, record { rest = goes.holds; same = Same-both base state.world (take_pushed plain message state.world).state since.same (Same-equal state.world (take_pushed plain message state.world).state saw.1) })

  pushed-same : (state : State P) → IsAtRest plain Good state → Same state.world (push plain servers state).state.world
  pushed-same state rest =
      let goes = push-goes plain is_plain servers Good serving Anything (anything plain servers Good) state rest in
      let items = plain.held state.world.core.answered in
      let G : Hand → Type 0 = λ hand. ((push_by plain servers hand state).state.world.core ≡ state.world.core) × ((push_by plain servers hand state).state.world.agents ≡ state.world.agents) in
      let same = subst G (sym rest.empty) (posts-same plain items state) in
      record { core = same.0; agents = same.1; stays = goes.stays }

  -- what a quiet push round saw
  push_round-saw : (base : World) (state : State P) → IsSince plain Good base state → is_loud (push_round plain servers state).told ≡ false → AllByRecursion (Saw plain base) (plain.held base.core.answered) × IsSince plain Good base (push_round plain servers state).state
  push_round-saw base state since quiet =
      let pushed_state = (push plain servers state).state in
      let goes = push-goes plain is_plain servers Good serving Anything (anything plain servers Good) state since.rest in
      let same = pushed-same state since.rest in
      let items = plain.held state.world.core.answered in
      let take = for_each (λ item. in_world (take_pushed plain item)) items pushed_state in
      let split = loud-split take.told (push plain servers state).told quiet in
      let asked = All-both IsItem (λ message. Stands message (messages_in pushed_state.world.net)) items
      (All-map (IsHeldItem plain state.world.core.answered) IsItem items (IsHeldItem-item plain state.world.core.answered) (is_plain.held_of state.world.core.answered))
      (push-stands plain is_plain servers Good serving Anything (anything plain servers Good) state since.rest) in
      let saw = visits (IsSince plain Good pushed_state.world) (λ message. IsItem message × Stands message (messages_in pushed_state.world.net)) (Saw plain pushed_state.world) (λ item. in_world (take_pushed plain item)) (item-visit pushed_state.world) items pushed_state (record { rest = goes.holds; same = Same-same pushed_state.world }) asked split.0 in
      let first = Same-both base state.world pushed_state.world since.same same in
      let back = All-map (Saw plain pushed_state.world) (Saw plain base) items (λ message. Saw-back plain base pushed_state.world message first) saw.0 in
      let H : Core → Type 0 = λ core. AllByRecursion (Saw plain base) (plain.held core.answered) in
      (subst H since.same.core back, record { rest = saw.1.rest; same = Same-both base pushed_state.world take.state.world first saw.1.same })

  -- after a round in which nothing goes on everything is settled
  pub round-settles : (state : State P) → IsSteady plain Good state → is_loud (round plain servers state).told ≡ false → IsSettled plain (round plain servers state).state.world
  round-settles state steady quiet =
      let drained = drain servers state in
      let rest = (drain-goes plain is_plain servers Good serving Anything (anything plain servers Good) state steady).holds in
      let base = drained.state.world in
      let turns = for_each (client_turns plain servers) base.clients drained.state in
      let final = (push_round plain servers turns.state).state.world in
      let split = loud-split (push_round plain servers turns.state).told (turns.told ++ drained.told) quiet in
      let inner = loud-split turns.told drained.told split.1 in
      let saw_turns = visits (IsSince plain Good base) (λ client. Unit {0}) (λ client. AllByRecursion (Saw plain base) (resent client (base.agents client))) (client_turns plain servers) (turns-visit base rest.steady.sound) base.clients drained.state (record { rest = rest; same = Same-same base }) (All-of (λ client. Unit {0}) base.clients (λ client stands. tt)) inner.0 in
      let saw_items = push_round-saw base turns.state saw_turns.1 split.0 in
      let since = saw_items.1 in
      let same = since.same in
      let sound = since.rest.steady.sound in
      let past = final.core.answered in
      let A : List Entry → Type 0 = λ accepted_. Facts plain final.now accepted_ past (messages_in final.net) final.agents in
      let facts = subst A (ap (λ (hand : Hand). accepted_by past hand) since.rest.empty) sound.facts in
      let moves = λ (message : Message). Saw-move plain base final message same.core same.agents same.stays.places in
      let C : List ℕ → Type 0 = λ clients. AllByRecursion (λ client. AllByRecursion (Saw plain final) (resent client (final.agents client))) clients in
      let each_turn : (client : ℕ) → AllByRecursion (Saw plain base) (resent client (base.agents client)) → AllByRecursion (Saw plain final) (resent client (final.agents client)) = λ client saw.
      let M : (ℕ → Agent) → Type 0 = λ agents. AllByRecursion (Saw plain final) (resent client (agents client)) in
      subst M (sym same.agents) (All-map (Saw plain base) (Saw plain final) (resent client (base.agents client)) moves saw) in
      let turns_seen = All-map (λ client. AllByRecursion (Saw plain base) (resent client (base.agents client))) (λ client. AllByRecursion (Saw plain final) (resent client (final.agents client))) base.clients each_turn saw_turns.0 in
      let H : Core → Type 0 = λ core. AllByRecursion (Saw plain final) (plain.held core.answered) in
      let items_seen = All-map (Saw plain base) (Saw plain final) (plain.held base.core.answered) moves saw_items.0 in
      settled plain is_plain final facts sound.listed (record { turns = subst C (sym same.stays.clients) turns_seen; items = subst H (sym same.core) items_seen }) since.rest.empty

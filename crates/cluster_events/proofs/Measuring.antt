-- Rounds lower what is left to do.
use Rattle.std.proofs.Common.{◌≡◌, ℕ, suc, ◌+◌, ◌<◌, ◌≤◌, inl, inr, Bool, true, false, ◌&&◌, ◌||◌, ◌==◌, nat_lt, nat_le, if◌then◌else◌, ℤ, Some, None, List, [], ◌∷◌, ◌++◌, length, ap, sym, ◌∙◌, subst, arith, length-append}
use Rattle.std.proofs.lemmas.Bool.Decides.{leb_tells}
use Rattle.std.proofs.lemmas.Bool.{and_parts, eqb-true, cases_Bool}
use Rattle.cluster_facts.specs.Types.{Call, Reply, Item, Entry, Called, Receipted, Message, Request, Receipt}
use Rattle.cluster_facts.specs.Lists.{Stands, IsNumbered, without}
use Rattle.cluster_facts.specs.Messages.{Spelled, calls_in, message_of}
use Rattle.cluster_facts.specs.Service.{Plain, IsPlain, is_new}
use Rattle.cluster_facts.specs.Agents.{Living, Agent, fresh, kept_call, callbacks_of, after_reply, find_living, after_item}
use Rattle.cluster_facts.specs.History.{committed, MayFollow, ReceiptsAreNew, IsLegal}
use Rattle.cluster_facts.specs.World.{World, with_agent}
use Rattle.cluster_facts.specs.Facts.{IsSound}
use Rattle.cluster_facts.proofs.Words.{by_test, IsNumbered-bound}
use Rattle.cluster_facts.proofs.Growing.{judged-new}
use Rattle.cluster_events.specs.Lines.{Told, Posted, Replied, is_progress}
use Rattle.cluster_events.specs.Settling.{is_loud}
use Rattle.cluster_events.specs.Measure.{is_acceptance, is_accepted, waiting, unheard, untaken, all_untaken, progress, Spends}
use Rattle.cluster_events.proofs.Carrying.{IsTold}
use Rattle.ais_values.proofs.Basics.{eqb_self}

-- Which messages the history has.

-- what is accepted stays accepted
pub waiting-later : (message : Message) (entry : Entry) (past : List Entry) → waiting message (entry ∷ past) ≤ waiting message past
waiting-later (Request client number call) entry past =
    let W : Bool → ℕ = λ b. if b then 0 else 1 in
    let cases : (a b : Bool) → W (a || b) ≤ W b = elim [ true ↦ elim [ true ↦ omega arith | false ↦ omega arith ] | false ↦ elim [ true ↦ omega arith | false ↦ omega arith ] ] in
    cases (is_acceptance (Request client number call) entry) (is_accepted (Request client number call) past)
waiting-later (Receipt client key through) entry past =
    let W : Bool → ℕ = λ b. if b then 0 else 1 in
    let cases : (a b : Bool) → W (a || b) ≤ W b = elim [ true ↦ elim [ true ↦ omega arith | false ↦ omega arith ] | false ↦ elim [ true ↦ omega arith | false ↦ omega arith ] ] in
    cases (is_acceptance (Receipt client key through) entry) (is_accepted (Receipt client key through) past)
waiting-later _ entry past = omega arith

pub unheard-later : (net : List Message) (entry : Entry) (past : List Entry) → unheard net (entry ∷ past) ≤ unheard net past
unheard-later [] entry past = omega arith
unheard-later (message ∷ net) entry past =
    let here = waiting-later message entry past in
    let there = unheard-later net entry past in
    omega arith

-- an entry is the acceptance of its message
acceptance-own : (entry : Entry) → is_acceptance (message_of entry) entry ≡ true
acceptance-own (Called client number time call) = ap (λ b. b && (number == number)) (eqb_self client) ∙ eqb_self number
acceptance-own (Receipted client key through time) = ap (λ b. b && ((key == key) && (through == through))) (eqb_self client) ∙ ap (λ b. b && (through == through)) (eqb_self key) ∙ eqb_self through

-- with an entry whose message waited, one message fewer waits
waiting-accepted : (entry : Entry) (past : List Entry) → is_accepted (message_of entry) past ≡ false → suc (waiting (message_of entry) (entry ∷ past)) ≡ waiting (message_of entry) past
waiting-accepted (Called client number time call) past lacks =
    let W : Bool → ℕ = λ b. if b then 0 else 1 in
    let message = Request client number call in
    let now : waiting message (Called client number time call ∷ past) ≡ 0 = ap (λ b. W (b || is_accepted message past)) (acceptance-own (Called client number time call)) in
    let before : waiting message past ≡ 1 = ap W lacks in
    ap suc now ∙ sym before
waiting-accepted (Receipted client key through time) past lacks =
    let W : Bool → ℕ = λ b. if b then 0 else 1 in
    let message = Receipt client key through in
    let now : waiting message (Receipted client key through time ∷ past) ≡ 0 = ap (λ b. W (b || is_accepted message past)) (acceptance-own (Receipted client key through time)) in
    let before : waiting message past ≡ 1 = ap W lacks in
    ap suc now ∙ sym before

pub unheard-accepted : (net : List Message) (entry : Entry) (past : List Entry) → is_accepted (message_of entry) past ≡ false → Stands (message_of entry) net → suc (unheard net (entry ∷ past)) ≤ unheard net past
unheard-accepted [] entry past lacks stands = elim stands [ ]
unheard-accepted (message ∷ net) entry past lacks (inl same) =
    let here = waiting-accepted entry past lacks in
    let W : Message → Type 0 = λ m. suc (waiting m (entry ∷ past)) ≡ waiting m past in
    let own : suc (waiting message (entry ∷ past)) ≡ waiting message past = subst W same here in
    let there = unheard-later net entry past in
    omega arith
unheard-accepted (message ∷ net) entry past lacks (inr stands) =
    let here = waiting-later message entry past in
    let there = unheard-accepted net entry past lacks stands in
    omega arith

-- A new entry's message waited.

-- a request that was accepted is among the client's calls
call-accepted : (client number : ℕ) (call : Call) (past : List Entry) → is_accepted (Request client number call) past ≡ true → (asked : Call) × Stands (number, asked) (calls_in client past)
call-accepted client number call [] accepted = cc
call-accepted client number call (Called caller other time asked ∷ past) accepted =
    let C : Bool → List (ℕ × Call) = λ b. if b then (other, asked) ∷ calls_in client past else calls_in client past in
    elim (cases_Bool (client == caller && number == other)) [
      | inl here ↦
          let both = and_parts (client == caller) (number == other) here in
          let same = eqb-true client caller both.0 in
          let numbers = eqb-true number other both.1 in
          (asked, by_test (λ b. Stands (number, asked) (C b)) caller client (λ is. inl (ap (λ n. (n, asked)) numbers)) (λ different. absurd (different (sym same))))
      | inr elsewhere ↦
          let P : Bool → Type 0 = λ b. (b || is_accepted (Request client number call) past) ≡ true → is_accepted (Request client number call) past ≡ true in
          let rest : is_accepted (Request client number call) past ≡ true = subst P (sym elsewhere) (λ e. e) accepted in
          let deeper = call-accepted client number call past rest in
          let cases : (b : Bool) → Stands (number, deeper.0) (C b) = elim [ true ↦ inr deeper.1 | false ↦ deeper.1 ] in
          (deeper.0, cases (caller == client))
    ]
call-accepted client number call (Receipted sender key through time ∷ past) accepted = call-accepted client number call past accepted

pub new_call-waits : (client number : ℕ) (call : Call) (past : List Entry) → IsNumbered (calls_in client past) → number ≡ suc (length (calls_in client past)) → is_accepted (Request client number call) past ≡ false
new_call-waits client number call past numbered next =
    elim (cases_Bool (is_accepted (Request client number call) past)) [
      | inl accepted ↦
          let found = call-accepted client number call past accepted in
          let bound = IsNumbered-bound (number, found.0) (calls_in client past) numbered found.1 in
          absurd (omega arith)
      | inr lacks ↦ lacks
    ]

-- a new receipt goes beyond all that were accepted
pub is_new-above : (plain : Plain) (past : List Entry) (client key number : ℕ) → is_new plain past client key number ≡ true → plain.through past client key < number
is_new-above plain past client key number new =
    let tests = and_parts (plain.lasts past client key) (nat_lt (plain.through past client key) number && nat_le number (length (plain.made past client key))) new in
    let within = and_parts (nat_lt (plain.through past client key) number) (nat_le number (length (plain.made past client key))) tests.1 in
    elim (leb_tells (suc (plain.through past client key)) number) [
      | inl above ↦ above.1
      | inr below ↦ let never = below.0 in let test = within.0 in cc
    ]

receipt-passed : (plain : Plain) → IsPlain plain → (client key number : ℕ) (past : List Entry) → ReceiptsAreNew plain past → is_accepted (Receipt client key number) past ≡ true → number ≤ plain.through past client key
receipt-passed plain is_plain client key number [] receipts accepted = cc
receipt-passed plain is_plain client key number (Called caller other time asked ∷ past) receipts accepted =
    let deeper = receipt-passed plain is_plain client key number past receipts accepted in
    elim (is_plain.moves (Called caller other time asked) past client key) [
      | inl same ↦ omega arith
      | inr receipt ↦ cc
    ]
receipt-passed plain is_plain client key number (Receipted sender other through time ∷ past) receipts accepted =
    let entry = Receipted sender other through time in
    let beyond : plain.through past client key ≤ plain.through (entry ∷ past) client key = elim (is_plain.moves entry past client key) [
      | inl same ↦ omega arith
      | inr receipt ↦
          let senders : sender ≡ client = cc in
          let keys : other ≡ key = cc in
          let numbers : through ≡ plain.through (entry ∷ past) client key = cc in
          let above = is_new-above plain past sender other through receipts.0 in
          let same : plain.through past sender other ≡ plain.through past client key = λ i. plain.through past (senders i) (keys i) in
          omega arith
    ] in
    elim (cases_Bool (client == sender && (key == other && number == through))) [
      | inl here ↦
          let first = and_parts (client == sender) (key == other && number == through) here in
          let second = and_parts (key == other) (number == through) first.1 in
          let clients = eqb-true client sender first.0 in
          let keys = eqb-true key other second.0 in
          let numbers = eqb-true number through second.1 in
          let received = is_plain.received past sender other through time receipts.0 in
          let same : plain.through (entry ∷ past) sender other ≡ plain.through (entry ∷ past) client key = λ i. plain.through (entry ∷ past) (sym clients i) (sym keys i) in
          omega arith
      | inr elsewhere ↦
          let P : Bool → Type 0 = λ b. (b || is_accepted (Receipt client key number) past) ≡ true → is_accepted (Receipt client key number) past ≡ true in
          let rest : is_accepted (Receipt client key number) past ≡ true = subst P (sym elsewhere) (λ e. e) accepted in
          let deeper = receipt-passed plain is_plain client key number past receipts.1 rest in
          omega arith
    ]

-- the message of an entry that may follow was not accepted before
pub may-waits : (plain : Plain) → IsPlain plain → (now : ℤ) (past : List Entry) (entry : Entry) → IsLegal plain now past → MayFollow plain past entry → is_accepted (message_of entry) past ≡ false
may-waits plain is_plain now past (Called client number time call) legal may =
    new_call-waits client number call past (legal.numbered client) (judged-new number (length (calls_in client past)) may)
may-waits plain is_plain now past (Receipted client key through time) legal may =
    elim (cases_Bool (is_accepted (Receipt client key through) past)) [
      | inl accepted ↦
          let passed = receipt-passed plain is_plain client key through past legal.receipts accepted in
          let above = is_new-above plain past client key through may in
          absurd (omega arith)
      | inr lacks ↦ lacks
    ]

-- Lines of progress.

pub progress-append : (second first : List Told) → progress (second ++ first) ≡ progress second + progress first
progress-append [] first = omega arith
progress-append (line ∷ second) first =
    let deeper = progress-append second first in
    omega arith

pub loud-progress : (told : List Told) → is_loud told ≡ true → 1 ≤ progress told
loud-progress [] loud = cc
loud-progress (line ∷ told) loud =
    let P : Bool → Type 0 = λ b. (b || is_loud told) ≡ true → 1 ≤ (if b then 1 else 0) + progress told in
    let cases : (b : Bool) → P b = elim [ true ↦ λ e. omega arith | false ↦ λ e. let deeper = loud-progress told e in omega arith ] in
    cases (is_progress line) loud

-- Agents.

all_untaken-change : (places amount client : ℕ) (after : Agent) (agents : ℕ → Agent) (clients : List ℕ) → untaken places after + amount ≤ untaken places (agents client) → all_untaken places (with_agent client after agents) clients ≤ all_untaken places agents clients
all_untaken-change places amount client after agents [] less = omega arith
all_untaken-change places amount client after agents (other ∷ clients) less =
    let deeper = all_untaken-change places amount client after agents clients less in
    let P : Bool → Type 0 = λ b. untaken places (if b then after else agents other) + all_untaken places (with_agent client after agents) clients ≤ untaken places (agents other) + all_untaken places agents clients in
    by_test P client other
    (λ same. let U : ℕ → Type 0 = λ c. untaken places after + amount ≤ untaken places (agents c) in let own = subst U same less in omega arith)
    (λ different. omega arith)

-- a client in the list that takes something lowers what all may take
pub all_untaken-less : (places amount client : ℕ) (after : Agent) (agents : ℕ → Agent) (clients : List ℕ) → Stands client clients → untaken places after + amount ≤ untaken places (agents client) → all_untaken places (with_agent client after agents) clients + amount ≤ all_untaken places agents clients
all_untaken-less places amount client after agents [] stands less = elim stands [ ]
all_untaken-less places amount client after agents (other ∷ clients) (inl same) less =
    let deeper = all_untaken-change places amount client after agents clients less in
    let P : Bool → Type 0 = λ b. (untaken places (if b then after else agents other) + all_untaken places (with_agent client after agents) clients) + amount ≤ untaken places (agents other) + all_untaken places agents clients in
    let U : ℕ → Type 0 = λ c. untaken places after + amount ≤ untaken places (agents c) in
    let own = subst U same less in
    by_test P client other (λ is. omega arith) (λ different. absurd (different same))
all_untaken-less places amount client after agents (other ∷ clients) (inr stands) less =
    let deeper = all_untaken-less places amount client after agents clients stands less in
    let P : Bool → Type 0 = λ b. (untaken places (if b then after else agents other) + all_untaken places (with_agent client after agents) clients) + amount ≤ untaken places (agents other) + all_untaken places agents clients in
    by_test P client other
    (λ same. let U : ℕ → Type 0 = λ c. untaken places after + amount ≤ untaken places (agents c) in let own = subst U same less in omega arith)
    (λ different. omega arith)

without-less : (number : ℕ) (kept : List (ℕ × Call)) → length (without (λ (call : ℕ × Call). call.0 == number) kept) ≤ length kept
without-less number [] = omega arith
without-less number (first ∷ kept) =
    let deeper = without-less number kept in
    elim (first.0 == number) as (λ b. length (if b then without (λ (call : ℕ × Call). call.0 == number) kept else first ∷ without (λ (call : ℕ × Call). call.0 == number) kept) ≤ suc (length kept)) [ true ↦ omega arith | false ↦ omega arith ]

without-fewer : (number : ℕ) (call : Call) (kept : List (ℕ × Call)) → kept_call number kept ≡ Some call → suc (length (without (λ (call : ℕ × Call). call.0 == number) kept)) ≤ length kept
without-fewer number call [] found = cc
without-fewer number call (first ∷ kept) found =
    let less = without-less number kept in
    let P : Bool → Type 0 = λ b. (if b then Some first.1 else kept_call number kept) ≡ Some call → suc (length (if b then without (λ (call : ℕ × Call). call.0 == number) kept else first ∷ without (λ (call : ℕ × Call). call.0 == number) kept)) ≤ suc (length kept) in
    by_test P first.0 number (λ same here. omega arith) (λ different there. let deeper = without-fewer number call kept there in omega arith) found

-- a client whose agent keeps a call, or has a subscription, is in the list
used-listed : (plain : Plain) (client : ℕ) (world : World) → IsSound plain world → ((world.agents client ≡ fresh) → ⊥) → Stands client world.clients
used-listed plain client world sound used = elim (sound.listed client) [ inl stands ↦ stands | inr new ↦ absurd (used new) ]

spends-reply : (plain : Plain) (world : World) (client number : ℕ) (call : Call) (reply : Reply) → IsSound plain world → kept_call number (world.agents client).kept ≡ Some call → Spends world (record world { agents = with_agent client (after_reply number call reply (world.agents client)) world.agents }) (Replied client number call reply ∷ [])
spends-reply plain world client number call reply sound kept =
    let agent = world.agents client in
    let fewer = without-fewer number call agent.kept kept in
    let longer = length-append (callbacks_of agent.marks call reply) agent.queue in
    let listed = used-listed plain client world sound (λ new. let none : kept_call number agent.kept ≡ None = ap (λ (a : Agent). kept_call number a.kept) new in cc) in
    let less : untaken world.places (after_reply number call reply agent) + 1 ≤ untaken world.places agent = omega arith in
    let all = all_untaken-less world.places 1 client (after_reply number call reply agent) world.agents world.clients listed less in
    record { paid = omega arith }

spends-item : (plain : Plain) (world : World) (client key : ℕ) (item : Item) (found : Living) → IsSound plain world → find_living key (world.agents client).living ≡ Some found → nat_le world.places (length (world.agents client).queue) ≡ false → Spends world (record world { net = Spelled (Receipt client key item.number) ∷ world.net; agents = with_agent client (after_item key found.id item.content (world.agents client)) world.agents }) (Posted (suc (length world.net)) (Receipt client key item.number) ∷ [])
spends-item plain world client key item found sound here has_place =
    let agent = world.agents client in
    let room : length agent.queue < world.places = elim (leb_tells world.places (length agent.queue)) [ inl full ↦ let never = full.0 in cc | inr free ↦ free.1 ] in
    let listed = used-listed plain client world sound (λ new. let none : find_living key agent.living ≡ None = ap (λ (a : Agent). find_living key a.living) new in cc) in
    let less : untaken world.places (after_item key found.id item.content agent) + 2 ≤ untaken world.places agent = omega arith in
    let all = all_untaken-less world.places 2 client (after_item key found.id item.content agent) world.agents world.clients listed less in
    let message = Receipt client key item.number in
    let W : Bool → Type 0 = λ b. (if b then 0 else 1) ≤ 1 in
    let cases : (b : Bool) → W b = elim [ true ↦ omega arith | false ↦ omega arith ] in
    let one = cases (is_accepted message (committed world.core)) in
    record { paid = omega arith }

pub Spends-both : (one two three : World) (first second : List Told) → Spends one two first → Spends two three second → Spends one three (second ++ first)
Spends-both one two three first second spends more =
    let joined = progress-append second first in
    let early = spends.paid in
    let late = more.paid in
    record { paid = omega arith }

-- what each step of the clients' side spends
pub Spends-told : (plain : Plain) → IsTold plain Spends
Spends-told plain = record {
  same = λ world. record { paid = omega arith };
  both = Spends-both;
  ignored = λ world place why. record { paid = omega arith };
  answer = λ world client number reply. record { paid = omega arith };
  pushed = λ world client key item. record { paid = omega arith };
  reply = λ world client number call reply sound kept place stands. spends-reply plain world client number call reply sound kept;
  item = λ world client key item found sound here next place stands. spends-item plain world client key item found sound here place;
}

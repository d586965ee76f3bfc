-- What servers and a relation are asked for carries over to turns and rounds.
use Rattle.std.proofs.Common.{◌≡◌, ℕ, zero, suc, ◌+◌, ◌≤◌, inl, inr, Bool, true, false, nat_le, if◌then◌else◌, Option, Some, None, List, [], ◌∷◌, ◌++◌, length, refl, ap, sym, ◌∙◌, subst, arith}
use Rattle.std.specs.List.{AllByRecursion}
use Rattle.std.proofs.lemmas.Bool.{cases_Bool}
use Rattle.cluster_facts.specs.Types.{Call, Reply, Item, Entry, Called, Receipted, StreamName, Mark, Message, Request, Answer, Delivery, Receipt}
use Rattle.cluster_facts.specs.Lists.{Stands, EndsIn, IsCounted, count_of}
use Rattle.cluster_facts.specs.Messages.{Posting, Spelled, messages_in, sent_by, answers_to, receipts_of, message_of}
use Rattle.cluster_facts.specs.Service.{Plain, IsPlain, IsMade, IsHeldItem, answers_in, is_new}
use Rattle.cluster_facts.specs.Agents.{Living, kept_call, callbacks_of, lacks_place, after_reply, find_living, after_item, requests_of, greatest_receipt, greatest_receipts, resent}
use Rattle.cluster_facts.specs.History.{Hand, Empty, Core, Judged, New, Repeat, Old, Ahead, judged_call, accepted, MayFollow, time_of}
use Rattle.cluster_facts.specs.World.{World, knows, posted, with_agent, number_of}
use Rattle.cluster_facts.specs.Facts.{IsSound, IsOfRun, Keeps, Lives}
use Rattle.cluster_facts.specs.Facts.Keeps.{starts, waits, answered}
use Rattle.cluster_facts.specs.Facts.Lives.{none as none_live, lives, refused}
use Rattle.cluster_facts.proofs.Words.{by_test, All-map, All-of, All-append, EndsIn-same}
use Rattle.cluster_facts.proofs.Growing.{IsOfRun-grows}
use Rattle.cluster_facts.proofs.Posting.{posted-keeps, posted-stands, sent_by-posted, answers_to-posted, receipts_of-posted}
use Rattle.cluster_facts.proofs.Keeping.{receipt-new}
use Rattle.cluster_events.specs.Lines.{Told, Posted, Replied, Ignored, Why}
use Rattle.cluster_events.specs.declared.lines.Why.TheVariants as because
use Rattle.cluster_events.specs.Outcomes.{Outcome, quietly, telling, and_then, for_each}
use Rattle.cluster_events.specs.ClientEvents.{post, reply_by, take_reply, Fate, fate_of, item_as, item_by, take_item}
use Rattle.cluster_events.specs.ClientEvents.Fate.{Takes, Misses}
use Rattle.cluster_events.specs.Servers.{State, Servers, in_world, drain}
use Rattle.cluster_events.specs.Events.{reply_at, post_again, request_as, receipt_as, hear_at_rest, hear_by, hear, push_by, push, delivered, resend}
use Rattle.cluster_events.specs.Settling.{take_answer_by, take_answer, turn, client_turns, take_pushed, push_round, round, Rounds}
use Rattle.cluster_events.specs.Settling.Rounds.{Begun, Further}
use Rattle.cluster_events.specs.Serving.{Stays, IsSteady, IsServing, IsCarried}
use Rattle.cluster_events.proofs.Sound.{post-answer-sound, post-item-sound, reply-sound, fate_of-takes, item-sound, accept-sound}

-- Words on what stays.

pub Stays-same : (world : World) → Stays world world
Stays-same world = record { net = λ message stands. stands; answered = EndsIn-same world.core.answered; clients = refl; now = refl; places = refl }

pub EndsIn-both : {X : Type 0} (one two three : List X) → EndsIn two one → EndsIn three two → EndsIn three one
EndsIn-both one two three first second =
    (second.0 ++ first.0, second.1 ∙ ap (λ xs. second.0 ++ xs) first.1 ∙ sym (Rattle.std.proofs.Common.append_assoc second.0 first.0 one))

pub Stays-both : (one two three : World) → Stays one two → Stays two three → Stays one three
Stays-both one two three first second = record {
  net = λ message stands. second.net message (first.net message stands);
  answered = EndsIn-both one.core.answered two.core.answered three.core.answered first.answered second.answered;
  clients = second.clients ∙ first.clients;
  now = second.now ∙ first.now;
  places = second.places ∙ first.places;
}

-- a longer net, and other agents
Stays-net : (world new : World) → new.core ≡ world.core → new.clients ≡ world.clients → new.now ≡ world.now → new.places ≡ world.places → ((message : Message) → Stands message (messages_in world.net) → Stands message (messages_in new.net)) → Stays world new
Stays-net world new core clients now places net = record {
  net = net;
  answered = ([], ap (λ (c : Core). c.answered) core);
  clients = clients;
  now = now;
  places = places;
}

IsOfRun-ends : (plain : Plain) → IsPlain plain → (more past : List Entry) (message : Message) → IsOfRun plain past message → IsOfRun plain (more ++ past) message
IsOfRun-ends plain is_plain [] past message is = is
IsOfRun-ends plain is_plain (entry ∷ more) past message is = IsOfRun-grows plain is_plain entry (more ++ past) message (IsOfRun-ends plain is_plain more past message is)

pub IsOfRun-stays : (plain : Plain) → IsPlain plain → (old new : World) (message : Message) → Stays old new → IsOfRun plain old.core.answered message → IsOfRun plain new.core.answered message
IsOfRun-stays plain is_plain old new message stays is =
    let F : List Entry → Type 0 = λ past. IsOfRun plain past message in
    subst F (sym stays.answered.1) (IsOfRun-ends plain is_plain stays.answered.0 old.core.answered message is)

-- a message is an item that was made
abbrev pub IsMadeItem : Plain → List Entry → Message → Type 0
IsMadeItem plain past (Delivery client key item) = IsMade plain past client key item.number item.content
IsMadeItem plain past _ = ⊥

IsMadeItem-stays : (plain : Plain) → IsPlain plain → (old new : World) (message : Message) → Stays old new → IsMadeItem plain old.core.answered message → IsMadeItem plain new.core.answered message
IsMadeItem-stays plain is_plain old new (Delivery client key item) stays is = IsOfRun-stays plain is_plain old new (Delivery client key item) stays is
IsMadeItem-stays plain is_plain old new _ stays is = elim is [ ]

IsHeldItem-made : (plain : Plain) (past : List Entry) (message : Message) → IsHeldItem plain past message → IsMadeItem plain past message
IsHeldItem-made plain past (Delivery client key item) held = held.2
IsHeldItem-made plain past _ held = elim held [ ]

-- what is held was made
pub held-made : (plain : Plain) → IsPlain plain → (past : List Entry) → AllByRecursion (IsMadeItem plain past) (plain.held past)
held-made plain is_plain past = All-map (IsHeldItem plain past) (IsMadeItem plain past) (plain.held past) (IsHeldItem-made plain past) (is_plain.held_of past)

-- a message that posting puts in front was not known
pub posted-unknown : (plain : Plain) (message : Message) (net : List Posting) → posted plain message net ≡ Spelled message ∷ net → knows plain message net ≡ false
posted-unknown plain message net new =
    elim (cases_Bool (knows plain message net)) [
      | inl known ↦
          let P : Bool → List Posting = λ b. if b then net else Spelled message ∷ net in
          let longer : length net ≡ suc (length net) = ap length (sym (ap P known) ∙ new) in
          absurd (omega arith)
      | inr unknown ↦ unknown
    ]

pub reply_at-stands : (number : ℕ) (replies : List (ℕ × Reply)) (reply : Reply) → reply_at number replies ≡ Some reply → Stands (number, reply) replies
reply_at-stands number [] reply found = cc
reply_at-stands number (first ∷ replies) reply found =
    let P : Bool → Type 0 = λ b. (if b then Some first.1 else reply_at number replies) ≡ Some reply → Stands (number, reply) (first ∷ replies) in
    by_test P first.0 number (λ same here. let told : first.1 ≡ reply = cc in inl (λ i. (sym same i, sym told i))) (λ different there. inr (reply_at-stands number replies reply there)) found

-- What an agent sends again stands in the net.

pub Keeps-sent : (x : ℕ × Call) {heard : List (ℕ × Reply)} {sent kept : List (ℕ × Call)} {told : List (StreamName × Mark)} → Keeps heard sent kept told → Stands x kept → Stands x sent
Keeps-sent x starts stands = elim stands [ ]
Keeps-sent x (waits call rest) (inl same) = inl same
Keeps-sent x (waits call rest) (inr stands) = inr (Keeps-sent x rest stands)
Keeps-sent x (answered call reply told rest) stands = inr (Keeps-sent x rest stands)

pub requests_of-posted : (client : ℕ) (net : List Message) (kept : List (ℕ × Call)) → ((x : ℕ × Call) → Stands x kept → Stands x (sent_by client net)) → AllByRecursion (λ message. Stands message net) (requests_of client kept)
requests_of-posted client net [] sent = tt
requests_of-posted client net (x ∷ kept) sent =
    All-append (λ message. Stands message net) (requests_of client kept) (Request client x.0 x.1 ∷ [])
    (requests_of-posted client net kept (λ y stands. sent y (inr stands)))
    (sent_by-posted client x.0 x.1 net (sent x (inl refl)), tt)

pub IsCounted-at : (key number : ℕ) (marks : List (ℕ × ℕ)) → IsCounted marks → 1 ≤ number → number ≤ count_of key marks → Stands (key, number) marks
IsCounted-at key number [] counted some most = absurd (omega arith)
IsCounted-at key number (mark ∷ marks) counted some most =
    let P : Bool → Type 0 = λ b. number ≤ (if b then suc (count_of key marks) else count_of key marks) → Stands (key, number) (mark ∷ marks) in
    let own : mark.0 ≡ key → P true = λ same bound.
    elim (Rattle.std.proofs.lemmas.Bool.Decides.eqb_tells number (suc (count_of key marks))) [
      | inl last ↦ let is : mark.1 ≡ number = counted.0 ∙ ap (λ k. suc (count_of k marks)) same ∙ sym last.1 in inl (λ i. (sym same i, sym is i))
      | inr other ↦ let different = other.1 in inr (IsCounted-at key number marks counted.1 some (omega arith))
    ] in
    by_test P mark.0 key own (λ different bound. inr (IsCounted-at key number marks counted.1 some bound)) most

greatest_receipt-posted : (client key next : ℕ) (net : List Message) → IsCounted (receipts_of client net) → next ≡ suc (count_of key (receipts_of client net)) → AllByRecursion (λ message. Stands message net) (greatest_receipt client key next)
greatest_receipt-posted client key zero net counted is = tt
greatest_receipt-posted client key (suc taken) net counted is =
    let P : Bool → Type 0 = λ b. AllByRecursion (λ message. Stands message net) (if b then [] else Receipt client key taken ∷ []) in
    by_test P taken 0 (λ none. tt) (λ some. (receipts_of-posted client key taken net (IsCounted-at key taken (receipts_of client net) counted (omega arith) (omega arith)), tt))

pub greatest_receipts-posted : (client : ℕ) (net : List Message) {heard : List (ℕ × Reply)} {subscriptions : List (ℕ × ℕ)} {living : List Living} → IsCounted (receipts_of client net) → Lives heard (receipts_of client net) subscriptions living → AllByRecursion (λ message. Stands message net) (greatest_receipts client living)
greatest_receipts-posted client net counted none_live = tt
greatest_receipts-posted client net counted (lives {living = living} subscription next_is rest) =
    All-append (λ message. Stands message net) (greatest_receipts client living) (greatest_receipt client subscription.key subscription.next)
    (greatest_receipts-posted client net counted rest)
    (greatest_receipt-posted client subscription.key subscription.next net counted next_is)
greatest_receipts-posted client net counted (refused subscription status told rest) = greatest_receipts-posted client net counted rest

pub resent-posted : (plain : Plain) (client : ℕ) (world : World) → IsSound plain world → AllByRecursion (λ message. Stands message (messages_in world.net)) (resent client (world.agents client))
resent-posted plain client world sound =
    let own = sound.facts.clients client in
    All-append (λ message. Stands message (messages_in world.net)) (requests_of client (world.agents client).kept) (greatest_receipts client (world.agents client).living)
    (requests_of-posted client (messages_in world.net) (world.agents client).kept (λ x stands. Keeps-sent x own.awaits.keeps stands))
    (greatest_receipts-posted client (messages_in world.net) own.follows.counted own.follows.lives)

-- Events of agents and net.

-- an event of the world alone keeps it sound and leaves the history
pub record WorldGoes (plain : Plain) (R : World → World → List Told → Type 0) (world : World) (outcome : Outcome World) : Type 0 where
  pub sound : IsSound plain outcome.state
  pub carried : R world outcome.state outcome.told
  pub stays : Stays world outcome.state
  pub core : outcome.state.core ≡ world.core

-- an event keeps an invariant of the state
pub record Goes {P : Type 0} (R : World → World → List Told → Type 0) (Inv : State P → Type 0) (state : State P) (outcome : Outcome (State P)) : Type 0 where
  pub holds : Inv outcome.state
  pub carried : R state.world outcome.state.world outcome.told
  pub stays : Stays state.world outcome.state.world

-- steady, and nothing is in hand
pub record IsAtRest {P : Type 0} (plain : Plain) (Good : State P → Type 0) (state : State P) : Type 0 where
  pub steady : IsSteady plain Good state
  pub empty : state.world.core.hand ≡ Empty

module _ {P : Type 0} (plain : Plain) (is_plain : IsPlain plain) (servers : Servers P) (Good : State P → Type 0) (serving : IsServing plain servers Good) (R : World → World → List Told → Type 0) (carried : IsCarried plain servers Good R) where
  world-same : (world : World) → IsSound plain world → WorldGoes plain R world (quietly world)
  world-same world sound = record { sound = sound; carried = carried.same world; stays = Stays-same world; core = refl }

  world-ignored : (world : World) (place : ℕ) (why : Why) → IsSound plain world → WorldGoes plain R world (telling world (Ignored place why))
  world-ignored world place why sound = record { sound = sound; carried = carried.ignored world place why; stays = Stays-same world; core = refl }

  post-stays : (message : Message) (world : World) → Stays world (post plain message world).state
  post-stays message world = Stays-net world (post plain message world).state refl refl refl refl (λ other stands. posted-keeps plain is_plain message other world.net stands)

  pub post_answer-goes : (client number : ℕ) (reply : Reply) (world : World) → IsSound plain world → Stands (number, reply) (answers_in plain client world.core.answered) → WorldGoes plain R world (post plain (Answer client number reply) world)
  post_answer-goes client number reply world sound stands =
      let message = Answer client number reply in
      record {
        sound = post-answer-sound plain is_plain client number reply world stands sound;
        carried = elim (knows plain message world.net) as (λ b. R world (record world { net = if b then world.net else Spelled message ∷ world.net }) (if b then [] else Posted (suc (length world.net)) message ∷ [])) [
          | true ↦ carried.same world
          | false ↦ carried.answer world client number reply sound stands
        ];
        stays = post-stays message world;
        core = refl;
      }

  pub post_item-goes : (client key : ℕ) (item : Item) (world : World) → IsSound plain world → IsOfRun plain world.core.answered (Delivery client key item) → WorldGoes plain R world (post plain (Delivery client key item) world)
  post_item-goes client key item world sound is =
      let message = Delivery client key item in
      record {
        sound = post-item-sound plain is_plain client key item world is sound;
        carried = elim (knows plain message world.net) as (λ b. R world (record world { net = if b then world.net else Spelled message ∷ world.net }) (if b then [] else Posted (suc (length world.net)) message ∷ [])) [
          | true ↦ carried.same world
          | false ↦ carried.pushed world client key item sound is
        ];
        stays = post-stays message world;
        core = refl;
      }

  reply_by-goes : (place client number : ℕ) (reply : Reply) (found : Option Call) (world : World) → kept_call number (world.agents client).kept ≡ found → Stands (Answer client number reply) (messages_in world.net) → IsSound plain world → WorldGoes plain R world (reply_by place client number reply found world)
  reply_by-goes place client number reply None world kept stands sound = world-ignored world place because.AnsweredReply sound
  reply_by-goes place client number reply (Some call) world kept stands sound =
      let agent = world.agents client in
      let after = with_agent client (after_reply number call reply agent) world.agents in
      let full = lacks_place world.places agent.queue (callbacks_of agent.marks call reply) in
      let G : Bool → Type 0 = λ b. WorldGoes plain R world (record { state = record world { agents = if b then world.agents else after }; told = (if b then Ignored place because.Left else Replied client number call reply) ∷ [] }) in
      elim (cases_Bool full) [
        | inl is_full ↦ subst G (sym is_full) (world-ignored world place because.Left sound)
        | inr has_place ↦ subst G (sym has_place) (record {
          sound = reply-sound plain client number call reply world kept stands sound;
          carried = carried.reply world client number call reply sound kept has_place stands;
          stays = Stays-net world (record world { agents = after }) refl refl refl refl (λ message stands. stands);
          core = refl;
        })
      ]

  pub take_reply-goes : (place client number : ℕ) (reply : Reply) (world : World) → Stands (Answer client number reply) (messages_in world.net) → IsSound plain world → WorldGoes plain R world (take_reply place client number reply world)
  take_reply-goes place client number reply world stands sound =
      reply_by-goes place client number reply (kept_call number (world.agents client).kept) world refl stands sound

  item_takes-goes : (place client key : ℕ) (item : Item) (found : Living) (world : World) → find_living key (world.agents client).living ≡ Some found → item.number ≡ found.next → nat_le world.places (length (world.agents client).queue) ≡ false → Stands (Delivery client key item) (messages_in world.net) → IsSound plain world → WorldGoes plain R world (item_as plain place client key item found Takes world)
  item_takes-goes place client key item found world here next has_place stands sound =
      let message = Receipt client key item.number in
      let after = with_agent client (after_item key found.id item.content (world.agents client)) world.agents in
      let new = receipt-new plain is_plain world.now (accepted world.core) world.core.answered world.net world.agents client key item.number found here next sound.facts in
      let unknown = posted-unknown plain message world.net new in
      let G : Bool → Type 0 = λ b. R world (record world { net = if b then world.net else Spelled message ∷ world.net; agents = after }) (if b then [] else Posted (suc (length world.net)) message ∷ []) in
      record {
        sound = item-sound plain is_plain client key item found world here next stands sound;
        carried = subst G (sym unknown) (carried.item world client key item found sound here next has_place stands);
        stays = Stays-net world (record world { net = posted plain message world.net; agents = after }) refl refl refl refl (λ other stands. posted-keeps plain is_plain message other world.net stands);
        core = refl;
      }

  item_as-goes : (place client key : ℕ) (item : Item) (found : Living) (fate : Fate) (world : World) → find_living key (world.agents client).living ≡ Some found → fate_of item.number found.next (nat_le world.places (length (world.agents client).queue)) ≡ fate → Stands (Delivery client key item) (messages_in world.net) → IsSound plain world → WorldGoes plain R world (item_as plain place client key item found fate world)
  item_as-goes place client key item found (Misses why) world here is stands sound = world-ignored world place why sound
  item_as-goes place client key item found Takes world here is stands sound =
      let taken = fate_of-takes item.number found.next (nat_le world.places (length (world.agents client).queue)) is in
      item_takes-goes place client key item found world here taken.0 taken.1 stands sound

  item_by-goes : (place client key : ℕ) (item : Item) (found : Option Living) (world : World) → find_living key (world.agents client).living ≡ found → Stands (Delivery client key item) (messages_in world.net) → IsSound plain world → WorldGoes plain R world (item_by plain place client key item found world)
  item_by-goes place client key item None world here stands sound = world-ignored world place because.GoneItem sound
  item_by-goes place client key item (Some found) world here stands sound =
      item_as-goes place client key item found (fate_of item.number found.next (nat_le world.places (length (world.agents client).queue))) world here refl stands sound

  pub take_item-goes : (place client key : ℕ) (item : Item) (world : World) → Stands (Delivery client key item) (messages_in world.net) → IsSound plain world → WorldGoes plain R world (take_item plain place client key item world)
  take_item-goes place client key item world stands sound =
      item_by-goes place client key item (find_living key (world.agents client).living) world refl stands sound

  -- Events of states.

  pub in_world-goes : (event : World → Outcome World) (state : State P) → IsSteady plain Good state → WorldGoes plain R state.world (event state.world) → Goes R (IsSteady plain Good) state (in_world event state)
  in_world-goes event state steady goes = record {
    holds = record { sound = goes.sound; good = serving.front state (event state.world).state goes.core steady.good };
    carried = goes.carried;
    stays = goes.stays;
  }

  pub in_world-rests : (event : World → Outcome World) (state : State P) → IsAtRest plain Good state → WorldGoes plain R state.world (event state.world) → Goes R (IsAtRest plain Good) state (in_world event state)
  in_world-rests event state rest goes =
      let steady = in_world-goes event state rest.steady goes in
      record {
        holds = record { steady = steady.holds; empty = ap (λ (core : Core). core.hand) goes.core ∙ rest.empty };
        carried = goes.carried;
        stays = goes.stays;
      }

  state-same : (Inv : State P → Type 0) (state : State P) → Inv state → Goes R Inv state (quietly state)
  state-same Inv state holds = record { holds = holds; carried = carried.same state.world; stays = Stays-same state.world }

  state-ignored : (state : State P) (place : ℕ) (why : Why) → IsSteady plain Good state → Goes R (IsSteady plain Good) state (telling state (Ignored place why))
  state-ignored state place why holds = record { holds = holds; carried = carried.ignored state.world place why; stays = Stays-same state.world }

  pub both-goes : (One Two : State P → Type 0) (state : State P) (first : Outcome (State P)) (event : State P → Outcome (State P)) → Goes R One state first → Goes R Two first.state (event first.state) → Goes R Two state (and_then first event)
  both-goes One Two state first event one two = record {
    holds = two.holds;
    carried = carried.both state.world first.state.world (event first.state).state.world first.told (event first.state).told one.carried two.carried;
    stays = Stays-both state.world first.state.world (event first.state).state.world one.stays two.stays;
  }

  pub for_each-goes : {X : Type 0} (Inv : State P → Type 0) (C : X → World → Type 0) (event : X → State P → Outcome (State P)) → ((x : X) (state : State P) → Inv state → C x state.world → Goes R Inv state (event x state)) → ((x : X) (old new : World) → Stays old new → C x old → C x new) → (xs : List X) (state : State P) → Inv state → AllByRecursion (λ x. C x state.world) xs → Goes R Inv state (for_each event xs state)
  for_each-goes Inv C event step keep [] state holds all = state-same Inv state holds
  for_each-goes Inv C event step keep (x ∷ xs) state holds all =
      let first = step x state holds all.0 in
      let others = All-map (λ y. C y state.world) (λ y. C y (event x state).state.world) xs (λ y. keep y state.world (event x state).state.world first.stays) all.1 in
      both-goes Inv Inv state (event x state) (for_each event xs) first (for_each-goes Inv C event step keep xs (event x state).state first.holds others)

  accept-goes : (entry : Entry) (state : State P) → IsSteady plain Good state → state.world.core.hand ≡ Empty → MayFollow plain state.world.core.answered entry → Rattle.cluster_facts.specs.History.time_of entry ≡ state.world.now → Stands (message_of entry) (messages_in state.world.net) → Goes R (IsSteady plain Good) state (servers.accept entry state)
  accept-goes entry state steady empty may at stands =
      let accepts = serving.accepts entry state empty steady.good in
      let after : World = record state.world { core = record { answered = state.world.core.answered; hand = accepts.hand } } in
      let S : World → Type 0 = λ world. IsSound plain world in
      let T : World → Type 0 = λ world. Stays state.world world in
      record {
        holds = record {
          sound = subst S (sym accepts.world) (accept-sound plain entry accepts.hand state.world empty accepts.accepted may at stands steady.sound);
          good = accepts.good;
        };
        carried = carried.accept entry state steady empty may at stands;
        stays = subst T (sym accepts.world) (record { net = λ message stands. stands; answered = EndsIn-same state.world.core.answered; clients = refl; now = refl; places = refl });
      }

  post_again-goes : (client number : ℕ) (found : Option Reply) (world : World) → reply_at number (answers_in plain client world.core.answered) ≡ found → IsSound plain world → WorldGoes plain R world (post_again plain client number found world)
  post_again-goes client number None world is sound = world-same world sound
  post_again-goes client number (Some reply) world is sound =
      post_answer-goes client number reply world sound (reply_at-stands number (answers_in plain client world.core.answered) reply is)

  request_as-goes : (place client number : ℕ) (call : Call) (verdict : Judged) (state : State P) → judged_call state.world.core.answered client number ≡ verdict → state.world.core.hand ≡ Empty → Stands (Request client number call) (messages_in state.world.net) → IsSteady plain Good state → Goes R (IsSteady plain Good) state (request_as plain servers place client number call verdict state)
  request_as-goes place client number call New state is empty stands steady =
      accept-goes (Called client number state.world.now call) state steady empty is refl stands
  request_as-goes place client number call Repeat state is empty stands steady =
      let found = reply_at number (answers_in plain client state.world.core.answered) in
      in_world-goes (post_again plain client number found) state steady (post_again-goes client number found state.world refl steady.sound)
  request_as-goes place client number call Old state is empty stands steady = state-ignored state place because.OldRequest steady
  request_as-goes place client number call Ahead state is empty stands steady = state-ignored state place because.AheadRequest steady

  receipt_as-goes : (place client key through : ℕ) (new : Bool) (state : State P) → is_new plain state.world.core.answered client key through ≡ new → state.world.core.hand ≡ Empty → Stands (Receipt client key through) (messages_in state.world.net) → IsSteady plain Good state → Goes R (IsSteady plain Good) state (receipt_as servers place client key through new state)
  receipt_as-goes place client key through true state is empty stands steady =
      accept-goes (Receipted client key through state.world.now) state steady empty is refl stands
  receipt_as-goes place client key through false state is empty stands steady = state-ignored state place because.DoneReceipt steady

  hear_at_rest-goes : (place : ℕ) (message : Message) (state : State P) → state.world.core.hand ≡ Empty → Stands message (messages_in state.world.net) → IsSteady plain Good state → Goes R (IsSteady plain Good) state (hear_at_rest plain servers place message state)
  hear_at_rest-goes place (Request client number call) state empty stands steady =
      request_as-goes place client number call (judged_call state.world.core.answered client number) state refl empty stands steady
  hear_at_rest-goes place (Receipt client key through) state empty stands steady =
      receipt_as-goes place client key through (is_new plain state.world.core.answered client key through) state refl empty stands steady
  hear_at_rest-goes place _ state empty stands steady = state-same (IsSteady plain Good) state steady

  hear_by-goes : (place : ℕ) (message : Message) (hand : Hand) (state : State P) → state.world.core.hand ≡ hand → Stands message (messages_in state.world.net) → IsSteady plain Good state → Goes R (IsSteady plain Good) state (hear_by plain servers place message hand state)
  hear_by-goes place message Empty state is stands steady = hear_at_rest-goes place message state is stands steady
  hear_by-goes place message _ state is stands steady = state-ignored state place (because.Busy (suc (length state.world.core.answered))) steady

  pub hear-goes : (place : ℕ) (message : Message) (state : State P) → Stands message (messages_in state.world.net) → IsSteady plain Good state → Goes R (IsSteady plain Good) state (hear plain servers place message state)
  hear-goes place message state stands steady = hear_by-goes place message state.world.core.hand state refl stands steady

  pub drain-goes : (state : State P) → IsSteady plain Good state → Goes R (IsAtRest plain Good) state (drain servers state)
  drain-goes state steady =
      let drains = serving.drains state steady in
      record {
        holds = record { steady = drains.steady; empty = drains.empty };
        carried = carried.drain state steady;
        stays = drains.stays;
      }

  take_answer_by-goes : (client number : ℕ) (found : Option Reply) (world : World) → reply_at number (answers_to client (messages_in world.net)) ≡ found → IsSound plain world → WorldGoes plain R world (take_answer_by plain client number found world)
  take_answer_by-goes client number None world is sound = world-same world sound
  take_answer_by-goes client number (Some reply) world is sound =
      take_reply-goes (number_of plain (Answer client number reply) world.net) client number reply world (answers_to-posted client number reply (messages_in world.net) (reply_at-stands number (answers_to client (messages_in world.net)) reply is)) sound

  pub take_answer-goes : (message : Message) (world : World) → IsSound plain world → WorldGoes plain R world (take_answer plain message world)
  take_answer-goes (Request client number call) world sound = take_answer_by-goes client number (reply_at number (answers_to client (messages_in world.net))) world refl sound
  take_answer-goes _ world sound = world-same world sound

  pub turn-goes : (message : Message) (state : State P) → IsAtRest plain Good state → Stands message (messages_in state.world.net) → Goes R (IsAtRest plain Good) state (turn plain servers message state)
  turn-goes message state rest stands =
      let heard = hear plain servers (number_of plain message state.world.net) message state in
      let hears = hear-goes (number_of plain message state.world.net) message state stands rest.steady in
      let drains = drain-goes heard.state hears.holds in
      let done = drain servers heard.state in
      both-goes (IsAtRest plain Good) (IsAtRest plain Good) state (and_then heard (drain servers)) (in_world (take_answer plain message))
      (both-goes (IsSteady plain Good) (IsAtRest plain Good) state heard (drain servers) hears drains)
      (in_world-rests (take_answer plain message) done.state drains.holds (take_answer-goes message done.state.world drains.holds.steady.sound))

  pub client_turns-goes : (client : ℕ) (state : State P) → IsAtRest plain Good state → Goes R (IsAtRest plain Good) state (client_turns plain servers client state)
  client_turns-goes client state rest =
      for_each-goes (IsAtRest plain Good) (λ message world. Stands message (messages_in world.net)) (turn plain servers) turn-goes (λ message old new stays stands. stays.net message stands) (resent client (state.world.agents client)) state rest (resent-posted plain client state.world rest.steady.sound)

  -- the items of a push are posted
  post_held-goes : (message : Message) (state : State P) → IsAtRest plain Good state → IsMadeItem plain state.world.core.answered message → Goes R (IsAtRest plain Good) state (in_world (post plain message) state)
  post_held-goes (Delivery client key item) state rest is = in_world-rests (post plain (Delivery client key item)) state rest (post_item-goes client key item state.world rest.steady.sound is)
  post_held-goes _ state rest is = elim is [ ]

  pub post_all-goes : (items : List Message) (state : State P) → IsAtRest plain Good state → AllByRecursion (IsMadeItem plain state.world.core.answered) items → Goes R (IsAtRest plain Good) state (for_each (λ item. in_world (post plain item)) items state)
  post_all-goes items state rest made =
      for_each-goes (IsAtRest plain Good) (λ message world. IsMadeItem plain world.core.answered message) (λ item. in_world (post plain item)) post_held-goes (λ message old new stays is. IsMadeItem-stays plain is_plain old new message stays is) items state rest made

  pub post_all-stands : (items : List Message) (state : State P) → IsAtRest plain Good state → AllByRecursion (IsMadeItem plain state.world.core.answered) items → AllByRecursion (λ message. Stands message (messages_in (for_each (λ item. in_world (post plain item)) items state).state.world.net)) items
  post_all-stands [] state rest made = tt
  post_all-stands (item ∷ items) state rest made =
      let first = post_held-goes item state rest made.0 in
      let after = (in_world (post plain item) state).state in
      let others = All-map (IsMadeItem plain state.world.core.answered) (IsMadeItem plain after.world.core.answered) items (λ message is. IsMadeItem-stays plain is_plain state.world after.world message first.stays is) made.1 in
      ((post_all-goes items after first.holds others).stays.net item (posted-stands plain is_plain item state.world.net), post_all-stands items after first.holds others)

  pub push-goes : (state : State P) → IsAtRest plain Good state → Goes R (IsAtRest plain Good) state (push plain servers state)
  push-goes state rest =
      let G : Hand → Type 0 = λ hand. Goes R (IsAtRest plain Good) state (push_by plain servers hand state) in
      subst G (sym rest.empty) (post_all-goes (plain.held state.world.core.answered) state rest (held-made plain is_plain state.world.core.answered))

  pub push-stands : (state : State P) → IsAtRest plain Good state → AllByRecursion (λ message. Stands message (messages_in (push plain servers state).state.world.net)) (plain.held state.world.core.answered)
  push-stands state rest =
      let G : Hand → Type 0 = λ hand. AllByRecursion (λ message. Stands message (messages_in (push_by plain servers hand state).state.world.net)) (plain.held state.world.core.answered) in
      subst G (sym rest.empty) (post_all-stands (plain.held state.world.core.answered) state rest (held-made plain is_plain state.world.core.answered))

  take_pushed-goes : (message : Message) (world : World) → Stands message (messages_in world.net) → IsSound plain world → WorldGoes plain R world (take_pushed plain message world)
  take_pushed-goes (Delivery client key item) world stands sound = take_item-goes (number_of plain (Delivery client key item) world.net) client key item world stands sound
  take_pushed-goes _ world stands sound = world-same world sound

  pub take_pushed-rests : (message : Message) (state : State P) → IsAtRest plain Good state → Stands message (messages_in state.world.net) → Goes R (IsAtRest plain Good) state (in_world (take_pushed plain message) state)
  take_pushed-rests message state rest stands = in_world-rests (take_pushed plain message) state rest (take_pushed-goes message state.world stands rest.steady.sound)

  pub push_round-goes : (state : State P) → IsAtRest plain Good state → Goes R (IsAtRest plain Good) state (push_round plain servers state)
  push_round-goes state rest =
      let pushed = push-goes state rest in
      let items = plain.held state.world.core.answered in
      both-goes (IsAtRest plain Good) (IsAtRest plain Good) state (push plain servers state) (for_each (λ item. in_world (take_pushed plain item)) items) pushed
      (for_each-goes (IsAtRest plain Good) (λ message world. Stands message (messages_in world.net)) (λ item. in_world (take_pushed plain item)) take_pushed-rests (λ message old new stays stands. stays.net message stands) items (push plain servers state).state pushed.holds (push-stands state rest))

  pub all_turns-goes : (clients : List ℕ) (state : State P) → IsAtRest plain Good state → Goes R (IsAtRest plain Good) state (for_each (client_turns plain servers) clients state)
  all_turns-goes clients state rest =
      for_each-goes (IsAtRest plain Good) (λ client world. Unit {0}) (client_turns plain servers) (λ client now resting it. client_turns-goes client now resting) (λ client old new stays it. it) clients state rest (All-of (λ client. Unit {0}) clients (λ client stands. tt))

  -- a round carries the relation, and leaves the servers at rest
  pub round-carries : (state : State P) → IsSteady plain Good state → Goes R (IsAtRest plain Good) state (round plain servers state)
  round-carries state steady =
      let drains = drain-goes state steady in
      let done = (drain servers state).state in
      let turns = all_turns-goes done.world.clients done drains.holds in
      both-goes (IsAtRest plain Good) (IsAtRest plain Good) state (and_then (drain servers state) (λ drained. for_each (client_turns plain servers) drained.world.clients drained)) (push_round plain servers)
      (both-goes (IsAtRest plain Good) (IsAtRest plain Good) state (drain servers state) (λ drained. for_each (client_turns plain servers) drained.world.clients drained) drains turns)
      (push_round-goes (for_each (client_turns plain servers) done.world.clients done).state turns.holds)

  -- rounds carry the relation
  pub rounds-carry : (start : State P) → IsSteady plain Good start → {state : State P} {told : List Told} {loud : Bool} → Rounds plain servers start state told loud → Goes R (IsSteady plain Good) start (record { state = state; told = told })
  rounds-carry start steady Begun = state-same (IsSteady plain Good) start steady
  rounds-carry start steady (Further {state = state} {told = told} rounds) =
      let before = rounds-carry start steady rounds in
      let after = round-carries state before.holds in
      let both = both-goes (IsSteady plain Good) (IsAtRest plain Good) start (record { state = state; told = told }) (round plain servers) before after in
      record { holds = both.holds.steady; carried = both.carried; stays = both.stays }

  -- events of a script line: a delivery, and messages sent again
  pub delivered-goes : (place : ℕ) (message : Message) (state : State P) → Stands message (messages_in state.world.net) → IsSteady plain Good state → Goes R (IsSteady plain Good) state (delivered plain servers place message state)
  delivered-goes place (Answer client number reply) state stands steady = in_world-goes (take_reply place client number reply) state steady (take_reply-goes place client number reply state.world stands steady.sound)
  delivered-goes place (Delivery client key item) state stands steady = in_world-goes (take_item plain place client key item) state steady (take_item-goes place client key item state.world stands steady.sound)
  delivered-goes place (Request client number call) state stands steady = hear-goes place (Request client number call) state stands steady
  delivered-goes place (Receipt client key through) state stands steady = hear-goes place (Receipt client key through) state stands steady
  delivered-goes place message state stands steady = hear-goes place message state stands steady

  pub resend-goes : (client : ℕ) (state : State P) → IsSteady plain Good state → Goes R (IsSteady plain Good) state (resend plain servers client state)
  resend-goes client state steady =
      for_each-goes (IsSteady plain Good) (λ message world. Stands message (messages_in world.net)) (λ message now. hear plain servers (number_of plain message now.world.net) message now) (λ message now held stands. hear-goes (number_of plain message now.world.net) message now stands held) (λ message old new stays stands. stays.net message stands) (resent client (state.world.agents client)) state steady (resent-posted plain client state.world steady.sound)

-- What is asked of a relation apart from the servers: it holds of nothing, of one event after another, and of each step of the clients' side.
pub record IsTold (plain : Plain) (R : World → World → List Told → Type 0) : Type 0 where
  pub same : (world : World) → R world world []
  pub both : (one two three : World) (first second : List Told) → R one two first → R two three second → R one three (second ++ first)
  pub ignored : (world : World) (place : ℕ) (why : Why) → R world world (Ignored place why ∷ [])
  pub answer : (world : World) (client number : ℕ) (reply : Reply) → R world (record world { net = Spelled (Answer client number reply) ∷ world.net }) (Posted (suc (length world.net)) (Answer client number reply) ∷ [])
  pub pushed : (world : World) (client key : ℕ) (item : Item) → R world (record world { net = Spelled (Delivery client key item) ∷ world.net }) (Posted (suc (length world.net)) (Delivery client key item) ∷ [])
  pub reply : (world : World) (client number : ℕ) (call : Call) (reply : Reply) → IsSound plain world → kept_call number (world.agents client).kept ≡ Some call → lacks_place world.places (world.agents client).queue (callbacks_of (world.agents client).marks call reply) ≡ false → Stands (Answer client number reply) (messages_in world.net) → R world (record world { agents = with_agent client (after_reply number call reply (world.agents client)) world.agents }) (Replied client number call reply ∷ [])
  pub item : (world : World) (client key : ℕ) (item : Item) (found : Living) → IsSound plain world → find_living key (world.agents client).living ≡ Some found → item.number ≡ found.next → nat_le world.places (length (world.agents client).queue) ≡ false → Stands (Delivery client key item) (messages_in world.net) → R world (record world { net = Spelled (Receipt client key item.number) ∷ world.net; agents = with_agent client (after_item key found.id item.content (world.agents client)) world.agents }) (Posted (suc (length world.net)) (Receipt client key item.number) ∷ [])

-- With an acceptance and a drain it is carried through rounds.
pub told-carried : {P : Type 0} (plain : Plain) (servers : Servers P) (Good : State P → Type 0) (R : World → World → List Told → Type 0) → IsTold plain R → ((entry : Entry) (state : State P) → IsSteady plain Good state → state.world.core.hand ≡ Empty → MayFollow plain state.world.core.answered entry → time_of entry ≡ state.world.now → Stands (message_of entry) (messages_in state.world.net) → R state.world (servers.accept entry state).state.world (servers.accept entry state).told) → ((state : State P) → IsSteady plain Good state → R state.world (drain servers state).state.world (drain servers state).told) → IsCarried plain servers Good R
told-carried plain servers Good R told accept drains = record {
  same = told.same;
  both = told.both;
  ignored = told.ignored;
  answer = λ world client number reply sound stands. told.answer world client number reply;
  pushed = λ world client key item sound is. told.pushed world client key item;
  reply = told.reply;
  item = told.item;
  accept = accept;
  drain = drains;
}

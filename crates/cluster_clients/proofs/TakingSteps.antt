-- A reply or an item is delivered to its client's agent as the world has it.
use Rattle.std.proofs.Common.{◌≡◌, ℕ, suc, ◌⊎◌, slice_get, inl, inr, Bool, true, false, nat_lt, nat_le, if◌then◌else◌, Option, Some, None, List, [], ◌∷◌, ◌++◌, length, slice_set, refl, ap, sym, ◌∙◌, subst, append-nil}
use Rattle.cluster_facts.specs.Types.{Call, Reply, Item, Message, Answer, Delivery, Receipt}
use Rattle.cluster_facts.specs.Service.{Plain}
use Rattle.cluster_facts.specs.Agents.{Living, Agent, fresh, kept_call, callbacks_of, lacks_place, find_living}
use Rattle.cluster_facts.specs.Messages.{Posting, Spelled}
use Rattle.cluster_facts.specs.World.{World, knows, posted}
use Rattle.cluster_events.specs.Lines.{Told, Posted, Ignored, Replied}
use Rattle.cluster_events.specs.declared.lines.Why.{Why}
use Rattle.cluster_events.specs.declared.lines.Why.TheVariants.{AnsweredReply, GoneItem}
use Rattle.cluster_events.specs.Outcomes.{Outcome}
use Rattle.cluster_events.specs.ClientEvents.{Fate, fate_of, item_as, item_by, take_item, reply_by, take_reply, post_lines}
use Rattle.cluster_events.specs.ClientEvents.Fate.{Takes as TakesIt, Misses}
use Rattle.cluster_events.specs.Settling.{is_loud}
use Rattle.client_agent.specs.declared.answers.MissedWhy.{MissedWhy}
use Rattle.client_agent.specs.declared.answers.Taken.{Taken}
use Rattle.client_agent.specs.declared.answers.Taken.TheVariants.{Answered, Item as TookItem, Missed}
use Rattle.client_agent.specs.Seen.{Seen, seen_of}
use Rattle.client_agent.specs.Steps.{IsTaken}
use Rattle.event_text.specs.Texts.{printed, reply_line}
use Rattle.cluster_clients.specs.Spelled.{AreSpelled, Posts}
use Rattle.cluster_clients.specs.Clients.{ShowsAgents, StandsAt, IsAbsent}
use Rattle.cluster_clients.specs.Taken.{taken_as, kept_lines, number_told, lines_told, Takes}
use Rattle.cluster_clients.specs.Taking.{receiver_of, missed_by_none, why_of, missed_lines, IsTakenAt, IsTold, MayPost}
use Rattle.cluster_clients.specs.PartlyDone.{TakesPartly}
use Rattle.cluster_clients.proofs.DispatchSteps.{fresh-agent, seen-at, set-same, handed-shows}
use Rattle.cluster_clients.proofs.PostingSteps.{spelled-length}
use Rattle.cluster_clients.proofs.DeliverySteps.{reply-no-item, item-receipt, Became, came}
use Rattle.cluster_clients.proofs.ToldLines.{SameButPlace, same-outcome, not-less, less-one}

-- The places that lines on messages without effect name change nothing else.

module _ (plain : Plain) (one other : ℕ) (world : World) where
  reply-places : (client number : ℕ) (reply : Reply) (found : Option Call) → SameButPlace (reply_by one client number reply found world) (reply_by other client number reply found world)
  reply-places client number reply None = record { state = refl; lines = refl; loud = refl }
  reply-places client number reply (Some call) =
      let agent = world.agents client in
      let after = Rattle.cluster_facts.specs.World.with_agent client (Rattle.cluster_facts.specs.Agents.after_reply number call reply agent) world.agents in
      let left = Rattle.cluster_events.specs.declared.lines.Why.TheVariants.Left in
      let O : ℕ → Bool → Outcome World = λ place b. record { state = record world { agents = if b then world.agents else after }; told = (if b then Ignored place left else Replied client number call reply) ∷ [] } in
      let cases : (b : Bool) → SameButPlace (O one b) (O other b) = elim [
        | true ↦ record { state = refl; lines = refl; loud = refl }
        | false ↦ record { state = refl; lines = refl; loud = refl }
      ] in
      cases (lacks_place world.places agent.queue (callbacks_of agent.marks call reply))

  fate-places : (client key : ℕ) (item : Item) (found : Living) (fate : Fate) → SameButPlace (item_as plain one client key item found fate world) (item_as plain other client key item found fate world)
  fate-places client key item found (Misses why) = record { state = refl; lines = refl; loud = refl }
  fate-places client key item found TakesIt = same-outcome (item_as plain one client key item found TakesIt world)

  item-places : (client key : ℕ) (item : Item) (found : Option Living) → SameButPlace (item_by plain one client key item found world) (item_by plain other client key item found world)
  item-places client key item None = record { state = refl; lines = refl; loud = refl }
  item-places client key item (Some found) =
      fate-places client key item found (fate_of item.number found.next (nat_le world.places (length (world.agents client).queue)))

  pub taken-places : (message : Message) → SameButPlace (taken_as plain one message world) (taken_as plain other message world)
  taken-places (Answer client number reply) = reply-places client number reply (kept_call number (world.agents client).kept)
  taken-places (Delivery client key item) = item-places client key item (find_living key (world.agents client).living)
  taken-places _ = record { state = refl; lines = refl; loud = refl }

-- What a delivery comes to.

abbrev Ends : Option ℕ → List (List ℕ) → List Seen → List (List ℕ) → List (List ℕ) → Bool → Outcome World → Type 0
Ends place net seen before after loud outcome =
    AreSpelled outcome.state.net net × ShowsAgents outcome.state seen × (after ≡ before ++ lines_told place outcome.told) × (loud ≡ is_loud outcome.told)

-- the same but for the agents
abbrev Tells : Option ℕ → List (List ℕ) → List (List ℕ) → List (List ℕ) → Bool → Outcome World → Type 0
Tells place net before after loud outcome =
    AreSpelled outcome.state.net net × (after ≡ before ++ lines_told place outcome.told) × (loud ≡ is_loud outcome.told)

-- lines of which none is on a message without effect are told in each case
told-so : (place : Option ℕ) (told : List Told) → kept_lines told ≡ printed told → printed told ≡ lines_told place told
told-so None told kept = sym kept
told-so (Some number) told kept = refl

missed-so : (place : Option ℕ) (why : Why) → missed_lines place why ≡ lines_told place (Ignored (number_told place) why ∷ [])
missed-so None why = refl
missed-so (Some number) why = refl

-- other messages are for no agent
pub takes-nothing : (place : Option ℕ) (message : Message) (net : List (List ℕ)) (seen : List Seen) (lines : List (List ℕ)) → receiver_of message ≡ None → Takes place message net net seen seen lines lines false
takes-nothing place message net seen lines none plain world is_plain spelled shows = by-message message none
  where
    same : lines ≡ lines ++ lines_told place []
    same = sym (append-nil lines) ∙ ap (λ more. lines ++ more) (told-so place [] refl)

    by-message : (m : Message) → receiver_of m ≡ None → Ends place net seen lines lines false (taken_as plain (number_told place) m world)
    by-message (Answer receiver number reply) is = cc
    by-message (Delivery receiver key item) is = cc
    by-message _ is = (spelled, shows, same, refl)

-- a client without an agent misses it
pub takes-absent : (place : Option ℕ) (client : ℕ) (message : Message) (net : List (List ℕ)) (seen : List Seen) (before after : List (List ℕ)) → receiver_of message ≡ Some client → IsAbsent client seen → after ≡ before ++ missed_lines place (missed_by_none message) → Takes place message net net seen seen before after false
takes-absent place client message net seen before after receiver none lines plain world is_plain spelled shows =
    by-message message receiver lines
  where
    own : (receiver : ℕ) → client ≡ receiver → world.agents receiver ≡ fresh
    own receiver same = subst (λ c. world.agents c ≡ fresh) same (fresh-agent client seen world shows none).1

    by-message : (m : Message) → receiver_of m ≡ Some client → after ≡ before ++ missed_lines place (missed_by_none m) → Ends place net seen before after false (taken_as plain (number_told place) m world)
    by-message (Answer receiver number reply) is lines =
        let e : client ≡ receiver = cc in
        let none_kept : kept_call number (world.agents receiver).kept ≡ None = ap (λ (a : Agent). kept_call number a.kept) (own receiver e) in
        let outcome : take_reply (number_told place) receiver number reply world ≡ reply_by (number_told place) receiver number reply None world = ap (λ o. reply_by (number_told place) receiver number reply o world) none_kept in
        subst (Ends place net seen before after false) (sym outcome) (spelled, shows, lines ∙ ap (λ more. before ++ more) (missed-so place AnsweredReply), refl)
    by-message (Delivery receiver key item) is lines =
        let e : client ≡ receiver = cc in
        let none_living : find_living key (world.agents receiver).living ≡ None = ap (λ (a : Agent). find_living key a.living) (own receiver e) in
        let outcome : take_item plain (number_told place) receiver key item world ≡ item_by plain (number_told place) receiver key item None world = ap (λ o. item_by plain (number_told place) receiver key item o world) none_living in
        subst (Ends place net seen before after false) (sym outcome) (spelled, shows, lines ∙ ap (λ more. before ++ more) (missed-so place GoneItem), refl)
    by-message _ is lines = cc

-- **the agents after the agent at a place took or missed the message**
took : (plain : Plain) (place client at : ℕ) (message : Message) (world : World) (old new : List Seen) (taken : Taken) → receiver_of message ≡ Some client → StandsAt client at old → ShowsAgents world old → IsTakenAt at message old taken new → ShowsAgents (taken_as plain place message world).state new
took plain place client at message world old new taken receiver found shows is =
    let came_so = came plain place client at message world old new taken shows found receiver is in
    by-taken taken came_so.seen came_so.here came_so.old_is came_so.new_is came_so.became
  where
    by-taken : (t : Taken) (seen : Seen) → slice_get world.clients at ≡ Some client → slice_get old at ≡ Some (seen_of client world.places (world.agents client)) → new ≡ slice_set old at seen → Became plain place client world t seen (taken_as plain place message world) → ShowsAgents (taken_as plain place message world).state new
    by-taken (Answered number reply) seen here old_is new_is became =
        subst (λ (o : Outcome World). ShowsAgents o.state new) (sym became.2) (handed-shows client at old new became.1 world shows here (new_is ∙ ap (λ s. slice_set old at s) became.3))
    by-taken (TookItem receipt) seen here old_is new_is became =
        let now = handed-shows client at old new became.0 world shows here (new_is ∙ ap (λ s. slice_set old at s) became.2) in
        subst (λ (o : Outcome World). ShowsAgents o.state new) (sym became.1) (record { shown = now.shown; rising = now.rising; listed = now.listed })
    by-taken (Missed why) seen here old_is new_is became =
        let same : new ≡ old = new_is ∙ ap (λ s. slice_set old at s) became.1 ∙ set-same old at (seen_of client world.places (world.agents client)) old_is in
        subst (λ (o : Outcome World). ShowsAgents o.state new) (sym became.0) (subst (λ s. ShowsAgents world s) (sym same) shows)

takes-missed : (place : Option ℕ) (client at : ℕ) (message : Message) (net : List (List ℕ)) (old new : List Seen) (before after : List (List ℕ)) (why : MissedWhy) → receiver_of message ≡ Some client → StandsAt client at old → IsTakenAt at message old (Missed why) new → after ≡ before ++ missed_lines place (why_of why) → Takes place message net net old new before after false
takes-missed place client at message net old new before after why receiver found is lines plain world is_plain spelled shows =
    let came_so = came plain (number_told place) client at message world old new (Missed why) shows found receiver is in
    let rest = subst (Tells place net before after false) (sym came_so.became.0) (spelled, lines ∙ ap (λ more. before ++ more) (missed-so place (why_of why)), refl) in
    (rest.0, took plain (number_told place) client at message world old new (Missed why) receiver found shows is, rest.1, rest.2)

takes-answered : (place : Option ℕ) (client at number : ℕ) (message : Message) (reply : Reply) (net : List (List ℕ)) (old new : List Seen) (before after : List (List ℕ)) → receiver_of message ≡ Some client → StandsAt client at old → IsTakenAt at message old (Answered number reply) new → after ≡ before ++ reply_line client number reply ∷ [] → Takes place message net net old new before after true
takes-answered place client at number message reply net old new before after receiver found is lines plain world is_plain spelled shows =
    let came_so = came plain (number_told place) client at message world old new (Answered number reply) shows found receiver is in
    let told = Replied client number came_so.became.0 reply ∷ [] in
    let rest = subst (Tells place net before after true) (sym came_so.became.2) (spelled, lines ∙ ap (λ more. before ++ more) (told-so place told refl), refl) in
    (rest.0, took plain (number_told place) client at message world old new (Answered number reply) receiver found shows is, rest.1, rest.2)

-- the receipt of an item is posted, and its posting is loud

abbrev IsReceipt : Message → Type 0
IsReceipt (Receipt client key through) = Unit {0}
IsReceipt _ = ⊥

receipt-is : (client : ℕ) (message : Message) (world : World) (receipt : Message) (seen : Seen) → IsTaken client world.places message (world.agents client) (TookItem receipt) seen → IsReceipt receipt
receipt-is client (Answer receiver number reply) world receipt seen is =
    absurd (reply-no-item client world.places number reply (world.agents client) (kept_call number (world.agents client).kept) receipt seen is)
receipt-is client (Delivery receiver key item) world receipt seen is =
    subst IsReceipt (sym (item-receipt client world.places key item (world.agents client) (find_living key (world.agents client).living) receipt seen is)) tt
receipt-is client _ world receipt seen is = elim is [ ]

receipt-lines : (receipt : Message) (told : List Told) (number : ℕ) (known : Bool) → IsReceipt receipt → told ≡ (if known then [] else Posted number receipt ∷ []) → kept_lines told ≡ printed told
receipt-lines (Receipt client key through) told number true is e = ap kept_lines e ∙ sym (ap printed e)
receipt-lines (Receipt client key through) told number false is e = ap kept_lines e ∙ sym (ap printed e)
receipt-lines _ told number known is e = elim is [ ]

receipt-loud : (plain : Plain) (receipt : Message) (net : List Posting) → IsReceipt receipt → nat_lt (length net) (length (posted plain receipt net)) ≡ is_loud (post_lines plain receipt net)
receipt-loud plain (Receipt client key through) net is =
    let receipt = Receipt client key through in
    elim (knows plain receipt net) as (λ b. nat_lt (length net) (length (if b then net else Spelled receipt ∷ net)) ≡ is_loud (if b then [] else Posted (suc (length net)) receipt ∷ [])) [
      | true ↦ not-less (length net)
      | false ↦ less-one (length net)
    ]
receipt-loud plain _ net is = elim is [ ]

takes-item : (place : Option ℕ) (client at : ℕ) (message receipt : Message) (old_net new_net : List (List ℕ)) (old new : List Seen) (before after : List (List ℕ)) → receiver_of message ≡ Some client → StandsAt client at old → IsTakenAt at message old (TookItem receipt) new → Posts receipt old_net new_net before after → Takes place message old_net new_net old new before after (nat_lt (length old_net) (length new_net))
takes-item place client at message receipt old_net new_net old new before after receiver found is posts plain world is_plain spelled shows =
    let came_so = came plain (number_told place) client at message world old new (TookItem receipt) shows found receiver is in
    let there = seen-at client at old world shows found in
    let taken = is client world.places (world.agents client) there.1 in
    let a_receipt = receipt-is client message world receipt taken.0 taken.1 in
    let done = posts plain world.net is_plain spelled in
    let told = post_lines plain receipt world.net in
    let lines = told-so place told (receipt-lines receipt told (suc (length world.net)) (knows plain receipt world.net) a_receipt refl) in
    let loud : nat_lt (length old_net) (length new_net) ≡ is_loud told =
    (λ i. nat_lt (sym (spelled-length world.net old_net spelled) i) (sym (spelled-length (posted plain receipt world.net) new_net done.0) i))
    ∙ receipt-loud plain receipt world.net a_receipt
    in
    let rest = subst (Tells place new_net before after (nat_lt (length old_net) (length new_net))) (sym came_so.became.1) (done.0, done.1 ∙ ap (λ more. before ++ more) lines, loud) in
    (rest.0, took plain (number_told place) client at message world old new (TookItem receipt) receiver found shows is, rest.1, rest.2)

-- the agent at a place took or missed it
pub takes-told : (place : Option ℕ) (client at : ℕ) (message : Message) (old_net new_net : List (List ℕ)) (old new : List Seen) (before after : List (List ℕ)) (taken : Taken) (loud : Bool) → receiver_of message ≡ Some client → StandsAt client at old → IsTakenAt at message old taken new → IsTold place client taken old_net new_net before after loud → Takes place message old_net new_net old new before after loud
takes-told place client at message old_net new_net old new before after (Answered number reply) loud receiver found is told =
    let T : List (List ℕ) → Bool → Type 0 = λ net b. Takes place message old_net net old new before after b in
    let N : List (List ℕ) → Type 0 = λ net. T net loud in
    subst N (sym told.0) (subst (T old_net) (sym told.2) (takes-answered place client at number message reply old_net old new before after receiver found is told.1))
takes-told place client at message old_net new_net old new before after (TookItem receipt) loud receiver found is told =
    let T : Bool → Type 0 = λ b. Takes place message old_net new_net old new before after b in
    subst T (sym told.1) (takes-item place client at message receipt old_net new_net old new before after receiver found is told.0)
takes-told place client at message old_net new_net old new before after (Missed why) loud receiver found is told =
    let T : List (List ℕ) → Bool → Type 0 = λ net b. Takes place message old_net net old new before after b in
    let N : List (List ℕ) → Type 0 = λ net. T net loud in
    subst N (sym told.0) (subst (T old_net) (sym told.2) (takes-missed place client at message old_net old new before after why receiver found is told.1))

-- A delivery that breaks off.

-- nothing of it was done
pub nothing-taken : (place : ℕ) (message : Message) (net : List (List ℕ)) (agents : List Seen) → TakesPartly place message net net agents agents
nothing-taken place message net agents plain world is_plain spelled shows = record { net_is = inl spelled; agents_are = inl shows }

-- the agent took or missed it, and its receipt was posted or not
pub taken-partly : (place client at : ℕ) (message : Message) (old_net new_net : List (List ℕ)) (old new : List Seen) (taken : Taken) → receiver_of message ≡ Some client → StandsAt client at old → IsTakenAt at message old taken new → MayPost taken old_net new_net → TakesPartly place message old_net new_net old new
taken-partly place client at message old_net new_net old new taken receiver found is posts plain world is_plain spelled shows = record {
  net_is = by-taken taken is posts;
  agents_are = inr (took plain place client at message world old new taken receiver found shows is);
}
  where
    by-taken : (t : Taken) → IsTakenAt at message old t new → MayPost t old_net new_net → AreSpelled world.net new_net ⊎ AreSpelled (taken_as plain place message world).state.net new_net
    by-taken (TookItem receipt) is posts =
        subst (λ (o : Outcome World). AreSpelled world.net new_net ⊎ AreSpelled o.state.net new_net) (sym (came plain place client at message world old new (TookItem receipt) shows found receiver is).became.1) (posts plain world.net is_plain spelled)
    by-taken (Answered number reply) is same = inl (subst (λ n. AreSpelled world.net n) (sym same) spelled)
    by-taken (Missed why) is same = inl (subst (λ n. AreSpelled world.net n) (sym same) spelled)

-- A call is asked for as the world has it.
use Rattle.std.proofs.Common.{◌≡◌, ℕ, zero, suc, ◌+◌, ◌<◌, ◌≤◌, ◌⊎◌, inl, inr, Bool, true, false, cond, nat_lt, if◌then◌else◌, Option, Some, None, List, [], ◌∷◌, ◌++◌, length, slice_get, slice_set, refl, ap, sym, ◌∙◌, subst, arith}
use Rattle.std.specs.List.{insert}
use Rattle.std.proofs.lemmas.Bool.Decides.{eqb_tells, leb_tells}
use Rattle.std.proofs.lemmas.Bool.{lt-ltb, le-ltb}
use Rattle.wire.specs.MessageSpelling.{MessageInRange}
use Rattle.client_set.specs.Rising.{put, IsRising}
use Rattle.client_set.proofs.RisingLaws.{IsOrder-nat_lt, IsRising-put}
use Rattle.cluster_facts.specs.Types.{Ask, Status, Message, Request}
use Rattle.cluster_facts.specs.Lists.{Stands}
use Rattle.cluster_facts.specs.Service.{Plain}
use Rattle.cluster_facts.specs.Agents.{Agent, fresh, call_of, refusal, after_call}
use Rattle.cluster_facts.specs.World.{World, posted, with_agent}
use Rattle.cluster_facts.proofs.Words.{by_test}
use Rattle.cluster_events.specs.Outcomes.{Outcome}
use Rattle.cluster_events.specs.ClientEvents.{post_lines, send, ask_by, ask}
use Rattle.client_agent.specs.declared.answers.Sent.{Sent}
use Rattle.client_agent.specs.declared.answers.Sent.TheVariants.{Posted, Refused}
use Rattle.client_agent.specs.Seen.{Seen, seen_of}
use Rattle.client_agent.specs.Steps.{IsSent}
use Rattle.event_text.specs.Texts.{printed, declined_line}
use Rattle.cluster_clients.specs.Spelled.{AreSpelled, Posts, PostsOrNot}
use Rattle.cluster_clients.specs.Clients.{seen_all, ShowsAgents, StandsAt, IsAbsent}
use Rattle.cluster_clients.specs.Asked.{CanCallAt, IsSentAt, HasFitRequest, IsToldSent, place_for, Enlists, IsPlaced, Asks, MayPost, IsPartlyPlaced}
use Rattle.cluster_clients.specs.PartlyDone.{PartlyShows, AsksPartly}
use Rattle.cluster_clients.proofs.DispatchSteps.{shown-rise, fresh-agent, first-above, others-same, seen-at, set-same, handed-shows}
use Rattle.cluster_clients.proofs.DeliverySteps.{found-own, seen-some, agent_for, get-some}
use Rattle.cluster_events.proofs.Sound.{put-keeps, put-stands}

-- The request of a call can be posted.

fit-sent : (client places : ℕ) (asked : Ask) (agent : Agent) (sent : Sent) (seen : Seen) → 1 ≤ client → client ≤ 4096 → 1 ≤ agent.next → agent.next < 4294967295 → IsSent client places asked agent sent seen → HasFitRequest sent
fit-sent client places asked agent (Posted message) seen from to first last is =
    let P : Message → Type 0 = λ m. MessageInRange m in
    subst P (sym is.1) (record { least = from; most = to }, record { least = first; most = omega arith })
fit-sent client places asked agent (Refused status) seen from to first last is = tt

-- a client that is found can send
pub fit-at : (client at : ℕ) (asked : Ask) (old new : List Seen) (sent : Sent) → StandsAt client at old → 1 ≤ client → client ≤ 4096 → CanCallAt at old → at < length old → IsSentAt asked at old sent new → HasFitRequest sent
fit-at client at asked old new sent found from to numbers within is =
    let one = get-some old at within in
    let seen = one.0 in
    let own = found-own client at old seen found one.1 in
    let there : slice_get old at ≡ Some (seen_of client seen.places (agent_for seen)) = one.1 ∙ ap Some (seen-some seen) ∙ ap (λ c. Some (seen_of c seen.places (agent_for seen))) own in
    let done = is client seen.places (agent_for seen) there in
    let can = numbers seen one.1 in
    fit-sent client seen.places asked (agent_for seen) sent done.0 from to can.from can.to done.1

-- A client among clients.

-- a client that stands there already leaves the clients as they are
put-there : (client index : ℕ) (clients : List ℕ) → IsRising nat_lt clients → slice_get clients index ≡ Some client → put nat_lt client clients ≡ clients
put-there client index [] rising is = cc
put-there client zero (first ∷ clients) rising is =
    let same : first ≡ client = cc in
    let Q : ℕ → Type 0 = λ c. put nat_lt client (c ∷ clients) ≡ c ∷ clients in
    let own : Q client = ap (λ b. if b then client ∷ client ∷ clients else if b then client ∷ put nat_lt client clients else client ∷ clients) (le-ltb client client (omega arith)) in
    subst Q (sym same) own
put-there client (suc index) (first ∷ clients) rising is =
    let below = first-above first client index clients rising.0 is in
    let rest = put-there client index clients rising.1 is in
    ap (λ b. if b then client ∷ first ∷ clients else if nat_lt first client then first ∷ put nat_lt client clients else client ∷ clients) (le-ltb client first (omega arith))
    ∙ ap (λ b. if b then first ∷ put nat_lt client clients else client ∷ clients) (lt-ltb first client below)
    ∙ ap (λ cs. first ∷ cs) rest

own-agent : (client : ℕ) (next : Agent) (agents : ℕ → Agent) → with_agent client next agents client ≡ next
own-agent client next agents =
    let P : Bool → Type 0 = λ b. (if b then next else agents client) ≡ next in
    by_test P client client (λ same. refl) (λ different. absurd (different refl))

other-agent : (client other : ℕ) (next : Agent) (agents : ℕ → Agent) → ((client ≡ other) → ⊥) → with_agent client next agents other ≡ agents other
other-agent client other next agents different =
    let P : Bool → Type 0 = λ b. (if b then next else agents other) ≡ agents other in
    by_test P client other (λ same. absurd (different same)) (λ unequal. refl)

insert-more : (x : Seen) (xs : List Seen) (n : ℕ) (y : Seen) → insert (x ∷ xs) (1 + n) y ≡ x ∷ insert xs n y
insert-more x xs n y = let e : 1 + n ≡ suc n = omega arith in ap (λ i. insert (x ∷ xs) i y) e

-- an agent put in its place
inserted : (client places : ℕ) (next : Agent) (agents : ℕ → Agent) (clients : List ℕ) → IsRising nat_lt clients → (Stands client clients → ⊥) → insert (seen_all places agents clients) (place_for client (seen_all places agents clients)) (seen_of client places next) ≡ seen_all places (with_agent client next agents) (put nat_lt client clients)
inserted client places next agents [] rising nowhere = ap (λ a. seen_of client places a ∷ []) (sym (own-agent client next agents))
inserted client places next agents (first ∷ clients) rising nowhere =
    let one = seen_of client places next in
    let head = seen_of first places (agents first) in
    let rest = seen_all places agents clients in
    let after = with_agent client next agents in
    let whole : Bool → Bool → List ℕ = λ a b. if a then client ∷ first ∷ clients else if b then first ∷ put nat_lt client clients else client ∷ clients in
    let G : Bool → Bool → Type 0 = λ a b. insert (head ∷ rest) (cond b (1 + place_for client rest) 0) one ≡ seen_all places after (whole a b) in
    elim (leb_tells (suc client) first) [
      | inl lower ↦
          let below = lower.1 in
          let above_is = le-ltb first client (omega arith) in
          let R : Bool → Type 0 = λ a. IsRising nat_lt (if a then client ∷ first ∷ clients else if nat_lt first client then first ∷ put nat_lt client clients else client ∷ clients) in
          let placed : IsRising nat_lt (client ∷ first ∷ clients) = subst R lower.0 (IsRising-put nat_lt IsOrder-nat_lt client (first ∷ clients) rising) in
          let same = others-same client places next agents (first ∷ clients) placed.0 in
          let front : G true false = ap (λ s. one ∷ s) (sym same) ∙ ap (λ a. seen_of client places a ∷ seen_all places after (first ∷ clients)) (sym (own-agent client next agents)) in
          let half : G true (nat_lt first client) = subst (G true) (sym above_is) front in
          subst (λ a. G a (nat_lt first client)) (sym lower.0) half
      | inr higher ↦ elim (leb_tells (suc first) client) [
        | inl lower ↦
            let below = lower.1 in
            let differs : (client ≡ first) → ⊥ = λ same. absurd (omega arith) in
            let deeper = inserted client places next agents clients rising.1 (λ stands. nowhere (inr stands)) in
            let back : G false true = insert-more head rest (place_for client rest) one ∙ ap (λ s. head ∷ s) deeper ∙ ap (λ a. seen_of first places a ∷ seen_all places after (put nat_lt client clients)) (sym (other-agent client first next agents differs)) in
            let half : G false (nat_lt first client) = subst (G false) (sym lower.0) back in
            subst (λ a. G a (nat_lt first client)) (sym higher.0) half
        | inr other ↦
            let one_way = higher.1 in
            let other_way = other.1 in
            let same : client ≡ first = omega arith in
            absurd (nowhere (inl same))
      ]
    ]

-- What asking comes to.

asked-by : (plain : Plain) (client : ℕ) (asked : Ask) (world : World) (status : Option Status) → refusal asked (world.agents client) ≡ status → ask plain client asked world ≡ ask_by plain client (call_of asked) status world
asked-by plain client asked world status is = ap (λ s. ask_by plain client (call_of asked) s world) is

-- what is refused changes nothing
abbrev Ends : List (List ℕ) → List Seen → List (List ℕ) → List (List ℕ) → Outcome World → Type 0
Ends net seen before after outcome =
    AreSpelled outcome.state.net net × ShowsAgents outcome.state seen × (after ≡ before ++ printed outcome.told)

asks-refused : (plain : Plain) (client : ℕ) (asked : Ask) (status : Status) (world : World) (new_net : List (List ℕ)) (new : List Seen) (before after : List (List ℕ)) → refusal asked (world.agents client) ≡ Some status → AreSpelled world.net new_net → ShowsAgents world new → after ≡ before ++ declined_line client status ∷ [] → Ends new_net new before after (ask plain client asked world)
asks-refused plain client asked status world new_net new before after refused spelled shows lines =
    subst (Ends new_net new before after) (sym (asked-by plain client asked world (Some status) refused)) (spelled, shows, lines)

-- what is sent
asks-sent : (plain : Plain) (client : ℕ) (asked : Ask) (message : Message) (world : World) (new_net : List (List ℕ)) (new : List Seen) (before after : List (List ℕ)) → refusal asked (world.agents client) ≡ None → message ≡ Request client (world.agents client).next (call_of asked) → AreSpelled (posted plain message world.net) new_net → (after ≡ before ++ printed (post_lines plain message world.net)) → ShowsAgents (send plain client (call_of asked) world).state new → Ends new_net new before after (ask plain client asked world)
asks-sent plain client asked message world new_net new before after passed is spelled lines shows =
    let A : Message → Type 0 = λ m. AreSpelled (posted plain m world.net) new_net in
    let L : Message → Type 0 = λ m. after ≡ before ++ printed (post_lines plain m world.net) in
    let whole : Ends new_net new before after (send plain client (call_of asked) world) = (subst A is spelled, shows, subst L is lines) in
    subst (Ends new_net new before after) (sym (asked-by plain client asked world None passed)) whole

pub asks-at : (callbacks client at : ℕ) (asked : Ask) (old_net new_net : List (List ℕ)) (old new : List Seen) (before after : List (List ℕ)) (sent : Sent) → StandsAt client at old → IsSentAt asked at old sent new → IsToldSent client sent old_net new_net before after → Asks callbacks client asked old_net new_net old new before after
asks-at callbacks client at asked old_net new_net old new before after (Refused status) found is told plain world is_plain spelled shows places =
    let there = seen-at client at old world shows found in
    let done = is client world.places (world.agents client) there.1 in
    let same : new ≡ old = done.2 ∙ ap (λ s. slice_set old at s) done.1.1 ∙ set-same old at (seen_of client world.places (world.agents client)) there.1 in
    asks-refused plain client asked status world new_net new before after done.1.0 (subst (λ n. AreSpelled world.net n) (sym told.0) spelled) (subst (λ s. ShowsAgents world s) (sym same) shows) told.1
asks-at callbacks client at asked old_net new_net old new before after (Posted message) found is told plain world is_plain spelled shows places =
    let there = seen-at client at old world shows found in
    let done = is client world.places (world.agents client) there.1 in
    let next = after_call (call_of asked) (world.agents client) in
    let posts = told plain world.net is_plain spelled in
    let moved = handed-shows client at old new next world shows there.0 (done.2 ∙ ap (λ s. slice_set old at s) done.1.2) in
    let stays = put-there client at world.clients shows.rising there.0 in
    let agents = with_agent client next world.agents in
    asks-sent plain client asked message world new_net new before after done.1.0 done.1.1 posts.0 posts.1 (record {
      shown = moved.shown ∙ ap (λ cs. seen_all world.places agents cs) (sym stays);
      rising = subst (λ cs. IsRising nat_lt cs) (sym stays) moved.rising;
      listed = λ other. subst (λ cs. Stands other cs ⊎ (agents other ≡ fresh)) (sym stays) (moved.listed other);
    })

pub asks-first-refused : (callbacks client : ℕ) (asked : Ask) (status : Status) (seen : Seen) (old_net new_net : List (List ℕ)) (old new : List Seen) (before after : List (List ℕ)) → IsAbsent client old → IsSent client callbacks asked fresh (Refused status) seen → new_net ≡ old_net → Enlists client seen false old new → after ≡ before ++ declined_line client status ∷ [] → Asks callbacks client asked old_net new_net old new before after
asks-first-refused callbacks client asked status seen old_net new_net old new before after none is net agents lines plain world is_plain spelled shows places =
    let own = (fresh-agent client old world shows none).1 in
    asks-refused plain client asked status world new_net new before after (ap (refusal asked) own ∙ is.0) (subst (λ n. AreSpelled world.net n) (sym net) spelled) (subst (λ s. ShowsAgents world s) (sym (agents (shown-rise world old shows))) shows) lines

pub asks-first-sent : (callbacks client : ℕ) (asked : Ask) (message : Message) (seen : Seen) (old_net new_net : List (List ℕ)) (old new : List Seen) (before after : List (List ℕ)) → IsAbsent client old → IsSent client callbacks asked fresh (Posted message) seen → Enlists client seen true old new → Posts message old_net new_net before after → Asks callbacks client asked old_net new_net old new before after
asks-first-sent callbacks client asked message seen old_net new_net old new before after none is put_in posts plain world is_plain spelled shows places =
    let at_first = fresh-agent client old world shows none in
    let own = at_first.1 in
    let next = after_call (call_of asked) (world.agents client) in
    let agents = with_agent client next world.agents in
    let done = posts plain world.net is_plain spelled in
    let is_next : seen ≡ seen_of client world.places next = is.2 ∙ ap (λ p. seen_of client p (after_call (call_of asked) fresh)) (sym places) ∙ ap (λ a. seen_of client world.places (after_call (call_of asked) a)) (sym own) in
    let shown_now : new ≡ seen_all world.places agents (put nat_lt client world.clients) =
    put_in (shown-rise world old shows) ∙ ap (λ s. insert old (place_for client old) s) is_next
    ∙ ap (λ o. insert o (place_for client o) (seen_of client world.places next)) shows.shown
    ∙ inserted client world.places next world.agents world.clients shows.rising at_first.0
    in
    asks-sent plain client asked message world new_net new before after (ap (refusal asked) own ∙ is.0) (is.1 ∙ ap (λ (a : Agent). Request client a.next (call_of asked)) (sym own)) done.0 done.1 (record {
      shown = shown_now;
      rising = IsRising-put nat_lt IsOrder-nat_lt client world.clients shows.rising;
      listed = λ other. elim (eqb_tells client other) [
        | inl same ↦ inl (subst (λ c. Stands c (put nat_lt client world.clients)) same.1 (put-stands client world.clients))
        | inr different ↦ elim (shows.listed other) [
          | inl stands ↦ inl (put-keeps client other world.clients stands)
          | inr is_fresh ↦ inr (other-agent client other next world.agents different.1 ∙ is_fresh)
        ]
      ];
    })

-- the first call of a client
pub asks-first : (callbacks client : ℕ) (asked : Ask) (sent : Sent) (seen : Seen) (old_net new_net : List (List ℕ)) (old new : List Seen) (before after : List (List ℕ)) → IsAbsent client old → IsSent client callbacks asked fresh sent seen → IsPlaced client seen sent old_net new_net old new before after → Asks callbacks client asked old_net new_net old new before after
asks-first callbacks client asked (Posted message) seen old_net new_net old new before after none is placed =
    asks-first-sent callbacks client asked message seen old_net new_net old new before after none is placed.1 placed.0
asks-first callbacks client asked (Refused status) seen old_net new_net old new before after none is placed =
    asks-first-refused callbacks client asked status seen old_net new_net old new before after none is placed.0.0 placed.1 placed.0.1

-- Where memory ran out within it.

asked-net : (plain : Plain) (client : ℕ) (asked : Ask) (message : Message) (world : World) → refusal asked (world.agents client) ≡ None → message ≡ Request client (world.agents client).next (call_of asked) → (ask plain client asked world).state.net ≡ posted plain message world.net
asked-net plain client asked message world passed is =
    ap (λ (o : Outcome World). o.state.net) (asked-by plain client asked world None passed) ∙ ap (λ m. posted plain m world.net) (sym is)

asked-agents : (plain : Plain) (client : ℕ) (asked : Ask) (world : World) (new : List Seen) → refusal asked (world.agents client) ≡ None → ShowsAgents (send plain client (call_of asked) world).state new → ShowsAgents (ask plain client asked world).state new
asked-agents plain client asked world new passed shows =
    subst (λ (o : Outcome World). ShowsAgents o.state new) (sym (asked-by plain client asked world None passed)) shows

pub partly-nothing : (callbacks client : ℕ) (asked : Ask) (old_net new_net : List (List ℕ)) (old new : List Seen) → new_net ≡ old_net → new ≡ old → AsksPartly callbacks client asked old_net new_net old new
partly-nothing callbacks client asked old_net new_net old new net agents plain world is_plain spelled shows places = record {
  net_is = inl (subst (λ n. AreSpelled world.net n) (sym net) spelled);
  agents_are = inl (subst (λ s. ShowsAgents world s) (sym agents) shows);
}

partly-sent : (plain : Plain) (client : ℕ) (asked : Ask) (message : Message) (world : World) (new_net : List (List ℕ)) (new : List Seen) → refusal asked (world.agents client) ≡ None → message ≡ Request client (world.agents client).next (call_of asked) → AreSpelled world.net new_net ⊎ AreSpelled (posted plain message world.net) new_net → ShowsAgents (send plain client (call_of asked) world).state new → PartlyShows world (ask plain client asked world).state new_net new
partly-sent plain client asked message world new_net new passed is nets shows = record {
  net_is = elim nets [
    | inl before ↦ inl before
    | inr after ↦ inr (subst (λ n. AreSpelled n new_net) (sym (asked-net plain client asked message world passed is)) after)
  ];
  agents_are = inr (asked-agents plain client asked world new passed shows);
}

pub partly-at : (callbacks client at : ℕ) (asked : Ask) (old_net new_net : List (List ℕ)) (old new : List Seen) (sent : Sent) → StandsAt client at old → IsSentAt asked at old sent new → MayPost sent old_net new_net → AsksPartly callbacks client asked old_net new_net old new
partly-at callbacks client at asked old_net new_net old new (Refused status) found is may plain world is_plain spelled shows places =
    let there = seen-at client at old world shows found in
    let done = is client world.places (world.agents client) there.1 in
    let same : new ≡ old = done.2 ∙ ap (λ s. slice_set old at s) done.1.1 ∙ set-same old at (seen_of client world.places (world.agents client)) there.1 in
    partly-nothing callbacks client asked old_net new_net old new may same plain world is_plain spelled shows places
partly-at callbacks client at asked old_net new_net old new (Posted message) found is may plain world is_plain spelled shows places =
    let there = seen-at client at old world shows found in
    let done = is client world.places (world.agents client) there.1 in
    let next = after_call (call_of asked) (world.agents client) in
    let moved = handed-shows client at old new next world shows there.0 (done.2 ∙ ap (λ s. slice_set old at s) done.1.2) in
    let stays = put-there client at world.clients shows.rising there.0 in
    let agents = with_agent client next world.agents in
    partly-sent plain client asked message world new_net new done.1.0 done.1.1 (may plain world.net is_plain spelled) (record {
      shown = moved.shown ∙ ap (λ cs. seen_all world.places agents cs) (sym stays);
      rising = subst (λ cs. IsRising nat_lt cs) (sym stays) moved.rising;
      listed = λ other. subst (λ cs. Stands other cs ⊎ (agents other ≡ fresh)) (sym stays) (moved.listed other);
    })

first-shows : (callbacks client : ℕ) (asked : Ask) (plain : Plain) (seen : Seen) (old new : List Seen) (world : World) → IsAbsent client old → ShowsAgents world old → world.places ≡ callbacks → seen ≡ seen_of client callbacks (after_call (call_of asked) fresh) → Enlists client seen true old new → ShowsAgents (send plain client (call_of asked) world).state new
first-shows callbacks client asked plain seen old new world none shows places is put_in =
    let at_first = fresh-agent client old world shows none in
    let own = at_first.1 in
    let next = after_call (call_of asked) (world.agents client) in
    let agents = with_agent client next world.agents in
    let is_next : seen ≡ seen_of client world.places next = is ∙ ap (λ p. seen_of client p (after_call (call_of asked) fresh)) (sym places) ∙ ap (λ a. seen_of client world.places (after_call (call_of asked) a)) (sym own) in
    let shown_now : new ≡ seen_all world.places agents (put nat_lt client world.clients) =
    put_in (shown-rise world old shows) ∙ ap (λ s. insert old (place_for client old) s) is_next
    ∙ ap (λ o. insert o (place_for client o) (seen_of client world.places next)) shows.shown
    ∙ inserted client world.places next world.agents world.clients shows.rising at_first.0
    in
    record {
      shown = shown_now;
      rising = IsRising-put nat_lt IsOrder-nat_lt client world.clients shows.rising;
      listed = λ other. elim (eqb_tells client other) [
        | inl same ↦ inl (subst (λ c. Stands c (put nat_lt client world.clients)) same.1 (put-stands client world.clients))
        | inr different ↦ elim (shows.listed other) [
          | inl stands ↦ inl (put-keeps client other world.clients stands)
          | inr is_fresh ↦ inr (other-agent client other next world.agents different.1 ∙ is_fresh)
        ]
      ];
    }

partly-first-sent : (callbacks client : ℕ) (asked : Ask) (message : Message) (seen : Seen) (old_net new_net : List (List ℕ)) (old new : List Seen) → IsAbsent client old → IsSent client callbacks asked fresh (Posted message) seen → PostsOrNot message old_net new_net → Enlists client seen true old new → AsksPartly callbacks client asked old_net new_net old new
partly-first-sent callbacks client asked message seen old_net new_net old new none is may put_in plain world is_plain spelled shows places =
    let own = (fresh-agent client old world shows none).1 in
    partly-sent plain client asked message world new_net new (ap (refusal asked) own ∙ is.0) (is.1 ∙ ap (λ (a : Agent). Request client a.next (call_of asked)) (sym own)) (may plain world.net is_plain spelled) (first-shows callbacks client asked plain seen old new world none shows places is.2 put_in)

pub partly-first : (callbacks client : ℕ) (asked : Ask) (sent : Sent) (seen : Seen) (old_net new_net : List (List ℕ)) (old new : List Seen) → IsAbsent client old → IsSent client callbacks asked fresh sent seen → IsPartlyPlaced client seen sent old_net new_net old new → AsksPartly callbacks client asked old_net new_net old new
partly-first callbacks client asked sent seen old_net new_net old new none is (inl same) = partly-nothing callbacks client asked old_net new_net old new same.0 same.1
partly-first callbacks client asked (Refused status) seen old_net new_net old new none is (inr placed) =
    λ plain world is_plain spelled shows places. partly-nothing callbacks client asked old_net new_net old new placed.0 (placed.1 (shown-rise world old shows)) plain world is_plain spelled shows places
partly-first callbacks client asked (Posted message) seen old_net new_net old new none is (inr placed) = partly-first-sent callbacks client asked message seen old_net new_net old new none is placed.0 placed.1

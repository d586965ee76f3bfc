-- Callbacks of a client are handed out as the world has it.
use Rattle.std.proofs.Common.{◌≡◌, ℕ, zero, suc, ◌+◌, ◌<◌, ◌⊎◌, inl, inr, Bool, cond, nat_lt, if◌then◌else◌, Option, Some, None, List, [], ◌∷◌, ◌++◌, length, slice_get, slice_set, reverse, refl, ap, sym, ◌∙◌, subst, arith, append_assoc, append-nil}
use Rattle.std.specs.Prelude.{Result, Ok, Err, OnErr}
use Rattle.std.specs.List.{flat_map, position_from}
use Rattle.std.proofs.lemmas.Iterator.Adapters.{position_from-zero}
use Rattle.std.proofs.lemmas.List.{reverse-append, length-reverse}
use Rattle.std.proofs.lemmas.List.Concat.{flat_map-append}
use Rattle.std.proofs.lemmas.Bool.{ltb-true}
use Rattle.client_set.specs.Rising.{ComesFirst, IsRising}
use Rattle.cluster_facts.specs.Types.{Status, Callback, BadHandle}
use Rattle.cluster_facts.specs.Lists.{Stands}
use Rattle.cluster_facts.specs.Agents.{Agent, fresh, dispatch_refusal, after_dispatch_all, after_dispatch_one}
use Rattle.cluster_facts.specs.World.{World, with_agent}
use Rattle.cluster_facts.proofs.Words.{by_test}
use Rattle.cluster_events.specs.ClientEvents.{handed_lines, dispatch_all_by, dispatch_one_by}
use Rattle.client_agent.specs.declared.answers.How.{How}
use Rattle.client_agent.specs.declared.answers.How.TheVariants.{One, All}
use Rattle.callback_dispatch.specs.declared.numbered.Numbered.{Numbered}
use Rattle.client_agent.specs.declared.answers.Dispatched.TheVariants.{Refused, Given}
use Rattle.client_agent.specs.Seen.{Seen, seen_of}
use Rattle.client_agent.specs.Steps.{numbered, handed_out, after_dispatch}
use Rattle.event_text.specs.Texts.{callback_lines, dispatched_line, declined_line, printed}
use Rattle.cluster_clients.specs.Clients.{seen_all, ShowsAgents, AreByClient, place_of, StandsAt, IsAbsent, IsDispatchedAt, dispatch_as, Dispatches}
use Rattle.cluster_clients.specs.PartlyDone.{MayDispatch}
use Rattle.cluster_clients.proofs.Places.{is_of}
use Rattle.client_agent.proofs.Handing.{length-numbered}

pub on-err : {T E P : Type 0} (r : Result T E) → P → OnErr r P
on-err (Ok x) holds = tt
on-err (Err e) holds = holds

-- The place of a client.

-- agents that are shown stand by rising client
seen-first : (client places : ℕ) (agent : Agent) (agents : ℕ → Agent) (clients : List ℕ) → ComesFirst nat_lt client clients → ComesFirst (λ (one other : Seen). nat_lt one.client other.client) (seen_of client places agent) (seen_all places agents clients)
seen-first client places agent agents [] comes = tt
seen-first client places agent agents (next ∷ clients) comes = (comes.0, seen-first client places agent agents clients comes.1)

seen-rise : (places : ℕ) (agents : ℕ → Agent) (clients : List ℕ) → IsRising nat_lt clients → AreByClient (seen_all places agents clients)
seen-rise places agents [] rising = tt
seen-rise places agents (client ∷ clients) rising = (seen-first client places (agents client) agents clients rising.0, seen-rise places agents clients rising.1)

pub shown-rise : (world : World) (seen : List Seen) → ShowsAgents world seen → AreByClient seen
shown-rise world seen shows = subst AreByClient (sym shows.shown) (seen-rise world.places world.agents world.clients shows.rising)

absent-from : (client places start : ℕ) (agents : ℕ → Agent) (clients : List ℕ) → position_from (is_of client) start (seen_all places agents clients) ≡ None → Stands client clients → ⊥
absent-from client places start agents [] none stands = elim stands [ ]
absent-from client places start agents (first ∷ clients) none stands =
    let rest = seen_all places agents clients in
    let P : Bool → Type 0 = λ b. cond b (Some start) (position_from (is_of client) (start + 1) rest) ≡ None → ⊥ in
    by_test P first client (λ same is. cc) (λ different deeper. elim stands [
      | inl here ↦ different (sym here)
      | inr there ↦ absent-from client places (start + 1) agents clients deeper there
    ]) none

-- **a client that is not found has a fresh agent**
pub fresh-agent : (client : ℕ) (old : List Seen) (world : World) → ShowsAgents world old → IsAbsent client old → (Stands client world.clients → ⊥) × (world.agents client ≡ fresh)
fresh-agent client old world shows absent =
    let shown = seen_all world.places world.agents world.clients in
    let none : position_from (is_of client) 0 shown ≡ None =
    sym (position_from-zero (is_of client) shown) ∙ ap (place_of client) (sym shows.shown) ∙ absent (shown-rise world old shows)
    in
    let nowhere = absent-from client world.places 0 world.agents world.clients none in
    (nowhere, elim (shows.listed client) [ inl stands ↦ absurd (nowhere stands) | inr is ↦ is ])

-- a client that is found stands at its place
found : (client places place : ℕ) (agents : ℕ → Agent) (clients : List ℕ) → StandsAt client place (seen_all places agents clients) → (slice_get clients place ≡ Some client) × (slice_get (seen_all places agents clients) place ≡ Some (seen_of client places (agents client)))
found client places place agents [] stands = cc
found client places zero agents (first ∷ clients) stands =
    let same : first ≡ client = cc in
    (ap Some same, ap (λ c. Some (seen_of c places (agents c))) same)
found client places (suc place) agents (first ∷ clients) stands = found client places place agents clients stands

-- One agent changes.

pub first-above : (first other index : ℕ) (clients : List ℕ) → ComesFirst nat_lt first clients → slice_get clients index ≡ Some other → first < other
first-above first other index [] comes is = cc
first-above first other zero (next ∷ clients) comes is = let same : next ≡ other = cc in let less = ltb-true first next comes.0 in omega arith
first-above first other (suc index) (next ∷ clients) comes is = first-above first other index clients comes.1 is

pub others-same : (client places : ℕ) (after : Agent) (agents : ℕ → Agent) (clients : List ℕ) → ComesFirst nat_lt client clients → seen_all places (with_agent client after agents) clients ≡ seen_all places agents clients
others-same client places after agents [] comes = refl
others-same client places after agents (next ∷ clients) comes =
    let less = ltb-true client next comes.0 in
    let rest = others-same client places after agents clients comes.1 in
    let P : Bool → Type 0 = λ b. seen_of next places (if b then after else agents next) ∷ seen_all places (with_agent client after agents) clients ≡ seen_of next places (agents next) ∷ seen_all places agents clients in
    by_test P client next (λ same. absurd (omega arith)) (λ different. ap (λ s. seen_of next places (agents next) ∷ s) rest)

changed : (client places index : ℕ) (after : Agent) (agents : ℕ → Agent) (clients : List ℕ) → IsRising nat_lt clients → slice_get clients index ≡ Some client → seen_all places (with_agent client after agents) clients ≡ slice_set (seen_all places agents clients) index (seen_of client places after)
changed client places index after agents [] rising is = cc
changed client places zero after agents (first ∷ clients) rising is =
    let same : first ≡ client = cc in
    let C : ℕ → Type 0 = λ c. ComesFirst nat_lt c clients in
    let rest = others-same client places after agents clients (subst C same rising.0) in
    let P : Bool → Type 0 = λ b. seen_of first places (if b then after else agents first) ∷ seen_all places (with_agent client after agents) clients ≡ seen_of client places after ∷ seen_all places agents clients in
    by_test P client first
    (λ equal. ap (λ c. seen_of c places after ∷ seen_all places (with_agent client after agents) clients) same ∙ ap (λ s. seen_of client places after ∷ s) rest)
    (λ different. absurd (different (sym same)))
changed client places (suc index) after agents (first ∷ clients) rising is =
    let less = first-above first client index clients rising.0 is in
    let rest = changed client places index after agents clients rising.1 is in
    let P : Bool → Type 0 = λ b. seen_of first places (if b then after else agents first) ∷ seen_all places (with_agent client after agents) clients ≡ seen_of first places (agents first) ∷ slice_set (seen_all places agents clients) index (seen_of client places after) in
    by_test P client first (λ same. absurd (omega arith)) (λ different. ap (λ s. seen_of first places (agents first) ∷ s) rest)

-- a client that stands among the clients is listed, whatever its agent
listed-with : (client index : ℕ) (after : Agent) (agents : ℕ → Agent) (clients : List ℕ) → slice_get clients index ≡ Some client → ((other : ℕ) → Stands other clients ⊎ (agents other ≡ fresh)) → (other : ℕ) → Stands other clients ⊎ (with_agent client after agents other ≡ fresh)
listed-with client index after agents clients is listed other =
    let P : Bool → Type 0 = λ b. Stands other clients ⊎ ((if b then after else agents other) ≡ fresh) in
    by_test P client other (λ same. inl (subst (λ c. Stands c clients) same (stands-at client index clients is))) (λ different. listed other)
  where
    stands-at : (x n : ℕ) (xs : List ℕ) → slice_get xs n ≡ Some x → Stands x xs
    stands-at x n [] at = cc
    stands-at x zero (y ∷ xs) at = let same : y ≡ x = cc in inl (sym same)
    stands-at x (suc n) (y ∷ xs) at = inr (stands-at x n xs at)

-- The lines of callbacks.

abbrev pub lines_for : ℕ → List Numbered → List (List ℕ)
lines_for client callbacks = flat_map (λ (one : Numbered). callback_lines client one.number one.callback) callbacks

handed-printed : (client before : ℕ) (callbacks : List Callback) → lines_for client (reverse (numbered before callbacks)) ≡ printed (handed_lines client before callbacks)
handed-printed client before [] = refl
handed-printed client before (callback ∷ callbacks) =
    let one : Numbered = record { number = suc (before + length callbacks); callback = callback } in
    let own : List (List ℕ) = callback_lines client (suc (before + length callbacks)) callback in
    ap (lines_for client) (reverse-append (one ∷ []) (numbered before callbacks))
    ∙ flat_map-append (λ (x : Numbered). callback_lines client x.number x.callback) (reverse (numbered before callbacks)) (one ∷ [])
    ∙ ap (λ front. front ++ (own ++ [])) (handed-printed client before callbacks)
    ∙ ap (λ back. printed (handed_lines client before callbacks) ++ back) (append-nil own)

-- What a dispatch comes to.

abbrev by_status : How → ℕ → Option Status → World → Rattle.cluster_events.specs.Outcomes.Outcome World
by_status One client status world = dispatch_one_by client status world
by_status (All workers) client status world = dispatch_all_by client status world

dispatch-is : (how : How) (client : ℕ) (world : World) (status : Option Status) → dispatch_refusal (world.agents client) ≡ status → dispatch_as how client world ≡ by_status how client status world
dispatch-is One client world status is = ap (λ s. dispatch_one_by client s world) is
dispatch-is (All workers) client world status is = ap (λ s. dispatch_all_by client s world) is

-- what is refused changes nothing
declined : (how : How) (client : ℕ) (old new : List Seen) (before after : List (List ℕ)) (status : Status) (world : World) → ShowsAgents world old → new ≡ old → after ≡ before ++ declined_line client status ∷ [] → dispatch_refusal (world.agents client) ≡ Some status → ShowsAgents (dispatch_as how client world).state new × (after ≡ before ++ printed (dispatch_as how client world).told)
declined how client old new before after status world shows same added refused =
    let is = dispatch-is how client world (Some status) refused in
    let P : Rattle.cluster_events.specs.Outcomes.Outcome World → Type 0 = λ o. ShowsAgents o.state new × (after ≡ before ++ printed o.told) in
    let shown : ShowsAgents world new = subst (λ seen. ShowsAgents world seen) (sym same) shows in
    subst P (sym is) (by-how how shown)
  where
    by-how : (h : How) → ShowsAgents world new → ShowsAgents (by_status h client (Some status) world).state new × (after ≡ before ++ printed (by_status h client (Some status) world).told)
    by-how One shown = (shown, added)
    by-how (All workers) shown = (shown, added)

-- a client without an agent is refused
pub dispatch-absent : (how : How) (client : ℕ) (old new : List Seen) (before after : List (List ℕ)) → IsAbsent client old → new ≡ old → after ≡ before ++ declined_line client BadHandle ∷ [] → Dispatches how client old new before after
dispatch-absent how client old new before after none same added world shows =
    let refused : dispatch_refusal (world.agents client) ≡ Some BadHandle = ap dispatch_refusal (fresh-agent client old world shows none).1 in
    declined how client old new before after BadHandle world shows same added refused

-- the agent at the place, where it is found
pub seen-at : (client place : ℕ) (old : List Seen) (world : World) → ShowsAgents world old → StandsAt client place old → (slice_get world.clients place ≡ Some client) × (slice_get old place ≡ Some (seen_of client world.places (world.agents client)))
seen-at client place old world shows stands =
    let at = found client world.places place world.agents world.clients (subst (StandsAt client place) shows.shown stands) in
    (at.0, ap (λ s. slice_get s place) shows.shown ∙ at.1)

-- setting what stands there already changes nothing
pub set-same : (seen : List Seen) (place : ℕ) (one : Seen) → slice_get seen place ≡ Some one → slice_set seen place one ≡ seen
set-same [] place one is = cc
set-same (first ∷ seen) zero one is = let same : first ≡ one = cc in ap (λ s. s ∷ seen) (sym same)
set-same (first ∷ seen) (suc place) one is = ap (λ s. first ∷ s) (set-same seen place one is)

pub dispatch-refused : (how : How) (client place : ℕ) (old new : List Seen) (before after : List (List ℕ)) (status : Status) → StandsAt client place old → IsDispatchedAt how place old (Refused status) new → after ≡ before ++ declined_line client status ∷ [] → Dispatches how client old new before after
dispatch-refused how client place old new before after status is at added world shows =
    let there = seen-at client place old world shows is in
    let done = at client world.places (world.agents client) there.1 in
    let same : new ≡ old = done.2 ∙ ap (λ s. slice_set old place s) done.1.1 ∙ set-same old place (seen_of client world.places (world.agents client)) there.1 in
    declined how client old new before after status world shows same added done.1.0

-- the agents with one of them changed
pub handed-shows : (client place : ℕ) (old new : List Seen) (next : Agent) (world : World) → ShowsAgents world old → slice_get world.clients place ≡ Some client → new ≡ slice_set old place (seen_of client world.places next) → ShowsAgents (record world { agents = with_agent client next world.agents }) new
handed-shows client place old new next world shows at is = record {
  shown =
      is ∙ ap (λ s. slice_set s place (seen_of client world.places next)) shows.shown
      ∙ sym (changed client world.places place next world.agents world.clients shows.rising at);
  rising = shows.rising;
  listed = listed-with client place next world.agents world.clients at shows.listed;
}

-- what is handed out
handed : (how : How) (client place : ℕ) (old new : List Seen) (before after : List (List ℕ)) (world : World) → ShowsAgents world old → slice_get world.clients place ≡ Some client → new ≡ slice_set old place (seen_of client world.places (after_dispatch how (world.agents client))) → after ≡ before ++ (printed (handed_lines client (length (world.agents client).handed) (handed_out how (world.agents client).queue)) ++ dispatched_line client (length (handed_out how (world.agents client).queue)) ∷ []) → ShowsAgents (by_status how client None world).state new × (after ≡ before ++ printed (by_status how client None world).told)
handed One client place old new before after world shows at is lines = (handed-shows client place old new (after_dispatch_one (world.agents client)) world shows at is, lines)
handed (All workers) client place old new before after world shows at is lines = (handed-shows client place old new (after_dispatch_all (world.agents client)) world shows at is, lines)

pub dispatch-given : (how : How) (client place : ℕ) (old new : List Seen) (before between after : List (List ℕ)) (taken : List Numbered) → StandsAt client place old → IsDispatchedAt how place old (Given taken) new → between ≡ before ++ lines_for client taken → after ≡ between ++ dispatched_line client (length taken) ∷ [] → Dispatches how client old new before after
dispatch-given how client place old new before between after taken is at first last world shows =
    let agent = world.agents client in
    let callbacks = handed_out how agent.queue in
    let there = seen-at client place old world shows is in
    let done = at client world.places agent there.1 in
    let agents_are : new ≡ slice_set old place (seen_of client world.places (after_dispatch how agent)) = done.2 ∙ ap (λ s. slice_set old place s) done.1.2 in
    let taken_is : taken ≡ reverse (numbered (length agent.handed) callbacks) = done.1.1 in
    let texts : lines_for client taken ≡ printed (handed_lines client (length agent.handed) callbacks) = ap (lines_for client) taken_is ∙ handed-printed client (length agent.handed) callbacks in
    let count : length taken ≡ length callbacks = ap length taken_is ∙ length-reverse (numbered (length agent.handed) callbacks) ∙ length-numbered (length agent.handed) callbacks in
    let lines : after ≡ before ++ (printed (handed_lines client (length agent.handed) callbacks) ++ dispatched_line client (length callbacks) ∷ []) =
    last ∙ ap (λ b. b ++ dispatched_line client (length taken) ∷ []) first
    ∙ append_assoc before (lines_for client taken) (dispatched_line client (length taken) ∷ [])
    ∙ ap (λ t. before ++ (t ++ dispatched_line client (length taken) ∷ [])) texts
    ∙ ap (λ n. before ++ (printed (handed_lines client (length agent.handed) callbacks) ++ dispatched_line client n ∷ [])) count
    in
    let P : Rattle.cluster_events.specs.Outcomes.Outcome World → Type 0 = λ o. ShowsAgents o.state new × (after ≡ before ++ printed o.told) in
    subst P (sym (dispatch-is how client world None done.1.0)) (handed how client place old new before after world shows there.0 agents_are lines)

-- Where memory ran out callbacks were handed out or not.

pub may-same : (how : How) (client : ℕ) (old new : List Seen) → new ≡ old → MayDispatch how client old new
may-same how client old new same world shows = inl (subst (λ seen. ShowsAgents world seen) (sym same) shows)

pub may-refused : (how : How) (client place : ℕ) (old new : List Seen) (status : Status) → StandsAt client place old → IsDispatchedAt how place old (Refused status) new → MayDispatch how client old new
may-refused how client place old new status found at world shows =
    inr (dispatch-refused how client place old new [] (declined_line client status ∷ []) status found at refl world shows).0

pub may-given : (how : How) (client place : ℕ) (old new : List Seen) (taken : List Numbered) → StandsAt client place old → IsDispatchedAt how place old (Given taken) new → MayDispatch how client old new
may-given how client place old new taken found at world shows =
    inr (dispatch-given how client place old new [] (lines_for client taken) (lines_for client taken ++ dispatched_line client (length taken) ∷ []) taken found at refl refl world shows).0

-- the agents of a world whose agents, clients and places are the same
pub agents-as : (world other : World) (seen : List Seen) → other.places ≡ world.places → other.agents ≡ world.agents → other.clients ≡ world.clients → ShowsAgents world seen → ShowsAgents other seen
agents-as world other seen places agents clients shows =
    let A : ℕ → (ℕ → Agent) → List ℕ → Type 0 = λ p a c. ShowsAgents (record world { places = p; agents = a; clients = c }) seen in
    let start : A world.places world.agents world.clients = record { shown = shows.shown; rising = shows.rising; listed = shows.listed } in
    let one : A other.places world.agents world.clients = subst (λ p. A p world.agents world.clients) (sym places) start in
    let two : A other.places other.agents world.clients = subst (λ a. A other.places a world.clients) (sym agents) one in
    let all : A other.places other.agents other.clients = subst (λ c. A other.places other.agents c) (sym clients) two in
    record { shown = all.shown; rising = all.rising; listed = all.listed }

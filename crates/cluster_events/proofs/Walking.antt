-- The walk over the kinds of a script's lines: a relation of worlds and lines that is kept by rounds, by steps of the servers and by
-- each kind of line is kept by every line.
use Rattle.std.proofs.Common.{◌≡◌, ℕ, suc, Bool, false, if◌then◌else◌, ℤ, ◌≤ℤ◌, inl, inr, true, Option, Some, None, List, [], ◌∷◌, ◌++◌, length, refl, sym, subst}
use Rattle.std.specs.List.{AllByRecursion}
use Rattle.script_lines.specs.declared.line.Line.{Line}
use Rattle.script_lines.specs.declared.line.Line.TheVariants as line
use Rattle.script_language.specs.Printing.{line_text}
use Rattle.cluster_facts.specs.Types.{Ask, Call, Status, Callback, Request, WireWhy}
use Rattle.cluster_facts.specs.Lists.{without}
use Rattle.cluster_facts.specs.Messages.{Posting, Spelled, Raw}
use Rattle.cluster_facts.specs.Service.{Plain, IsPlain}
use Rattle.cluster_facts.specs.Agents.{Agent, fed_of, call_of, refusal, dispatch_refusal, after_call, oldest, after_dispatch_all, after_dispatch_one}
use Rattle.cluster_facts.specs.History.{Hand, Empty, accepted}
use Rattle.cluster_facts.specs.World.{World, with_agent, enlisted, knows_raw, posting_at}
use Rattle.cluster_facts.specs.Facts.{IsSound}
use Rattle.cluster_facts.proofs.Clients.{oldest-append}
use Rattle.cluster_facts.proofs.Keeping.{call-new}
use Rattle.cluster_facts.proofs.Posting.{posting_at-stands}
use Rattle.cluster_events.specs.declared.lines.Roles.{Roles}
use Rattle.cluster_events.specs.declared.lines.Roles.TheVariants.{Two, Three}
use Rattle.cluster_events.specs.Lines.{Told, Posted, Injected, Declined, Refused, Stood, Listed, Shown, is_ignored, listed_roles, roles_told}
use Rattle.cluster_events.specs.declared.lines.Why.TheVariants.{Bad}
use Rattle.cluster_events.specs.Outcomes.{Outcome}
use Rattle.cluster_events.specs.ClientEvents.{inject, ask_by, ask, hand_out, dispatch_all_by, dispatch_all, dispatch_one_by, dispatch_one, set_time}
use Rattle.cluster_events.specs.Servers.{State, Servers, in_world}
use Rattle.cluster_events.specs.Events.{deliver_by, resend, step_or_refuse, push_by, list_servers, refuse}
use Rattle.cluster_events.specs.Serving.{IsSteady, IsServing, IsCarried, IsStepped, AreStepped}
use Rattle.cluster_events.specs.Running.{Shelf, listed, shown, show_by, Happens}
use Rattle.cluster_events.proofs.Sound.{inject-sound, ask-sound, dispatch_all-sound, dispatch_one-sound, set_time-sound}
use Rattle.cluster_events.proofs.Carrying.{posted-unknown, delivered-goes, resend-goes, post_all-goes, held-made, rounds-carry}

-- what a line is to the clients: it sets the time, asks a client's agent for a call, has it hand out callbacks, or is another line
pub data Kind : Type 0 where
  Times : (now : ℤ) → Kind
  Asks : (client : ℕ) (asked : Ask) → Kind
  Dispatches : (client : ℕ) → Kind
  Others : Kind

abbrev pub kind_of : Line → Kind
kind_of (line.Time now) = Times now
kind_of (line.Log client asked) = Asks client asked
kind_of (line.Ntf client asked) = Asks client asked
kind_of (line.DispatchOne client) = Dispatches client
kind_of (line.DispatchAll client workers) = Dispatches client
kind_of _ = Others

-- a line that shows what stands, or that an event is refused
abbrev pub IsShow : Told → Type 0
IsShow (Refused text standing) = Unit {0}
IsShow (Stood server role) = Unit {0}
IsShow (Listed name count) = Unit {0}
IsShow (Shown text) = Unit {0}
IsShow _ = ⊥

roles-show : (roles : Roles) → AllByRecursion IsShow (roles_told (listed_roles roles) [])
roles-show (Two a b) = (tt, (tt, tt))
roles-show (Three a b c) = (tt, (tt, (tt, tt)))

-- an agent handed out these callbacks, and is otherwise as it was
pub record HandsOut (callbacks : List Callback) (old new : Agent) : Type 0 where
  pub handed : new.handed ≡ callbacks ++ old.handed
  pub fed : fed_of new ≡ fed_of old
  pub next : new.next ≡ old.next
  pub kept : new.kept ≡ old.kept
  pub marks : new.marks ≡ old.marks

-- a relation between the worlds before and after a line of a kind and what the line tells
abbrev pub ByKind : Type 1
ByKind = Kind → World → World → List Told → Type 0

-- what is asked of it by the lines themselves
pub record IsByKind (plain : Plain) (R : ByKind) : Type 0 where
  pub time : (now : ℤ) (world : World) → IsSound plain world → world.now ≤ℤ now → R (Times now) world (record world { now = now }) []
  pub declined : (client : ℕ) (asked : Ask) (status : Status) (world : World) → IsSound plain world → refusal asked (world.agents client) ≡ Some status → R (Asks client asked) world world (Declined client status ∷ [])
  pub asked : (client : ℕ) (asked : Ask) (world : World) → IsSound plain world → refusal asked (world.agents client) ≡ None → R (Asks client asked) world (record world { net = Spelled (Request client (world.agents client).next (call_of asked)) ∷ world.net; agents = with_agent client (after_call (call_of asked) (world.agents client)) world.agents; clients = enlisted client world.clients }) (Posted (suc (length world.net)) (Request client (world.agents client).next (call_of asked)) ∷ [])
  pub refused : (client : ℕ) (status : Status) (world : World) → IsSound plain world → dispatch_refusal (world.agents client) ≡ Some status → R (Dispatches client) world world (Declined client status ∷ [])
  pub handed : (client : ℕ) (callbacks : List Callback) (after : Agent) (world : World) → IsSound plain world → dispatch_refusal (world.agents client) ≡ None → HandsOut callbacks (world.agents client) after → R (Dispatches client) world (hand_out client callbacks after world).state (hand_out client callbacks after world).told
  pub injected : (bytes : List ℕ) (front : ℕ) (why : WireWhy) (world : World) → IsSound plain world → R Others world (record world { net = Raw bytes front why ∷ world.net }) (Injected (suc (length world.net)) bytes front why ∷ [])
  pub shows : (world : World) (line : Told) → IsShow line → R Others world world (line ∷ [])
  -- lines on messages without effect may be left out
  pub printed : (old new : World) (told : List Told) → R Others old new told → R Others old new (without is_ignored told)

-- Files that are shown.

listed-shows : (files : List (List ℕ × ℕ)) (told : List Told) → AllByRecursion IsShow told → AllByRecursion IsShow (listed files told)
listed-shows [] told shows = shows
listed-shows (file ∷ files) told shows = listed-shows files (Listed file.0 file.1 ∷ told) (tt, shows)

shown-shows : (texts : List (List ℕ)) (told : List Told) → AllByRecursion IsShow told → AllByRecursion IsShow (shown texts told)
shown-shows [] told shows = shows
shown-shows (text ∷ texts) told shows = shown-shows texts (Shown text ∷ told) (tt, shows)

-- What the clients' events leave as it is.

ask_by-core : (plain : Plain) (client : ℕ) (call : Call) (status : Option Status) (world : World) → (ask_by plain client call status world).state.core ≡ world.core
ask_by-core plain client call (Some status) world = refl
ask_by-core plain client call None world = refl

dispatch_all-core : (client : ℕ) (status : Option Status) (world : World) → (dispatch_all_by client status world).state.core ≡ world.core
dispatch_all-core client (Some status) world = refl
dispatch_all-core client None world = refl

dispatch_one-core : (client : ℕ) (status : Option Status) (world : World) → (dispatch_one_by client status world).state.core ≡ world.core
dispatch_one-core client (Some status) world = refl
dispatch_one-core client None world = refl

-- Each line of a script.

module _ {P : Type 0} (plain : Plain) (is_plain : IsPlain plain) (shelf : Shelf) (servers : Servers P) (Good : State P → Type 0) (serving : IsServing plain servers Good) (R : ByKind) (carried : IsCarried plain servers Good (R Others)) (stepped : AreStepped plain servers Good (R Others)) (by_kind : IsByKind plain R) where
  abbrev Walks : Kind → State P → Outcome (State P) → Type 0
  Walks kind state outcome = IsSteady plain Good outcome.state × R kind state.world outcome.state.world outcome.told

  world-walks : (kind : Kind) (event : World → Outcome World) (state : State P) → IsSteady plain Good state → IsSound plain (event state.world).state → (event state.world).state.core ≡ state.world.core → R kind state.world (event state.world).state (event state.world).told → Walks kind state (in_world event state)
  world-walks kind event state steady sound core goes = (record { sound = sound; good = serving.front state (event state.world).state core steady.good }, goes)

  shows-walk : (world : World) (told : List Told) → AllByRecursion IsShow told → R Others world world told
  shows-walk world [] shows = carried.same world
  shows-walk world (line ∷ told) shows =
      carried.both world world world told (line ∷ []) (shows-walk world told shows.1) (by_kind.shows world line shows.0)

  showing-walks : (state : State P) (told : List Told) → IsSteady plain Good state → AllByRecursion IsShow told → Walks Others state (record { state = state; told = told })
  showing-walks state told steady shows = (steady, shows-walk state.world told shows)

  refuse-walks : (state : State P) (line : Line) → IsSteady plain Good state → Walks Others state (refuse servers line state)
  refuse-walks state line steady = showing-walks state (Refused (line_text line) (servers.standing state) ∷ []) steady (tt, tt)

  step-walks : (line : Line) (step : State P → Option (Outcome (State P))) → IsStepped plain Good (R Others) step → (found : Option (Outcome (State P))) (state : State P) → step state ≡ found → IsSteady plain Good state → Walks Others state (step_or_refuse servers line found state)
  step-walks line step steps None state is steady = refuse-walks state line steady
  step-walks line step steps (Some outcome) state is steady = steps.steps state outcome is steady

  ask_by-walks : (client : ℕ) (asked : Ask) (status : Option Status) (world : World) → refusal asked (world.agents client) ≡ status → IsSound plain world → R (Asks client asked) world (ask_by plain client (call_of asked) status world).state (ask_by plain client (call_of asked) status world).told
  ask_by-walks client asked (Some status) world is sound = by_kind.declined client asked status world sound is
  ask_by-walks client asked None world is sound =
      let call = call_of asked in
      let request = Request client (world.agents client).next call in
      let unknown = posted-unknown plain request world.net (call-new plain is_plain world.now (accepted world.core) world.core.answered world.net world.agents client call sound.facts) in
      let after = with_agent client (after_call call (world.agents client)) world.agents in
      let G : Bool → Type 0 = λ b. R (Asks client asked) world (record world { net = if b then world.net else Spelled request ∷ world.net; agents = after; clients = enlisted client world.clients }) (if b then [] else Posted (suc (length world.net)) request ∷ []) in
      subst G (sym unknown) (by_kind.asked client asked world sound is)

  ask-walks : (client : ℕ) (asked : Ask) (state : State P) → IsSteady plain Good state → Walks (Asks client asked) state (in_world (ask plain client asked) state)
  ask-walks client asked state steady =
      let status = refusal asked (state.world.agents client) in
      world-walks (Asks client asked) (ask plain client asked) state steady (ask-sound plain is_plain client asked state.world steady.sound) (ask_by-core plain client (call_of asked) status state.world) (ask_by-walks client asked status state.world refl steady.sound)

  one-walks : (client : ℕ) (status : Option Status) (world : World) → dispatch_refusal (world.agents client) ≡ status → IsSound plain world → R (Dispatches client) world (dispatch_one_by client status world).state (dispatch_one_by client status world).told
  one-walks client (Some status) world is sound = by_kind.refused client status world sound is
  one-walks client None world is sound =
      let agent = world.agents client in
      by_kind.handed client (oldest agent.queue) (after_dispatch_one agent) world sound is (record { handed = refl; fed = oldest-append agent.queue agent.handed; next = refl; kept = refl; marks = refl })

  all-walks : (client : ℕ) (status : Option Status) (world : World) → dispatch_refusal (world.agents client) ≡ status → IsSound plain world → R (Dispatches client) world (dispatch_all_by client status world).state (dispatch_all_by client status world).told
  all-walks client (Some status) world is sound = by_kind.refused client status world sound is
  all-walks client None world is sound =
      let agent = world.agents client in
      by_kind.handed client agent.queue (after_dispatch_all agent) world sound is (record { handed = refl; fed = refl; next = refl; kept = refl; marks = refl })

  deliver_by-walks : (place : ℕ) (found : Option Posting) (state : State P) → posting_at place state.world.net ≡ found → IsSteady plain Good state → Walks Others state (deliver_by plain servers place found state)
  deliver_by-walks place None state is steady = refuse-walks state (line.Deliver place) steady
  deliver_by-walks place (Some (Raw bytes front why)) state is steady =
      (steady, carried.ignored state.world place (Bad front why))
  deliver_by-walks place (Some (Spelled message)) state is steady =
      let goes = delivered-goes plain is_plain servers Good serving (R Others) carried place message state (posting_at-stands place state.world.net message is) steady in
      (goes.holds, goes.carried)

  inject-goes : (bytes : List ℕ) (front : ℕ) (why : WireWhy) (world : World) → IsSound plain world → R Others world (inject bytes front why world).state (inject bytes front why world).told
  inject-goes bytes front why world sound =
      elim (knows_raw bytes world.net) as (λ b. R Others world (record world { net = if b then world.net else Raw bytes front why ∷ world.net }) (if b then [] else Injected (suc (length world.net)) bytes front why ∷ [])) [
        | true ↦ carried.same world
        | false ↦ by_kind.injected bytes front why world sound
      ]

  inject-walks : (bytes : List ℕ) (front : ℕ) (why : WireWhy) (state : State P) → IsSteady plain Good state → Walks Others state (in_world (inject bytes front why) state)
  inject-walks bytes front why state steady =
      world-walks Others (inject bytes front why) state steady (inject-sound plain bytes front why state.world steady.sound) refl (inject-goes bytes front why state.world steady.sound)

  push_by-walks : (hand : Hand) (state : State P) → state.world.core.hand ≡ hand → IsSteady plain Good state → Walks Others state (push_by plain servers hand state)
  push_by-walks Empty state is steady =
      let goes = post_all-goes plain is_plain servers Good serving (R Others) carried (plain.held state.world.core.answered) state (record { steady = steady; empty = is }) (held-made plain is_plain state.world.core.answered) in
      (goes.holds.steady, goes.carried)
  push_by-walks _ state is steady = refuse-walks state line.Push steady

  show_by-walks : (name : List ℕ) (found : Option (List (List ℕ))) (state : State P) → IsSteady plain Good state → Walks Others state (show_by servers name found state)
  show_by-walks name None state steady = refuse-walks state (line.Cat name) steady
  show_by-walks name (Some texts) state steady = showing-walks state (shown texts []) steady (shown-shows texts [] tt)

  -- **every line keeps the facts, and the relation of its kind**
  pub line-walks : (next : Line) (state : State P) (outcome : Outcome (State P)) → IsSteady plain Good state → Happens plain shelf servers next state outcome → Walks (kind_of next) state outcome
  line-walks (line.Time now) state outcome steady happens =
      subst (Walks (Times now) state) (sym happens.1) (world-walks (Times now) (set_time now) state steady (set_time-sound plain now state.world happens.0 steady.sound) refl (by_kind.time now state.world steady.sound happens.0))
  line-walks (line.Log client asked) state outcome steady happens =
      subst (Walks (Asks client asked) state) (sym happens) (ask-walks client asked state steady)
  line-walks (line.Ntf client asked) state outcome steady happens =
      subst (Walks (Asks client asked) state) (sym happens) (ask-walks client asked state steady)
  line-walks (line.Deliver place) state outcome steady happens =
      subst (Walks Others state) (sym happens) (deliver_by-walks place (posting_at place state.world.net) state refl steady)
  line-walks (line.Resend client) state outcome steady happens =
      let goes = resend-goes plain is_plain servers Good serving (R Others) carried client state steady in
      let walks : Walks Others state (resend plain servers client state) = (goes.holds, goes.carried) in
      subst (Walks Others state) (sym happens) walks
  line-walks line.Mirror state outcome steady happens =
      subst (Walks Others state) (sym happens) (step-walks line.Mirror servers.mirror stepped.mirror (servers.mirror state) state refl steady)
  line-walks line.Ack state outcome steady happens =
      subst (Walks Others state) (sym happens) (step-walks line.Ack servers.ack stepped.ack (servers.ack state) state refl steady)
  line-walks line.Work state outcome steady happens =
      subst (Walks Others state) (sym happens) (step-walks line.Work servers.work stepped.work (servers.work state) state refl steady)
  line-walks line.Push state outcome steady happens =
      subst (Walks Others state) (sym happens) (push_by-walks state.world.core.hand state refl steady)
  line-walks (line.Inject bytes) state outcome steady happens =
      elim happens [
        | inl refuses ↦ subst (Walks Others state) (sym refuses.is) (refuse-walks state (line.Inject bytes) steady)
        | inr injects ↦ subst (Walks Others state) (sym injects.is) (inject-walks bytes injects.front injects.why state steady)
      ]
  line-walks line.Settle state outcome steady happens =
      let goes = rounds-carry plain is_plain servers Good serving (R Others) carried state steady happens.rounds in
      let T : List Told → Type 0 = λ told. R Others state.world outcome.state.world told in
      (goes.holds, subst T (sym happens.printed) (by_kind.printed state.world outcome.state.world happens.lines goes.carried))
  line-walks (line.DispatchOne client) state outcome steady happens =
      let status = dispatch_refusal (state.world.agents client) in
      subst (Walks (Dispatches client) state) (sym happens) (world-walks (Dispatches client) (dispatch_one client) state steady (dispatch_one-sound plain client state.world steady.sound) (dispatch_one-core client status state.world) (one-walks client status state.world refl steady.sound))
  line-walks (line.DispatchAll client workers) state outcome steady happens =
      let status = dispatch_refusal (state.world.agents client) in
      subst (Walks (Dispatches client) state) (sym happens) (world-walks (Dispatches client) (dispatch_all client) state steady (dispatch_all-sound plain client state.world steady.sound) (dispatch_all-core client status state.world) (all-walks client status state.world refl steady.sound))
  line-walks line.Servers state outcome steady happens =
      subst (Walks Others state) (sym happens) (showing-walks state (list_servers servers state).told steady (roles-show (servers.standing state).roles))
  line-walks line.Files state outcome steady happens =
      subst (Walks Others state) (sym happens) (showing-walks state (listed (shelf.listing state.world.core.answered) []) steady (listed-shows (shelf.listing state.world.core.answered) [] tt))
  line-walks (line.Cat name) state outcome steady happens =
      subst (Walks Others state) (sym happens) (show_by-walks name (shelf.text name state.world.core.answered) state steady)
  line-walks _ state outcome steady happens = elim happens [ ]

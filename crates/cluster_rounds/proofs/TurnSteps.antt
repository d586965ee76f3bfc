-- What a drain, turns and a round come to, and where they end.
use Rattle.std.proofs.Common.{◌≡◌, ℕ, zero, suc, ◌+◌, ◌-◌, ◌<◌, ◌≤◌, inl, inr, Bool, true, false, ◌||◌, nat_lt, if◌then◌else◌, Option, Some, None, List, [], ◌∷◌, ◌++◌, length, get_or, take, refl, ap, sym, ◌∙◌, subst, append_assoc, append-nil, arith}
use Rattle.std.specs.List.{AllByRecursion}
use Rattle.disk_model.specs.declared.answers.DiskAnswer.{DiskAnswer}
use Rattle.disk_model.specs.declared.answers.DiskAnswer.TheVariants.{Memory}
use Rattle.plain_service.specs.Setups.{Setup}
use Rattle.service_laws.specs.PlainOf.{plain_of}
use Rattle.service_laws.proofs.ServiceLaws.{is_plain}
use Rattle.cluster_facts.specs.Types.{Message}
use Rattle.cluster_facts.specs.Lists.{Stands}
use Rattle.cluster_facts.specs.Agents.{Agent, fresh, resent}
use Rattle.cluster_facts.specs.Messages.{messages_in}
use Rattle.cluster_facts.specs.World.{number_of}
use Rattle.cluster_events.specs.Lines.{Told}
use Rattle.cluster_events.specs.Outcomes.{Outcome, quietly, and_then, for_each, behind}
use Rattle.cluster_events.specs.Servers.{State, in_world, after_step, advance, advances, drain}
use Rattle.cluster_events.specs.Events.{hear}
use Rattle.cluster_events.specs.Serving.{IsSteady}
use Rattle.cluster_events.specs.Settling.{take_answer, turn, client_turns, take_pushed}
use Rattle.cluster_events.specs.Ending.{EndsBehind, DrainEnds, TurnEnds, ClientEnds, EachEnds, Here, Later}
use Rattle.cluster_events.proofs.Carrying.{resent-posted, take_answer-goes, push_round-goes}
use Rattle.cluster_events.proofs.Devices.{comes-alone, advances-more, advances-stuck, hear-same, push-same}
use Rattle.cluster_rounds.specs.declared.cluster.Cluster.{Cluster}
use Rattle.cluster_clients.specs.Clients.{IsAbsent}
use Rattle.cluster_clients.proofs.DispatchSteps.{fresh-agent}
use Rattle.cluster_clients.proofs.ListSteps.{All-take}
use Rattle.cluster_rounds.specs.Broken.{BreaksAloneIf}
use Rattle.cluster_rounds.specs.Came.{Advances, Comes, ComesOff}
use Rattle.cluster_rounds.specs.Kits.{IsKit, Kit, calm_servers, device_by, servers_at}
use Rattle.cluster_rounds.specs.Resting.Rests.{begun}
use Rattle.cluster_rounds.specs.PartlyDone.{SaysUnasked}
use Rattle.cluster_rounds.specs.Rounds.{EndsClient, EndsClients, EndsDrain, EndsEach, EndsRound, EndsStep, EndsTurn, EndsTurns, EventOver, IsIdleWithAll, IsIdleWithItems, Plays, advances_by, answer_taken, client_by, clients_by, drain_by, each_by, heard_so, items_taken, round_by, round_pushed, turn_by, turns_by}
use Rattle.cluster_rounds.specs.Worlds.{pushed, DoesIf, HasStateOn, IsGood, IsIdle, Pushes, Shows, StandsIn, any_state, heard_by}
use Rattle.cluster_rounds.proofs.ArmedSteps.{hear-keeps, hear-rests, pushed-keep, pushes-keep, pushes-rest, takes-keep, takes-rest}
use Rattle.cluster_rounds.proofs.BrokenSteps.{armed-shown, happened-broken, left-between, whole-broken}
use Rattle.cluster_rounds.proofs.CameSteps.{EndsBy, Follows, Joins, Leads, LeadsBy, alone-after, came-as, comes-after, off-after, off-as, on-after, plays-come}
use Rattle.cluster_rounds.proofs.KitSteps.{at-steps, at-unasked, calm-serves, calm-unasked}
use Rattle.cluster_rounds.proofs.RoundSteps.{All-at, at-rest, clients-go, drain-go, for_each-more, hear-go, hear-plays, items-go, played-nothing, push-go, pushed-items, pushed-plays, turns-go}

-- events for some elements, and then that of the next ends
each-ends : {P X : Type 0} (event : X → State P → Outcome (State P)) (Ends : X → State P → Outcome (State P) → Type 0) (xs : List X) (index : ℕ) (x : X) (state : State P) (stop : Outcome (State P)) → index < length xs → x ≡ get_or xs index x → Ends x (for_each event (take index xs) state).state stop → EachEnds event Ends xs state (behind (for_each event (take index xs) state) stop)
each-ends event Ends [] index x state stop below is ends = absurd (omega arith)
each-ends {P} event Ends (first ∷ xs) zero x state stop below is ends =
    let E : List Told → Type 0 = λ told. EachEnds event Ends (first ∷ xs) state (record { state = stop.state; told = told }) in
    let here : E stop.told = Here (subst (λ y. Ends y state stop) is ends) in
    subst E (sym (append-nil stop.told)) here
each-ends {P} event Ends (first ∷ xs) (suc index) x state stop below is ends =
    let next = event first state in
    let rest = for_each event (take index xs) next.state in
    let E : List Told → Type 0 = λ told. EachEnds event Ends (first ∷ xs) state (record { state = stop.state; told = told }) in
    let later : E ((stop.told ++ rest.told) ++ next.told) = Later (each-ends event Ends xs index x next.state stop (omega arith) is ends) in
    subst E (append_assoc stop.told rest.told next.told) later

module _ {Peers Group : Type 0} (kit : Kit Peers Group) (laws : IsKit kit) where
  -- servers hear alike whichever works fail
  heard-alike : (message : Message) (setup : Setup) (fails : ℕ → ℕ) (state : State Peers) → (heard_so kit) message setup state ≡ hear (plain_of setup) (servers_at kit setup fails) (number_of (plain_of setup) message state.world.net) message state
  heard-alike message setup fails state =
      let plain = plain_of setup in
      hear-same plain (calm_servers kit setup) (servers_at kit setup fails) (laws.alike plain (device_by setup (λ number. 0)) (device_by setup fails)) (number_of plain message state.world.net) message state

  -- What events lead to.

  pub hear-leads : (message : Message) → (Leads kit laws) (StandsIn message) (StandsIn message) ((heard_so kit) message)
  hear-leads message setup state good stands =
      let goes = (hear-go kit laws) setup message state good stands in
      (goes.stays.net message stands, goes.carried)

  drain-leads : (LeadsBy kit laws) any_state IsIdle (drain_by kit)
  drain-leads setup fails state good so =
      let goes = (drain-go kit laws) setup fails state good.steady in
      (goes.holds.empty, goes.carried)

  drain-keeps : (message : Message) → (LeadsBy kit laws) (StandsIn message) (StandsIn message) (drain_by kit)
  drain-keeps message setup fails state good stands =
      let goes = (drain-go kit laws) setup fails state good.steady in
      (goes.stays.net message stands, goes.carried)

  pub turns-lead : (messages : List Message) (index : ℕ) (message : Message) → index < length messages → message ≡ get_or messages index message → (LeadsBy kit laws) (IsIdleWithAll messages) (StandsIn message) ((turns_by kit) (take index messages))
  turns-lead messages index message below is setup fails state good so =
      let goes = (turns-go kit laws) setup fails (take index messages) state ((at-rest kit laws) setup state good so.0) (All-take (λ m. Stands m (messages_in state.world.net)) index messages so.1) in
      (goes.stays.net message ((All-at kit laws) (λ m. Stands m (messages_in state.world.net)) index messages message so.1 below is), goes.carried)

  pub clients-lead : (clients : List ℕ) → (LeadsBy kit laws) IsIdle IsIdle ((clients_by kit) clients)
  clients-lead clients setup fails state good idle =
      let goes = (clients-go kit laws) setup fails clients state ((at-rest kit laws) setup state good idle) in
      (goes.holds.empty, goes.carried)

  each-leads : (LeadsBy kit laws) IsIdle IsIdle (each_by kit)
  each-leads setup fails state good idle = clients-lead state.world.clients setup fails state good idle

  pub items-lead : (items : List Message) (index : ℕ) (item : Message) → index < length items → item ≡ get_or items index item → (Leads kit laws) (IsIdleWithItems items) (StandsIn item) ((items_taken kit) (take index items))
  items-lead items index item below is setup state good so =
      let goes = (items-go kit laws) setup (take index items) state ((at-rest kit laws) setup state good so.0.0) (All-take (λ m. Stands m (messages_in state.world.net)) index items so.0.1) in
      (goes.stays.net item ((All-at kit laws) (λ m. Stands m (messages_in state.world.net)) index items item so.0.1 below is), goes.carried)

  takes-lead : (message : Message) → (Leads kit laws) any_state any_state ((answer_taken kit) message)
  takes-lead message setup state good so =
      let plain = plain_of setup in
      (tt, (take_answer-goes plain (is_plain setup) (calm_servers kit setup) kit.Good ((calm-serves kit laws) setup) (SaysUnasked plain) ((calm-unasked kit laws) setup) message state.world good.steady.sound).carried)

  pushes-lead : (Leads kit laws) IsIdle any_state (round_pushed kit)
  pushes-lead setup state good idle =
      let plain = plain_of setup in
      (tt, (push_round-goes plain (is_plain setup) (calm_servers kit setup) kit.Good ((calm-serves kit laws) setup) (SaysUnasked plain) ((calm-unasked kit laws) setup) state ((at-rest kit laws) setup state good idle)).carried)

  -- A message that is heard.

  -- memory ran out for the lines of a message that was heard
  pub hear-untold : (message : Message) (old new : Cluster Group) (part : List (List ℕ)) → (DoesIf kit) (StandsIn message) ((heard_by kit) 0 message) old new [] part → (BreaksAloneIf kit) (StandsIn message) old new
  hear-untold message old new part does held setup state good shows stands =
      let b = nat_lt (length old.history.entries) (length new.history.entries) || nat_lt (length old.net) (length new.net) in
      let after : List (List ℕ) = if b then [] ++ part else [] in
      let outcome = (heard_so kit) message setup state in
      let played = (hear-plays kit laws) message old new [] part after does refl held setup state good shows stands in
      (whole-broken kit laws) setup state outcome.state outcome.told held held new played.good.steady.sound (hear-leads message setup state good stands).1 played.shows.net played.shows.agents played.shows.history played.shows.now (λ armed. (armed-shown kit laws) setup outcome.state held new played.shows ((hear-keeps kit laws) message setup state held armed)) (λ tells. (left-between kit laws) setup outcome.state held held played.good (played.files tells))

  -- Items.

  pub push-lacks : (items : List Message) (old middle new : Cluster Group) (before between : List (List ℕ)) → (Pushes kit) items old middle before between → (BreaksAloneIf kit) (IsIdleWithItems items) middle new → (BreaksAloneIf kit) IsIdle old new
  push-lacks items old middle new before between pushes breaks held setup state good shows idle =
      let outcome = (pushed kit) setup state in
      let played = (pushed-plays kit laws) items old middle before between pushes held setup state good shows idle in
      let says = ((push-go kit laws) setup state ((at-rest kit laws) setup state good idle)).carried in
      (happened-broken kit laws) setup state outcome.state outcome.told held held held new says ((pushed-keep kit laws) setup state held) played.files
      (breaks held setup outcome.state played.good played.shows ((pushed-items kit laws) items setup state good idle (pushes setup state good shows idle).1))

  -- A drain.

  step-leads : (setup : Setup) (fails : ℕ → ℕ) (steps : ℕ) (state : State Peers) (next : Option (Outcome (State Peers))) → advance (servers_at kit setup fails) state ≡ next → IsSteady (plain_of setup) kit.Good state → ((now : State Peers) → IsSteady (plain_of setup) kit.Good now → SaysUnasked (plain_of setup) now.world ((advances_by kit) steps setup fails now).state.world ((advances_by kit) steps setup fails now).told) → SaysUnasked (plain_of setup) state.world (after_step (advances (servers_at kit setup fails) steps) next state).state.world (after_step (advances (servers_at kit setup fails) steps) next state).told
  step-leads setup fails steps state None is steady deeper = ((at-unasked kit laws) setup fails).same state.world
  step-leads setup fails steps state (Some outcome) is steady deeper =
      let goes = (at-steps kit laws) setup fails state outcome steady is in
      let rest = advances (servers_at kit setup fails) steps outcome.state in
      ((at-unasked kit laws) setup fails).both state.world outcome.state.world rest.state.world outcome.told rest.told goes.1 (deeper outcome.state goes.0)

  steps-say : (steps : ℕ) (setup : Setup) (fails : ℕ → ℕ) (state : State Peers) → IsSteady (plain_of setup) kit.Good state → SaysUnasked (plain_of setup) state.world ((advances_by kit) steps setup fails state).state.world ((advances_by kit) steps setup fails state).told
  steps-say zero setup fails state steady = ((at-unasked kit laws) setup fails).same state.world
  steps-say (suc steps) setup fails state steady =
      step-leads setup fails steps state (advance (servers_at kit setup fails) state) refl steady (λ now so. steps-say steps setup fails now so)

  steps-lead : (steps : ℕ) → (LeadsBy kit laws) any_state any_state ((advances_by kit) steps)
  steps-lead steps setup fails state good so = (tt, steps-say steps setup fails state good.steady)

  -- no step was made yet
  pub steps-begin : (world : Cluster Group) (lines : List (List ℕ)) (disk : kit.Seen) → (Comes kit) any_state ((advances_by kit) 0) world world lines lines false disk disk
  steps-begin world lines disk setup state good shows counted so = record {
    happened = λ number. 0;
    outcome = quietly state;
    comes = comes-alone quietly (λ number. 0) state (omega arith);
    uses = laws.unused setup state (quietly state) disk begun;
    played = (played-nothing kit laws) setup state world lines disk good shows;
    count = counted;
  }

  -- one more step
  pub steps-further : (steps next : ℕ) (old now new : Cluster Group) (before between after : List (List ℕ)) (a : Bool) (held told left : kit.Seen) → next ≡ suc steps → (Comes kit) any_state ((advances_by kit) steps) old now before between a held told → (Advances kit) true now new between after told left → (Comes kit) any_state ((advances_by kit) next) old new before after (a || nat_lt (length now.history.entries) (length new.history.entries)) held left
  steps-further steps next old now new before between after a held told left is so_far more =
      let joins : (Joins kit laws) any_state ((advances_by kit) steps) ((advances_by kit) 1) ((advances_by kit) next) = λ setup fails state good so. sym (ap (λ count. advances (servers_at kit setup fails) count state) is ∙ advances-more (servers_at kit setup fails) steps state) in
      (comes-after kit laws) any_state any_state ((advances_by kit) steps) ((advances_by kit) 1) ((advances_by kit) next) old now new before between after a (nat_lt (length now.history.entries) (length new.history.entries)) held told left joins (steps-lead steps) so_far more

  -- the state for one more
  pub steps-on : (steps : ℕ) (old now : Cluster Group) (before between : List (List ℕ)) (a : Bool) (held told : kit.Seen) → (HasStateOn kit) any_state old held → (Comes kit) any_state ((advances_by kit) steps) old now before between a held told → (HasStateOn kit) any_state now told
  steps-on steps old now before between a held told has comes =
      (on-after kit laws) any_state any_state ((advances_by kit) steps) old now before between a held told (steps-lead steps) has comes

  -- all steps are a drain
  pub steps-drain : (steps : ℕ) (old now : Cluster Group) (before between : List (List ℕ)) (a : Bool) (held told : kit.Seen) → steps ≡ kit.steps → (Comes kit) any_state ((advances_by kit) steps) old now before between a held told → (Comes kit) any_state (drain_by kit) old now before between a held told
  steps-drain steps old now before between a held told is comes setup state good shows counted so =
      (came-as kit laws) setup state ((advances_by kit) steps setup) ((drain_by kit) setup) now before between a held told (λ fails. ap (λ count. advances (servers_at kit setup fails) count state) (is ∙ sym (laws.steps (plain_of setup) (device_by setup fails)))) (comes setup state good shows counted so)

  -- so are fewer where no step is left
  steps-stuck : (steps : ℕ) (old now : Cluster Group) (before between : List (List ℕ)) (a : Bool) (held told : kit.Seen) → steps ≤ kit.steps → ((setup : Setup) (fails : ℕ → ℕ) (state : State Peers) → (IsGood kit) setup state → (Shows kit) setup state now → advance (servers_at kit setup fails) state ≡ None) → (Comes kit) any_state ((advances_by kit) steps) old now before between a held told → (Comes kit) any_state (drain_by kit) old now before between a held told
  steps-stuck steps old now before between a held told within none comes setup state good shows counted so =
      let came = comes setup state good shows counted so in
      record {
        happened = came.happened;
        outcome = came.outcome;
        comes = record {
          later = came.comes.later;
          is = λ fails agrees.
              let servers = servers_at kit setup fails in
              let same = came.comes.is fails agrees in
              let stuck : advance servers (advances servers steps state).state ≡ None = ap (λ (o : Outcome (State Peers)). advance servers o.state) same ∙ none setup fails came.outcome.state came.played.good came.played.shows in
              let all : (servers_at kit setup fails).steps ≡ kit.steps = laws.steps (plain_of setup) (device_by setup fails) in
              let count : (servers_at kit setup fails).steps ≡ steps + (kit.steps - steps) = omega arith in
              advances-stuck servers steps (servers_at kit setup fails).steps (kit.steps - steps) state count stuck ∙ same;
        };
        uses = came.uses;
        played = came.played;
        count = came.count;
      }

  pub steps-over : (steps : ℕ) (old now new : Cluster Group) (before between after : List (List ℕ)) (a : Bool) (held told left : kit.Seen) → steps ≤ kit.steps → (Comes kit) any_state ((advances_by kit) steps) old now before between a held told → (Advances kit) false now new between after told left → (Comes kit) any_state (drain_by kit) old new before after a held left
  steps-over steps old now new before between after a held told left within comes stuck =
      let D : kit.Seen → Type 0 = λ disk. (Comes kit) any_state (drain_by kit) old now before between a held disk in
      let L : List (List ℕ) → Type 0 = λ lines. (Comes kit) any_state (drain_by kit) old now before lines a held left in
      let W : Cluster Group → Type 0 = λ world. (Comes kit) any_state (drain_by kit) old world before after a held left in
      subst W (sym stuck.0) (subst L (sym stuck.1) (subst D (sym stuck.2) (steps-stuck steps old now before between a held told within stuck.3 comes)))

  -- a drain ends in the next step
  pub steps-off : (steps : ℕ) (answer : DiskAnswer) (old now new : Cluster Group) (before between after : List (List ℕ)) (a : Bool) (held told left : kit.Seen) → steps < kit.steps → (Comes kit) any_state ((advances_by kit) steps) old now before between a held told → (ComesOff kit) any_state (EndsStep kit) answer now new between after told left → (ComesOff kit) any_state (EndsDrain kit) answer old new before after held left
  steps-off steps answer old now new before between after a held told left within comes off =
      let ends : (EndsBy kit laws) any_state ((advances_by kit) steps) (EndsStep kit) (EndsDrain kit) = λ answer setup fails state good so stop inner.
      let all : (servers_at kit setup fails).steps ≡ kit.steps = laws.steps (plain_of setup) (device_by setup fails) in
      record { steps = steps; within = omega arith; ends = record { last = stop; ends = inner; is = refl } }
      in
      (off-after kit laws) any_state any_state (EndsStep kit) (EndsDrain kit) ((advances_by kit) steps) answer old now new before between after a held told left ends (steps-lead steps) comes off

  -- A turn.

  -- a message is heard and the servers drain
  abbrev hear_drain : Message → (EventOver kit)
  hear_drain message setup fails state = and_then ((heard_so kit) message setup state) (drain (servers_at kit setup fails))

  hear_drain-leads : (message : Message) → (LeadsBy kit laws) (StandsIn message) any_state (hear_drain message)
  hear_drain-leads message setup fails state good stands =
      let heard = (heard_so kit) message setup state in
      let hears = (hear-go kit laws) setup message state good stands in
      let drains = ((drain-go kit laws) setup fails heard.state hears.holds).carried in
      (tt, ((at-unasked kit laws) setup fails).both state.world heard.state.world (drain (servers_at kit setup fails) heard.state).state.world heard.told (drain (servers_at kit setup fails) heard.state).told hears.carried drains)

  pub turn-comes : (message : Message) (old one two new : Cluster Group) (before first second after : List (List ℕ)) (a b c : Bool) (held left : kit.Seen) → (Plays kit) (StandsIn message) ((heard_so kit) message) old one before first a → (Comes kit) any_state (drain_by kit) one two first second b held left → (Plays kit) any_state ((answer_taken kit) message) two new second after c → (Comes kit) (StandsIn message) ((turn_by kit) message) old new before after ((a || b) || c) held left
  turn-comes message old one two new before first second after a b c held left hears drains takes =
      let heard = (plays-come kit laws) (StandsIn message) (StandsIn message) ((heard_so kit) message) old one before first a held (hear-leads message) ((hear-keeps kit laws) message) ((hear-rests kit laws) message) hears in
      let both = (comes-after kit laws) (StandsIn message) any_state (λ setup fails. (heard_so kit) message setup) (drain_by kit) (hear_drain message) old one two before first second a b held held left (λ setup fails state good so. refl) (λ setup fails state good so. (tt, (hear-leads message setup state good so).1)) heard drains in
      let taken = (plays-come kit laws) any_state any_state ((answer_taken kit) message) two new second after c left (takes-lead message) ((takes-keep kit laws) message) ((takes-rest kit laws) message) takes in
      let joins : (Joins kit laws) (StandsIn message) (hear_drain message) (λ setup fails. (answer_taken kit) message setup) ((turn_by kit) message) = λ setup fails state good so.
      ap (λ (o : Outcome (State Peers)). and_then (and_then o (drain (servers_at kit setup fails))) (in_world (take_answer (plain_of setup) message))) (heard-alike message setup fails state)
      in
      (comes-after kit laws) (StandsIn message) any_state (hear_drain message) (λ setup fails. (answer_taken kit) message setup) ((turn_by kit) message) old two new before second after (a || b) c held left left joins (hear_drain-leads message) both taken

  -- the state for the drain, and for the reply
  pub turn-on : (message : Message) (one two : Cluster Group) (first second : List (List ℕ)) (b : Bool) (held left : kit.Seen) → (HasStateOn kit) (StandsIn message) one held → (Comes kit) any_state (drain_by kit) one two first second b held left → (HasStateOn kit) (StandsIn message) two left
  turn-on message one two first second b held left has drains =
      (on-after kit laws) (StandsIn message) (StandsIn message) (drain_by kit) one two first second b held left (drain-keeps message) has (λ setup state good shows counted so. drains setup state good shows counted tt)

  turn-ends : (message : Message) → (EndsBy kit laws) (StandsIn message) (λ setup fails. (heard_so kit) message setup) (EndsDrain kit) ((EndsTurn kit) message)
  turn-ends message answer setup fails state good so stop inner =
      let E : Outcome (State Peers) → Type 0 = λ o. EndsBehind o (DrainEnds (servers_at kit setup fails) (EndsStep kit answer setup fails)) (behind ((heard_so kit) message setup state) stop) in
      let own : E ((heard_so kit) message setup state) = record { last = stop; ends = inner; is = refl } in
      subst E (heard-alike message setup fails state) own

  pub turn-drain-off : (message : Message) (answer : DiskAnswer) (old one new : Cluster Group) (before first after : List (List ℕ)) (a : Bool) (held left : kit.Seen) → (Plays kit) (StandsIn message) ((heard_so kit) message) old one before first a → (ComesOff kit) any_state (EndsDrain kit) answer one new first after held left → (ComesOff kit) (StandsIn message) ((EndsTurn kit) message) answer old new before after held left
  turn-drain-off message answer old one new before first after a held left hears off =
      (off-after kit laws) (StandsIn message) any_state (EndsDrain kit) ((EndsTurn kit) message) (λ setup fails. (heard_so kit) message setup) answer old one new before first after a held held left (turn-ends message) (λ setup fails state good so. (tt, (hear-leads message setup state good so).1)) ((plays-come kit laws) (StandsIn message) (StandsIn message) ((heard_so kit) message) old one before first a held (hear-leads message) ((hear-keeps kit laws) message) ((hear-rests kit laws) message) hears) off

  pub turn-take-lacks : (message : Message) (old one two new : Cluster Group) (before first second after : List (List ℕ)) (a b : Bool) (held left : kit.Seen) → (Plays kit) (StandsIn message) ((heard_so kit) message) old one before first a → (Comes kit) any_state (drain_by kit) one two first second b held left → (BreaksAloneIf kit) any_state two new → (ComesOff kit) (StandsIn message) ((EndsTurn kit) message) Memory old new before after held left
  turn-take-lacks message old one two new before first second after a b held left hears drains breaks =
      let heard = (plays-come kit laws) (StandsIn message) (StandsIn message) ((heard_so kit) message) old one before first a held (hear-leads message) ((hear-keeps kit laws) message) ((hear-rests kit laws) message) hears in
      let both = (comes-after kit laws) (StandsIn message) any_state (λ setup fails. (heard_so kit) message setup) (drain_by kit) (hear_drain message) old one two before first second a b held held left (λ setup fails state good so. refl) (λ setup fails state good so. (tt, (hear-leads message setup state good so).1)) heard drains in
      (alone-after kit laws) (StandsIn message) any_state ((EndsTurn kit) message) (hear_drain message) old two new before second after (a || b) held left (hear_drain-leads message) both breaks

  -- Loops.

  -- a loop over xs has come to its index, and its next turn came
  pub loop-comes : {X : Type 0} (P : State Peers → Type 0) (Q : X → State Peers → Type 0) (event : X → (EventOver kit)) (xs : List X) (index : ℕ) (x : X) (old now new : Cluster Group) (before between after : List (List ℕ)) (a b : Bool) (held told left : kit.Seen) → (LeadsBy kit laws) P (Q x) (λ setup fails. for_each (λ y. event y setup fails) (take index xs)) → index < length xs → x ≡ get_or xs index x → (Comes kit) P (λ setup fails. for_each (λ y. event y setup fails) (take index xs)) old now before between a held told → (Comes kit) (Q x) (event x) now new between after b told left → (Comes kit) P (λ setup fails. for_each (λ y. event y setup fails) (take (index + 1) xs)) old new before after (a || b) held left
  loop-comes P Q event xs index x old now new before between after a b held told left leads below is so_far next =
      (comes-after kit laws) P (Q x) (λ setup fails. for_each (λ y. event y setup fails) (take index xs)) (event x) (λ setup fails. for_each (λ y. event y setup fails) (take (index + 1) xs)) old now new before between after a b held told left (λ setup fails state good so. (for_each-more kit laws) (λ y. event y setup fails) xs index x state below is) leads so_far next

  -- nothing was played yet
  pub loop-begins : {X : Type 0} (P : State Peers → Type 0) (event : X → (EventOver kit)) (world : Cluster Group) (lines : List (List ℕ)) (disk : kit.Seen) → (Comes kit) P (λ setup fails. for_each (λ y. event y setup fails) []) world world lines lines false disk disk
  loop-begins P event world lines disk setup state good shows counted so = steps-begin world lines disk setup state good shows counted tt

  pub turns-end : (messages : List Message) (index : ℕ) (message : Message) → index < length messages → message ≡ get_or messages index message → (EndsBy kit laws) (IsIdleWithAll messages) ((turns_by kit) (take index messages)) ((EndsTurn kit) message) ((EndsTurns kit) messages)
  turns-end messages index message below is answer setup fails state good so stop inner =
      let plain = plain_of setup in
      let servers = servers_at kit setup fails in
      each-ends (turn plain servers) (TurnEnds plain servers (EndsStep kit answer setup fails)) messages index message state stop below is inner

  pub clients-end : (clients : List ℕ) (index client : ℕ) → index < length clients → client ≡ get_or clients index client → (EndsBy kit laws) IsIdle ((clients_by kit) (take index clients)) ((EndsClient kit) client) ((EndsClients kit) clients)
  clients-end clients index client below is answer setup fails state good so stop inner =
      let plain = plain_of setup in
      let servers = servers_at kit setup fails in
      each-ends (client_turns plain servers) (ClientEnds plain servers (EndsStep kit answer setup fails)) clients index client state stop below is inner

  -- A client's messages.

  -- the messages are those that the client sends again
  abbrev pub AreResent : ℕ → List Message → Cluster Group → Type 0
  AreResent client messages world = (setup : Setup) (state : State Peers) → (Shows kit) setup state world → messages ≡ resent client (state.world.agents client)

  pub client-follows : (client : ℕ) (messages : List Message) (world : Cluster Group) → AreResent client messages world → (Follows kit laws) IsIdle (IsIdleWithAll messages) world
  client-follows client messages world are setup state good shows idle =
      (idle, subst (λ (l : List Message). AllByRecursion (λ m. Stands m (messages_in state.world.net)) l) (sym (are setup state shows)) (resent-posted (plain_of setup) client state.world good.steady.sound))

  pub client-ready : (client : ℕ) (messages : List Message) (world : Cluster Group) (disks : kit.Seen) → AreResent client messages world → (HasStateOn kit) IsIdle world disks → (HasStateOn kit) (IsIdleWithAll messages) world disks
  client-ready client messages world disks are has =
      record { setup = has.setup; state = has.state; good = has.good; shows = has.shows; count = has.count; so = client-follows client messages world are has.setup has.state has.good has.shows has.so }

  pub client-comes : (client : ℕ) (messages : List Message) (old new : Cluster Group) (before after : List (List ℕ)) (loud : Bool) (held left : kit.Seen) → AreResent client messages old → (Comes kit) (IsIdleWithAll messages) ((turns_by kit) messages) old new before after loud held left → (Comes kit) IsIdle ((client_by kit) client) old new before after loud held left
  client-comes client messages old new before after loud held left are comes setup state good shows counted idle =
      (came-as kit laws) setup state ((turns_by kit) messages setup) ((client_by kit) client setup) new before after loud held left (λ fails. ap (λ l. (turns_by kit) l setup fails state) (are setup state shows)) (comes setup state good shows counted (client-follows client messages old are setup state good shows idle))

  pub client-off : (client : ℕ) (messages : List Message) (answer : DiskAnswer) (old new : Cluster Group) (before after : List (List ℕ)) (held left : kit.Seen) → AreResent client messages old → (ComesOff kit) (IsIdleWithAll messages) ((EndsTurns kit) messages) answer old new before after held left → (ComesOff kit) IsIdle ((EndsClient kit) client) answer old new before after held left
  client-off client messages answer old new before after held left are off =
      (off-as kit laws) IsIdle (IsIdleWithAll messages) ((EndsTurns kit) messages) ((EndsClient kit) client) answer old new before after held left
      (λ answer setup fails state shows stop ends. subst (λ (l : List Message). (EndsTurns kit) l answer setup fails state stop) (are setup state shows) ends)
      (client-follows client messages old are) off

  -- a client without an agent sends nothing again
  pub client-absent : (client : ℕ) (world : Cluster Group) (lines : List (List ℕ)) (disk : kit.Seen) → IsAbsent client world.agents → (Comes kit) IsIdle ((client_by kit) client) world world lines lines false disk disk
  client-absent client world lines disk none =
      client-comes client [] world world lines lines false disk disk (λ setup state shows.
      let is_fresh : state.world.agents client ≡ fresh = (fresh-agent client world.agents state.world shows.agents none).1 in
      ap (λ (a : Agent). resent client a) (sym is_fresh)) (loop-begins (IsIdleWithAll []) (turn_by kit) world lines disk)

  -- All clients.

  abbrev pub AreClients : List ℕ → Cluster Group → Type 0
  AreClients clients world = (setup : Setup) (state : State Peers) → (Shows kit) setup state world → clients ≡ state.world.clients

  pub each-comes : (clients : List ℕ) (old new : Cluster Group) (before after : List (List ℕ)) (loud : Bool) (held left : kit.Seen) → AreClients clients old → (Comes kit) IsIdle ((clients_by kit) clients) old new before after loud held left → (Comes kit) IsIdle (each_by kit) old new before after loud held left
  each-comes clients old new before after loud held left are comes setup state good shows counted idle =
      (came-as kit laws) setup state ((clients_by kit) clients setup) ((each_by kit) setup) new before after loud held left (λ fails. ap (λ l. (clients_by kit) l setup fails state) (are setup state shows)) (comes setup state good shows counted idle)

  pub each-off : (clients : List ℕ) (answer : DiskAnswer) (old new : Cluster Group) (before after : List (List ℕ)) (held left : kit.Seen) → AreClients clients old → (ComesOff kit) IsIdle ((EndsClients kit) clients) answer old new before after held left → (ComesOff kit) IsIdle (EndsEach kit) answer old new before after held left
  each-off clients answer old new before after held left are off =
      (off-as kit laws) IsIdle IsIdle ((EndsClients kit) clients) (EndsEach kit) answer old new before after held left
      (λ answer setup fails state shows stop ends. subst (λ (l : List ℕ). (EndsClients kit) l answer setup fails state stop) (are setup state shows) ends)
      (λ setup state good shows idle. idle) off

  -- A round.

  -- the servers drain, and all clients have their turns
  abbrev drain_turn : (EventOver kit)
  drain_turn setup fails state = and_then ((drain_by kit) setup fails state) ((each_by kit) setup fails)

  drain_turn-leads : (LeadsBy kit laws) any_state IsIdle drain_turn
  drain_turn-leads setup fails state good so =
      let drains = (drain-go kit laws) setup fails state good.steady in
      let drained = (drain_by kit) setup fails state in
      let turns = (clients-go kit laws) setup fails drained.state.world.clients drained.state drains.holds in
      (turns.holds.empty, ((at-unasked kit laws) setup fails).both state.world drained.state.world ((each_by kit) setup fails drained.state).state.world drained.told ((each_by kit) setup fails drained.state).told drains.carried turns.carried)

  turned : (old one two : Cluster Group) (before first second : List (List ℕ)) (a b : Bool) (held told left : kit.Seen) → (Comes kit) any_state (drain_by kit) old one before first a held told → (Comes kit) IsIdle (each_by kit) one two first second b told left → (Comes kit) any_state drain_turn old two before second (a || b) held left
  turned old one two before first second a b held told left drains turns =
      (comes-after kit laws) any_state IsIdle (drain_by kit) (each_by kit) drain_turn old one two before first second a b held told left (λ setup fails state good so. refl) drain-leads drains turns

  pub round-comes : (old one two new : Cluster Group) (before first second after : List (List ℕ)) (a b c : Bool) (held told left : kit.Seen) → (Comes kit) any_state (drain_by kit) old one before first a held told → (Comes kit) IsIdle (each_by kit) one two first second b told left → (Plays kit) IsIdle (round_pushed kit) two new second after c → (Comes kit) any_state (round_by kit) old new before after ((a || b) || c) held left
  round-comes old one two new before first second after a b c held told left drains turns pushes =
      let joins : (Joins kit laws) any_state drain_turn (λ setup fails. (round_pushed kit) setup) (round_by kit) = λ setup fails state good so.
      let plain = plain_of setup in
      let done = drain_turn setup fails state in
      let idle : IsIdle done.state = (drain_turn-leads setup fails state good so).0 in
      ap (λ (o : Outcome (State Peers)). behind done (and_then o (for_each (λ item. in_world (take_pushed plain item)) (plain.held done.state.world.core.answered)))) (push-same plain (calm_servers kit setup) (servers_at kit setup fails) done.state idle)
      in
      (comes-after kit laws) any_state IsIdle drain_turn (λ setup fails. (round_pushed kit) setup) (round_by kit) old two new before second after (a || b) c held left left joins drain_turn-leads (turned old one two before first second a b held told left drains turns) ((plays-come kit laws) IsIdle any_state (round_pushed kit) two new second after c left pushes-lead (pushes-keep kit laws) (pushes-rest kit laws) pushes)

  -- the state for the turns, and for the push
  pub round-on : (old one : Cluster Group) (before first : List (List ℕ)) (a : Bool) (held told : kit.Seen) → (HasStateOn kit) any_state old held → (Comes kit) any_state (drain_by kit) old one before first a held told → (HasStateOn kit) IsIdle one told
  round-on old one before first a held told has drains = (on-after kit laws) any_state IsIdle (drain_by kit) old one before first a held told drain-leads has drains

  pub round-push-on : (one two : Cluster Group) (first second : List (List ℕ)) (b : Bool) (told left : kit.Seen) → (HasStateOn kit) IsIdle one told → (Comes kit) IsIdle (each_by kit) one two first second b told left → (HasStateOn kit) IsIdle two left
  round-push-on one two first second b told left has turns = (on-after kit laws) IsIdle IsIdle (each_by kit) one two first second b told left each-leads has turns

  pub round-start-off : (answer : DiskAnswer) (old new : Cluster Group) (before after : List (List ℕ)) (held left : kit.Seen) → (ComesOff kit) any_state (EndsDrain kit) answer old new before after held left → (ComesOff kit) any_state (EndsRound kit) answer old new before after held left
  round-start-off answer old new before after held left off =
      (off-as kit laws) any_state any_state (EndsDrain kit) (EndsRound kit) answer old new before after held left (λ answer setup fails state shows stop ends. inl ends) (λ setup state good shows so. so) off

  pub round-turn-off : (answer : DiskAnswer) (old one new : Cluster Group) (before first after : List (List ℕ)) (a : Bool) (held told left : kit.Seen) → (Comes kit) any_state (drain_by kit) old one before first a held told → (ComesOff kit) IsIdle (EndsEach kit) answer one new first after told left → (ComesOff kit) any_state (EndsRound kit) answer old new before after held left
  round-turn-off answer old one new before first after a held told left drains off =
      (off-after kit laws) any_state IsIdle (EndsEach kit) (EndsRound kit) (drain_by kit) answer old one new before first after a held told left (λ answer setup fails state good so stop inner. inr (record { last = stop; ends = inner; is = refl })) drain-leads drains off

  pub round-push-lacks : (old one two new : Cluster Group) (before first second after : List (List ℕ)) (a b : Bool) (held told left : kit.Seen) → (Comes kit) any_state (drain_by kit) old one before first a held told → (Comes kit) IsIdle (each_by kit) one two first second b told left → (BreaksAloneIf kit) IsIdle two new → (ComesOff kit) any_state (EndsRound kit) Memory old new before after held left
  round-push-lacks old one two new before first second after a b held told left drains turns breaks =
      (alone-after kit laws) any_state IsIdle (EndsRound kit) drain_turn old two new before second after (a || b) held left drain_turn-leads (turned old one two before first second a b held told left drains turns) breaks

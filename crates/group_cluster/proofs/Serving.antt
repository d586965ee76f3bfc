-- The servers serve as servers must, and what their steps keep is carried through rounds.
use Rattle.std.proofs.Common.{◌≡◌, ℕ, suc, ◌⊎◌, inl, inr, true, false, if◌then◌else◌, Option, Some, None, List, [], ◌∷◌, ◌++◌, length, refl, ap, sym, ◌∙◌, subst, append-nil}
use Rattle.std.specs.List.{AllByRecursion}
use Rattle.cluster_facts.specs.Types.{Entry}
use Rattle.cluster_facts.specs.Lists.{Stands}
use Rattle.cluster_facts.specs.Messages.{messages_in, message_of}
use Rattle.cluster_facts.specs.Service.{Plain, IsPlain}
use Rattle.cluster_facts.specs.History.{Hand, Empty, Waiting, Applied, Ready, Core, accepted, accepted_by, MayFollow, time_of}
use Rattle.cluster_facts.specs.World.{World}
use Rattle.cluster_facts.specs.Facts.{IsSound}
use Rattle.cluster_events.specs.Lines.{Told, Committed}
use Rattle.cluster_events.specs.Outcomes.{Outcome}
use Rattle.cluster_events.specs.Cores.{with_core}
use Rattle.cluster_events.specs.Servers.{State, drain}
use Rattle.cluster_events.specs.Devices.{Device}
use Rattle.cluster_events.specs.Settling.{is_loud}
use Rattle.cluster_events.specs.Serving.{IsSteady, Accepts, Drains, IsServing, IsCarried, IsStepped, AreStepped}
use Rattle.cluster_events.proofs.Sound.{accept-sound}
use Rattle.cluster_events.proofs.Carrying.{IsTold, told-carried}
use Rattle.group_cluster.specs.Seats.{Seat, Peers, is_standby, is_sent, any_seat, on_seats, Agree, WaitsFor, IsArmed, AreNames, is_named, IsGroup}
use Rattle.group_cluster.specs.Falling.{taken_by, looked_at, commitment}
use Rattle.group_cluster.specs.Group.{sent_to, accept_group, mirror_group, ack_group, group}
use Rattle.group_cluster.proofs.Sounding.{looked-accepts}
use Rattle.group_cluster.proofs.Seating.{all-on, any-on, names-on, apart-on, looked-seated, sent-agrees, sent-standby}
use Rattle.group_cluster.proofs.Stepping.{Bears, Nears, IsWaiting, loud-behind, loud-before, StepLeaves, Leaves, mirror-steps, ack-steps, work-steps, looked-goes, group-rests}

-- An entry is accepted.

agree-hand : (hand : Hand) (seats : List Seat) → hand ≡ Empty → AllByRecursion (λ (seat : Seat). Agree hand seat.stance) seats → AllByRecursion (λ (seat : Seat). Agree Empty seat.stance) seats
agree-hand hand seats empty agree = subst (λ (h : Hand). AllByRecursion (λ (seat : Seat). Agree h seat.stance) seats) empty agree

sent-armed : (armed : Option ℕ) (seats : List Seat) → IsArmed armed seats → IsArmed armed (on_seats sent_to seats)
sent-armed None seats is = tt
sent-armed (Some left) seats is = (is.0, any-on is_standby sent_to sent-standby seats ∙ is.1)

pub accepts-good : (size : ℕ) (entry : Entry) (state : State Peers) → state.world.core.hand ≡ Empty → IsGroup size state → IsGroup size (accept_group entry state).state
accepts-good size entry state empty good =
    let seats = state.peers.seats in
    let sent = on_seats sent_to seats in
    let seated = looked-seated sent (Waiting entry) (all-on (Agree Empty) (Agree (Waiting entry)) sent_to (sent-agrees entry) seats (agree-hand state.world.core.hand seats empty good.agree)) in
    let same = names-on sent_to seats in
    record {
      agree = seated.agree;
      waits = seated.waits;
      armed = sent-armed state.peers.armed seats good.armed;
      apart = apart-on state.peers.acting sent_to refl seats good.apart;
      names = subst (AreNames size) (sym same) good.names;
      acts = ap (is_named state.peers.acting) same ∙ good.acts;
    }

accepts-by : (size : ℕ) (entry : Entry) (state : State Peers) → state.world.core.hand ≡ Empty → IsGroup size state → Accepts (IsGroup size) entry state (accept_group entry state).state
accepts-by size entry state empty good =
    let sent = on_seats sent_to state.peers.seats in
    record { hand = looked_at sent (Waiting entry); accepted = looked-accepts state.world.core.answered sent (Waiting entry); world = refl; good = accepts-good size entry state empty good }

-- it waits, or its line is told
accept-tells : (entry : Entry) (state : State Peers) → IsWaiting (accept_group entry state).state.world.core.hand ⊎ (is_loud (accept_group entry state).told ≡ true)
accept-tells entry state =
    let past = state.world.core.answered in
    let sent = on_seats sent_to state.peers.seats in
    let line = Committed (suc (length past)) entry ∷ [] in
    elim (any_seat is_sent sent) as (λ b. IsWaiting (if b then Waiting entry else taken_by sent entry) ⊎ (is_loud (if b then [] else line) ≡ true)) [ true ↦ inl tt | false ↦ inr refl ]

rest-not : (hand : Hand) → hand ≡ Empty → IsWaiting hand → ⊥
rest-not Empty empty waits = elim waits [ ]
rest-not (Waiting entry) empty waits = cc
rest-not (Applied entry) empty waits = elim waits [ ]
rest-not (Ready entry) empty waits = elim waits [ ]

-- with nothing in hand, what was accepted is answered
rest-done : (old new : State Peers) → new.world.core.hand ≡ Empty → accepted new.world.core ≡ accepted old.world.core → new.world.core.answered ≡ accepted old.world.core
rest-done old new empty done = sym (ap (λ (hand : Hand). accepted_by new.world.core.answered hand) empty) ∙ done

-- **the servers serve as servers must**, by any relation that their steps keep
module _ (size : ℕ) (plain : Plain) (is_plain : IsPlain plain) (device : Device) (R : World → World → List Told → Type 0) (bears : Bears plain R) where
  drains-by : (state : State Peers) → IsSteady plain (IsGroup size) state → Drains plain (IsGroup size) state (drain (group plain device) state).state
  drains-by state steady =
      let rests = group-rests size plain is_plain device R bears state steady.good in
      record {
        empty = rests.empty;
        done = rest-done state (drain (group plain device) state).state rests.empty rests.steps.done;
        agents = rests.steps.agents;
        stays = rests.steps.stays;
        steady = record { sound = (rests.steps.goes steady.sound).0; good = rests.steps.good };
        idle = rests.steps.idle;
      }

  commits-by : (entry : Entry) (state : State Peers) → state.world.core.hand ≡ Empty → IsGroup size state → is_loud ((drain (group plain device) (accept_group entry state).state).told ++ (accept_group entry state).told) ≡ true
  commits-by entry state empty good =
      let accept = accept_group entry state in
      let drained = drain (group plain device) accept.state in
      let rests = group-rests size plain is_plain device R bears accept.state (accepts-good size entry state empty good) in
      elim (accept-tells entry state) [
        | inl waits ↦ elim (rests.steps.tells waits) [
          | inl still ↦ absurd (rest-not drained.state.world.core.hand rests.empty still)
          | inr loud ↦ loud-before drained.told accept.told loud
        ]
        | inr loud ↦ loud-behind drained.told accept.told loud
      ]

  pub serves-by : IsServing plain (group plain device) (IsGroup size)
  serves-by = record {
    front = λ state world core good. record {
      agree = subst (λ (c : Core). AllByRecursion (λ (seat : Seat). Agree c.hand seat.stance) state.peers.seats) (sym core) good.agree;
      waits = subst (λ (c : Core). WaitsFor c.hand state.peers.seats) (sym core) good.waits;
      armed = good.armed;
      apart = good.apart;
      names = good.names;
      acts = good.acts;
    };
    accepts = accepts-by size;
    drains = drains-by;
    commits = commits-by;
  }

  -- An entry that is accepted waits, or is committed at once.

  accept-hand : (entry : Entry) (state : State Peers) (hand : Hand) → hand ≡ Empty → time_of entry ≡ state.world.now → IsSound plain (with_core state.world.core.answered (Waiting entry) state.world) → R (with_core state.world.core.answered hand state.world) (accept_group entry state).state.world (accept_group entry state).told
  accept-hand entry state Empty empty at sound =
      let past = state.world.core.answered in
      let sent = on_seats sent_to state.peers.seats in
      let old = with_core past Empty state.world in
      let waits = with_core past (Waiting entry) state.world in
      let new = with_core past (looked_at sent (Waiting entry)) state.world in
      let lines = commitment sent past (Waiting entry) in
      subst (λ (told : List Told). R old new told) (append-nil lines)
      (bears.both old waits new [] lines (bears.taken state.world past entry at) (looked-goes size plain is_plain device R bears state.world past sent (Waiting entry) sound))
  accept-hand entry state (Waiting other) empty at sound = cc
  accept-hand entry state (Applied other) empty at sound = cc
  accept-hand entry state (Ready other) empty at sound = cc

  pub accept-kept : (entry : Entry) (state : State Peers) → IsSteady plain (IsGroup size) state → state.world.core.hand ≡ Empty → MayFollow plain state.world.core.answered entry → time_of entry ≡ state.world.now → Stands (message_of entry) (messages_in state.world.net) → R state.world (accept_group entry state).state.world (accept_group entry state).told
  accept-kept entry state steady empty may at stands =
      accept-hand entry state state.world.core.hand empty at (accept-sound plain entry (Waiting entry) state.world empty refl may at stands steady.sound)

  -- a relation that the clients' side keeps too is carried through rounds
  pub group-carries : IsTold plain R → IsCarried plain (group plain device) (IsGroup size) R
  group-carries told = told-carried plain (group plain device) (IsGroup size) R told accept-kept (λ state steady. ((group-rests size plain is_plain device R bears state steady.good).steps.goes steady.sound).1)

  -- Their steps, one by one.

  pub stepped-by : (step : State Peers → Option (Outcome (State Peers))) → StepLeaves size plain is_plain device R bears step → IsStepped plain (IsGroup size) R step
  stepped-by step leaves = record {
    steps = λ state outcome is steady.
        let L : Option (Outcome (State Peers)) → Type 0 = λ found. Leaves size plain is_plain device R bears state found in
        let nears : Nears size plain R state outcome = subst L is (leaves state steady.good) in
        let goes = nears.steps.goes steady.sound in
        (record { sound = goes.0; good = nears.steps.good }, goes.1);
  }

  pub group-stepped : AreStepped plain (group plain device) (IsGroup size) R
  group-stepped = record {
    mirror = stepped-by mirror_group (mirror-steps size plain is_plain device R bears);
    ack = stepped-by ack_group (ack-steps size plain is_plain device R bears);
    work = stepped-by (group plain device).work (work-steps size plain is_plain device R bears);
  }

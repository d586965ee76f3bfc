-- What a step of a drain comes to.
use Rattle.std.proofs.Common.{◌≡◌, ℕ, true, false, Option, Some, None, List, ◌++◌, refl, ap, sym, ◌∙◌, subst, arith, le_refl}
use Rattle.std.specs.Prelude.{IsSome}
use Rattle.disk_model.specs.Seen.{DiskSeen}
use Rattle.disk_model.specs.declared.answers.DiskAnswer.{DiskAnswer}
use Rattle.disk_model.specs.declared.answers.DiskAnswer.TheVariants.{Memory, Failed, Stopped}
use Rattle.plain_service.specs.Setups.{Setup}
use Rattle.service_laws.specs.PlainOf.{plain_of}
use Rattle.script_lines.specs.declared.line.Server.{Server}
use Rattle.cluster_facts.specs.History.{Hand, Empty, Waiting, Applied, Ready}
use Rattle.cluster_events.specs.Lines.{Told}
use Rattle.cluster_events.specs.Outcomes.{Outcome}
use Rattle.cluster_events.specs.Servers.{State, or_else, advance}
use Rattle.event_text.specs.Texts.{printed}
use Rattle.mirror.specs.declared.state.NodeState.{NodeState as Node}
use Rattle.group_cluster.specs.Seats.{Seat, Peers, Agree, count_seats, is_up}
use Rattle.group_cluster.specs.Falling.{looked}
use Rattle.group_cluster.specs.Group.{Turn, mirrored, confirmed, first_turn, step_by, mirror_group, ack_group, work_by, group}
use Rattle.group_cluster.proofs.Seating.{AllSeats, Turned, AreRoles, IsTurning, is-turned, turned-all, mirrored-turns, confirmed-turns}
use Rattle.group_cluster.proofs.Stepping.{group_at}
use Rattle.cluster_rounds.specs.declared.cluster.Cluster.{Cluster}
use Rattle.cluster_rounds.specs.Came.{Advances, Comes, ComesOff}
use Rattle.cluster_rounds.specs.Kits.{device_by}
use Rattle.cluster_rounds.specs.Rounds.{EndsStep, advances_by}
use Rattle.cluster_rounds.specs.Worlds.{HasState, HasStateOn, IsGood, Shows, any_state}
use Rattle.cluster_rounds.proofs.CameSteps.{came-as}
use Rattle.cluster_rounds.proofs.FilesSteps.{files-same}
use Rattle.cluster_rounds.specs.Seen.{counters_of}
use Rattle.group_servers.specs.declared.group.Group.{Group}
use Rattle.group_servers.specs.GroupCounts.{WorkedAll, count_up}
use Rattle.group_servers.specs.GroupKit.{group_kit}
use Rattle.group_servers.specs.GroupLaws.{group_laws}
use Rattle.group_servers.specs.GroupNodes.{active_by}
use Rattle.group_servers.specs.GroupUses.{worked-same}
use Rattle.group_servers.specs.Steps.{StepsBy, grew, worked_by, EndsWork}
use Rattle.group_servers.proofs.EndSteps.{drain-ends}
use Rattle.group_servers.proofs.GroupSteps.{IsStep, mirror-step, ack-step, mirror-comes, ack-comes, drain-works, line-works}
use Rattle.group_servers.proofs.UpSteps.{KeepsUp, confirmed-up, mirrored-up, turned-up}
use Rattle.group_servers.proofs.WorkSteps.{ready-for, step-came}

-- Messages between the servers leave the count, what was answered, and how many are up.

record Keeps (state : State Peers) (outcome : Outcome (State Peers)) : Type 0 where
  armed : outcome.state.peers.armed ≡ state.peers.armed
  answered : outcome.state.world.core.answered ≡ state.world.core.answered
  up : count_up outcome.state ≡ count_up state
  acting : outcome.state.peers.acting ≡ state.peers.acting

abbrev or-own : {T : Type 0} → T → Option T → T
or-own x None = x
or-own x (Some y) = y

some-is : {T : Type 0} (x y : T) → Some x ≡ Some y → x ≡ y
some-is x y is = ap (or-own x) is

-- the lines of a turn tell roles alone
turned-roles : (turn : Turn) (hand : Hand) (acting : Server) → IsTurning hand turn → (owns seats : List Seat) (told : List Told) → first_turn turn owns ≡ Some (seats, told) → AllSeats (Agree hand) owns → AreRoles told
turned-roles turn hand acting turns owns seats told is agree =
    let I : Option (List Seat × List Told) → Type 0 = elim [ None ↦ Unit {0} | Some t ↦ Turned turn owns t.0 t.1 ] in
    let by : Turned turn owns seats told = subst I is (is-turned turn owns) in
    (turned-all hand acting turn turns by agree).roles

-- and leave a server up that was
turn-up : (turn : Turn) → KeepsUp turn → (owns seats : List Seat) (told : List Told) → first_turn turn owns ≡ Some (seats, told) → count_seats is_up seats ≡ count_seats is_up owns
turn-up turn keeps owns seats told is =
    let I : Option (List Seat × List Told) → Type 0 = elim [ None ↦ Unit {0} | Some t ↦ Turned turn owns t.0 t.1 ] in
    let by : Turned turn owns seats told = subst I is (is-turned turn owns) in
    turned-up turn keeps by

module _ (n : ℕ) where
  -- what a step is that there is
  record IsOne (setup : Setup) (state : State Peers) (outcome : Outcome (State Peers)) : Type 0 where
    step : IsStep n setup state outcome
    keeps : Keeps state outcome

  mirror-is : (setup : Setup) (state : State Peers) (outcome : Outcome (State Peers)) → IsGood (group_kit n) setup state → (found : Option (List Seat × List Told)) → first_turn (mirrored state.world.core.answered) state.peers.seats ≡ found → step_by found state ≡ Some outcome → IsOne setup state outcome
  mirror-is setup state outcome good None is some = cc
  mirror-is setup state outcome good (Some turned) is some =
      let past = state.world.core.answered in
      let hand = state.world.core.hand in
      let made = looked turned.0 hand turned.1 state in
      let roles = turned-roles (mirrored past) hand state.peers.acting (mirrored-turns past hand) state.peers.seats turned.0 turned.1 is good.steady.good.agree in
      let one : IsOne setup state made = record { step = mirror-step n setup state turned.0 turned.1 good roles is; keeps = record { armed = refl; answered = refl; up = turn-up (mirrored past) (mirrored-up past) state.peers.seats turned.0 turned.1 is; acting = refl } } in
      subst (IsOne setup state) (some-is made outcome some) one

  ack-is : (setup : Setup) (state : State Peers) (outcome : Outcome (State Peers)) → IsGood (group_kit n) setup state → (found : Option (List Seat × List Told)) → first_turn confirmed state.peers.seats ≡ found → step_by found state ≡ Some outcome → IsOne setup state outcome
  ack-is setup state outcome good None is some = cc
  ack-is setup state outcome good (Some turned) is some =
      let hand = state.world.core.hand in
      let made = looked turned.0 hand turned.1 state in
      let roles = turned-roles confirmed hand state.peers.acting (confirmed-turns hand) state.peers.seats turned.0 turned.1 is good.steady.good.agree in
      let one : IsOne setup state made = record { step = ack-step n setup state turned.0 turned.1 good roles is; keeps = record { armed = refl; answered = refl; up = turn-up confirmed confirmed-up state.peers.seats turned.0 turned.1 is; acting = refl } } in
      subst (IsOne setup state) (some-is made outcome some) one

  -- nothing was worked
  kept-dealt : (setup : Setup) (state : State Peers) (outcome : Outcome (State Peers)) (disk : DiskSeen) → Keeps state outcome → WorkedAll (device_by setup (λ number. 0)) state outcome.state (counters_of disk) (counters_of disk)
  kept-dealt setup state outcome disk keeps =
      worked-same (device_by setup (λ number. 0)) state outcome.state (counters_of disk) keeps.answered keeps.up keeps.acting

  -- **a message on the way to a server**
  pub mirror-advances : (old new : Cluster (Group n)) (before after : List (List ℕ)) (disk : DiskSeen) → StepsBy n mirror_group true old new before after → Advances (group_kit n) true old new before after disk disk
  mirror-advances old new before after disk steps setup state good shows armed so =
      let done = steps setup state good shows in
      let outcome = done.0 in
      let one = mirror-is setup state outcome good (first_turn (mirrored state.world.core.answered) state.peers.seats) refl done.1 in
      step-came n setup state outcome (advances_by (group_kit n) 1 setup) (λ number. 0) old new before after disk disk shows one.step (mirror-comes n setup state outcome one.step done.1)
      (λ never number. refl) (le_refl disk.faults) (λ more. absurd (omega arith)) (kept-dealt setup state outcome disk one.keeps) done.2.0 done.2.2 (armed ∙ sym one.keeps.armed) (files-same setup state outcome.state disk.files one.keeps.answered)

  -- **and on the way back, where none is on the way to any**
  pub ack-advances : (old between new : Cluster (Group n)) (first before after : List (List ℕ)) (disk : DiskSeen) → StepsBy n mirror_group false old between first before → StepsBy n ack_group true between new before after → Advances (group_kit n) true old new first after disk disk
  ack-advances old between new first before after disk none steps setup state good shows armed so =
      let shows_so = subst (λ (world : Cluster (Group n)). Shows (group_kit n) setup state world) (sym none.0) shows in
      let done = steps setup state good shows_so in
      let outcome = done.0 in
      let one = ack-is setup state outcome good (first_turn confirmed state.peers.seats) refl done.1 in
      let lines = subst (λ start. after ≡ start ++ printed outcome.told) none.1 done.2.2 in
      step-came n setup state outcome (advances_by (group_kit n) 1 setup) (λ number. 0) old new first after disk disk shows one.step (ack-comes n setup state outcome one.step (none.2 setup state good shows) done.1)
      (λ never number. refl) (le_refl disk.faults) (λ more. absurd (omega arith)) (kept-dealt setup state outcome disk one.keeps) done.2.0 lines (armed ∙ sym one.keeps.armed) (files-same setup state outcome.state disk.files one.keeps.answered)

  -- The world after a step that there was not.

  abbrev pub NoMessage : Cluster (Group n) → Type 0
  NoMessage world = (setup : Setup) (state : State Peers) → IsGood (group_kit n) setup state → Shows (group_kit n) setup state world → (mirror_group state ≡ None) × (ack_group state ≡ None)

  pub no-message : (old between last : Cluster (Group n)) (first before after : List (List ℕ)) → StepsBy n mirror_group false old between first before → StepsBy n ack_group false between last after after → NoMessage old
  no-message old between last first before after mirrors acks setup state good shows =
      let shows_so = subst (λ (world : Cluster (Group n)). Shows (group_kit n) setup state world) (sym mirrors.0) shows in
      (mirrors.2 setup state good shows, acks.2 setup state good shows_so)

  pub state-after : (old new : Cluster (Group n)) → new ≡ old → HasState (group_kit n) old → HasState (group_kit n) new
  state-after old new is has = subst (HasState (group_kit n)) (sym is) has

  pub state-on : (old new : Cluster (Group n)) (seen : DiskSeen) → new ≡ old → HasStateOn (group_kit n) any_state old seen → HasStateOn (group_kit n) any_state new seen
  state-on old new seen is has = subst (λ (world : Cluster (Group n)). HasStateOn (group_kit n) any_state world seen) (sym is) has

  -- The entry in hand is worked.

  pub work-advances : (old new : Cluster (Group n)) (before after : List (List ℕ)) (held left : DiskSeen) → NoMessage old → IsSome old.servers.active.replica.owed → old.servers.active.waits ≡ None → Comes (group_kit n) any_state (worked_by n) old new before after (grew old new) held left → Advances (group_kit n) true old new before after held left
  work-advances old new before after held left none some ready comes setup state good shows armed so =
      let found = ready-for n setup state old shows some ready in
      let no = none setup state good shows in
      (came-as (group_kit n) (group_laws n)) setup state (worked_by n setup) (advances_by (group_kit n) 1 setup) new before after (grew old new) held left
      (λ fails. line-works n setup state found.entry found.ready fails ∙ sym (drain-works n setup state found.entry no.0 no.1 found.ready fails))
      (comes setup state good shows armed so)

  -- so it is where the work ends
  pub work-off : (answer : DiskAnswer) (old new : Cluster (Group n)) (before after : List (List ℕ)) (held left : DiskSeen) → NoMessage old → ComesOff (group_kit n) any_state (EndsWork n) answer old new before after held left → ComesOff (group_kit n) any_state (EndsStep (group_kit n)) answer old new before after held left
  work-off Memory old new before after held left none comes setup state good shows armed so = comes setup state good shows armed so
  work-off Stopped old new before after held left none comes setup state good shows armed so =
      let halted = comes setup state good shows armed so in absurd (halted.ends.is halted.happened (λ number above within. refl))
  work-off Failed old new before after held left none comes setup state good shows armed so =
      let no = none setup state good shows in
      let ended = comes setup state good shows armed so in
      record {
        happened = ended.happened;
        end = ended.end;
        ends = record { later = ended.ends.later; is = λ fails agrees. drain-ends n setup state no.0 no.1 fails ended.end (ended.ends.is fails agrees) };
        faults = ended.faults;
        good = ended.good;
        says = ended.says;
        fell = ended.fell;
        net = ended.net;
        agents = ended.agents;
        history = ended.history;
        now = ended.now;
        callbacks = ended.callbacks;
        lines = ended.lines;
        files = ended.files;
      }

  -- there is none in hand that is ready
  idle-by : (setup : Setup) (state : State Peers) (hand : Hand) (active : Node) (fails : ℕ → ℕ) → active ≡ active_by setup state.world.core.answered hand state.peers.seats → (IsSome active.replica.owed × (active.waits ≡ None) → ⊥) → work_by (plain_of setup) (device_by setup fails) hand (group_at state.peers.seats hand state) ≡ None
  idle-by setup state Empty active fails is not = refl
  idle-by setup state (Waiting entry) active fails is not = refl
  idle-by setup state (Applied entry) active fails is not = refl
  idle-by setup state (Ready entry) active fails is not =
      let R : Node → Type 0 = λ node. IsSome node.replica.owed × (node.waits ≡ None) in
      absurd (not (subst R (sym is) (refl, refl)))

  pub advances-none : (old : Cluster (Group n)) → NoMessage old → (IsSome old.servers.active.replica.owed × (old.servers.active.waits ≡ None) → ⊥) → (setup : Setup) (fails : ℕ → ℕ) (state : State Peers) → IsGood (group_kit n) setup state → Shows (group_kit n) setup state old → advance (group (plain_of setup) (device_by setup fails)) state ≡ None
  advances-none old none not setup fails state good shows =
      let no = none setup state good shows in
      let idle = idle-by setup state state.world.core.hand old.servers.active fails (ap (λ (servers : Group n). servers.active) shows.own) not in
      λ i. or_else (no.0 i) (or_else (no.1 i) (idle i))

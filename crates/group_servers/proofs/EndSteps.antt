-- Where an event of the servers ends by a fault that none of them survives.
use Rattle.std.proofs.Common.{◌≡◌, ℕ, suc, ◌-◌, ◌≤◌, true, if◌then◌else◌, None, List, ◌∷◌, ◌++◌, refl, ap, sym, ◌∙◌, subst, arith}
use Rattle.disk_model.specs.Seen.{DiskSeen}
use Rattle.disk_model.specs.declared.answers.DiskAnswer.TheVariants.{Failed}
use Rattle.plain_service.specs.Setups.{Setup}
use Rattle.cluster_facts.specs.Types.{Entry}
use Rattle.cluster_facts.specs.History.{Ready}
use Rattle.cluster_events.specs.Lines.{Told}
use Rattle.cluster_events.specs.Outcomes.{Outcome}
use Rattle.cluster_events.specs.Servers.{State}
use Rattle.cluster_events.specs.Devices.{EndBy, EndsOver, answered_in}
use Rattle.event_text.specs.Texts.{printed}
use Rattle.group_cluster.specs.Seats.{Peers, any_seat, count_seats, is_standby}
use Rattle.group_cluster.specs.Group.{mirror_group, ack_group}
use Rattle.group_cluster.specs.Falling.{failing}
use Rattle.group_cluster.specs.Ended.{ended, EndsGroup}
use Rattle.cluster_clients.specs.Spelled.{AreSpelled}
use Rattle.cluster_clients.specs.Clients.{ShowsAgents}
use Rattle.cluster_clients.proofs.DispatchSteps.{agents-as}
use Rattle.cluster_rounds.specs.declared.cluster.Cluster.{Cluster}
use Rattle.cluster_rounds.specs.Broken.{LeavesBetween}
use Rattle.cluster_clients.specs.Taken.{kept_lines}
use Rattle.cluster_rounds.specs.Came.{Ended, EndedBy}
use Rattle.cluster_rounds.specs.Kits.{device_by}
use Rattle.cluster_rounds.specs.Rounds.{EndsStep}
use Rattle.cluster_rounds.specs.Worlds.{IsGood, Shows, TellsFiles}
use Rattle.cluster_rounds.specs.Seen.{counters_of}
use Rattle.group_servers.specs.declared.group.Group.{Group}
use Rattle.group_servers.specs.GroupCounts.{FaultsGroup}
use Rattle.group_servers.specs.GroupKit.{FellGroup, group_kit}
use Rattle.group_servers.proofs.GroupFiles.{some-calls-so}
use Rattle.group_servers.proofs.GroupSteps.{calls_for, falls_by, same-falls}
use Rattle.group_servers.proofs.OverSteps.{ended-printed, ended-later, ended-state, ended-says}

module _ (n : ℕ) (setup : Setup) (state : State Peers) (old new : Cluster (Group n)) (before after : List (List ℕ)) (held left : DiskSeen) (good : IsGood (group_kit n) setup state) (shown : Shows (group_kit n) setup state old) where
  -- what an end left, by what is said of it and of what the disk counted, and by the lines that are shown
  pub ended-as : (Ends Faulted : (ℕ → ℕ) → Outcome (State Peers) → Type 0) (shown_of : List Told → List (List ℕ)) (happened : ℕ → ℕ) → Ends happened (ended state) → Faulted happened (ended state) → shown_of (ended state).told ≡ printed (ended state).told → FellGroup setup (ended state).state new.servers left.tally.armed → new.net ≡ old.net → new.agents ≡ old.agents → new.history.entries ≡ (ended state).state.world.core.answered → new.now ≡ old.now → new.callbacks ≡ old.callbacks → after ≡ before ++ printed (ended state).told → (TellsFiles setup state held.files → LeavesBetween setup (ended state).state.world.core.answered held.files left.files) → EndedBy (group_kit n) setup state Ends Faulted shown_of new before after held left
  ended-as Ends Faulted shown_of happened ends faults same fell net agents history now callbacks lines files = record {
    happened = happened;
    end = ended state;
    ends = ends;
    faults = faults;
    good = ended-state setup state n good;
    says = ended-says setup state n good;
    fell = fell;
    net = subst (λ m. AreSpelled state.world.net m) (sym net) shown.net;
    agents = subst (λ a. ShowsAgents (ended state).state.world a) (sym agents) (agents-as state.world (ended state).state.world old.agents refl refl refl shown.agents);
    history = history;
    now = now ∙ shown.now;
    callbacks = callbacks ∙ shown.callbacks;
    lines = lines ∙ ap (λ l. before ++ l) (sym same);
    files = files;
  }

  -- that of an event, whose lines on messages without effect are left out
  pub ended-by : (Ends : EndBy Peers) (happened : ℕ → ℕ) → EndsOver Ends happened state (ended state) → FaultsGroup setup happened state (ended state).state (counters_of held) (counters_of left) → FellGroup setup (ended state).state new.servers left.tally.armed → new.net ≡ old.net → new.agents ≡ old.agents → new.history.entries ≡ (ended state).state.world.core.answered → new.now ≡ old.now → new.callbacks ≡ old.callbacks → after ≡ before ++ printed (ended state).told → (TellsFiles setup state held.files → LeavesBetween setup (ended state).state.world.core.answered held.files left.files) → Ended (group_kit n) setup state Ends new before after held left
  ended-by Ends happened ends faults =
      ended-as (λ happened end. EndsOver Ends happened state end)
      (λ happened end. FaultsGroup setup happened state end.state (counters_of held) (counters_of left)) kept_lines happened ends faults
      (ended-printed setup state)

  -- The work of an entry in hand ends: in a step of a drain, or in the line `work`.

  module _ (Ends : EndBy Peers) (entry : Entry) (works : (fails : ℕ → ℕ) (end : Outcome (State Peers)) → EndsGroup (device_by setup fails) state end → Ends fails state end) (ready : state.world.core.hand ≡ Ready entry) where
    abbrev past : List Entry
    past = state.world.core.answered

    -- how many standbys fail is told by the works of that entry alone
    failing-is : (fails : ℕ → ℕ) → 1 ≤ calls_for n setup past entry → failing (device_by setup fails) (entry ∷ past) ≡ fails (suc (answered_in state)) - 1
    failing-is fails some = ap (λ b. if b then fails (suc (answered_in state)) - 1 else 0) (some-calls-so (calls_for n setup past entry) some)

    -- by whether the works that failed take the active server down where it has a standby, and by how many fell before the last
    pub work-ends : (happened : ℕ → ℕ) → 1 ≤ calls_for n setup past entry → (any_seat is_standby state.peers.seats ≡ true → falls_by n setup happened entry state ≡ true) → count_seats is_standby state.peers.seats ≤ suc (happened (suc (answered_in state)) - 1) → EndsOver Ends happened state (ended state)
    work-ends happened some fell row =
        let later = ended-later setup state in
        record {
          later = later;
          is = λ fails agrees.
              let own = agrees (suc (answered_in state)) (omega arith) (omega arith) in
              works fails (ended state) (record {
                entry = entry;
                ready = ready;
                calls = some;
                fell = λ standby. same-falls n setup fails happened entry state own ∙ fell standby;
                row = subst (λ (k : ℕ). count_seats is_standby state.peers.seats ≤ suc k) (sym (failing-is fails some ∙ ap (λ k. k - 1) own)) row;
                is = refl;
              });
        }

-- a step of a drain ends so where nothing is to be mirrored or confirmed
pub drain-ends : (n : ℕ) (setup : Setup) (state : State Peers) → mirror_group state ≡ None → ack_group state ≡ None → (fails : ℕ → ℕ) (end : Outcome (State Peers)) → EndsGroup (device_by setup fails) state end → EndsStep (group_kit n) Failed setup fails state end
drain-ends n setup state no_mirror no_ack fails end ends = record { mirror = no_mirror; ack = no_ack; works = ends }

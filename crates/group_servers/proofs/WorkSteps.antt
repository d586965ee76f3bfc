-- What the work of the entry in hand comes to, and what it leaves where it breaks off.
use Rattle.std.proofs.Common.{◌≡◌, ℕ, suc, ◌≤◌, inl, inr, Bool, false, nat_lt, ◌==◌, if◌then◌else◌, Option, Some, None, List, [], ◌∷◌, ◌++◌, length, refl, ap, sym, ◌∙◌, subst, arith, le_refl}
use Rattle.std.specs.Prelude.{IsSome, is_some, option_map}
use Rattle.std.specs.List.{AllByRecursion}
use Rattle.disk_model.specs.Counts as counts
use Rattle.disk_model.specs.declared.answers.DiskAnswer.TheVariants.{Memory}
use Rattle.disk_model.specs.DeviceCalls.{all_applied, BreaksOff, LeftOn}
use Rattle.disk_model.specs.Seen.{DiskSeen}
use Rattle.disk_model.specs.declared.tally.Tally.{Tally}
use Rattle.stream_layout.specs.Deeds.{calls_of_all}
use Rattle.wire.specs.MessageSpelling.{MessageInRange}
use Rattle.plain_service.specs.Setups.{Setup}
use Rattle.plain_service.specs.Storing.{deeds_of}
use Rattle.service_laws.specs.PlainOf.{plain_of}
use Rattle.cluster_facts.specs.Types.{Call, Entry, Called, Receipted}
use Rattle.cluster_facts.specs.Lists.{EndsIn, IsNumbered}
use Rattle.cluster_facts.specs.Messages.{calls_in}
use Rattle.cluster_facts.specs.History.{Hand, Empty, Waiting, Applied, Ready, committed, committed_by}
use Rattle.cluster_facts.proofs.Words.{by_test}
use Rattle.cluster_events.specs.Outcomes.{Outcome}
use Rattle.cluster_events.specs.Servers.{State}
use Rattle.cluster_events.specs.Devices.{EventBy, ComesTo, IsCaused}
use Rattle.event_text.specs.Texts.{printed}
use Rattle.mirror.specs.declared.heard.Heard.{Heard}
use Rattle.mirror.specs.declared.state.NodeState.{NodeState as Node}
use Rattle.mirror.specs.Replicas.{replies_owed}
use Rattle.mirror.specs.Working.{deeds_in, replies_in, worked}
use Rattle.mirror.specs.Pairing.{with_peer, worked_out}
use Rattle.group_cluster.specs.Seats.{Peers}
use Rattle.group_cluster.specs.Group.{work_done}
use Rattle.group_cluster.proofs.Stepping.{group_at}
use Rattle.cluster_clients.specs.Clients.{ShowsAgents}
use Rattle.cluster_clients.specs.Spelled.{AreSpelled}
use Rattle.cluster_clients.specs.Posted.{PostsAll, PostsSome}
use Rattle.cluster_clients.proofs.DispatchSteps.{agents-as}
use Rattle.cluster_rounds.specs.declared.cluster.Cluster.{Cluster}
use Rattle.cluster_rounds.specs.Broken.{Broken, LeavesBetween}
use Rattle.cluster_rounds.specs.Came.{Came, Comes, ComesOff}
use Rattle.cluster_rounds.specs.Kits.{device_by}
use Rattle.cluster_rounds.specs.Worlds.{Shows, IsGood, HasState, TellsFiles, LeavesFiles, any_state}
use Rattle.cluster_rounds.proofs.BrokenSteps.{armed-shown, broken-between, left-between, shown-ends, whole-broken}
use Rattle.cluster_rounds.proofs.UnaskedSteps.{unasked-same}
use Rattle.cluster_rounds.specs.Seen.{counters_of}
use Rattle.lead_rounds.proofs.HeldSteps.{calls-few}
use Rattle.lead_rounds.proofs.ReplySteps.{answer-breaks, answer-posts}
use Rattle.group_servers.specs.declared.group.Seat.{Seat}
use Rattle.group_servers.specs.declared.group.Group.{Group}
use Rattle.group_servers.specs.GroupCounts.{TellsDown, WorkedAll}
use Rattle.group_servers.specs.GroupKit.{group_kit}
use Rattle.group_servers.specs.GroupLaws.{group_laws}
use Rattle.group_servers.specs.GroupNodes.{active_by}
use Rattle.group_servers.specs.GroupUses.{lacks-quiet}
use Rattle.group_servers.specs.Owing.{LinksAll}
use Rattle.group_servers.specs.Steps.{grew, worked_by, EndsWork}
use Rattle.group_servers.specs.Worked.{TellsWorked}
use Rattle.group_servers.proofs.DealSteps.{done-dealt}
use Rattle.group_servers.proofs.DoneSteps.{done-by}
use Rattle.group_servers.proofs.GroupFiles.{work-files, done-stands}
use Rattle.group_servers.proofs.GroupSteps.{IsStep, calls_for, falls_by, line-works, work-step, work_so, work-comes}
use Rattle.group_servers.proofs.RowSteps.{passed-spent}
use Rattle.group_servers.proofs.UpSteps.{done-up}

armed-lowered : (armed : Option ℕ) (calls : ℕ) → is_some armed ≡ is_some (counts.lowered calls armed)
armed-lowered None calls = refl
armed-lowered (Some left) calls = refl

own-number : (client number : ℕ) (call : Call) (past : List Entry) → IsNumbered (if client == client then (number, call) ∷ calls_in client past else calls_in client past) → number ≡ suc (length (calls_in client past))
own-number client number call past numbered =
    let P : Bool → Type 0 = λ b. IsNumbered (if b then (number, call) ∷ calls_in client past else calls_in client past) → number ≡ suc (length (calls_in client past)) in
    by_test P client client (λ same is. is.0) (λ different is. absurd (different refl)) numbered

-- what a server that worked is left as, and what it asks for
pub record IsWorked (old : Node) (heard : Heard) (new : Node) : Type 0 where
  pub heard_is : heard ≡ with_peer (worked (replies_in old.replica.owed)) old.promised
  pub new_is : new ≡ worked_out old

module _ (n : ℕ) where
  -- What is in hand is ready.

  pub record ReadyFor (setup : Setup) (state : State Peers) (active : Node) : Type 0 where
    pub entry : Entry
    pub ready : state.world.core.hand ≡ Ready entry
    pub active_is : active ≡ active_by setup state.world.core.answered (Ready entry) state.peers.seats

  ready-by : (setup : Setup) (state : State Peers) (hand : Hand) (active : Node) → active ≡ active_by setup state.world.core.answered hand state.peers.seats → IsSome active.replica.owed → active.waits ≡ None → ReadyFor setup (group_at state.peers.seats hand state) active
  ready-by setup state (Ready entry) active is some none = record { entry = entry; ready = refl; active_is = is }
  ready-by setup state Empty active is some none = let rest = subst (λ (node : Node). IsSome node.replica.owed) is some in cc
  ready-by setup state (Waiting entry) active is some none = let waits = sym (ap (λ (node : Node). node.waits) is) ∙ none in cc
  ready-by setup state (Applied entry) active is some none = let waits = sym (ap (λ (node : Node). node.waits) is) ∙ none in cc

  pub ready-for : (setup : Setup) (state : State Peers) (old : Cluster (Group n)) → Shows (group_kit n) setup state old → IsSome old.servers.active.replica.owed → old.servers.active.waits ≡ None → ReadyFor setup state old.servers.active
  ready-for setup state old shows some none =
      ready-by setup state state.world.core.hand old.servers.active (ap (λ (servers : Group n). servers.active) shows.own) some none

  -- the deeds of what is in hand
  pub owed-calls : (setup : Setup) (state : State Peers) (entry : Entry) (old : Cluster (Group n)) → Shows (group_kit n) setup state old → state.world.core.hand ≡ Ready entry → calls_of_all (deeds_in old.servers.active.replica.owed) ≡ calls_of_all (deeds_of setup state.world.core.answered entry)
  owed-calls setup state entry old shows ready =
      ap (λ (servers : Group n). calls_of_all (deeds_in servers.active.replica.owed)) shows.own
      ∙ ap (λ (hand : Hand). calls_of_all (deeds_in (active_by setup state.world.core.answered hand state.peers.seats).replica.owed)) ready

  -- What an event of the code came to.

  -- what a step came to, by what the code was left as
  pub step-came : (setup : Setup) (state : State Peers) (outcome : Outcome (State Peers)) (event : EventBy Peers) (happened : ℕ → ℕ) (old new : Cluster (Group n)) (before after : List (List ℕ)) (held left : DiskSeen) → Shows (group_kit n) setup state old → IsStep n setup state outcome → ComesTo event happened state outcome → IsCaused held.faults left.faults happened → held.faults ≤ left.faults → TellsDown held.faults left.faults outcome.told → WorkedAll (device_by setup happened) state outcome.state (counters_of held) (counters_of left) → Shows (group_kit n) setup outcome.state new → after ≡ before ++ printed outcome.told → left.tally.armed ≡ outcome.state.peers.armed → (TellsFiles setup state held.files → LeavesFiles setup outcome.state held.files left.files) → Came (group_kit n) setup state event new before after (grew old new) held left
  step-came setup state outcome event happened old new before after held left shown step comes caused outlives felled worked shows lines count files = record {
    happened = happened;
    outcome = outcome;
    comes = comes;
    uses = record { caused = caused; later = outlives; felled = felled; worked = worked };
    played = record {
      shows = shows;
      good = step.good;
      lines = lines ∙ ap (λ l. before ++ l) (sym step.told.lines);
      loudness = (λ i. nat_lt (length (shown.history i)) (length (shows.history i))) ∙ sym step.told.loud;
      files = files;
    };
    count = count;
  }

  -- the active server is armed as the disk's count is, however many calls do not reach it
  armed-so : (setup : Setup) (state : State Peers) (calls : ℕ) (held left : DiskSeen) (old : Cluster (Group n)) → Shows (group_kit n) setup state old → left.tally.armed ≡ counts.lowered calls held.tally.armed → held.tally.armed ≡ state.peers.armed → old.servers.armed ≡ is_some left.tally.armed
  armed-so setup state calls held left old shows tally is =
      (armed-shown (group_kit n) (group_laws n)) setup state held old shows is ∙ armed-lowered held.tally.armed calls ∙ ap is_some (sym tally)

  -- **memory ran out**: nothing happened but to the disk, whose files are between
  pub lacks : (setup : Setup) (state : State Peers) (held left : DiskSeen) (old world : Cluster (Group n)) → IsGood (group_kit n) setup state → Shows (group_kit n) setup state old → world.net ≡ old.net → world.agents ≡ old.agents → world.history.entries ≡ old.history.entries → world.now ≡ old.now → (held.tally.armed ≡ state.peers.armed → world.servers.armed ≡ is_some left.tally.armed) → (TellsFiles setup state held.files → LeavesBetween setup (committed state.world.core) held.files left.files) → (Broken (group_kit n)) setup state held left world
  lacks setup state held left old world good shown net agents history now armed files =
      (whole-broken (group_kit n) (group_laws n)) setup state state [] held left world good.steady.sound (unasked-same (plain_of setup) state.world)
      (subst (λ m. AreSpelled state.world.net m) (sym net) shown.net)
      (subst (λ a. ShowsAgents state.world a) (sym agents) shown.agents)
      (history ∙ shown.history) (now ∙ shown.now) armed files

  -- Where the deeds are done.

  abbrev pub worked_as : Cluster (Group n) → Node → List Seat → List (List ℕ) → Cluster (Group n)
  worked_as old active seats net = record old { servers = record old.servers { active = active; seats = seats }; net = net }

  done-shows : (setup : Setup) (state : State Peers) (entry : Entry) (old : Cluster (Group n)) (node active : Node) (seats : List Seat) (net : List (List ℕ)) (heard : Heard) (before after : List (List ℕ)) (calls : ℕ) → IsGood (group_kit n) setup (group_at state.peers.seats (Ready entry) state) → Shows (group_kit n) setup (group_at state.peers.seats (Ready entry) state) old → IsWorked old.servers.active heard node → TellsWorked heard old.net net node active old.servers.seats seats before after → Shows (group_kit n) setup (work_done (plain_of setup) calls entry (group_at state.peers.seats (Ready entry) state)).state (worked_as old active seats net) × (after ≡ before ++ printed (work_done (plain_of setup) calls entry (group_at state.peers.seats (Ready entry) state)).told)
  done-shows setup state entry old node active seats net heard before after calls good shows is told =
      let past = state.world.core.answered in
      let owns = state.peers.seats in
      let now = group_at owns (Ready entry) state in
      let start = active_by setup past (Ready entry) owns in
      let active_now = ap (λ (servers : Group n). servers.active) shows.own in
      let heard_is : heard ≡ with_peer (worked (replies_owed setup past entry)) [] = is.heard_is ∙ ap (λ (node : Node). with_peer (worked (replies_in node.replica.owed)) node.promised) active_now in
      let T : Heard → Type 0 = λ h. PostsAll h.to_net old.net net before after in
      let done = answer-posts setup past entry state.world.net old.net net before after (subst T heard_is told.0) shows.net in
      let L : Node → List Seat → Type 0 = λ first others. LinksAll others seats first active in
      let node_is : node ≡ worked_out start = is.new_is ∙ ap worked_out active_now in
      let links = subst (λ (others : List Seat). L (worked_out start) others) (ap (λ (servers : Group n). servers.seats) shows.own) (subst (λ (first : Node). L first old.servers.seats) node_is told.1) in
      let all = done-by setup past entry owns seats active good.steady.good.agree links in (
        record {
          own = λ i. record (shows.own i) { active = all.1 i; seats = all.0 i; armed = (ap (λ (servers : Group n). servers.armed) shows.own ∙ armed-lowered state.peers.armed calls) i };
          net = done.0;
          agents = agents-as now.world (work_done (plain_of setup) calls entry now).state.world old.agents refl refl refl shows.agents;
          history = shows.history;
          now = shows.now;
          callbacks = shows.callbacks;
        },
        done.1,
      )

  works-by : (setup : Setup) (state : State Peers) (hand : Hand) (entry : Entry) (old : Cluster (Group n)) (node active : Node) (seats : List Seat) (net : List (List ℕ)) (heard : Heard) (before after : List (List ℕ)) (held left : DiskSeen) → hand ≡ Ready entry → IsGood (group_kit n) setup (group_at state.peers.seats hand state) → Shows (group_kit n) setup (group_at state.peers.seats hand state) old → held.tally.armed ≡ state.peers.armed → IsWorked old.servers.active heard node → TellsWorked heard old.net net node active old.servers.seats seats before after → left.files ≡ option_map (all_applied (calls_of_all (deeds_in old.servers.active.replica.owed))) held.files → counts.IsShort (length (calls_of_all (deeds_in old.servers.active.replica.owed))) held.tally.armed → left.tally ≡ counts.passed (length (calls_of_all (deeds_in old.servers.active.replica.owed))) held.tally → left.faults ≡ held.faults → left.stops ≡ held.stops → Came (group_kit n) setup (group_at state.peers.seats hand state) (worked_by n setup) (worked_as old active seats net) before after (grew old (worked_as old active seats net)) held left
  unfolding done-dealt
  works-by setup state (Ready other) entry old node active seats net heard before after held left is good shows count worked told files short tally faults stops =
      let now = group_at state.peers.seats (Ready other) state in
      let past = state.world.core.answered in
      let calls = owed-calls setup now other old shows refl in
      let many = calls_for n setup past other in
      let happened : ℕ → ℕ = λ number. 0 in
      let short_so : counts.IsShort many state.peers.armed = subst (counts.IsShort many) count (subst (λ c. counts.IsShort (length c) held.tally.armed) calls short) in
      let stands : falls_by n setup happened other now ≡ false = done-stands state.peers.seats state.peers.armed many 0 refl good.steady.good.armed short_so in
      let done = done-shows setup state other old node active seats net heard before after many good shows worked told in
      step-came setup now (work_so n setup happened other false now) (worked_by n setup) happened old (worked_as old active seats net) before after held left shows (work-step n setup happened now other false good refl stands) (work-comes n setup (worked_by n setup) happened now other false (line-works n setup now other refl) refl stands)
      (λ never number. refl) (subst (λ (m : ℕ). held.faults ≤ m) (sym faults) (le_refl held.faults)) (λ more. absurd (let same = faults in omega arith))
      (record {
        dealt = done-dealt setup past other held left (passed-spent many held left (tally ∙ ap (λ c. counts.passed (length c) held.tally) calls) faults stops)
            (subst (λ c. counts.IsShort (length c) held.tally.armed) calls short, ap (λ (t : Tally). t.armed) tally ∙ ap (λ c. counts.lowered (length c) held.tally.armed) calls);
        downs = done-up state.peers.seats;
        stays = λ none. refl;
      })
      done.0 done.1
      (ap (λ (t : Tally). t.armed) tally ∙ ap (λ c. counts.lowered (length c) held.tally.armed) calls ∙ ap (counts.lowered many) count)
      (work-files n setup now other held.files left.files good refl (files ∙ ap (λ c. option_map (all_applied c) held.files) calls))
  works-by setup state Empty entry old node active seats net heard before after held left is good shows count worked told files short tally faults stops = cc
  works-by setup state (Waiting other) entry old node active seats net heard before after held left is good shows count worked told files short tally faults stops = cc
  works-by setup state (Applied other) entry old node active seats net heard before after held left is good shows count worked told files short tally faults stops = cc

  -- **the deeds of the entry in hand are done**
  pub works : (old : Cluster (Group n)) (node active : Node) (seats : List Seat) (net : List (List ℕ)) (heard : Heard) (before after : List (List ℕ)) (held left : DiskSeen) → IsSome old.servers.active.replica.owed → old.servers.active.waits ≡ None → IsWorked old.servers.active heard node → TellsWorked heard old.net net node active old.servers.seats seats before after → left.files ≡ option_map (all_applied (calls_of_all (deeds_in old.servers.active.replica.owed))) held.files → counts.IsShort (length (calls_of_all (deeds_in old.servers.active.replica.owed))) held.tally.armed → left.tally ≡ counts.passed (length (calls_of_all (deeds_in old.servers.active.replica.owed))) held.tally → left.faults ≡ held.faults → left.stops ≡ held.stops → Comes (group_kit n) any_state (worked_by n) old (worked_as old active seats net) before after (grew old (worked_as old active seats net)) held left
  works old node active seats net heard before after held left some none worked told files short tally faults stops setup state good shows count so =
      let found = ready-for setup state old shows some none in
      works-by setup state state.world.core.hand found.entry old node active seats net heard before after held left found.ready good shows count worked told files short tally faults stops

  -- Where memory runs out in the deeds, or behind them.

  pub work-lacks : (old : Cluster (Group n)) (node : Node) (before after : List (List ℕ)) (count : ℕ) (held left : DiskSeen) → IsSome old.servers.active.replica.owed → old.servers.active.waits ≡ None → BreaksOff (LeftOn Memory) (calls_of_all (deeds_in old.servers.active.replica.owed)) count held.files left.files → left.tally ≡ counts.asked (counts.passed count held.tally) → left.faults ≡ held.faults → left.stops ≡ held.stops → ComesOff (group_kit n) any_state (EndsWork n) Memory old (record old { servers = record old.servers { active = node } }) before after held left
  work-lacks old node before after count held left some none broke tally stands stops setup state good shows armed so =
      let found = ready-for setup state old shows some none in
      let whole = subst (λ c. BreaksOff (LeftOn Memory) c count held.files left.files) (owed-calls setup state found.entry old shows found.ready) broke in
      let C : Hand → Type 0 = λ hand. LeavesBetween setup (committed_by state.world.core.answered hand) held.files left.files in (
        lacks setup state held left old (record old { servers = record old.servers { active = node } }) good shows refl refl refl refl
            (armed-so setup state count held left old shows (ap (λ (t : Tally). t.armed) tally))
            (λ tells. subst C (sym found.ready) ((broken-between (group_kit n) (group_laws n)) setup state found.entry Memory count held.files left.files whole tells)),
        lacks-quiet setup state old.history.entries (record old.servers { active = node }) (suc count) (counters_of held) (counters_of left) ((shown-ends (group_kit n) (group_laws n)) setup state old shows) (ap (λ (t : Tally). t.changing) tally) stands stops,
      )

  untold-by : (setup : Setup) (state : State Peers) (hand : Hand) (entry : Entry) (old new : Cluster (Group n)) (heard : Heard) (node : Node) (held left : DiskSeen) → hand ≡ Ready entry → IsGood (group_kit n) setup (group_at state.peers.seats hand state) → Shows (group_kit n) setup (group_at state.peers.seats hand state) old → held.tally.armed ≡ state.peers.armed → IsWorked old.servers.active heard node → PostsSome heard.to_net old.net new.net → left.files ≡ option_map (all_applied (calls_of_all (deeds_in old.servers.active.replica.owed))) held.files → counts.IsShort (length (calls_of_all (deeds_in old.servers.active.replica.owed))) held.tally.armed → new.agents ≡ old.agents → new.history.entries ≡ old.history.entries → new.now ≡ old.now → new.servers.armed ≡ is_some left.tally.armed → (Broken (group_kit n)) setup (group_at state.peers.seats hand state) held left new
  untold-by setup state (Ready other) entry old new heard node held left is good shows armed worked posts files short agents history now counted =
      let past = state.world.core.answered in
      let before = group_at state.peers.seats (Ready other) state in
      let calls = owed-calls setup before other old shows refl in
      let count = calls_for n setup past other in
      let happened : ℕ → ℕ = λ number. 0 in
      let short_so : counts.IsShort count state.peers.armed = subst (counts.IsShort count) armed (subst (λ c. counts.IsShort (length c) held.tally.armed) calls short) in
      let stands = done-stands state.peers.seats state.peers.armed count 0 refl good.steady.good.armed short_so in
      let step = work-step n setup happened before other false good refl stands in
      let after = work_done (plain_of setup) count other before in
      let P : Node → Type 0 = λ node. PostsSome (replies_in node.replica.owed) old.net new.net in
      let owed = subst (λ (servers : Group n). P servers.active) shows.own (subst (λ (h : Heard). PostsSome h.to_net old.net new.net) worked.heard_is posts) in
      let between : TellsFiles setup before held.files → LeavesBetween setup (other ∷ past) held.files left.files =
      λ tells. (left-between (group_kit n) (group_laws n)) setup after.state held left step.good (work-files n setup before other held.files left.files good refl (files ∙ ap (λ c. option_map (all_applied c) held.files) calls) tells)
      in
      let seen = subst (λ a. ShowsAgents before.world a) (sym agents) shows.agents in
      elim (answer-breaks setup past other state.world.net old.net new.net owed shows.net) [
        | inl spelled ↦ (whole-broken (group_kit n) (group_laws n)) setup before before [] held left new good.steady.sound (unasked-same (plain_of setup) before.world) spelled seen (history ∙ shows.history) (now ∙ shows.now) (λ same. counted) between
        | inr spelled ↦ (whole-broken (group_kit n) (group_laws n)) setup before after.state after.told held left new step.good.steady.sound step.unasked spelled
            (agents-as before.world after.state.world new.agents refl refl refl seen)
            (history ∙ shows.history) (now ∙ shows.now) (λ same. counted) between
      ]
  untold-by setup state Empty entry old new heard node held left is good shows armed worked posts files short agents history now counted = cc
  untold-by setup state (Waiting other) entry old new heard node held left is good shows armed worked posts files short agents history now counted = cc
  untold-by setup state (Applied other) entry old new heard node held left is good shows armed worked posts files short agents history now counted = cc

  pub work-untold : (old new : Cluster (Group n)) (heard : Heard) (node : Node) (before after : List (List ℕ)) (held left : DiskSeen) → IsSome old.servers.active.replica.owed → old.servers.active.waits ≡ None → IsWorked old.servers.active heard node → PostsSome heard.to_net old.net new.net → left.files ≡ option_map (all_applied (calls_of_all (deeds_in old.servers.active.replica.owed))) held.files → counts.IsShort (length (calls_of_all (deeds_in old.servers.active.replica.owed))) held.tally.armed → left.tally ≡ counts.passed (length (calls_of_all (deeds_in old.servers.active.replica.owed))) held.tally → left.faults ≡ held.faults → left.stops ≡ held.stops → new.agents ≡ old.agents → new.history.entries ≡ old.history.entries → new.now ≡ old.now → new.servers.armed ≡ old.servers.armed → ComesOff (group_kit n) any_state (EndsWork n) Memory old new before after held left
  work-untold old new heard node before after held left some none worked posts files short tally stands stops agents history now same setup state good shows armed so =
      let found = ready-for setup state old shows some none in (
        untold-by setup state state.world.core.hand found.entry old new heard node held left found.ready good shows armed worked posts files short agents history now
            (same ∙ armed-so setup state (length (calls_of_all (deeds_in old.servers.active.replica.owed))) held left old shows (ap (λ (t : Tally). t.armed) tally) armed),
        lacks-quiet setup state new.history.entries new.servers (length (calls_of_all (deeds_in old.servers.active.replica.owed))) (counters_of held) (counters_of left) (subst (λ (entries : List Entry). EndsIn entries state.world.core.answered) (sym history) ((shown-ends (group_kit n) (group_laws n)) setup state old shows)) (ap (λ (t : Tally). t.changing) tally) stands stops,
      )

  -- What is posted is in range.

  replies-range : (setup : Setup) (state : State Peers) (entry : Entry) → IsGood (group_kit n) setup (group_at state.peers.seats (Ready entry) state) → AllByRecursion MessageInRange (replies_owed setup state.world.core.answered entry)
  replies-range setup state (Called client number time call) good =
      let past = state.world.core.answered in
      let is = own-number client number call past (good.steady.sound.facts.legal.numbered client) in
      let few = calls-few client past in
      let can = good.range.0 in
      let below = can.few in
      ((record { least = can.from; most = can.to }, record { least = omega arith; most = omega arith }), tt)
  replies-range setup state (Receipted client key through time) good = tt

  worked-range-by : (setup : Setup) (state : State Peers) (hand : Hand) (entry : Entry) (old : Cluster (Group n)) (heard : Heard) (node : Node) → hand ≡ Ready entry → IsGood (group_kit n) setup (group_at state.peers.seats hand state) → Shows (group_kit n) setup (group_at state.peers.seats hand state) old → IsWorked old.servers.active heard node → AllByRecursion MessageInRange heard.to_net
  worked-range-by setup state (Ready other) entry old heard node is good shows worked =
      let H : Heard → Type 0 = λ h. AllByRecursion MessageInRange h.to_net in
      let O : Group n → Type 0 = λ servers. AllByRecursion MessageInRange (replies_in servers.active.replica.owed) in
      subst H (sym worked.heard_is) (subst O (sym shows.own) (replies-range setup state other good))
  worked-range-by setup state Empty entry old heard node is good shows worked = cc
  worked-range-by setup state (Waiting other) entry old heard node is good shows worked = cc
  worked-range-by setup state (Applied other) entry old heard node is good shows worked = cc

  pub worked-range : (old : Cluster (Group n)) (heard : Heard) (node : Node) → HasState (group_kit n) old → IsSome old.servers.active.replica.owed → old.servers.active.waits ≡ None → IsWorked old.servers.active heard node → AllByRecursion MessageInRange heard.to_net
  worked-range old heard node has some none worked =
      let found = ready-for has.setup has.state old has.shows some none in
      worked-range-by has.setup has.state has.state.world.core.hand found.entry old heard node found.ready has.good has.shows worked

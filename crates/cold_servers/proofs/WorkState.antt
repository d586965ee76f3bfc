-- The entry in hand is worked: what the server and its disks come to, at a state.
use Rattle.std.proofs.Common.{◌≡◌, inl, inr, ℕ, zero, suc, Bool, true, false, ◌&&◌, ◌||◌, nat_le, nat_lt, Option, Some, None, option_map, List, [], ◌∷◌, ◌++◌, length, refl, ap, sym, subst, ◌∙◌, arith}
use Rattle.std.specs.Prelude.{is_some, IfSome, IsSome, Result, Ok, Err}
use Rattle.disk_model.specs.Counts.{CountsDone, IsShort, lowered}
use Rattle.disk_model.specs.DeviceCalls.{DeviceCall, all_applied}
use Rattle.disk_model.specs.Disk.{Files}
use Rattle.disk_model.specs.Seen.{DiskSeen}
use Rattle.disk_model.specs.declared.answers.DiskAnswer.{DiskAnswer}
use Rattle.disk_model.specs.declared.tally.Tally.{Tally}
use Rattle.stream_layout.specs.Deeds.{calls_of_all}
use Rattle.script_lines.specs.declared.line.Line.TheVariants as line
use Rattle.script_lines.specs.declared.line.Server.TheVariants.{A}
use Rattle.plain_service.specs.Setups.{Setup}
use Rattle.plain_service.specs.Storing.{deeds_of, files_of}
use Rattle.service_laws.specs.PlainOf.{plain_of}
use Rattle.service_laws.proofs.Attempting.{same-applied}
use Rattle.service_laws.proofs.ServiceLaws.{is_plain}
use Rattle.service_laws.proofs.StorageLaws.{is_storage}
use Rattle.cluster_facts.specs.Types.{Entry, Called, Receipted}
use Rattle.cluster_facts.specs.Messages.{Posting}
use Rattle.cluster_facts.specs.History.{Hand, Empty, Waiting, Applied, Ready}
use Rattle.cluster_facts.specs.World.{World}
use Rattle.cluster_events.specs.Devices.{EventBy}
use Rattle.cluster_events.specs.Events.{step_or_refuse, work_next}
use Rattle.cluster_events.specs.Outcomes.{Outcome}
use Rattle.cluster_events.specs.Servers.{State, advances, after_step}
use Rattle.cluster_clients.specs.Posted.{PostsAll}
use Rattle.cluster_clients.proofs.DispatchSteps.{agents-as}
use Rattle.cluster_clients.proofs.ToldLines.{not-less}
use Rattle.group_cluster.specs.Answering.{lines_answering, net_answering}
use Rattle.group_cluster.specs.Group.{work_as}
use Rattle.group_cluster.specs.Seats.{Clear}
use Rattle.mirror.specs.declared.heard.Heard.{Heard}
use Rattle.mirror.specs.declared.state.NodeState.{NodeState}
use Rattle.mirror.specs.Replicas.{replies_owed}
use Rattle.mirror.specs.Working.{deeds_in, replies_in}
use Rattle.journal_start.specs.Journals.{PerformsOrLacks}
use Rattle.cluster_rounds.specs.declared.cluster.Cluster.{Cluster}
use Rattle.cluster_rounds.specs.Kits.{device_by, servers_at}
use Rattle.cluster_rounds.specs.Rounds.{EventOver, advances_by}
use Rattle.cluster_rounds.specs.Came.{Came}
use Rattle.cluster_rounds.specs.Worlds.{IsGood, Shows}
use Rattle.cluster_rounds.proofs.HearSteps.{IsQuiet, quiet-answer}
use Rattle.lead_rounds.proofs.ReplySteps.{answer-posts}
use Rattle.cold_cluster.specs.Cold.{Alone, IsCold, alone_by, calm, paired, seats_with}
use Rattle.cold_cluster.specs.Lines.{IsLeft}
use Rattle.lone_server.specs.declared.lone.Lone.{Lone}
use Rattle.cold_servers.specs.declared.solo.Solo.{Solo}
use Rattle.lone_server.specs.Joining.{left_by}
use Rattle.lone_server.specs.Working.{EndsWork, Works, WorksOver, worked_lone}
use Rattle.cold_servers.specs.ColdKit.{cold_kit}
use Rattle.cold_servers.specs.ColdLaws.{cold_laws, left-told}
use Rattle.cold_servers.specs.ColdNodes.{OwnBy, active_by, journal_by, up_by}
use Rattle.cold_servers.specs.ColdSeen.{ColdSeen, JournalHeld, LeavesBoth, LeavesTold, TellsBoth}
use Rattle.cold_servers.proofs.AckState.{ready_at}
use Rattle.cold_servers.specs.ColdCounts.{Done, join_calls, work_calls}
use Rattle.cold_servers.specs.CountLaws.{between-one, between-same, made-same}
use Rattle.cold_servers.proofs.CountSteps.{Stands, done-changed, made-by, some-lowered}
use Rattle.cold_servers.proofs.JoinState.{left-lowered}
use Rattle.cold_servers.proofs.MarkSteps.{mark_by, seats-are}

-- What is in hand is ready.

pub ready-so : (setup : Setup) (past : List Entry) (hand : Hand) (node : NodeState) → node ≡ active_by setup past hand → IsSome node.replica.owed → node.waits ≡ None → (entry : Entry) × (hand ≡ Ready entry)
ready-so setup past (Ready entry) node is some none = (entry, refl)
ready-so setup past Empty node is some none = let rest = subst (λ (n : NodeState). IsSome n.replica.owed) is some in cc
ready-so setup past (Waiting entry) node is some none = let waits = sym (ap (λ (n : NodeState). n.waits) is) ∙ none in cc
ready-so setup past (Applied entry) node is some none = let waits = sym (ap (λ (n : NodeState). n.waits) is) ∙ none in cc

pub is-ready : (state : State Alone) (entry : Entry) → (cold : IsCold state) → state.peers.up ≡ true → state.world.core.hand ≡ Ready entry → ready_at state.world entry cold.1.keeps state.peers.armed state.peers.beside ≡ state
is-ready state entry cold up ready =
    let beside = cold.1 in
    let seats = ap (λ (hand : Hand). seats_with (mark_by hand) beside.keeps) (sym ready) ∙ seats-are state cold in
    λ i. record {
      world = record state.world { core = record { answered = state.world.core.answered; hand = sym ready i } };
      peers = record {
        mirrored = record { acting = sym beside.acting i; seats = seats i; armed = sym beside.unarmed i };
        up = sym up i;
        armed = state.peers.armed;
        beside = state.peers.beside;
      };
    }

-- The state behind it.

abbrev pub calls_for : Setup → List Entry → Entry → List DeviceCall
calls_for setup past entry = calls_of_all (deeds_of setup past entry)

abbrev pub worked : Setup → World → Entry → Bool → Option ℕ → Option ℕ → Outcome (State Alone)
worked setup world entry keeps armed beside =
    let past = world.core.answered in
    record {
      state = record {
        world = record world { core = record { answered = entry ∷ past; hand = Empty }; net = net_answering (plain_of setup) past entry world.net };
        peers = record {
          mirrored = record { acting = A; seats = seats_with Clear keeps; armed = None };
          up = true;
          armed = lowered (length (calls_for setup past entry)) armed;
          beside = beside;
        };
      };
      told = lines_answering (plain_of setup) past entry world.net;
    }

abbrev pub worked_by : EventOver cold_kit
worked_by setup fails state = work_next (servers_at cold_kit setup fails) state

-- a disk that does not fail and is not armed as one of a group does not take the server down
none-falls : (calls : ℕ) → ((nat_le 1 calls && false) || false) ≡ false
none-falls calls = elim (nat_le 1 calls) as (λ b. ((b && false) || false) ≡ false) [ true ↦ refl | false ↦ refl ]

pub works-so : (setup : Setup) (fails : ℕ → ℕ) (world : World) (entry : Entry) (keeps : Bool) (armed beside : Option ℕ) → (servers_at cold_kit setup fails).work (ready_at world entry keeps armed beside) ≡ Some (worked setup world entry keeps armed beside)
works-so setup fails world entry keeps armed beside =
    let calls = length (calls_for setup world.core.answered entry) in
    let W : Bool → Option (Outcome (State Alone)) = λ b. Some (alone_by true (lowered calls armed) beside (work_as (plain_of setup) (calm (device_by setup fails)) entry b (paired (ready_at world entry keeps armed beside)))) in
    ap W (none-falls calls)

pub work-is : (setup : Setup) (fails : ℕ → ℕ) (world : World) (entry : Entry) (keeps : Bool) (armed beside : Option ℕ) → worked_by setup fails (ready_at world entry keeps armed beside) ≡ worked setup world entry keeps armed beside
work-is setup fails world entry keeps armed beside =
    let state = ready_at world entry keeps armed beside in
    ap (λ (found : Option (Outcome (State Alone))). step_or_refuse (servers_at cold_kit setup fails) line.Work found state)
    (works-so setup fails world entry keeps armed beside)

-- The disks, where the deeds are done.

pub record WorkDone (calls : List DeviceCall) (held left second second_left : DiskSeen) : Type 0 where
  pub files : left.files ≡ option_map (all_applied calls) held.files
  pub counts : CountsDone (length calls) held.tally left.tally
  pub beside : second_left ≡ second

pub done-of : {T : Type 0} (result : Result T DiskAnswer) (calls : List DeviceCall) (held mid left beside beside_left : DiskSeen) (heard : Heard) → PerformsOrLacks {T = Heard} calls (Ok heard) held.files mid.files held.tally mid.tally → left ≡ mid → beside_left ≡ beside → WorkDone calls held left beside beside_left
done-of result calls held mid left beside beside_left heard (inl lacks) is same = let no = lacks.0 in cc
done-of result calls held mid left beside beside_left heard (inr performs) is same = record {
  files = ap (λ (seen : DiskSeen). seen.files) is ∙ performs.0;
  counts = subst (λ (seen : DiskSeen). CountsDone (length calls) held.tally seen.tally) (sym is) performs.1;
  beside = same;
}

by-worked : {T : Type 0} (done : T) (calls : List DeviceCall) (heard : Result Heard DiskAnswer) (held mid left beside beside_left : DiskSeen) → PerformsOrLacks calls heard held.files mid.files held.tally mid.tally → EndsWork (Ok done) heard → left ≡ left_by heard mid → beside_left ≡ left_by heard beside → WorkDone calls held left beside beside_left
by-worked done calls (Ok heard) held mid left beside beside_left performs ends is same =
    done-of (Ok done) calls held mid left beside beside_left heard performs is same
by-worked done calls (Err answer) held mid left beside beside_left performs ends is same = absurd ends

pub works-over : {T : Type 0} (done : T) (calls : List DeviceCall) (held left beside beside_left : DiskSeen) → WorksOver calls (Ok done) held left beside beside_left → WorkDone calls held left beside beside_left
works-over done calls held left beside beside_left over =
    by-worked done calls over.worked held over.mid left beside beside_left over.performs over.ends over.disk over.journal

-- a count that is not reached leaves a call at least
left-worked : (calls : ℕ) (armed : Option ℕ) → IsLeft armed → IsShort calls armed → IsLeft (lowered calls armed)
left-worked calls None left short = tt
left-worked zero (Some count) left short = omega (arith, left)
left-worked (suc calls) (Some count) left short = left-lowered (suc calls) (Some count) (omega arith) short

-- The reply, and its line.

pub answer-quiet : (setup : Setup) (past : List Entry) (entry : Entry) (net : List Posting) → IsQuiet (lines_answering (plain_of setup) past entry net)
answer-quiet setup past (Called client number time call) net =
    quiet-answer (plain_of setup) client number ((plain_of setup).reply past client number time call) net
answer-quiet setup past (Receipted client key through time) net = record { lines = refl; quiet = refl }

module _ (setup : Setup) (world : World) (entry : Entry) (keeps : Bool) (armed beside : Option ℕ) (old : Cluster Solo) (good : IsGood cold_kit setup (ready_at world entry keeps armed beside)) (shows : Shows cold_kit setup (ready_at world entry keeps armed beside) old) where
  abbrev past : List Entry
  past = world.core.answered

  abbrev state : State Alone
  state = ready_at world entry keeps armed beside

  abbrev outcome : Outcome (State Alone)
  outcome = worked setup world entry keeps armed beside

  -- the deeds are those of the entry
  pub calls-are : calls_of_all (deeds_in old.servers.lone.node.replica.owed) ≡ calls_for setup past entry
  calls-are = ap (λ (s : Lone). calls_of_all (deeds_in s.node.replica.owed)) shows.own

  pub work-steps : IsGood cold_kit setup outcome.state
  work-steps =
      let stepped = (cold_laws.stepped (plain_of setup) (device_by setup (λ number. 0)) (is_plain setup)).work.steps state outcome (works-so setup (λ number. 0) world entry keeps armed beside) good.steady in
      record { begins = good.begins; steady = stepped.0; range = good.range; moment = good.moment }

  -- the record files are those of the longer history
  work-files : (held left : Option Files) → left ≡ option_map (all_applied (calls_for setup past entry)) held → IfSome held (λ files. files ≡ files_of setup past) → LeavesTold (λ files. files ≡ files_of setup (entry ∷ past)) held left
  work-files None left is tells = is
  work-files (Some files) left is tells =
      let calls = calls_for setup past entry in
      let made = (is_storage setup good.begins).works world.now entry past good.steady.sound.facts.legal good.range in
      (all_applied calls files, is, ap (all_applied calls) tells ∙ sym (same-applied calls (files_of setup past)) ∙ made)

  pub work-leaves : (held left : ColdSeen) → WorkDone (calls_for setup past entry) held.disk left.disk held.journal left.journal → TellsBoth setup state held → LeavesBoth setup outcome.state held left
  work-leaves held left done tells = record {
    beside = record { acting = refl; mark = Clear; keeps = keeps; seats = refl; unarmed = refl };
    disk = work-files held.disk.files left.disk.files done.files tells.disk;
    journal = subst (λ (seen : DiskSeen). LeavesTold (JournalHeld setup outcome.state) held.journal.files seen.files) (sym done.beside)
        (left-told (JournalHeld setup state) held.journal.files tells.journal);
  }

  -- what the code did
  worked-servers : (servers : Lone) → servers ≡ worked_lone old.servers.lone → servers ≡ up_by setup (entry ∷ past) Empty outcome.state.peers
  worked-servers servers is =
      let counts : Bool → Lone = λ some. record {
        node = active_by setup (entry ∷ past) Empty;
        journal = journal_by setup (entry ∷ past);
        link = [];
        back = [];
        armed = some || is_some beside;
      }
      in
      is ∙ ap worked_lone shows.own ∙ ap counts (sym (some-lowered (length (calls_for setup past entry)) armed))

  -- what both counted: the calls of the deeds
  worked-done : (held left : ColdSeen) → WorkDone (calls_for setup past entry) held.disk left.disk held.journal left.journal → Stands held.disk left.disk → Done setup state outcome.state held left
  worked-done held left done stands =
      let changed = done-changed (length (calls_for setup past entry)) held.disk.tally left.disk.tally done.counts in
      record {
        works = work_calls setup past entry;
        appends = 0;
        went = record { worked = between-one (work_calls setup) past entry; joined = between-same join_calls (entry ∷ past) (entry ∷ past) refl };
        up = refl;
        beside = record { acting = refl; mark = Clear; keeps = keeps; seats = refl; unarmed = refl };
        unread = record { disk = changed.1; journal = ap (λ (seen : DiskSeen). seen.tally.reading) done.beside };
        disk = made-by (work_calls setup past entry) held.disk left.disk changed.0 stands;
        journal = made-same held.journal left.journal done.beside;
      }

  works-at : (event : EventBy Alone) → ((fails : ℕ → ℕ) → event fails state ≡ outcome) → {T : Type 0} (result : T) (servers : Lone) (net before after : List (List ℕ)) (held left : ColdSeen) → cold_kit.Armed state.peers held → Works old.servers.lone servers old.net net before after → WorksOver (calls_of_all (deeds_in old.servers.lone.node.replica.owed)) (Ok result) held.disk left.disk held.journal left.journal → Stands held.disk left.disk
      → Came cold_kit setup state event (record old { servers = record { lone = servers }; net = net }) before after (nat_lt (length old.history.entries) (length old.history.entries)) held left
  works-at event so result servers net before after held left count works over stood =
      let calls = calls_for setup past entry in
      let done : WorkDone calls held.disk left.disk held.journal left.journal =
      subst (λ (c : List DeviceCall). WorkDone c held.disk left.disk held.journal left.journal) calls-are
      (works-over result (calls_of_all (deeds_in old.servers.lone.node.replica.owed)) held.disk left.disk held.journal left.journal over)
      in
      let posts : PostsAll (replies_owed setup past entry) old.net net before after = subst (λ (s : Lone). PostsAll (replies_in s.node.replica.owed) old.net net before after) shows.own works.posts in
      let told = answer-posts setup past entry world.net old.net net before after posts shows.net in
      let quiet = answer-quiet setup past entry world.net in
      let fewer : lowered (length calls) held.disk.tally.armed ≡ lowered (length calls) armed = ap (lowered (length calls)) count.disk in
      record {
        happened = λ number. 0;
        outcome = outcome;
        comes = record { later = omega arith; is = λ fails agrees. so fails };
        uses = record { never = λ number. refl; done = λ besides. worked-done held left done stood };
        played = record {
          shows = record {
            own = worked-servers servers works.servers;
            net = told.0;
            agents = agents-as (ready_at world entry keeps armed beside).world outcome.state.world old.agents refl refl refl shows.agents;
            history = shows.history;
            now = shows.now;
            callbacks = shows.callbacks;
          };
          good = work-steps;
          lines = told.1 ∙ ap (λ (l : List (List ℕ)). before ++ l) (sym quiet.lines);
          loudness = not-less (length old.history.entries) ∙ sym quiet.quiet;
          files = work-leaves held left done;
        };
        count = record {
          disk = ap (λ (t : Tally). t.armed) done.counts.1 ∙ fewer;
          journal = ap (λ (seen : DiskSeen). seen.tally.armed) done.beside ∙ count.journal;
          left = (
            subst IsLeft fewer (left-worked (length calls) held.disk.tally.armed (subst IsLeft (sym count.disk) count.left.0) done.counts.0),
            count.left.1,
          );
        };
      }

-- over any state in which the server is up, by an event that does so
works-by : (setup : Setup) (event : EventBy Alone) → ((fails : ℕ → ℕ) (world : World) (entry : Entry) (keeps : Bool) (armed beside : Option ℕ) → event fails (ready_at world entry keeps armed beside) ≡ worked setup world entry keeps armed beside) → {T : Type 0} (result : T) (state : State Alone) (old : Cluster Solo) (servers : Lone) (net before after : List (List ℕ)) (held left : ColdSeen) → IsGood cold_kit setup state → Shows cold_kit setup state old → cold_kit.Armed state.peers held → state.peers.up ≡ true → IsSome old.servers.lone.node.replica.owed → old.servers.lone.node.waits ≡ None → Works old.servers.lone servers old.net net before after → WorksOver (calls_of_all (deeds_in old.servers.lone.node.replica.owed)) (Ok result) held.disk left.disk held.journal left.journal → Stands held.disk left.disk
    → Came cold_kit setup state event (record old { servers = record { lone = servers }; net = net }) before after (nat_lt (length old.history.entries) (length old.history.entries)) held left
works-by setup event so result state old servers net before after held left good shows count up some none works over stood =
    let core = state.world.core in
    let own = subst (λ (b : Bool). OwnBy b setup core.answered core.hand state.peers old.servers.lone) up shows.own in
    let ready = ready-so setup core.answered core.hand old.servers.lone.node (ap (λ (s : Lone). s.node) own) some none in
    let cold = good.steady.good in
    let same = is-ready state ready.0 cold up ready.1 in
    let loud = nat_lt (length old.history.entries) (length old.history.entries) in
    subst (λ (s : State Alone). Came cold_kit setup s event (record old { servers = record { lone = servers }; net = net }) before after loud held left) same
    (works-at setup state.world ready.0 cold.1.keeps state.peers.armed state.peers.beside old
    (subst (λ (s : State Alone). IsGood cold_kit setup s) (sym same) good) (subst (λ (s : State Alone). Shows cold_kit setup s old) (sym same) shows)
    event (λ fails. so fails state.world ready.0 cold.1.keeps state.peers.armed state.peers.beside) result servers net before after held left
    (subst (λ (s : State Alone). cold_kit.Armed s.peers held) (sym same) count) works over stood)

-- **the entry in hand is worked**, as a line does it
pub works-comes : (setup : Setup) → {T : Type 0} (result : T) (state : State Alone) (old : Cluster Solo) (servers : Lone) (net before after : List (List ℕ)) (held left : ColdSeen) → IsGood cold_kit setup state → Shows cold_kit setup state old → cold_kit.Armed state.peers held → state.peers.up ≡ true → IsSome old.servers.lone.node.replica.owed → old.servers.lone.node.waits ≡ None → Works old.servers.lone servers old.net net before after → WorksOver (calls_of_all (deeds_in old.servers.lone.node.replica.owed)) (Ok result) held.disk left.disk held.journal left.journal → Stands held.disk left.disk
    → Came cold_kit setup state (worked_by setup) (record old { servers = record { lone = servers }; net = net }) before after (nat_lt (length old.history.entries) (length old.history.entries)) held left
works-comes setup result state old servers net before after held left good shows count up some none works over stood =
    works-by setup (worked_by setup) (λ fails world entry keeps armed beside. work-is setup fails world entry keeps armed beside)
    result state old servers net before after held left good shows count up some none works over stood

-- and as a step of a drain: nothing is on the way
step-works : (setup : Setup) (fails : ℕ → ℕ) (world : World) (entry : Entry) (keeps : Bool) (armed beside : Option ℕ) → advances_by cold_kit 1 setup fails (ready_at world entry keeps armed beside) ≡ worked setup world entry keeps armed beside
step-works setup fails world entry keeps armed beside =
    let state = ready_at world entry keeps armed beside in
    let servers = servers_at cold_kit setup fails in
    ap (λ (found : Option (Outcome (State Alone))). after_step (advances servers zero) found state) (works-so setup fails world entry keeps armed beside)

pub works-advance : (setup : Setup) → {T : Type 0} (result : T) (state : State Alone) (old : Cluster Solo) (servers : Lone) (net before after : List (List ℕ)) (held left : ColdSeen) → IsGood cold_kit setup state → Shows cold_kit setup state old → cold_kit.Armed state.peers held → state.peers.up ≡ true → IsSome old.servers.lone.node.replica.owed → old.servers.lone.node.waits ≡ None → Works old.servers.lone servers old.net net before after → WorksOver (calls_of_all (deeds_in old.servers.lone.node.replica.owed)) (Ok result) held.disk left.disk held.journal left.journal → Stands held.disk left.disk
    → Came cold_kit setup state (advances_by cold_kit 1 setup) (record old { servers = record { lone = servers }; net = net }) before after (nat_lt (length old.history.entries) (length old.history.entries)) held left
works-advance setup result state old servers net before after held left good shows count up some none works over stood =
    works-by setup (advances_by cold_kit 1 setup) (λ fails world entry keeps armed beside. step-works setup fails world entry keeps armed beside)
    result state old servers net before after held left good shows count up some none works over stood

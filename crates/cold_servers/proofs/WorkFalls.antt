-- A work that breaks off: where the record disk stops the cluster goes on, a fault ends the event, and memory may be wanting.
use Rattle.std.proofs.Common.{◌≡◌, inl, inr, ℕ, ◌+◌, suc, ◌≤◌, Bool, true, Option, Some, None, List, [], ◌∷◌, ◌++◌, length, refl, ap, sym, subst, arith, le_refl, length-append}
use Rattle.std.specs.Prelude.{is_some, IsSome, Result, Ok, Err}
use Rattle.std.proofs.lemmas.Bool.Decides.{nat_tests}
use Rattle.disk_model.specs.Counts.{CountsBroken, reaches}
use Rattle.disk_model.specs.DeviceCalls.{BreaksOff, DeviceCall, LeftOn}
use Rattle.disk_model.specs.Disk.{Files}
use Rattle.disk_model.specs.Seen.{DiskSeen}
use Rattle.disk_model.specs.declared.answers.DiskAnswer.{DiskAnswer}
use Rattle.disk_model.specs.declared.answers.DiskAnswer.TheVariants.{Memory, Failed, Stopped}
use Rattle.stream_layout.specs.Deeds.{calls_of_all}
use Rattle.script_lines.specs.declared.line.Server.TheVariants.{A}
use Rattle.plain_service.specs.Setups.{Setup}
use Rattle.service_laws.specs.Disks.{service_disk}
use Rattle.service_laws.specs.PlainOf.{plain_of}
use Rattle.service_laws.specs.StorageOf.{storage_of}
use Rattle.service_laws.proofs.ServiceLaws.{is_plain}
use Rattle.cluster_facts.specs.Types.{Entry}
use Rattle.cluster_facts.specs.History.{Ready}
use Rattle.cluster_facts.specs.Lists.{EndsIn}
use Rattle.cluster_facts.specs.Storage.{Between}
use Rattle.cluster_facts.specs.World.{World}
use Rattle.cluster_events.specs.declared.lines.ServerRole.TheVariants.{Down}
use Rattle.cluster_events.specs.Servers.{State}
use Rattle.cluster_clients.specs.Posted.{PostsSome}
use Rattle.cluster_clients.specs.Spelled.{AreSpelled}
use Rattle.cluster_clients.proofs.DispatchSteps.{agents-as}
use Rattle.event_text.specs.Texts.{server_line}
use Rattle.group_cluster.specs.Answering.{net_answering}
use Rattle.mirror.specs.declared.heard.Heard.{Heard}
use Rattle.mirror.specs.Working.{deeds_in, replies_in}
use Rattle.journal_start.specs.Journals.{PerformsOrLacks}
use Rattle.cluster_rounds.specs.declared.cluster.Cluster.{Cluster}
use Rattle.cluster_rounds.specs.Broken.{Broken, LeavesBetween}
use Rattle.cluster_rounds.specs.Came.{Ended, Halted}
use Rattle.cluster_rounds.specs.Kits.{device_by}
use Rattle.cluster_rounds.specs.Rounds.{EndsStep}
use Rattle.cluster_rounds.specs.Worlds.{IsGood, Shows}
use Rattle.cluster_rounds.proofs.BrokenSteps.{broken-between, whole-broken}
use Rattle.cluster_rounds.proofs.UnaskedSteps.{unasked-same}
use Rattle.cold_cluster.specs.Cold.{Alone}
use Rattle.cold_cluster.specs.Falling.{fallen}
use Rattle.cold_cluster.proofs.Keeping.{falls}
use Rattle.lead_rounds.proofs.ReplySteps.{answer-breaks}
use Rattle.lone_server.specs.declared.lone.Lone.{Lone}
use Rattle.cold_servers.specs.declared.solo.Solo.{Solo}
use Rattle.lone_server.specs.Falls.{downed, unarmed}
use Rattle.lone_server.specs.Joining.{left_by}
use Rattle.lone_server.specs.Working.{EndsWork, WorkBreaks, WorksOver}
use Rattle.cold_servers.specs.ColdKit.{cold_kit}
use Rattle.cold_servers.specs.ColdLaws.{cold_laws}
use Rattle.cold_servers.specs.ColdNodes.{IsDown, OwnBy}
use Rattle.cold_servers.specs.ColdSeen.{BetweenBoth, ColdSeen, JournalBetween, JournalHeld, LeavesBoth, LeavesTold, TellsBoth}
use Rattle.cold_servers.specs.ColdCounts.{Lacked, LacksBoth, WentDown, Working, join_calls, work_calls}
use Rattle.cold_servers.specs.CountLaws.{between-same, made-as, made-same, zero-plus}
use Rattle.cold_servers.proofs.AckState.{ready_at}
use Rattle.cold_servers.proofs.ArmSteps.{armed-kept, down-of, fallen-good, kept-told, unarmed-made}
use Rattle.cold_servers.proofs.CountSteps.{IsFall, RoseBy, Stands, Tried, broke-as, made-by, stands-lacking, tried-all, tried-none, tried-some}
use Rattle.cold_servers.proofs.WorkState.{WorkDone, calls_for, calls-are, done-of, is-ready, ready-so, work-leaves, work-steps, worked, works-so}

-- some of the calls were done, and the next one gave the answer; then neither disk is armed
pub record WorkBroke (answer : DiskAnswer) (calls : List DeviceCall) (held left beside beside_left : DiskSeen) : Type 0 where
  pub mid : DiskSeen
  pub count : ℕ
  pub broke : BreaksOff (LeftOn answer) calls count held.files mid.files
  pub counts : CountsBroken answer count held.tally mid.tally
  pub left_is : left ≡ unarmed mid
  pub beside_is : beside_left ≡ unarmed beside

broke-by : (T : Type 0) (answer : DiskAnswer) (calls : List DeviceCall) (heard : Result Heard DiskAnswer) (held mid left beside beside_left : DiskSeen) → IsFall answer → PerformsOrLacks calls heard held.files mid.files held.tally mid.tally → EndsWork {T = T} (Err answer) heard → left ≡ left_by heard mid → beside_left ≡ left_by heard beside → WorkBroke answer calls held left beside beside_left
broke-by T Memory calls heard held mid left beside beside_left fall performs ends is same = absurd fall
broke-by T Failed calls (Err Failed) held mid left beside beside_left fall (inl lacks) ends is same = let no = lacks.0 in cc
broke-by T Failed calls (Err Failed) held mid left beside beside_left fall (inr performs) ends is same =
    record { mid = mid; count = performs.0; broke = performs.1; counts = performs.2; left_is = is; beside_is = same }
broke-by T Stopped calls (Err Stopped) held mid left beside beside_left fall (inl lacks) ends is same = let no = lacks.0 in cc
broke-by T Stopped calls (Err Stopped) held mid left beside beside_left fall (inr performs) ends is same =
    record { mid = mid; count = performs.0; broke = performs.1; counts = performs.2; left_is = is; beside_is = same }
broke-by T _ calls heard held mid left beside beside_left fall performs ends is same = absurd ends

-- fewer than all were done
fewer-deeds : (answer : DiskAnswer) (calls : List DeviceCall) (count : ℕ) (held mid : Option Files) → BreaksOff (LeftOn answer) calls count held mid → suc count ≤ length calls
fewer-deeds answer calls count held mid broke =
    let whole : length calls ≡ length (broke.done ++ broke.broken ∷ broke.undone) = ap length broke.in_order in
    let parts = length-append broke.done (broke.broken ∷ broke.undone) in
    let counted = broke.counted in
    omega arith

reached-by : (count calls : ℕ) (armed : Option ℕ) → suc count ≤ calls → reaches (suc count) armed ≡ true → reaches calls armed ≡ true
reached-by count calls None few reached = cc
reached-by count calls (Some left) few reached = grind (arith, nat_tests)

-- any attempt at the deeds may have been made
pub between-told : (setup : Setup) (past : List Entry) (held left : Option Files) → LeavesBetween setup past held left → LeavesTold (Between service_disk (storage_of setup) past) held left
between-told setup past None left between = between
between-told setup past (Some files) left between = between

module _ (setup : Setup) (world : World) (entry : Entry) (keeps : Bool) (armed beside : Option ℕ) (old : Cluster Solo) (servers : Lone) (net : List (List ℕ)) (good : IsGood cold_kit setup (ready_at world entry keeps armed beside)) (shows : Shows cold_kit setup (ready_at world entry keeps armed beside) old) where
  abbrev past : List Entry
  past = world.core.answered

  abbrev state : State Alone
  state = ready_at world entry keeps armed beside

  abbrev now : Cluster Solo
  now = record old { servers = record { lone = servers }; net = net }

  abbrev calls : List DeviceCall
  calls = calls_for setup past entry

  abbrev owed : List DeviceCall
  owed = calls_of_all (deeds_in old.servers.lone.node.replica.owed)

  -- the work that broke off is that of the entry in hand
  broke-so : {T : Type 0} (answer : DiskAnswer) (held left : ColdSeen) → IsFall answer → WorksOver {T = T} owed (Err answer) held.disk left.disk held.journal left.journal → WorkBroke answer calls held.disk left.disk held.journal left.journal
  broke-so {T} answer held left fall over =
      subst (λ (c : List DeviceCall). WorkBroke answer c held.disk left.disk held.journal left.journal) (calls-are setup world entry keeps armed beside old good shows)
      (broke-by T answer owed over.worked held.disk over.mid left.disk held.journal left.journal fall over.performs over.ends over.disk over.journal)

  fall-leaves : (answer : DiskAnswer) (held left : ColdSeen) → WorkBroke answer calls held.disk left.disk held.journal left.journal → TellsBoth setup state held → LeavesBoth setup (fallen state).state held left
  fall-leaves answer held left broke tells =
      let files : left.disk.files ≡ broke.mid.files = ap (λ (seen : DiskSeen). seen.files) broke.left_is in
      let P : Files → Type 0 = Between service_disk (storage_of setup) (entry ∷ past) in
      record {
        beside = tells.beside;
        disk = subst (λ (l : Option Files). LeavesTold P held.disk.files l) (sym files)
            (between-told setup (entry ∷ past) held.disk.files broke.mid.files (broken-between cold_kit cold_laws setup state entry answer broke.count held.disk.files broke.mid.files broke.broke tells.disk));
        journal = kept-told (JournalHeld setup (fallen state).state) held.journal.files left.journal.files (ap (λ (seen : DiskSeen). seen.files) broke.beside_is) tells.journal;
      }

  fallen-shows : servers ≡ downed old.servers.lone → net ≡ old.net → Shows cold_kit setup (fallen state).state now
  fallen-shows is same = record {
    own = record { down = subst IsDown (sym is) (down-of old.servers.lone); armed = refl; beside = refl };
    net = subst (λ (n : List (List ℕ)). AreSpelled world.net n) (sym same) shows.net;
    agents = shows.agents;
    history = shows.history;
    now = shows.now;
    callbacks = shows.callbacks;
  }

  -- what both counted: the calls of the deeds up to the one in which the disk stopped, or had a fault
  fall-counts : (answer : DiskAnswer) (held left : ColdSeen) → WorkBroke answer calls held.disk left.disk held.journal left.journal → RoseBy answer held.disk left.disk → WentDown answer setup state (fallen state).state held left
  fall-counts answer held left broke rose =
      let few = fewer-deeds answer calls broke.count held.disk.files broke.mid.files broke.broke in
      let counted = broke-as answer (work_calls setup past entry) broke.count held.disk broke.mid left.disk broke.counts broke.left_is few rose in
      record {
        works = 0;
        appends = 0;
        went = record { worked = between-same (work_calls setup) past past refl; joined = between-same join_calls (entry ∷ past) (entry ∷ past) refl };
        up = refl;
        down = refl;
        unread = record { disk = counted.1; journal = ap (λ (seen : DiskSeen). seen.tally.reading) broke.beside_is };
        broke = (counted.0, unarmed-made held.journal left.journal broke.beside_is);
      }

  halts-at : {T : Type 0} (before after : List (List ℕ)) (held left : ColdSeen) → cold_kit.Armed state.peers held → servers ≡ downed old.servers.lone → net ≡ old.net → after ≡ before ++ server_line A Down ∷ [] → WorksOver {T = T} owed (Err Stopped) held.disk left.disk held.journal left.journal → RoseBy Stopped held.disk left.disk
      → Halted cold_kit setup state (EndsStep cold_kit Stopped setup) now before after held left
  halts-at before after held left count is same lines over rose =
      let broke = broke-so Stopped held left tt over in
      let few = fewer-deeds Stopped calls broke.count held.disk.files broke.mid.files broke.broke in
      let reached : reaches (length calls) armed ≡ true = subst (λ (a : Option ℕ). reaches (length calls) a ≡ true) count.disk (reached-by broke.count (length calls) held.disk.tally.armed few broke.counts.1) in
      record {
        happened = λ number. 0;
        end = fallen state;
        ends = record { later = le_refl (length past); is = λ fails agrees. record { left = count.left; stops = reached; is = refl } };
        uses = record { never = λ number. refl; broke = λ besides. fall-counts Stopped held left broke rose };
        good = fallen-good setup state good;
        says = (falls (plain_of setup) (is_plain setup) state good.steady).1;
        shows = fallen-shows is same;
        count = record {
          disk = ap (λ (seen : DiskSeen). seen.tally.armed) broke.left_is;
          journal = ap (λ (seen : DiskSeen). seen.tally.armed) broke.beside_is;
          left = (tt, tt);
        };
        lines = lines;
        files = fall-leaves Stopped held left broke;
      }

  ends-at : {T : Type 0} (before after : List (List ℕ)) (held left : ColdSeen) → cold_kit.Armed state.peers held → servers ≡ downed old.servers.lone → net ≡ old.net → after ≡ before ++ server_line A Down ∷ [] → WorksOver {T = T} owed (Err Failed) held.disk left.disk held.journal left.journal → RoseBy Failed held.disk left.disk
      → Ended cold_kit setup state (EndsStep cold_kit Failed setup) now before after held left
  ends-at before after held left count is same lines over rose =
      let broke = broke-so Failed held left tt over in
      let few = fewer-deeds Failed calls broke.count held.disk.files broke.mid.files broke.broke in
      let some : 1 ≤ length calls = omega (arith, few) in
      let end_good = fallen-good setup state good in
      let shown = fallen-shows is same in
      record {
        happened = λ number. 0;
        end = fallen state;
        ends = record { later = le_refl (length past); is = λ fails agrees. record { left = count.left; fails = some; is = refl } };
        faults = record { never = λ number. refl; broke = λ besides. fall-counts Failed held left broke rose };
        good = end_good;
        says = (falls (plain_of setup) (is_plain setup) state good.steady).1;
        fell = record {
          down = shown.own.down;
          disk = ap (λ (seen : DiskSeen). seen.tally.armed) broke.left_is;
          journal = ap (λ (seen : DiskSeen). seen.tally.armed) broke.beside_is;
        };
        net = shown.net;
        agents = shown.agents;
        history = shown.history;
        now = shown.now;
        callbacks = shown.callbacks;
        lines = lines;
        files = λ tells. cold_laws.left_between setup (fallen state).state held left good.begins end_good.steady good.range (fall-leaves Failed held left broke tells);
      }

  -- Where memory was wanting the deeds are done or not.

  -- the record disk counts as they were tried
  abbrev Counted : ColdSeen → ColdSeen → Type 0
  Counted held left = Tried (work_calls setup past entry) held.disk left.disk × (left.journal ≡ held.journal)

  lacks-between : (T : Type 0) (heard : Result Heard DiskAnswer) (held left : ColdSeen) (mid : DiskSeen) → PerformsOrLacks calls heard held.disk.files mid.files held.disk.tally mid.tally → EndsWork {T = T} (Err Memory) heard → left.disk ≡ left_by heard mid → left.journal ≡ left_by heard held.journal
      → (TellsBoth setup state held → BetweenBoth setup (entry ∷ past) held left) × Counted held left
  lacks-between T (Ok heard) held left mid performs ends is same =
      let done : WorkDone calls held.disk left.disk held.journal left.journal = done-of {T = Heard} (Ok heard) calls held.disk mid left.disk held.journal left.journal heard performs is same in (
        λ tells.
            let after = worked setup world entry keeps armed beside in
            let after_good = work-steps setup world entry keeps armed beside old good shows in
            cold_laws.left_between setup after.state held left good.begins after_good.steady after_good.range (work-leaves setup world entry keeps armed beside old good shows held left done tells),
        (tried-all (length calls) held.disk left.disk done.counts, same),
      )
  lacks-between T (Err Memory) held left mid performs ends is same = (
    λ tells.
        let files : left.disk.files ≡ mid.files = ap (λ (seen : DiskSeen). seen.files) is in
        let P : Files → Type 0 = Between service_disk (storage_of setup) (entry ∷ past) in
        let L : Option Files → Type 0 = λ l. LeavesTold P held.disk.files l in
        let first = cold_laws.left_between setup state held held good.begins good.steady good.range (cold_laws.left_same setup state held tells) in
        record {
          disk = subst L (sym files) (elim performs [
            | inl lacks ↦ subst L (sym lacks.1) first.disk
            | inr broke ↦ between-told setup (entry ∷ past) held.disk.files mid.files (broken-between cold_kit cold_laws setup state entry Memory broke.0 held.disk.files mid.files broke.1 tells.disk)
          ]);
          journal = subst (λ (seen : DiskSeen). LeavesTold (JournalBetween setup (entry ∷ past)) held.journal.files seen.files) (sym same) first.journal;
        },
    (
      subst (λ (seen : DiskSeen). Tried (work_calls setup past entry) held.disk seen) (sym is) (elim performs [
        | inl lacks ↦ tried-none (work_calls setup past entry) held.disk mid lacks.2
        | inr broke ↦ tried-some (work_calls setup past entry) held.disk mid broke.0 broke.2 (fewer-deeds Memory calls broke.0 held.disk.files mid.files broke.1)
      ]),
      same,
    ),
  )
  lacks-between T _ held left mid performs ends is same = absurd ends

  -- the server is armed as it was
  armed-still : (held left : ColdSeen) → servers.armed ≡ old.servers.lone.armed → Counted held left → cold_kit.Armed state.peers held → cold_kit.ArmedAs now.servers left
  armed-still held left stays counted count =
      armed-kept setup state old now.servers held left shows stays counted.0.armed (ap (λ (seen : DiskSeen). is_some seen.tally.armed) counted.1) count

  breaks-same : (held left : ColdSeen) → servers.armed ≡ old.servers.lone.armed → Counted held left → AreSpelled world.net net → (TellsBoth setup state held → BetweenBoth setup (entry ∷ past) held left) → Broken cold_kit setup state held left now
  breaks-same held left stays counted spelled files =
      whole-broken cold_kit cold_laws setup state state [] held left now good.steady.sound (unasked-same (plain_of setup) state.world) spelled shows.agents shows.history shows.now (armed-still held left stays counted) files

  breaks-worked : (held left : ColdSeen) → servers.armed ≡ old.servers.lone.armed → Counted held left → AreSpelled (net_answering (plain_of setup) past entry world.net) net → (TellsBoth setup state held → BetweenBoth setup (entry ∷ past) held left) → Broken cold_kit setup state held left now
  breaks-worked held left stays counted spelled files =
      let after = worked setup world entry keeps armed beside in
      let stepped = (cold_laws.stepped (plain_of setup) (device_by setup (λ number. 0)) (is_plain setup)).work.steps state after (works-so setup (λ number. 0) world entry keeps armed beside) good.steady in
      whole-broken cold_kit cold_laws setup state after.state after.told held left now stepped.0.sound stepped.1 spelled
      (agents-as (ready_at world entry keeps armed beside).world after.state.world old.agents refl refl refl shows.agents)
      shows.history shows.now (armed-still held left stays counted) files

  lacked-so : (held left : ColdSeen) → Counted held left → Stands held.disk left.disk → Lacked setup state old.history.entries held left
  lacked-so held left counted stands =
      let tried = counted.0 in
      let known : EndsIn old.history.entries (entry ∷ past) = ([], shows.history) in
      record {
        past = past;
        ends = (entry ∷ [], shows.history);
        works = 0;
        worked = between-same (work_calls setup) past past refl;
        unread = ap (λ (seen : DiskSeen). seen.tally.reading) counted.1;
        lacked = Working entry 0 tried.more (between-same join_calls (entry ∷ past) (entry ∷ past) refl) tried.within (λ some. known)
            (made-as tried.more (0 + tried.more) held.disk left.disk (sym (zero-plus tried.more)) (made-by tried.more held.disk left.disk tried.changed.0 stands)) (made-same held.journal left.journal counted.1);
      }

  lacks-at : {T : Type 0} (before after : List (List ℕ)) (held left : ColdSeen) → WorkBreaks Memory old.servers.lone servers old.net net before after held.disk left.disk → WorksOver {T = T} owed (Err Memory) held.disk left.disk held.journal left.journal → RoseBy Memory held.disk left.disk → Broken cold_kit setup state held left now × LacksBoth setup state old.history.entries held left
  lacks-at {T} before after held left breaks over rose =
      let C : List DeviceCall → Type 0 = λ c. PerformsOrLacks c over.worked held.disk.files over.mid.files held.disk.tally over.mid.tally in
      let performs : C calls = subst C (calls-are setup world entry keeps armed beside old good shows) over.performs in
      let both = lacks-between T over.worked held left over.mid performs over.ends over.disk over.journal in
      let none : LacksBoth setup state old.history.entries held left = λ besides. lacked-so held left both.1 (stands-lacking held.disk left.disk rose) in
      elim breaks [
        | inl kept ↦ (breaks-same held left (ap (λ (s : Lone). s.armed) kept.0) both.1 (subst (λ (n : List (List ℕ)). AreSpelled world.net n) (sym kept.1) shows.net) both.0, none)
        | inr some ↦
            let posts = subst (λ (s : Lone). PostsSome (replies_in s.node.replica.owed) old.net net) shows.own some.1 in
            let stays : servers.armed ≡ old.servers.lone.armed = ap (λ (s : Lone). s.armed) some.0 in
            elim (answer-breaks setup past entry world.net old.net net posts shows.net) [
              | inl spelled ↦ (breaks-same held left stays both.1 spelled both.0, none)
              | inr spelled ↦ (breaks-worked held left stays both.1 spelled both.0, none)
            ]
      ]

-- Over any state in which the server is up, and what is in hand is ready.

module _ (setup : Setup) (state : State Alone) (old : Cluster Solo) (servers : Lone) (net : List (List ℕ)) (good : IsGood cold_kit setup state) (shows : Shows cold_kit setup state old) (up : state.peers.up ≡ true) (some : IsSome old.servers.lone.node.replica.owed) (none : old.servers.lone.node.waits ≡ None) where
  abbrev pub ready : (entry : Entry) × (state.world.core.hand ≡ Ready entry)
  ready =
      let core = state.world.core in
      let own = subst (λ (b : Bool). OwnBy b setup core.answered core.hand state.peers old.servers.lone) up shows.own in
      ready-so setup core.answered core.hand old.servers.lone.node (ap (λ (s : Lone). s.node) own) some none

  abbrev same : ready_at state.world ready.0 good.steady.good.1.keeps state.peers.armed state.peers.beside ≡ state
  same = is-ready state ready.0 good.steady.good up ready.1

  abbrev good_at : IsGood cold_kit setup (ready_at state.world ready.0 good.steady.good.1.keeps state.peers.armed state.peers.beside)
  good_at = subst (λ (s : State Alone). IsGood cold_kit setup s) (sym same) good

  abbrev shows_at : Shows cold_kit setup (ready_at state.world ready.0 good.steady.good.1.keeps state.peers.armed state.peers.beside) old
  shows_at = subst (λ (s : State Alone). Shows cold_kit setup s old) (sym same) shows

  -- **the record disk stopped in the deeds: the server is down, and the cluster goes on**
  pub works-halt : {T : Type 0} (before after : List (List ℕ)) (held left : ColdSeen) → cold_kit.Armed state.peers held → servers ≡ downed old.servers.lone → net ≡ old.net → after ≡ before ++ server_line A Down ∷ [] → WorksOver {T = T} (calls_of_all (deeds_in old.servers.lone.node.replica.owed)) (Err Stopped) held.disk left.disk held.journal left.journal → RoseBy Stopped held.disk left.disk
      → Halted cold_kit setup state (EndsStep cold_kit Stopped setup) (record old { servers = record { lone = servers }; net = net }) before after held left
  works-halt before after held left count is kept lines over rose =
      subst (λ (s : State Alone). Halted cold_kit setup s (EndsStep cold_kit Stopped setup) (record old { servers = record { lone = servers }; net = net }) before after held left) same
      (halts-at setup state.world ready.0 good.steady.good.1.keeps state.peers.armed state.peers.beside old servers net good_at shows_at before after held left
      (subst (λ (s : State Alone). cold_kit.Armed s.peers held) (sym same) count) is kept lines over rose)

  -- **it had a fault: the event ends**
  pub works-end : {T : Type 0} (before after : List (List ℕ)) (held left : ColdSeen) → cold_kit.Armed state.peers held → servers ≡ downed old.servers.lone → net ≡ old.net → after ≡ before ++ server_line A Down ∷ [] → WorksOver {T = T} (calls_of_all (deeds_in old.servers.lone.node.replica.owed)) (Err Failed) held.disk left.disk held.journal left.journal → RoseBy Failed held.disk left.disk
      → Ended cold_kit setup state (EndsStep cold_kit Failed setup) (record old { servers = record { lone = servers }; net = net }) before after held left
  works-end before after held left count is kept lines over rose =
      subst (λ (s : State Alone). Ended cold_kit setup s (EndsStep cold_kit Failed setup) (record old { servers = record { lone = servers }; net = net }) before after held left) same
      (ends-at setup state.world ready.0 good.steady.good.1.keeps state.peers.armed state.peers.beside old servers net good_at shows_at before after held left
      (subst (λ (s : State Alone). cold_kit.Armed s.peers held) (sym same) count) is kept lines over rose)

  -- **memory ran out**: the deeds are done or not, and the reply is posted or not
  pub works-lack : {T : Type 0} (before after : List (List ℕ)) (held left : ColdSeen) → WorkBreaks Memory old.servers.lone servers old.net net before after held.disk left.disk → WorksOver {T = T} (calls_of_all (deeds_in old.servers.lone.node.replica.owed)) (Err Memory) held.disk left.disk held.journal left.journal → RoseBy Memory held.disk left.disk
      → Broken cold_kit setup state held left (record old { servers = record { lone = servers }; net = net }) × LacksBoth setup state old.history.entries held left
  works-lack before after held left breaks over rose =
      subst (λ (s : State Alone). Broken cold_kit setup s held left (record old { servers = record { lone = servers }; net = net }) × LacksBoth setup s old.history.entries held left) same
      (lacks-at setup state.world ready.0 good.steady.good.1.keeps state.peers.armed state.peers.beside old servers net good_at shows_at before after held left breaks over rose)

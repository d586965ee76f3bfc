-- An append for which memory was wanting, before, in the midst or behind it.
use Rattle.std.proofs.Common.{◌≡◌, inl, inr, ℕ, ◌+◌, Bool, true, false, Option, Some, None, List, [], ◌∷◌, length, refl, ap, sym, subst, ◌∙◌}
use Rattle.std.specs.Prelude.{is_some, Result, Ok, Err}
use Rattle.disk_model.specs.Disk.{Files}
use Rattle.disk_model.specs.Seen.{DiskSeen}
use Rattle.disk_model.specs.declared.answers.DiskAnswer.{DiskAnswer}
use Rattle.disk_model.specs.declared.answers.DiskAnswer.TheVariants.{Memory}
use Rattle.calls.specs.History.{Pushed}
use Rattle.wire.specs.declared.message.Message.{Message}
use Rattle.wire.specs.MessageSpelling.{message_text}
use Rattle.plain_service.specs.Legal.{IsHistory}
use Rattle.plain_service.specs.Setups.{Setup}
use Rattle.service_laws.specs.PlainOf.{plain_of}
use Rattle.service_laws.proofs.HistoryLaws.{history-of}
use Rattle.service_laws.proofs.ServiceLaws.{is_plain}
use Rattle.cluster_facts.specs.Types.{Entry}
use Rattle.cluster_facts.specs.Lists.{EndsIn}
use Rattle.cluster_facts.specs.History.{Waiting}
use Rattle.cluster_facts.specs.World.{World}
use Rattle.cluster_events.specs.Servers.{State}
use Rattle.journal_frames.specs.Frames.{append_calls, framed}
use Rattle.journal_found.specs.Found.{CanJoin, JournalOf, messages_of, next_message, texts_of}
use Rattle.cluster_clients.proofs.DispatchSteps.{agents-as}
use Rattle.cluster_rounds.specs.declared.cluster.Cluster.{Cluster}
use Rattle.cluster_rounds.specs.Broken.{Broken}
use Rattle.cluster_rounds.specs.Kits.{device_by}
use Rattle.cluster_rounds.specs.Worlds.{IsGood, Shows}
use Rattle.cluster_rounds.proofs.BrokenSteps.{broken-ends, whole-broken}
use Rattle.cluster_rounds.proofs.UnaskedSteps.{unasked-same}
use Rattle.cold_cluster.specs.Cold.{Alone, append_count}
use Rattle.cold_cluster.specs.Falling.{fallen}
use Rattle.lone_server.specs.declared.lone.Lone.{Lone}
use Rattle.cold_servers.specs.declared.solo.Solo.{Solo}
use Rattle.lone_server.specs.Appends.{AppendsCalls}
use Rattle.cold_servers.specs.ColdKit.{cold_kit}
use Rattle.cold_servers.specs.ColdLaws.{cold_laws, left-as, left-told, some-as}
use Rattle.cold_servers.specs.ColdNodes.{OwnBy}
use Rattle.cold_servers.specs.ColdSeen.{BetweenBoth, ColdSeen, FilesHeld, HoldsJournal, JournalBetween, JournalHeld, LeavesBoth, LeavesTold, TellsBoth}
use Rattle.cold_servers.specs.ColdCounts.{Joining, Lacked, LacksBoth, join_calls, work_calls}
use Rattle.cold_servers.specs.CountLaws.{between-same, made-as, made-same, zero-plus}
use Rattle.lone_server.specs.Joining.{CanJoinBy, EndsWith, JoinsOver, KeepsOrNot, left_by}
use Rattle.cold_servers.proofs.ArmSteps.{armed-kept, fallen-good, kept-told}
use Rattle.cold_servers.proofs.CountSteps.{RoseBy, Stands, Tried, made-by, stands-lacking, tried-all, tried-none, tried-some}
use Rattle.cold_servers.proofs.JoinFalls.{fewer-calls, journal-staged}
use Rattle.cold_servers.proofs.JoinState.{AppendDone, is-waiting, joined, joined-leaves, journal-longer, waiting_at, waits-so}

module _ (setup : Setup) (world : World) (entry : Entry) (keeps : Bool) (armed beside : Option ℕ) (old : Cluster Solo) (servers : Lone) (history : Pushed) (good : IsGood cold_kit setup (waiting_at world entry keeps armed beside)) (shows : Shows cold_kit setup (waiting_at world entry keeps armed beside) old) (stays : servers.armed ≡ old.servers.lone.armed) where
  abbrev state : State Alone
  state = waiting_at world entry keeps armed beside

  abbrev past : List Entry
  past = world.core.answered

  abbrev now : Cluster Solo
  now = record old { servers = record { lone = servers }; history = history }

  abbrev place : ℕ
  place = length (framed (texts_of (messages_of setup past)))

  -- the disks count as the append was tried
  abbrev Counted : ColdSeen → ColdSeen → Type 0
  Counted held left = (left.disk ≡ held.disk) × Tried append_count held.journal left.journal

  -- the server is armed as it was
  armed-still : (held left : ColdSeen) → Counted held left → cold_kit.Armed state.peers held → cold_kit.ArmedAs now.servers left
  armed-still held left counted count =
      armed-kept setup state old now.servers held left shows stays (ap (λ (seen : DiskSeen). is_some seen.tally.armed) counted.0) counted.1.armed count

  -- nothing is committed
  breaks-same : (held left : ColdSeen) → history.entries ≡ old.history.entries → Counted held left → (TellsBoth setup state held → BetweenBoth setup past held left) → Broken cold_kit setup state held left now
  breaks-same held left same counted files =
      whole-broken cold_kit cold_laws setup state state [] held left now good.steady.sound (unasked-same (plain_of setup) state.world) shows.net shows.agents (same ∙ shows.history) shows.now (armed-still held left counted) files

  -- the entry is
  breaks-pushed : (held left : ColdSeen) → history.entries ≡ entry ∷ old.history.entries → Counted held left → (TellsBoth setup state held → LeavesBoth setup (joined world entry armed beside).state held left) → Broken cold_kit setup state held left now
  breaks-pushed held left more counted leaves =
      let outcome = joined world entry armed beside in
      let stepped = (cold_laws.stepped (plain_of setup) (device_by setup (λ number. 0)) (is_plain setup)).mirror.steps state outcome refl good.steady in
      whole-broken cold_kit cold_laws setup state outcome.state outcome.told held left now stepped.0.sound stepped.1 shows.net (agents-as state.world outcome.state.world old.agents refl refl refl shows.agents) (more ∙ ap (λ (entries : List Entry). entry ∷ entries) shows.history) shows.now
      (armed-still held left counted)
      (λ tells. cold_laws.left_between setup outcome.state held left good.begins stepped.0 good.range (leaves tells))

  -- the append was not done
  undone-counts : (held left : ColdSeen) (mid : DiskSeen) → AppendsCalls {T = Option Message} (next_message past entry ∷ []) place (Err Memory) held.journal mid → left.journal ≡ mid → Tried append_count held.journal left.journal
  undone-counts held left mid calls is = subst (λ (seen : DiskSeen). Tried append_count held.journal seen) (sym is) (elim calls [
    | inl lacks ↦ tried-none append_count held.journal mid lacks.2
    | inr performs ↦ tried-some append_count held.journal mid performs.0 performs.2 (fewer-calls Memory (next_message past entry) place performs.0 held.journal.files mid.files performs.1)
  ])

  undone : (held left : ColdSeen) (mid : DiskSeen) → AppendsCalls {T = Option Message} (next_message past entry ∷ []) place (Err Memory) held.journal mid → CanJoinBy (Err Memory) (next_message past entry ∷ []) held.journal mid → left.journal ≡ mid → left.disk ≡ held.disk → history.entries ≡ old.history.entries → Broken cold_kit setup state held left now
  undone held left mid calls joins is same known =
      let files : left.journal.files ≡ mid.files = ap (λ (seen : DiskSeen). seen.files) is in
      let J : Option Files → Type 0 = λ l. LeavesTold (HoldsJournal false setup past (Waiting entry)) held.journal.files l in
      breaks-same held left known (same, undone-counts held left mid calls is)
      (λ tells. cold_laws.left_between setup (fallen state).state held left good.begins (fallen-good setup state good).steady good.range (record {
        beside = tells.beside;
        disk = kept-told (FilesHeld setup (fallen state).state) held.disk.files left.disk.files (ap (λ (seen : DiskSeen). seen.files) same) tells.disk;
        journal = subst J (sym files) (elim calls [
          | inl lacks ↦ kept-told (HoldsJournal false setup past (Waiting entry)) held.journal.files mid.files lacks.1
              (some-as (JournalOf setup past) (HoldsJournal false setup past (Waiting entry)) held.journal.files (λ files holds. inl holds) tells.journal)
          | inr performs ↦ journal-staged setup past entry Memory performs.0 held.journal.files mid.files (elim joins [
            | inl stands ↦ inl (ap (λ (seen : DiskSeen). seen.files) stands)
            | inr can ↦ inr can
          ]) performs.1 tells.journal
        ]);
      }))

  -- it was, and the entry is committed or not
  done-so : (held left : ColdSeen) → CanJoin (next_message past entry) → AppendDone (append_calls place (message_text (next_message past entry))) held.journal left.journal → left.disk ≡ held.disk → KeepsOrNot {T = Option Message} (Ok (Some (next_message past entry))) (next_message past entry ∷ []) old.history.entries history.entries → Broken cold_kit setup state held left now
  done-so held left can done same (inr more) =
      breaks-pushed held left more (same, tried-all append_count held.journal left.journal done.counts)
      (joined-leaves setup world entry keeps armed beside old servers history good shows held left can done same)
  done-so held left can done same (inl known) =
      breaks-same held left known (same, tried-all append_count held.journal left.journal done.counts)
      (λ tells.
      let disks : ColdSeen = record { disk = left.disk; journal = held.journal } in
      let first = cold_laws.left_between setup state held disks good.begins good.steady good.range (record {
        beside = tells.beside;
        disk = kept-told (FilesHeld setup state) held.disk.files left.disk.files (ap (λ (seen : DiskSeen). seen.files) same) tells.disk;
        journal = left-told (JournalHeld setup state) held.journal.files tells.journal;
      })
      in
      let legal : IsHistory setup (entry ∷ past) = history-of setup good.begins world.now (entry ∷ past) good.steady.sound.facts.legal good.range in
      record {
        disk = first.disk;
        journal = left-as (JournalOf setup (entry ∷ past)) (JournalBetween setup past) held.journal.files left.journal.files (λ files holds. inr (entry, legal, inr holds))
            (journal-longer setup past entry held.journal.files left.journal.files can done.files tells.journal);
      })

  by-appended : (appended : Result (Option Message) DiskAnswer) (held left : ColdSeen) (mid : DiskSeen) → AppendsCalls (next_message past entry ∷ []) place appended held.journal mid → CanJoinBy appended (next_message past entry ∷ []) held.journal mid → EndsWith (Err Memory) appended → KeepsOrNot appended (next_message past entry ∷ []) old.history.entries history.entries → left.journal ≡ left_by appended mid → left.disk ≡ left_by appended held.disk → Broken cold_kit setup state held left now × Counted held left
  by-appended (Err Memory) held left mid calls joins ends known is same = (undone held left mid calls joins is same known, (same, undone-counts held left mid calls is))
  by-appended (Ok None) held left mid calls joins ends known is same = cc
  by-appended (Ok (Some message)) held left mid (inl lacks) joins ends known is same = let no = lacks.0 in cc
  by-appended (Ok (Some message)) held left mid (inr performs) joins ends known is same =
      let D : DiskSeen → Type 0 = λ seen. AppendDone (append_calls place (message_text (next_message past entry))) held.journal seen in
      let done : D left.journal = subst D (sym is) (record { files = performs.0; counts = performs.1 }) in
      (done-so held left joins done same known, (same, tried-all append_count held.journal left.journal done.counts))
  by-appended _ held left mid calls joins ends known is same = absurd ends

  -- the append of the entry that waits was tried, or done
  lacked-so : (held left : ColdSeen) → Counted held left → EndsIn history.entries past → Stands held.journal left.journal → Lacked setup state history.entries held left
  lacked-so held left counted ends stands =
      let tried = counted.1 in
      record {
        past = past;
        ends = ends;
        works = 0;
        worked = between-same (work_calls setup) past past refl;
        unread = tried.changed.1;
        lacked = Joining 0 tried.more (between-same join_calls past past refl) tried.within (made-same held.disk left.disk counted.0)
            (made-as tried.more (0 + tried.more) held.journal left.journal (sym (zero-plus tried.more)) (made-by tried.more held.journal left.journal tried.changed.0 stands));
      }

  lacks-at : (held left : ColdSeen) → JoinsOver old.servers.lone.link old.servers.lone.journal.end old.history.entries history.entries (Err Memory) held.disk left.disk held.journal left.journal → RoseBy Memory held.journal left.journal → Broken cold_kit setup state held left now × LacksBoth setup state history.entries held left
  lacks-at held left over rose =
      let link = ap (λ (s : Lone). s.link) shows.own in
      let end = ap (λ (s : Lone). s.journal.end) shows.own in
      let C : List Message → ℕ → Type 0 = λ l e. AppendsCalls l e over.appended held.journal over.mid in
      let calls : C (next_message past entry ∷ []) place = subst (λ l. C l place) link (subst (λ e. C old.servers.lone.link e) end over.calls) in
      let joins = subst (λ (l : List Message). CanJoinBy over.appended l held.journal over.mid) link over.joins in
      let known = subst (λ (l : List Message). KeepsOrNot over.appended l old.history.entries history.entries) link over.history in
      let both = by-appended over.appended held left over.mid calls joins over.ends known over.journal over.disk in
      let ends = broken-ends cold_kit cold_laws setup state held left now both.0 in
      (both.0, λ besides. lacked-so held left both.1 ends (stands-lacking held.journal left.journal rose))

-- Over any state in which the server is up.

memory-first : (link : List Message) (end : ℕ) (appended : Result (Option Message) DiskAnswer) (held mid : DiskSeen) → EndsWith (Err Memory) appended → AppendsCalls link end appended held mid → CanJoinBy appended link held mid → (message : Message) × (rest : List Message) × (link ≡ message ∷ rest)
memory-first (message ∷ rest) end appended held mid ends calls joins = (message, rest, refl)
memory-first [] end (Err Memory) held mid ends calls joins = let no : false ≡ true = calls.0 in cc
memory-first [] end (Ok (Some message)) held mid ends calls joins = absurd joins
memory-first [] end (Ok None) held mid ends calls joins = cc
memory-first [] end _ held mid ends calls joins = absurd ends

-- **memory ran out**: the entry joined the journal or not, and is committed or not
pub joins-lack : (setup : Setup) (state : State Alone) (old : Cluster Solo) (servers : Lone) (history : Pushed) (held left : ColdSeen) → IsGood cold_kit setup state → Shows cold_kit setup state old → state.peers.up ≡ true → servers.armed ≡ old.servers.lone.armed → JoinsOver old.servers.lone.link old.servers.lone.journal.end old.history.entries history.entries (Err Memory) held.disk left.disk held.journal left.journal → RoseBy Memory held.journal left.journal
    → Broken cold_kit setup state held left (record old { servers = record { lone = servers }; history = history }) × LacksBoth setup state history.entries held left
joins-lack setup state old servers history held left good shows up stays over rose =
    let core = state.world.core in
    let own = subst (λ (b : Bool). OwnBy b setup core.answered core.hand state.peers old.servers.lone) up shows.own in
    let first = memory-first old.servers.lone.link old.servers.lone.journal.end over.appended held.journal over.mid over.ends over.calls over.joins in
    let waits = waits-so core.answered core.hand first.0 first.1 (sym (ap (λ (s : Lone). s.link) own) ∙ first.2) in
    let cold = good.steady.good in
    let same = is-waiting state waits.entry cold up waits.hand_is in
    subst (λ (s : State Alone). Broken cold_kit setup s held left (record old { servers = record { lone = servers }; history = history }) × LacksBoth setup s history.entries held left) same
    (lacks-at setup state.world waits.entry cold.1.keeps state.peers.armed state.peers.beside old servers history
    (subst (λ (s : State Alone). IsGood cold_kit setup s) (sym same) good) (subst (λ (s : State Alone). Shows cold_kit setup s old) (sym same) shows) stays held left over rose)

-- An append that breaks off: where the journal's disk stops the cluster goes on, a fault ends the event, and memory may be wanting.
use Rattle.std.proofs.Common.{◌≡◌, ◌⊎◌, inl, inr, ℕ, suc, ◌≤◌, Bool, true, false, ◌||◌, Option, Some, None, List, [], ◌∷◌, ◌++◌, length, refl, ap, sym, subst, ◌∙◌, arith, le_refl, length-append, Ok}
use Rattle.std.specs.Prelude.{IfSome, Result, Err}
use Rattle.std.proofs.lemmas.Bool.Decides.{nat_tests}
use Rattle.disk_model.specs.Counts.{CountsBroken, reaches}
use Rattle.disk_model.specs.DeviceCalls.{BreaksOff, LeftOn}
use Rattle.disk_model.specs.Disk.{Files}
use Rattle.disk_model.specs.Seen.{DiskSeen}
use Rattle.disk_model.specs.declared.answers.DiskAnswer.{DiskAnswer}
use Rattle.disk_model.specs.declared.answers.DiskAnswer.TheVariants.{Memory, Failed, Stopped}
use Rattle.script_lines.specs.declared.line.Server.TheVariants.{A}
use Rattle.calls.specs.History.{Pushed}
use Rattle.wire.specs.declared.message.Message.{Message}
use Rattle.wire.specs.MessageSpelling.{message_text}
use Rattle.plain_service.specs.Setups.{Setup}
use Rattle.service_laws.specs.PlainOf.{plain_of}
use Rattle.service_laws.proofs.ServiceLaws.{is_plain}
use Rattle.cluster_facts.specs.Types.{Entry}
use Rattle.cluster_facts.specs.History.{Waiting}
use Rattle.cluster_facts.specs.World.{World}
use Rattle.cluster_events.specs.declared.lines.ServerRole.TheVariants.{Down}
use Rattle.cluster_events.specs.Servers.{State}
use Rattle.event_text.specs.Texts.{server_line}
use Rattle.journal_frames.specs.Frames.{append_calls, framed}
use Rattle.journal_found.specs.Found.{CanJoin, JournalOf, messages_of, next_message, texts_of}
use Rattle.journal_found.proofs.Chains.{journal-broken}
use Rattle.cluster_rounds.specs.declared.cluster.Cluster.{Cluster}
use Rattle.cluster_rounds.specs.Came.{Ended, Halted}
use Rattle.cluster_rounds.specs.Rounds.{EndsStep}
use Rattle.cluster_rounds.specs.Worlds.{IsGood, Shows}
use Rattle.cold_cluster.specs.Cold.{Alone, append_count}
use Rattle.cold_cluster.specs.Falling.{fallen}
use Rattle.cold_cluster.proofs.Keeping.{falls}
use Rattle.lone_server.specs.declared.lone.Lone.{Lone}
use Rattle.cold_servers.specs.declared.solo.Solo.{Solo}
use Rattle.lone_server.specs.Appends.{AppendsCalls, FirstCanJoin}
use Rattle.cold_servers.specs.ColdKit.{cold_kit}
use Rattle.cold_servers.specs.ColdLaws.{cold_laws, left-told, some-as}
use Rattle.cold_servers.specs.ColdNodes.{IsDown, OwnBy}
use Rattle.cold_servers.specs.ColdSeen.{ColdSeen, FilesHeld, HoldsJournal, LeavesBoth, LeavesTold, TellsBoth}
use Rattle.lone_server.specs.Falls.{downed, unarmed}
use Rattle.lone_server.specs.Joining.{CanJoinBy, EndsWith, JoinsOver, left_by}
use Rattle.cold_servers.specs.ColdCounts.{WentDown, join_calls, work_calls}
use Rattle.cold_servers.specs.CountLaws.{between-same}
use Rattle.cold_servers.proofs.ArmSteps.{down-of, fallen-good, kept-told, unarmed-made}
use Rattle.cold_servers.proofs.CountSteps.{IsFall, RoseBy, broke-as}
use Rattle.cold_servers.proofs.JoinState.{is-waiting, waiting_at, waits-so}

-- some of the calls were done, and the next one gave the answer; then neither disk is armed
pub record AppendBroke (answer : DiskAnswer) (message : Message) (end : ℕ) (held left disk disk_left : DiskSeen) : Type 0 where
  pub mid : DiskSeen
  pub count : ℕ
  pub broke : BreaksOff (LeftOn answer) (append_calls end (message_text message)) count held.files mid.files
  pub counts : CountsBroken answer count held.tally mid.tally
  pub joins : (mid ≡ held) ⊎ CanJoin message
  pub left_is : left ≡ unarmed mid
  pub disk_is : disk_left ≡ unarmed disk

broke-by : (answer : DiskAnswer) (link : List Message) (end : ℕ) (appended : Result (Option Message) DiskAnswer) (disk disk_left held mid left : DiskSeen) (message : Message) (rest : List Message) → IsFall answer → link ≡ message ∷ rest → AppendsCalls link end appended held mid → (mid ≡ held) ⊎ FirstCanJoin link → EndsWith (Err answer) appended → left ≡ left_by appended mid → disk_left ≡ left_by appended disk → AppendBroke answer message end held left disk disk_left
broke-by Memory link end appended disk disk_left held mid left message rest fall first calls joins ends is same = absurd fall
broke-by Failed link end (Err Failed) disk disk_left held mid left message rest fall first calls joins ends is same =
    let C = subst (λ (l : List Message). AppendsCalls {T = Option Message} l end (Err Failed) held mid) first calls in
    let J = subst (λ (l : List Message). (mid ≡ held) ⊎ FirstCanJoin l) first joins in
    elim C [
      | inl lacks ↦ let no = lacks.0 in cc
      | inr performs ↦ record { mid = mid; count = performs.0; broke = performs.1; counts = performs.2; joins = J; left_is = is; disk_is = same }
    ]
broke-by Stopped link end (Err Stopped) disk disk_left held mid left message rest fall first calls joins ends is same =
    let C = subst (λ (l : List Message). AppendsCalls {T = Option Message} l end (Err Stopped) held mid) first calls in
    let J = subst (λ (l : List Message). (mid ≡ held) ⊎ FirstCanJoin l) first joins in
    elim C [
      | inl lacks ↦ let no = lacks.0 in cc
      | inr performs ↦ record { mid = mid; count = performs.0; broke = performs.1; counts = performs.2; joins = J; left_is = is; disk_is = same }
    ]
broke-by _ link end appended disk disk_left held mid left message rest fall first calls joins ends is same = absurd ends

-- the message for which the disk was asked can stand in the journal
can-join : (answer : DiskAnswer) (link : List Message) (appended : Result (Option Message) DiskAnswer) (held mid : DiskSeen) → IsFall answer → EndsWith (Err answer) appended → CanJoinBy appended link held mid → (mid ≡ held) ⊎ FirstCanJoin link
can-join Memory link appended held mid fall ends joins = absurd fall
can-join answer link (Err told) held mid fall ends joins = joins
can-join Failed link (Ok found) held mid fall ends joins = absurd ends
can-join Stopped link (Ok found) held mid fall ends joins = absurd ends

-- fewer than all four were done
pub fewer-calls : (answer : DiskAnswer) (message : Message) (end count : ℕ) (held mid : Option Files) → BreaksOff (LeftOn answer) (append_calls end (message_text message)) count held mid → suc count ≤ 4
fewer-calls answer message end count held mid broke =
    let whole : 4 ≡ length (broke.done ++ broke.broken ∷ broke.undone) = ap length broke.in_order in
    let parts = length-append broke.done (broke.broken ∷ broke.undone) in
    let counted = broke.counted in
    omega arith

reaches-more : (count : ℕ) (armed : Option ℕ) → suc count ≤ 4 → reaches (suc count) armed ≡ true → reaches 4 armed ≡ true
reaches-more count None few reached = cc
reaches-more count (Some left) few reached = grind (arith, nat_tests)

or-left : (one other : Bool) → one ≡ true → (one || other) ≡ true
or-left true other is = refl
or-left false other is = cc

-- the journal may have the entry, or not
pub journal-staged : (setup : Setup) (past : List Entry) (entry : Entry) (answer : DiskAnswer) (count : ℕ) (held left : Option Files) → ((left ≡ held) ⊎ CanJoin (next_message past entry)) → BreaksOff (LeftOn answer) (append_calls (length (framed (texts_of (messages_of setup past)))) (message_text (next_message past entry))) count held left → IfSome held (JournalOf setup past) → LeavesTold (HoldsJournal false setup past (Waiting entry)) held left
journal-staged setup past entry answer count held left (inl same) broke tells =
    subst (λ (l : Option Files). LeavesTold (HoldsJournal false setup past (Waiting entry)) held l) (sym same)
    (left-told (HoldsJournal false setup past (Waiting entry)) held (some-as (JournalOf setup past) (HoldsJournal false setup past (Waiting entry)) held (λ files holds. inl holds) tells))
journal-staged setup past entry answer count None None (inr can) broke tells = refl
journal-staged setup past entry answer count None (Some files) (inr can) broke tells = absurd broke.left
journal-staged setup past entry answer count (Some files) None (inr can) broke tells = absurd broke.left
journal-staged setup past entry answer count (Some files) (Some left) (inr can) broke tells =
    (left, refl, inr (journal-broken setup past entry files left tells can (answer, count, broke)))

module _ (setup : Setup) (world : World) (entry : Entry) (keeps : Bool) (armed beside : Option ℕ) (old : Cluster Solo) (servers : Lone) (history : Pushed) (good : IsGood cold_kit setup (waiting_at world entry keeps armed beside)) (shows : Shows cold_kit setup (waiting_at world entry keeps armed beside) old) where
  abbrev state : State Alone
  state = waiting_at world entry keeps armed beside

  abbrev now : Cluster Solo
  now = record old { servers = record { lone = servers }; history = history }

  -- the append that broke off is that of the entry that waits
  broke-so : (answer : DiskAnswer) (held left : ColdSeen) → IsFall answer → JoinsOver old.servers.lone.link old.servers.lone.journal.end old.history.entries history.entries (Err answer) held.disk left.disk held.journal left.journal → AppendBroke answer (next_message world.core.answered entry) (length (framed (texts_of (messages_of setup world.core.answered)))) held.journal left.journal held.disk left.disk
  broke-so answer held left fall over =
      let past = world.core.answered in
      let broke = broke-by answer old.servers.lone.link old.servers.lone.journal.end over.appended held.disk left.disk held.journal over.mid left.journal (next_message past entry) [] fall (ap (λ (s : Lone). s.link) shows.own) over.calls (can-join answer old.servers.lone.link over.appended held.journal over.mid fall over.ends over.joins) over.ends over.journal over.disk in
      subst (λ (e : ℕ). AppendBroke answer (next_message past entry) e held.journal left.journal held.disk left.disk) (ap (λ (s : Lone). s.journal.end) shows.own) broke

  fall-leaves : (answer : DiskAnswer) (held left : ColdSeen) → AppendBroke answer (next_message world.core.answered entry) (length (framed (texts_of (messages_of setup world.core.answered)))) held.journal left.journal held.disk left.disk → TellsBoth setup state held → LeavesBoth setup (fallen state).state held left
  fall-leaves answer held left broke tells =
      let past = world.core.answered in
      let files : left.journal.files ≡ broke.mid.files = ap (λ (seen : DiskSeen). seen.files) broke.left_is in
      let joins : (broke.mid.files ≡ held.journal.files) ⊎ CanJoin (next_message past entry) = elim broke.joins [
        | inl same ↦ inl (ap (λ (seen : DiskSeen). seen.files) same)
        | inr can ↦ inr can
      ]
      in
      record {
        beside = tells.beside;
        disk = kept-told (FilesHeld setup (fallen state).state) held.disk.files left.disk.files (ap (λ (seen : DiskSeen). seen.files) broke.disk_is) tells.disk;
        journal = subst (λ (l : Option Files). LeavesTold (HoldsJournal false setup past (Waiting entry)) held.journal.files l) (sym files) (journal-staged setup past entry answer broke.count held.journal.files broke.mid.files joins broke.broke tells.journal);
      }

  fallen-shows : servers ≡ downed old.servers.lone → history.entries ≡ old.history.entries → Shows cold_kit setup (fallen state).state now
  fallen-shows is same = record {
    own = record { down = subst IsDown (sym is) (down-of old.servers.lone); armed = refl; beside = refl };
    net = shows.net;
    agents = shows.agents;
    history = same ∙ shows.history;
    now = shows.now;
    callbacks = shows.callbacks;
  }

  none-armed : (answer : DiskAnswer) (held left : ColdSeen) → AppendBroke answer (next_message world.core.answered entry) (length (framed (texts_of (messages_of setup world.core.answered)))) held.journal left.journal held.disk left.disk → (left.disk.tally.armed ≡ None) × (left.journal.tally.armed ≡ None)
  none-armed answer held left broke = (ap (λ (seen : DiskSeen). seen.tally.armed) broke.disk_is, ap (λ (seen : DiskSeen). seen.tally.armed) broke.left_is)

  -- what both counted: the calls of the append up to the one in which the disk stopped, or had a fault
  fall-counts : (answer : DiskAnswer) (held left : ColdSeen) → AppendBroke answer (next_message world.core.answered entry) (length (framed (texts_of (messages_of setup world.core.answered)))) held.journal left.journal held.disk left.disk → RoseBy answer held.journal left.journal → WentDown answer setup state (fallen state).state held left
  fall-counts answer held left broke rose =
      let past = world.core.answered in
      let few = fewer-calls answer (next_message past entry) (length (framed (texts_of (messages_of setup past)))) broke.count held.journal.files broke.mid.files broke.broke in
      let counted = broke-as answer append_count broke.count held.journal broke.mid left.journal broke.counts broke.left_is few rose in
      record {
        works = 0;
        appends = 0;
        went = record { worked = between-same (work_calls setup) past past refl; joined = between-same join_calls past past refl };
        up = refl;
        down = refl;
        unread = record { disk = ap (λ (seen : DiskSeen). seen.tally.reading) broke.disk_is; journal = counted.1 };
        broke = (unarmed-made held.disk left.disk broke.disk_is, counted.0);
      }

  halts-at : (before after : List (List ℕ)) (held left : ColdSeen) → cold_kit.Armed state.peers held → servers ≡ downed old.servers.lone → history.entries ≡ old.history.entries → after ≡ before ++ server_line A Down ∷ [] → JoinsOver old.servers.lone.link old.servers.lone.journal.end old.history.entries history.entries (Err Stopped) held.disk left.disk held.journal left.journal → RoseBy Stopped held.journal left.journal
      → Halted cold_kit setup state (EndsStep cold_kit Stopped setup) now before after held left
  halts-at before after held left count is same lines over rose =
      let past = world.core.answered in
      let broke = broke-so Stopped held left tt over in
      let few = fewer-calls Stopped (next_message past entry) (length (framed (texts_of (messages_of setup past)))) broke.count held.journal.files broke.mid.files broke.broke in
      let reached : reaches append_count beside ≡ true = subst (λ (a : Option ℕ). reaches append_count a ≡ true) count.journal (reaches-more broke.count held.journal.tally.armed few broke.counts.1) in
      let unarmed_both = none-armed Stopped held left broke in
      record {
        happened = λ number. 0;
        end = fallen state;
        ends = record { later = le_refl (length past); is = λ fails agrees. record { left = count.left; stops = or-left (reaches append_count beside) false reached; is = refl } };
        uses = record { never = λ number. refl; broke = λ besides. fall-counts Stopped held left broke rose };
        good = fallen-good setup state good;
        says = (falls (plain_of setup) (is_plain setup) state good.steady).1;
        shows = fallen-shows is same;
        count = record { disk = unarmed_both.0; journal = unarmed_both.1; left = (tt, tt) };
        lines = lines;
        files = fall-leaves Stopped held left broke;
      }

  ends-at : (before after : List (List ℕ)) (held left : ColdSeen) → cold_kit.Armed state.peers held → servers ≡ downed old.servers.lone → history.entries ≡ old.history.entries → after ≡ before ++ server_line A Down ∷ [] → JoinsOver old.servers.lone.link old.servers.lone.journal.end old.history.entries history.entries (Err Failed) held.disk left.disk held.journal left.journal → RoseBy Failed held.journal left.journal
      → Ended cold_kit setup state (EndsStep cold_kit Failed setup) now before after held left
  ends-at before after held left count is same lines over rose =
      let past = world.core.answered in
      let broke = broke-so Failed held left tt over in
      let unarmed_both = none-armed Failed held left broke in
      let end_good = fallen-good setup state good in
      let shown = fallen-shows is same in
      record {
        happened = λ number. 0;
        end = fallen state;
        ends = record { later = le_refl (length past); is = λ fails agrees. record { left = count.left; fails = tt; is = refl } };
        faults = record { never = λ number. refl; broke = λ besides. fall-counts Failed held left broke rose };
        good = end_good;
        says = (falls (plain_of setup) (is_plain setup) state good.steady).1;
        fell = record { down = shown.own.down; disk = unarmed_both.0; journal = unarmed_both.1 };
        net = shown.net;
        agents = shown.agents;
        history = shown.history;
        now = shown.now;
        callbacks = shown.callbacks;
        lines = lines;
        files = λ tells. cold_laws.left_between setup (fallen state).state held left good.begins end_good.steady good.range (fall-leaves Failed held left broke tells);
      }

-- Over any state in which the server is up.

some-first : (answer : DiskAnswer) (link : List Message) (end : ℕ) (appended : Result (Option Message) DiskAnswer) (held mid : DiskSeen) → IsFall answer → EndsWith (Err answer) appended → AppendsCalls link end appended held mid → (message : Message) × (rest : List Message) × (link ≡ message ∷ rest)
some-first answer (message ∷ rest) end appended held mid fall ends calls = (message, rest, refl)
some-first Memory [] end appended held mid fall ends calls = absurd fall
some-first Failed [] end (Err Failed) held mid fall ends calls = let no : false ≡ true = calls.0 in cc
some-first Stopped [] end (Err Stopped) held mid fall ends calls = let no : false ≡ true = calls.0 in cc
some-first _ [] end appended held mid fall ends calls = absurd ends

-- the entry that waits there
pub waiting-entry : (setup : Setup) (state : State Alone) (old : Cluster Solo) (history : Pushed) (answer : DiskAnswer) (disk disk_left held left : DiskSeen) → IsFall answer → Shows cold_kit setup state old → state.peers.up ≡ true → JoinsOver old.servers.lone.link old.servers.lone.journal.end old.history.entries history.entries (Err answer) disk disk_left held left → (entry : Entry) × (state.world.core.hand ≡ Waiting entry)
waiting-entry setup state old history answer disk disk_left held left fall shows up over =
    let core = state.world.core in
    let own = subst (λ (b : Bool). OwnBy b setup core.answered core.hand state.peers old.servers.lone) up shows.own in
    let first = some-first answer old.servers.lone.link old.servers.lone.journal.end over.appended held over.mid fall over.ends over.calls in
    let waits = waits-so core.answered core.hand first.0 first.1 (sym (ap (λ (s : Lone). s.link) own) ∙ first.2) in
    (waits.entry, waits.hand_is)

-- **the journal's disk stopped in the append: the server is down, and the cluster goes on**
pub joins-halts : (setup : Setup) (state : State Alone) (old : Cluster Solo) (servers : Lone) (history : Pushed) (before after : List (List ℕ)) (held left : ColdSeen) → IsGood cold_kit setup state → Shows cold_kit setup state old → cold_kit.Armed state.peers held → state.peers.up ≡ true → servers ≡ downed old.servers.lone → history.entries ≡ old.history.entries → after ≡ before ++ server_line A Down ∷ [] → JoinsOver old.servers.lone.link old.servers.lone.journal.end old.history.entries history.entries (Err Stopped) held.disk left.disk held.journal left.journal → RoseBy Stopped held.journal left.journal
    → Halted cold_kit setup state (EndsStep cold_kit Stopped setup) (record old { servers = record { lone = servers }; history = history }) before after held left
joins-halts setup state old servers history before after held left good shows count up is known lines over rose =
    let waits = waiting-entry setup state old history Stopped held.disk left.disk held.journal left.journal tt shows up over in
    let cold = good.steady.good in
    let same = is-waiting state waits.0 cold up waits.1 in
    subst (λ (s : State Alone). Halted cold_kit setup s (EndsStep cold_kit Stopped setup) (record old { servers = record { lone = servers }; history = history }) before after held left) same
    (halts-at setup state.world waits.0 cold.1.keeps state.peers.armed state.peers.beside old servers history
    (subst (λ (s : State Alone). IsGood cold_kit setup s) (sym same) good) (subst (λ (s : State Alone). Shows cold_kit setup s old) (sym same) shows)
    before after held left (subst (λ (s : State Alone). cold_kit.Armed s.peers held) (sym same) count) is known lines over rose)

-- **it had a fault: the event ends there**
pub joins-end : (setup : Setup) (state : State Alone) (old : Cluster Solo) (servers : Lone) (history : Pushed) (before after : List (List ℕ)) (held left : ColdSeen) → IsGood cold_kit setup state → Shows cold_kit setup state old → cold_kit.Armed state.peers held → state.peers.up ≡ true → servers ≡ downed old.servers.lone → history.entries ≡ old.history.entries → after ≡ before ++ server_line A Down ∷ [] → JoinsOver old.servers.lone.link old.servers.lone.journal.end old.history.entries history.entries (Err Failed) held.disk left.disk held.journal left.journal → RoseBy Failed held.journal left.journal
    → Ended cold_kit setup state (EndsStep cold_kit Failed setup) (record old { servers = record { lone = servers }; history = history }) before after held left
joins-end setup state old servers history before after held left good shows count up is known lines over rose =
    let waits = waiting-entry setup state old history Failed held.disk left.disk held.journal left.journal tt shows up over in
    let cold = good.steady.good in
    let same = is-waiting state waits.0 cold up waits.1 in
    subst (λ (s : State Alone). Ended cold_kit setup s (EndsStep cold_kit Failed setup) (record old { servers = record { lone = servers }; history = history }) before after held left) same
    (ends-at setup state.world waits.0 cold.1.keeps state.peers.armed state.peers.beside old servers history
    (subst (λ (s : State Alone). IsGood cold_kit setup s) (sym same) good) (subst (λ (s : State Alone). Shows cold_kit setup s old) (sym same) shows)
    before after held left (subst (λ (s : State Alone). cold_kit.Armed s.peers held) (sym same) count) is known lines over rose)

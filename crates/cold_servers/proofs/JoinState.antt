-- An entry that waits joins the journal: what the server and its disks come to, at a state.
use Rattle.std.proofs.Common.{◌≡◌, inl, inr, ℕ, suc, ◌+◌, ◌≤◌, Bool, true, false, ◌||◌, nat_lt, nat_le, Option, Some, None, option_map, List, [], ◌∷◌, ◌++◌, length, refl, ap, sym, subst, ◌∙◌, arith, le_refl, length-append}
use Rattle.std.specs.Prelude.{is_some, IfSome, Result, Ok, Err}
use Rattle.std.proofs.lemmas.List.{map-append}
use Rattle.std.proofs.lemmas.Bool.Decides.{nat_tests}
use Rattle.disk_model.specs.Counts.{CountsDone, IsShort, lowered}
use Rattle.disk_model.specs.DeviceCalls.{DeviceCall, all_applied}
use Rattle.disk_model.specs.Disk.{Files}
use Rattle.disk_model.specs.Seen.{DiskSeen}
use Rattle.disk_model.specs.declared.answers.DiskAnswer.{DiskAnswer}
use Rattle.disk_model.specs.declared.tally.Tally.{Tally}
use Rattle.script_lines.specs.declared.line.Server.TheVariants.{A}
use Rattle.calls.specs.History.{Pushed}
use Rattle.wire.specs.declared.message.Message.{Message}
use Rattle.wire.specs.declared.message.Message.TheVariants as wire
use Rattle.wire.specs.MessageSpelling.{message_text}
use Rattle.wire.specs.Mirrored.{entry_in}
use Rattle.plain_service.specs.Setups.{Setup}
use Rattle.service_laws.specs.PlainOf.{plain_of}
use Rattle.service_laws.proofs.ServiceLaws.{is_plain}
use Rattle.cluster_facts.specs.Types.{Entry}
use Rattle.cluster_facts.specs.History.{Hand, Empty, Waiting, Applied, Ready}
use Rattle.cluster_facts.specs.World.{World}
use Rattle.cluster_events.specs.Cores.{with_core}
use Rattle.cluster_events.specs.Lines.{Committed}
use Rattle.cluster_events.specs.Outcomes.{Outcome}
use Rattle.cluster_events.specs.Servers.{State}
use Rattle.cluster_events.specs.Devices.{EventBy}
use Rattle.cluster_events.specs.Events.{mirror_next}
use Rattle.event_text.specs.Texts.{entry_line}
use Rattle.group_cluster.specs.Seats.{Sent, Took}
use Rattle.journal_frames.specs.Frames.{append_calls, body_of, framed}
use Rattle.journal_frames.proofs.Frames.{framed-push, length-body}
use Rattle.journal_found.specs.Found.{CanJoin, JournalOf, messages_of, next_message, texts_of}
use Rattle.journal_found.proofs.Chains.{journal-done}
use Rattle.journal_start.specs.Journals.{pushed}
use Rattle.cluster_clients.proofs.DispatchSteps.{agents-as}
use Rattle.cluster_rounds.specs.declared.cluster.Cluster.{Cluster}
use Rattle.cluster_rounds.specs.Kits.{device_by, servers_at}
use Rattle.cluster_rounds.specs.Rounds.{EventOver, advances_by}
use Rattle.cluster_rounds.specs.Came.{Came}
use Rattle.cluster_rounds.specs.Worlds.{IsGood, Shows}
use Rattle.cold_cluster.specs.Cold.{Alone, IsCold, append_count, at_rest, seats_with}
use Rattle.cold_cluster.specs.Lines.{IsLeft}
use Rattle.lone_server.specs.declared.lone.Lone.{Lone}
use Rattle.cold_servers.specs.declared.solo.Solo.{Solo}
use Rattle.lone_server.specs.Appends.{AppendsCalls, confirmed_by}
use Rattle.cold_servers.specs.ColdKit.{cold_kit}
use Rattle.cold_servers.specs.ColdLaws.{cold_laws, left-told}
use Rattle.cold_servers.specs.ColdNodes.{OwnBy, journal_by, link_by, up_by}
use Rattle.cold_servers.specs.ColdSeen.{ColdSeen, FilesHeld, LeavesBoth, LeavesTold, TellsBoth}
use Rattle.lone_server.specs.Joining.{CommitsJoined, EndsWith, JoinsOne, JoinsOver, left_by}
use Rattle.cold_servers.specs.ColdCounts.{Done, join_calls, work_calls}
use Rattle.cold_servers.specs.CountLaws.{between-one, between-same, made-same}
use Rattle.cold_servers.proofs.CountSteps.{Stands, done-changed, made-by, some-lowered}
use Rattle.cold_servers.proofs.MarkSteps.{mark_by, seats-are}

-- The state in which an entry waits, and the one in which it joined.

abbrev pub waiting_at : World → Entry → Bool → Option ℕ → Option ℕ → State Alone
waiting_at world entry keeps armed beside = record {
  world = with_core world.core.answered (Waiting entry) world;
  peers = record { mirrored = record { acting = A; seats = seats_with Sent keeps; armed = None }; up = true; armed = armed; beside = beside };
}

abbrev pub joined_at : World → Entry → Option ℕ → Option ℕ → State Alone
joined_at world entry armed beside = record {
  world = with_core world.core.answered (Applied entry) world;
  peers = record { mirrored = record { acting = A; seats = seats_with Took true; armed = None }; up = true; armed = armed; beside = beside };
}

pub is-waiting : (state : State Alone) (entry : Entry) → (cold : IsCold state) → state.peers.up ≡ true → state.world.core.hand ≡ Waiting entry → waiting_at state.world entry cold.1.keeps state.peers.armed state.peers.beside ≡ state
is-waiting state entry cold up waits =
    let beside = cold.1 in
    let seats = ap (λ (hand : Hand). seats_with (mark_by hand) beside.keeps) (sym waits) ∙ seats-are state cold in
    λ i. record {
      world = record state.world { core = record { answered = state.world.core.answered; hand = sym waits i } };
      peers = record {
        mirrored = record { acting = sym beside.acting i; seats = seats i; armed = sym beside.unarmed i };
        up = sym up i;
        armed = state.peers.armed;
        beside = state.peers.beside;
      };
    }

abbrev pub appended_by : EventOver cold_kit
appended_by setup fails state = mirror_next (servers_at cold_kit setup fails) state

abbrev pub joined : World → Entry → Option ℕ → Option ℕ → Outcome (State Alone)
joined world entry armed beside = record {
  state = joined_at world entry armed (lowered append_count beside);
  told = Committed (suc (length world.core.answered)) entry ∷ [];
}

joins-so : (setup : Setup) (fails : ℕ → ℕ) (world : World) (entry : Entry) (keeps : Bool) (armed beside : Option ℕ) → appended_by setup fails (waiting_at world entry keeps armed beside) ≡ joined world entry armed beside
joins-so setup fails world entry keeps armed beside = refl

-- What is on the way is the entry that waits.

pub record Waits (past : List Entry) (hand : Hand) (message : Message) (rest : List Message) : Type 0 where
  pub entry : Entry
  pub hand_is : hand ≡ Waiting entry
  pub message_is : message ≡ wire.Mirror (suc (length past)) entry
  pub rest_is : rest ≡ []

pub waits-so : (past : List Entry) (hand : Hand) (message : Message) (rest : List Message) → link_by past hand ≡ message ∷ rest → Waits past hand message rest
waits-so past (Waiting entry) message rest is = record { entry = entry; hand_is = refl; message_is = cc; rest_is = cc }
waits-so past Empty message rest is = cc
waits-so past (Applied entry) message rest is = cc
waits-so past (Ready entry) message rest is = cc

-- The journal's field.

pub journal-pushed : (setup : Setup) (past : List Entry) (entry : Entry) → pushed (message_text (next_message past entry)) (journal_by setup past) ≡ journal_by setup (entry ∷ past)
journal-pushed setup past entry =
    let texts = texts_of (messages_of setup past) in
    let text = message_text (next_message past entry) in
    let mapped : texts_of (messages_of setup (entry ∷ past)) ≡ texts ++ text ∷ [] = map-append message_text (messages_of setup past) (next_message past entry ∷ []) in
    let whole = ap length (ap framed mapped ∙ framed-push texts text) ∙ length-append (framed texts) (1 ∷ body_of text) in
    let body = length-body text in
    let end : length (framed texts) + (5 + length text) ≡ length (framed (texts_of (messages_of setup (entry ∷ past)))) = omega (arith, whole, body) in
    let more : length past + 1 ≡ suc (length past) = omega arith in
    λ i. record { end = end i; number = more i }

-- The disks, where the append was done.

pub record AppendDone (calls : List DeviceCall) (held left : DiskSeen) : Type 0 where
  pub files : left.files ≡ option_map (all_applied calls) held.files
  pub counts : CountsDone (length calls) held.tally left.tally

done-by : (message : Message) (rest : List Message) (end : ℕ) (appended : Result (Option Message) DiskAnswer) (disk disk_left held mid left : DiskSeen) → AppendsCalls (message ∷ rest) end appended held mid → EndsWith (Ok true) appended → left ≡ left_by appended mid → disk_left ≡ left_by appended disk → AppendDone (append_calls end (message_text message)) held left × (disk_left ≡ disk)
done-by message rest end (Ok found) disk disk_left held mid left (inl lacks) ends is same = let no = lacks.0 in cc
done-by message rest end (Ok found) disk disk_left held mid left (inr performs) ends is same =
    (subst (λ (seen : DiskSeen). AppendDone (append_calls end (message_text message)) held seen) (sym is) (record { files = performs.0; counts = performs.1 }), same)
done-by message rest end (Err answer) disk disk_left held mid left calls ends is same = absurd ends

pub over-done : (link : List Message) (message : Message) (rest : List Message) (end : ℕ) (past entries : List Entry) (disk disk_left held left : DiskSeen) → link ≡ message ∷ rest → JoinsOver link end past entries (Ok true) disk disk_left held left → AppendDone (append_calls end (message_text message)) held left × (disk_left ≡ disk)
over-done link message rest end past entries disk disk_left held left first over =
    done-by message rest end over.appended disk disk_left held over.mid left (subst (λ (l : List Message). AppendsCalls l end over.appended held over.mid) first over.calls) over.ends over.journal over.disk

-- a count that is not reached leaves a call at least
pub left-lowered : (count : ℕ) (armed : Option ℕ) → 1 ≤ count → IsShort count armed → IsLeft (lowered count armed)
left-lowered count None some short = tt
left-lowered count (Some left) some short = let far : nat_le left count ≡ false = short some in grind (arith, nat_tests)

-- the journal is that of the longer history
pub journal-longer : (setup : Setup) (past : List Entry) (entry : Entry) (held left : Option Files) → CanJoin (next_message past entry) → left ≡ option_map (all_applied (append_calls (length (framed (texts_of (messages_of setup past)))) (message_text (next_message past entry)))) held → IfSome held (JournalOf setup past) → LeavesTold (JournalOf setup (entry ∷ past)) held left
journal-longer setup past entry None left can is tells = is
journal-longer setup past entry (Some files) left can is tells =
    (all_applied (append_calls (length (framed (texts_of (messages_of setup past)))) (message_text (next_message past entry))) files, is, journal-done setup past entry files tells can)

less-suc : (n : ℕ) → nat_lt n (suc n) ≡ true
less-suc n = grind (arith, nat_tests)

module _ (setup : Setup) (world : World) (entry : Entry) (keeps : Bool) (armed beside : Option ℕ) (old : Cluster Solo) (servers : Lone) (history : Pushed) (good : IsGood cold_kit setup (waiting_at world entry keeps armed beside)) (shows : Shows cold_kit setup (waiting_at world entry keeps armed beside) old) where
  abbrev past : List Entry
  past = world.core.answered

  abbrev number : ℕ
  number = suc (length past)

  abbrev now : Cluster Solo
  now = record old { servers = record { lone = servers }; history = history }

  -- what the code did, where what is on the way is the entry that waits
  joined-servers : (message : Message) (rest : List Message) (before after : List (List ℕ)) → old.servers.lone.link ≡ message ∷ rest → CommitsJoined (entry_in message) (record old.servers.lone { journal = pushed (message_text message) old.servers.lone.journal; link = rest }) servers old.history.entries history.entries before after
      → (servers ≡ up_by setup past (Applied entry) (joined_at world entry armed (lowered append_count beside)).peers) × (history.entries ≡ entry ∷ past) × (after ≡ before ++ entry_line number entry ∷ [])
  joined-servers message rest before after first commits =
      let link : wire.Mirror number entry ∷ [] ≡ message ∷ rest = sym (ap (λ (s : Lone). s.link) shows.own) ∙ first in
      let is : message ≡ wire.Mirror number entry = cc in
      let none : rest ≡ [] = cc in
      let text = message_text (next_message past entry) in
      let C : Message → List Message → Type 0 = λ m r. CommitsJoined (entry_in m) (record old.servers.lone { journal = pushed (message_text m) old.servers.lone.journal; link = r }) servers old.history.entries history.entries before after in
      let done : C (wire.Mirror number entry) [] = subst (λ m. C m []) is (subst (λ r. C message r) none commits) in
      let known : old.history.entries ≡ past = shows.history in
      let counts : Bool → Lone = λ some. record {
        node = (up_by setup past (Applied entry) at_rest).node;
        journal = journal_by setup (entry ∷ past);
        link = [];
        back = wire.MirrorAck number ∷ [];
        armed = is_some armed || some;
      }
      in (
        done.0
            ∙ (λ i. confirmed_by number (record (shows.own i) { journal = pushed text (shows.own i).journal; link = [] }))
            ∙ (λ i. record {
              node = (up_by setup past (Applied entry) at_rest).node;
              journal = journal-pushed setup past entry i;
              link = [];
              back = wire.MirrorAck number ∷ [];
              armed = is_some armed || is_some beside;
            })
            ∙ ap counts (sym (some-lowered append_count beside)),
        done.1.0 ∙ ap (λ (entries : List Entry). entry ∷ entries) known,
        done.1.1 ∙ ap (λ (entries : List Entry). before ++ entry_line (suc (length entries)) entry ∷ []) known,
      )

  -- the journal is that of the longer history
  pub joined-leaves : (held left : ColdSeen) → CanJoin (next_message past entry) → AppendDone (append_calls (length (framed (texts_of (messages_of setup past)))) (message_text (next_message past entry))) held.journal left.journal → left.disk ≡ held.disk → TellsBoth setup (waiting_at world entry keeps armed beside) held → LeavesBoth setup (joined world entry armed beside).state held left
  joined-leaves held left can done same tells = record {
    beside = record { acting = refl; mark = Took; keeps = true; seats = refl; unarmed = refl };
    disk = subst (λ (seen : DiskSeen). LeavesTold (FilesHeld setup (joined world entry armed beside).state) held.disk.files seen.files) (sym same)
        (left-told (FilesHeld setup (waiting_at world entry keeps armed beside)) held.disk.files tells.disk);
    journal = journal-longer setup past entry held.journal.files left.journal.files can done.files tells.journal;
  }

  -- what both counted: the four calls of the append
  joined-done : (held left : ColdSeen) → AppendDone (append_calls (length (framed (texts_of (messages_of setup past)))) (message_text (next_message past entry))) held.journal left.journal → left.disk ≡ held.disk → Stands held.journal left.journal → Done setup (waiting_at world entry keeps armed beside) (joined world entry armed beside).state held left
  joined-done held left done same stands =
      let changed = done-changed append_count held.journal.tally left.journal.tally done.counts in
      record {
        works = 0;
        appends = append_count;
        went = record { worked = between-same (work_calls setup) past past refl; joined = between-one join_calls past entry };
        up = refl;
        beside = record { acting = refl; mark = Took; keeps = true; seats = refl; unarmed = refl };
        unread = record { disk = ap (λ (seen : DiskSeen). seen.tally.reading) same; journal = changed.1 };
        disk = made-same held.disk left.disk same;
        journal = made-by append_count held.journal left.journal changed.0 stands;
      }

  -- the append that was done is that of the entry
  pub append-so : (before after : List (List ℕ)) (held left : ColdSeen) → JoinsOne old.servers.lone servers old.history.entries history.entries before after → JoinsOver old.servers.lone.link old.servers.lone.journal.end old.history.entries history.entries (Ok true) held.disk left.disk held.journal left.journal
      → CanJoin (next_message past entry) × AppendDone (append_calls (length (framed (texts_of (messages_of setup past)))) (message_text (next_message past entry))) held.journal left.journal × (left.disk ≡ held.disk)
  append-so before after held left joins over =
      let link : wire.Mirror number entry ∷ [] ≡ joins.message ∷ joins.rest = sym (ap (λ (s : Lone). s.link) shows.own) ∙ joins.first in
      let is : joins.message ≡ next_message past entry = cc in
      let disks = over-done old.servers.lone.link joins.message joins.rest old.servers.lone.journal.end old.history.entries history.entries held.disk left.disk held.journal left.journal joins.first over in
      let end : old.servers.lone.journal.end ≡ length (framed (texts_of (messages_of setup past))) = ap (λ (s : Lone). s.journal.end) shows.own in
      let D : Message → ℕ → Type 0 = λ m e. AppendDone (append_calls e (message_text m)) held.journal left.journal in
      (subst CanJoin is joins.can, subst (λ m. D m _) is (subst (λ e. D joins.message e) end disks.0), disks.1)

  pub joins-came : (event : EventBy Alone) → ((fails : ℕ → ℕ) → event fails (waiting_at world entry keeps armed beside) ≡ joined world entry armed beside) → (before after : List (List ℕ)) (held left : ColdSeen) → cold_kit.Armed (waiting_at world entry keeps armed beside).peers held → JoinsOne old.servers.lone servers old.history.entries history.entries before after → JoinsOver old.servers.lone.link old.servers.lone.journal.end old.history.entries history.entries (Ok true) held.disk left.disk held.journal left.journal → Stands held.journal left.journal
      → Came cold_kit setup (waiting_at world entry keeps armed beside) event now before after (nat_lt (length old.history.entries) (length history.entries)) held left
  joins-came event so before after held left count joins over stood =
      let state = waiting_at world entry keeps armed beside in
      let outcome = joined world entry armed beside in
      let plain = plain_of setup in
      let stepped = (cold_laws.stepped plain (device_by setup (λ number. 0)) (is_plain setup)).mirror.steps state outcome refl good.steady in
      let made = joined-servers joins.message joins.rest before after joins.first joins.commits in
      let so_done = append-so before after held left joins over in
      let can = so_done.0 in
      let done = so_done.1 in
      let same = so_done.2 in
      let fewer : lowered append_count held.journal.tally.armed ≡ lowered append_count beside = ap (lowered append_count) count.journal in
      record {
        happened = λ number. 0;
        outcome = outcome;
        comes = record { later = le_refl (length past); is = λ fails agrees. so fails };
        uses = record { never = λ number. refl; done = λ besides. joined-done held left done same stood };
        played = record {
          shows = record {
            own = made.0;
            net = shows.net;
            agents = agents-as (waiting_at world entry keeps armed beside).world outcome.state.world old.agents refl refl refl shows.agents;
            history = made.1;
            now = shows.now;
            callbacks = shows.callbacks;
          };
          good = record { begins = good.begins; steady = stepped.0; range = good.range; moment = good.moment };
          lines = made.2;
          loudness = (λ i. nat_lt (length (shows.history i)) (length (made.1 i))) ∙ less-suc (length past);
          files = joined-leaves held left can done same;
        };
        count = record {
          disk = ap (λ (seen : DiskSeen). seen.tally.armed) same ∙ count.disk;
          journal = ap (λ (t : Tally). t.armed) done.counts.1 ∙ fewer;
          left = (count.left.0, subst IsLeft fewer (left-lowered append_count held.journal.tally.armed (omega arith) done.counts.0));
        };
      }

-- over any state in which the server is up, by an event that does so
joins-by : (event : EventBy Alone) → ((fails : ℕ → ℕ) (world : World) (entry : Entry) (keeps : Bool) (armed beside : Option ℕ) → event fails (waiting_at world entry keeps armed beside) ≡ joined world entry armed beside) → (setup : Setup) (state : State Alone) (old : Cluster Solo) (servers : Lone) (history : Pushed) (before after : List (List ℕ)) (held left : ColdSeen) → IsGood cold_kit setup state → Shows cold_kit setup state old → cold_kit.Armed state.peers held → state.peers.up ≡ true → JoinsOne old.servers.lone servers old.history.entries history.entries before after → JoinsOver old.servers.lone.link old.servers.lone.journal.end old.history.entries history.entries (Ok true) held.disk left.disk held.journal left.journal → Stands held.journal left.journal
    → Came cold_kit setup state event (record old { servers = record { lone = servers }; history = history }) before after (nat_lt (length old.history.entries) (length history.entries)) held left
joins-by event so setup state old servers history before after held left good shows count up joins over stood =
    let core = state.world.core in
    let own = subst (λ (b : Bool). OwnBy b setup core.answered core.hand state.peers old.servers.lone) up shows.own in
    let waits = waits-so core.answered core.hand joins.message joins.rest (sym (ap (λ (s : Lone). s.link) own) ∙ joins.first) in
    let cold = good.steady.good in
    let same = is-waiting state waits.entry cold up waits.hand_is in
    let new = record old { servers = record { lone = servers }; history = history } in
    let loud = nat_lt (length old.history.entries) (length history.entries) in
    subst (λ (s : State Alone). Came cold_kit setup s event new before after loud held left) same
    (joins-came setup state.world waits.entry cold.1.keeps state.peers.armed state.peers.beside old servers history
    (subst (λ (s : State Alone). IsGood cold_kit setup s) (sym same) good) (subst (λ (s : State Alone). Shows cold_kit setup s old) (sym same) shows)
    event (λ fails. so fails state.world waits.entry cold.1.keeps state.peers.armed state.peers.beside)
    before after held left (subst (λ (s : State Alone). cold_kit.Armed s.peers held) (sym same) count) joins over stood)

-- **the entry that waits joined the journal**, as a line does it
pub joins-comes : (setup : Setup) (state : State Alone) (old : Cluster Solo) (servers : Lone) (history : Pushed) (before after : List (List ℕ)) (held left : ColdSeen) → IsGood cold_kit setup state → Shows cold_kit setup state old → cold_kit.Armed state.peers held → state.peers.up ≡ true → JoinsOne old.servers.lone servers old.history.entries history.entries before after → JoinsOver old.servers.lone.link old.servers.lone.journal.end old.history.entries history.entries (Ok true) held.disk left.disk held.journal left.journal → Stands held.journal left.journal
    → Came cold_kit setup state (appended_by setup) (record old { servers = record { lone = servers }; history = history }) before after (nat_lt (length old.history.entries) (length history.entries)) held left
joins-comes setup state old servers history before after held left good shows count up joins over stood =
    joins-by (appended_by setup) (λ fails world entry keeps armed beside. joins-so setup fails world entry keeps armed beside)
    setup state old servers history before after held left good shows count up joins over stood

-- and as a step of a drain
step-joins : (setup : Setup) (fails : ℕ → ℕ) (world : World) (entry : Entry) (keeps : Bool) (armed beside : Option ℕ) → advances_by cold_kit 1 setup fails (waiting_at world entry keeps armed beside) ≡ joined world entry armed beside
step-joins setup fails world entry keeps armed beside = refl

pub joins-advance : (setup : Setup) (state : State Alone) (old : Cluster Solo) (servers : Lone) (history : Pushed) (before after : List (List ℕ)) (held left : ColdSeen) → IsGood cold_kit setup state → Shows cold_kit setup state old → cold_kit.Armed state.peers held → state.peers.up ≡ true → JoinsOne old.servers.lone servers old.history.entries history.entries before after → JoinsOver old.servers.lone.link old.servers.lone.journal.end old.history.entries history.entries (Ok true) held.disk left.disk held.journal left.journal → Stands held.journal left.journal
    → Came cold_kit setup state (advances_by cold_kit 1 setup) (record old { servers = record { lone = servers }; history = history }) before after (nat_lt (length old.history.entries) (length history.entries)) held left
joins-advance setup state old servers history before after held left good shows count up joins over stood =
    joins-by (advances_by cold_kit 1 setup) (λ fails world entry keeps armed beside. step-joins setup fails world entry keeps armed beside)
    setup state old servers history before after held left good shows count up joins over stood

-- A server that comes back with what its journal holds: what it and its disks come to, at a state in which it is down.
use Rattle.std.proofs.Common.{◌≡◌, ◌⊎◌, inl, inr, ℕ, ℤ, suc, ◌+◌, ◌≤◌, Bool, true, false, nat_le, if◌then◌else◌, Option, Some, None, option_map, List, [], ◌∷◌, ◌++◌, length, reverse, refl, ap, sym, subst, ◌∙◌, arith, le_refl, append-nil, append_assoc}
use Rattle.std.specs.Prelude.{IfSome}
use Rattle.std.specs.FinMap.{get}
use Rattle.std.proofs.lemmas.Bool.Decides.{leb_tells}
use Rattle.std.proofs.lemmas.List.{length-reverse, reverse-append, reverse-reverse}
use Rattle.std.proofs.lemmas.List.Elements.{All-nil}
use Rattle.disk_model.specs.DeviceCalls.{all_applied}
use Rattle.disk_model.specs.Disk.{File, Files, settled_file}
use Rattle.stream_layout.specs.Deeds.{calls_of_all}
use Rattle.calls.specs.History.{Pushed}
use Rattle.script_lines.specs.declared.line.Server.TheVariants.{A}
use Rattle.plain_service.specs.Setups.{Setup, CanBegin}
use Rattle.plain_service.specs.Legal.{IsHistory}
use Rattle.plain_service.specs.Storing.{files_of}
use Rattle.service_laws.specs.Disks.{service_disk}
use Rattle.service_laws.specs.PlainOf.{plain_of}
use Rattle.service_laws.specs.StorageOf.{storage_of}
use Rattle.service_laws.proofs.Attempting.{same-applied}
use Rattle.service_laws.proofs.HistoryLaws.{history-of}
use Rattle.service_laws.proofs.ServiceLaws.{is_plain}
use Rattle.service_laws.proofs.StorageLaws.{is_storage}
use Rattle.value_laws.proofs.Applying.{count-is}
use Rattle.cluster_facts.specs.Types.{Entry}
use Rattle.cluster_facts.specs.History.{Hand, Empty, Waiting, Applied, Ready, IsLegal, accepted, accepted_by, committed, committed_by}
use Rattle.cluster_facts.specs.Ranges.{AreInRange}
use Rattle.cluster_facts.specs.Storage.{Between}
use Rattle.cluster_facts.specs.Storage.Attempts.{none as no_attempt}
use Rattle.cluster_events.specs.declared.lines.ServerRole.TheVariants.{Active}
use Rattle.cluster_events.specs.Lines.{Told, Committed}
use Rattle.cluster_events.specs.Outcomes.{Outcome}
use Rattle.cluster_events.specs.Saying.{Says}
use Rattle.cluster_events.specs.Servers.{State}
use Rattle.cluster_events.specs.Serving.{IsSteady}
use Rattle.cluster_clients.proofs.DispatchSteps.{agents-as}
use Rattle.event_text.specs.Texts.{entry_line, printed, server_line}
use Rattle.group_cluster.specs.Seats.{Clear}
use Rattle.group_cluster.proofs.Saying.{says-borne}
use Rattle.journal_frames.specs.Frames.{HasJournal, IsShort, AreShort, framed, journal_name, journal_of}
use Rattle.journal_frames.specs.Staging.{HasStaged, Keeps}
use Rattle.journal_found.specs.Found.{AllFit, Follower, Found, JournalOf, follower_of, last_deeds, messages_of, texts_of}
use Rattle.journal_found.specs.Joining.{IsHistoryFound, JournalStaged}
use Rattle.journal_found.proofs.Histories.{staged-history, whole-history}
use Rattle.journal_start.specs.declared.cold.Cold.{Cold}
use Rattle.journal_start.specs.Arms.{LeavesUnarmed}
use Rattle.journal_start.specs.Replays.{node_of}
use Rattle.journal_start.specs.Starts.{HasStarted, bytes_in}
use Rattle.mirror.specs.Pairing.{deeds_kept, taken_over}
use Rattle.cluster_rounds.specs.declared.cluster.Cluster.{Cluster}
use Rattle.cluster_rounds.specs.Worlds.{Happened, IsGood, Shows}
use Rattle.cold_cluster.specs.Cold.{Alone, IsCold, at_rest}
use Rattle.cold_cluster.specs.Falling.{Restarts, back_with}
use Rattle.cold_cluster.specs.Falling.Restarts.{as_was, one_more}
use Rattle.cold_cluster.proofs.Coming.{restart-keeps}
use Rattle.lone_server.specs.declared.lone.Lone.{Lone}
use Rattle.cold_servers.specs.declared.solo.Solo.{Solo}
use Rattle.lone_server.specs.Restarting.{ComesBack, Installs, found_lines, linked, new_lines}
use Rattle.lone_server.proofs.BackSteps.{found-more}
use Rattle.cold_servers.specs.ColdKit.{cold_kit}
use Rattle.cold_servers.specs.ColdLaws.{files-between, some-as}
use Rattle.cold_servers.specs.ColdNodes.{IsFallen, OwnBy, active_by, up_by}
use Rattle.cold_servers.specs.ColdSeen.{ColdSeen, HoldsFiles, HoldsJournal, LeavesBoth, LeavesTold, TellsBoth}

-- What is found in the journal.

file-in : (found : Option File) (bytes : List ℕ) → Some bytes ≡ option_map (λ (file : File). file.bytes) found → (file : File) × (found ≡ Some file) × (file.bytes ≡ bytes)
file-in None bytes is = cc
file-in (Some file) bytes is = (file, refl, cc)

pub whole-found : (setup : Setup) (past : List Entry) (files : Files) (bytes : List ℕ) (late : List Entry) (follower : Follower) (found : Found bytes late follower) → IsHistory setup past → JournalOf setup past files → Some bytes ≡ bytes_in files → IsHistoryFound setup past found
whole-found setup past files bytes late follower found legal journal read =
    let file = file-in (get files journal_name) bytes read in
    let F : List ℕ → Type 0 = λ b. (f : Found b late follower) → IsHistoryFound setup past f in
    subst F file.2 (λ f. whole-history setup past late files file.0 follower f legal journal file.1) found

pub staged-found : (setup : Setup) (past : List Entry) (entry : Entry) (files : Files) (bytes : List ℕ) (late : List Entry) (follower : Follower) (found : Found bytes late follower) → IsHistory setup (entry ∷ past) → JournalStaged setup past entry files → Some bytes ≡ bytes_in files → IsHistoryFound setup past found ⊎ IsHistoryFound setup (entry ∷ past) found
staged-found setup past entry files bytes late follower found legal staged read =
    let file = file-in (get files journal_name) bytes read in
    let F : List ℕ → Type 0 = λ b. (f : Found b late follower) → IsHistoryFound setup past f ⊎ IsHistoryFound setup (entry ∷ past) f in
    subst F file.2 (λ f. staged-history setup past entry late files file.0 follower f legal staged file.1) found

-- The server, and the journal's field.

node-back : (setup : Setup) (past : List Entry) (cold : Cold) (follower : Follower) → cold.node ≡ taken_over (node_of (Some follower)) → follower ≡ follower_of setup past → linked cold.node ≡ active_by setup past Empty
node-back setup past cold follower node is = ap linked (node ∙ ap (λ (f : Follower). taken_over (node_of (Some f))) is)

-- The lines.

known-lines : (known before : ℕ) (entries : List Entry) → before + length entries ≤ known → found_lines known before entries ≡ []
known-lines known before [] few = refl
known-lines known before (entry ∷ entries) few =
    let known_one : nat_le (suc before) known ≡ true = elim (leb_tells (suc before) known) [
      | inl tells ↦ tells.0
      | inr tells ↦ let far = tells.1 in absurd (omega (arith, few, far))
    ]
    in
    ap (λ (b : Bool). (if b then [] else entry_line (suc before) entry ∷ []) ++ found_lines known (suc before) entries) known_one
    ∙ known-lines known (suc before) entries (omega (arith, few))

new-line : (known : ℕ) (entry : Entry) → new_lines known (suc known) entry ≡ entry_line (suc known) entry ∷ []
new-line known entry =
    let not : nat_le (suc known) known ≡ false = elim (leb_tells (suc known) known) [
      | inl tells ↦ let no = tells.1 in absurd (omega (arith, no))
      | inr tells ↦ tells.0
    ]
    in
    ap (λ (b : Bool). if b then [] else entry_line (suc known) entry ∷ []) not

-- all entries that are found were told
lines-same : (known : ℕ) (past : List Entry) → known ≡ length past → found_lines known 0 (reverse past) ≡ []
lines-same known past same =
    let count = length-reverse past in
    known-lines known 0 (reverse past) (omega (arith, same, count))

-- all but the last one
lines-more : (known : ℕ) (past : List Entry) (entry : Entry) → known ≡ length past → found_lines known 0 (reverse (entry ∷ past)) ≡ entry_line (suc (length past)) entry ∷ []
lines-more known past entry same =
    let count = length-reverse past in
    let at : known ≡ 0 + length (reverse past) = omega (arith, same, count) in
    ap (found_lines known 0) (reverse-append (entry ∷ []) past)
    ∙ found-more known 0 known (reverse past) entry at
    ∙ ap (λ (front : List (List ℕ)). front ++ new_lines known (suc known) entry) (lines-same known past same)
    ∙ new-line known entry
    ∙ ap (λ (n : ℕ). entry_line (suc n) entry ∷ []) same

-- The record files.

redone : (setup : Setup) → CanBegin setup → (now : ℤ) (found : List Entry) (files : Files) → IsLegal (plain_of setup) now found → AreInRange found → Between service_disk (storage_of setup) found files → (found ≡ [] → files ≡ files_of setup []) → all_applied (calls_of_all (deeds_kept (last_deeds setup found))) files ≡ files_of setup found
redone setup begins now [] files legal range between none = none refl
redone setup begins now (entry ∷ past) files legal range between none =
    sym (same-applied (calls_of_all (deeds_kept (last_deeds setup (entry ∷ past)))) files) ∙ (is_storage setup begins).repeats now entry past files legal range between

-- what they are before
abbrev pub CanRedo : Setup → List Entry → Files → Type 0
CanRedo setup found files = Between service_disk (storage_of setup) found files × (found ≡ [] → files ≡ files_of setup [])

files-back : (setup : Setup) → CanBegin setup → (now : ℤ) (found : List Entry) (follower : Follower) (held left : Option Files) → IsLegal (plain_of setup) now found → AreInRange found → follower ≡ follower_of setup found → left ≡ option_map (all_applied (calls_of_all (deeds_kept follower.kept))) held → IfSome held (CanRedo setup found) → LeavesTold (λ files. files ≡ files_of setup found) held left
files-back setup begins now found follower None left legal range is after can = after
files-back setup begins now found follower (Some files) left legal range is after can = (
  all_applied (calls_of_all (deeds_kept follower.kept)) files,
  after,
  ap (λ (f : Follower). all_applied (calls_of_all (deeds_kept f.kept)) files) is ∙ redone setup begins now found files legal range can.0 can.1,
)

-- those of a server that went down, where what was committed is found
pub was-redo : (setup : Setup) (past : List Entry) (hand : Hand) (files : Files) → Between service_disk (storage_of setup) (committed_by past hand) files → HoldsFiles false setup past hand files → CanRedo setup (committed_by past hand) files
was-redo setup past Empty files between holds = (between, λ none. holds ∙ ap (files_of setup) none)
was-redo setup past (Waiting entry) files between holds = (between, λ none. holds ∙ ap (files_of setup) none)
was-redo setup past (Applied entry) files between holds = (between, λ none. cc)
was-redo setup past (Ready entry) files between holds = (between, λ none. cc)

-- or the entry that waited too
pub more-redo : (setup : Setup) (past : List Entry) (entry : Entry) (files : Files) → HoldsFiles false setup past (Waiting entry) files → CanRedo setup (entry ∷ past) files
more-redo setup past entry files holds =
    (subst (λ (f : Files). Between service_disk (storage_of setup) (entry ∷ past) f) (sym holds) no_attempt, λ none. cc)

-- The journal.

pub whole-staged : (setup : Setup) (past : List Entry) (text : List ℕ) (files : Files) → JournalOf setup past files → HasStaged (texts_of (messages_of setup past)) text files
whole-staged setup past text files journal =
    let whole = journal_of (texts_of (messages_of setup past)) in (
      settled_file whole,
      journal.has.stands,
      inl (record {
        behind = [];
        is = sym (append-nil whole);
        loose = All-nil (λ (range : ℕ × ℕ). length whole ≤ range.0);
        settled = le_refl (length whole);
      }),
    )

pub still-told : (P : Files → Type 0) (files : Files) (left : Option Files) → Keeps P P (Some files) left → P files → (after : Files) × (left ≡ Some after)
still-told P files None keeps is = absurd (keeps is)
still-told P files (Some after) keeps is = (after, refl)

-- a cold start keeps what can be begun again
abbrev pub KeepsStaged : Option Files → Option Files → Type 0
KeepsStaged held left = (texts : List (List ℕ)) (text : List ℕ) → AreShort texts → IsShort text → Keeps (HasStaged texts text) (HasStaged texts text) held left

pub journal-told : (setup : Setup) (past : List Entry) (hand : Hand) (files : Files) (left : Option Files) → KeepsStaged (Some files) left → HoldsJournal false setup past hand files → (after : Files) × (left ≡ Some after)
journal-told setup past Empty files left keeps journal =
    let texts = texts_of (messages_of setup past) in
    still-told (HasStaged texts []) files left (keeps texts [] journal.has.short (omega arith)) (whole-staged setup past [] files journal)
journal-told setup past (Waiting entry) files left keeps (inl journal) =
    let texts = texts_of (messages_of setup past) in
    still-told (HasStaged texts []) files left (keeps texts [] journal.has.short (omega arith)) (whole-staged setup past [] files journal)
journal-told setup past (Waiting entry) files left keeps (inr staged) =
    still-told (HasStaged (texts_of (messages_of setup past)) _) files left (keeps (texts_of (messages_of setup past)) _ staged.short staged.joins.1) staged.has
journal-told setup past (Applied entry) files left keeps journal =
    let texts = texts_of (messages_of setup (entry ∷ past)) in
    still-told (HasStaged texts []) files left (keeps texts [] journal.has.short (omega arith)) (whole-staged setup (entry ∷ past) [] files journal)
journal-told setup past (Ready entry) files left keeps journal =
    let texts = texts_of (messages_of setup (entry ∷ past)) in
    still-told (HasStaged texts []) files left (keeps texts [] journal.has.short (omega arith)) (whole-staged setup (entry ∷ past) [] files journal)

-- where the server started with this history the journal is that of it
journal-back : (setup : Setup) (found : List Entry) (cold : Cold) (files : Files) (left before after : Option Files) (told : Files) (started : HasStarted cold (Some files) left before after) → left ≡ Some told → IsHistoryFound setup found started.found → JournalOf setup found told
journal-back setup found cold files left before after told started is history =
    let M : Option Files → Type 0 = λ l. IfSome l (HasJournal (texts_of started.found.messages)) in
    record {
      fits = subst AllFit history.messages started.found.fits;
      has = subst (λ messages. HasJournal (texts_of messages) told) history.messages (subst M is started.mended);
    }

-- What it comes to.

-- with these entries, and what is told of them
pub record BackAt (setup : Setup) (state : State Alone) (new : Cluster Solo) (before after : List (List ℕ)) (held left : ColdSeen) (outcome : Outcome (State Alone)) : Type 0 where
  pub restarts : Restarts state outcome
  pub happened : Happened cold_kit setup outcome new before after
  pub count : cold_kit.Armed outcome.state.peers left
  pub leaves : LeavesBoth setup outcome.state held left

module _ (setup : Setup) (state : State Alone) (old : Cluster Solo) (servers : Lone) (history : Pushed) (before after : List (List ℕ)) (held left : ColdSeen) (journal : Files) (cold : Cold) (good : IsGood cold_kit setup state) (shows : Shows cold_kit setup state old) (fallen : IsFallen state.peers old.servers.lone) (told : held.journal.files ≡ Some journal) (started : HasStarted cold (Some journal) left.journal.files held.disk.files left.disk.files) (installs : Installs cold old.servers.lone servers old.history.entries history.entries before after) (disk : left.disk.tally.armed ≡ None) (beside : left.journal.tally.armed ≡ None) where
  abbrev new : Cluster Solo
  new = record old { servers = record { lone = servers }; history = history }

  -- the entries are in order
  entries-are : (found : List Entry) → IsHistoryFound setup found started.found → cold.entries ≡ reverse found
  entries-are found is = started.entries ∙ ap reverse is.entries

  history-is : (found : List Entry) → IsHistoryFound setup found started.found → history.entries ≡ found
  history-is found is = installs.tells.history ∙ ap reverse (entries-are found is) ∙ reverse-reverse found

  servers-are : (found : List Entry) → IsHistoryFound setup found started.found → servers ≡ up_by setup found Empty at_rest
  servers-are found is =
      let end : cold.journal.end ≡ length (framed (texts_of (messages_of setup found))) = started.end ∙ ap (λ messages. length (framed (texts_of messages))) is.messages in
      let number : cold.journal.number ≡ length found = started.number ∙ ap (λ (f : Follower). f.saved.number) is.server ∙ count-is setup found in
      let down = fallen.down in
      installs.is ∙ (λ i. record {
        node = node-back setup found cold started.follower started.node is.server i;
        journal = record { end = end i; number = number i };
        link = down.link i;
        back = down.back i;
        armed = down.armed i;
      })

  back-at : (found : List Entry) (more : List Told) → Restarts state (back_with found more state) → IsHistoryFound setup found started.found → found_lines (length old.history.entries) 0 (reverse found) ≡ printed more → AreInRange found → IfSome held.disk.files (CanRedo setup found) → (after_journal : Files) × (left.journal.files ≡ Some after_journal) → BackAt setup state new before after held left (back_with found more state)
  back-at found more restarts is lines range can still =
      let outcome = back_with found more state in
      let kept = restart-keeps (plain_of setup) (is_plain setup) (Says (plain_of setup)) (says-borne (plain_of setup)) state outcome good.steady restarts in
      let steady : IsSteady (plain_of setup) IsCold outcome.state = kept.0 in
      let front : found_lines (length old.history.entries) 0 cold.entries ≡ printed more = ap (found_lines (length old.history.entries) 0) (entries-are found is) ∙ lines in
      let J : Option Files → Type 0 = λ h. LeavesTold (JournalOf setup found) h left.journal.files in
      record {
        restarts = restarts;
        happened = (
          record {
            own = servers-are found is;
            net = shows.net;
            agents = agents-as state.world outcome.state.world old.agents refl refl refl shows.agents;
            history = history-is found is;
            now = shows.now;
            callbacks = shows.callbacks;
          },
          record { begins = good.begins; steady = steady; range = range; moment = good.moment },
          installs.tells.lines ∙ ap (λ (l : List (List ℕ)). before ++ l ++ server_line A Active ∷ []) front
              ∙ append_assoc before (printed more) (server_line A Active ∷ []),
        );
        count = record { disk = disk; journal = beside; left = (tt, tt) };
        leaves = record {
          beside = record { acting = refl; mark = Clear; keeps = false; seats = refl; unarmed = refl };
          disk = files-back setup good.begins state.world.now found started.follower held.disk.files left.disk.files steady.sound.facts.legal range is.server started.deeds can;
          journal = subst J (sym told) (still.0, still.1, journal-back setup found cold journal left.journal.files held.disk.files left.disk.files still.0 started still.1 is);
        };
      }

  known-is : length old.history.entries ≡ length (committed state.world.core)
  known-is = ap length shows.history

  -- what was committed is found
  was-back : (hand : Hand) → state.world.core.hand ≡ hand → AreInRange (committed_by state.world.core.answered hand) → IsHistoryFound setup (committed_by state.world.core.answered hand) started.found → IfSome held.disk.files (CanRedo setup (committed_by state.world.core.answered hand)) → (after_journal : Files) × (left.journal.files ≡ Some after_journal) → BackAt setup state new before after held left (back_with (committed state.world.core) [] state)
  was-back hand is range found can still =
      let past = state.world.core.answered in
      let H : Hand → Type 0 = λ h. AreInRange (committed_by past h) × IsHistoryFound setup (committed_by past h) started.found × IfSome held.disk.files (CanRedo setup (committed_by past h)) in
      let all : H state.world.core.hand = subst H (sym is) (range, found, can) in
      back-at (committed state.world.core) [] as_was all.1 (lines-same (length old.history.entries) (committed state.world.core) known-is) all.0 all.2 still

  -- the entry that waited too
  more-back : (entry : Entry) → state.world.core.hand ≡ Waiting entry → AreInRange (entry ∷ state.world.core.answered) → IsHistoryFound setup (entry ∷ state.world.core.answered) started.found → IfSome held.disk.files (CanRedo setup (entry ∷ state.world.core.answered)) → (after_journal : Files) × (left.journal.files ≡ Some after_journal)
      → BackAt setup state new before after held left (back_with (entry ∷ state.world.core.answered) (Committed (suc (length state.world.core.answered)) entry ∷ []) state)
  more-back entry is range found can still =
      let past = state.world.core.answered in
      let known : length old.history.entries ≡ length past = known-is ∙ ap (λ (hand : Hand). length (committed_by past hand)) is in
      back-at (entry ∷ past) (Committed (suc (length past)) entry ∷ []) (one_more entry is) found (lines-more (length old.history.entries) past entry known) range can still

  -- by what is found
  by-found : (hand : Hand) → state.world.core.hand ≡ hand → IsHistory setup (accepted_by state.world.core.answered hand) → AreInRange (accepted_by state.world.core.answered hand) → IfSome held.disk.files (HoldsFiles false setup state.world.core.answered hand) → HoldsJournal false setup state.world.core.answered hand journal → ((history_found : List Entry) → IsHistory setup history_found → JournalOf setup history_found journal → IsHistoryFound setup history_found started.found) → (AreInRange (committed_by state.world.core.answered hand) → IsHistoryFound setup (committed_by state.world.core.answered hand) started.found → (outcome : Outcome (State Alone)) × BackAt setup state new before after held left outcome) → (after_journal : Files) × (left.journal.files ≡ Some after_journal) → (outcome : Outcome (State Alone)) × BackAt setup state new before after held left outcome
  by-found Empty is legal range files holds whole was still = was range (whole state.world.core.answered legal holds)
  by-found (Waiting entry) is legal range files (inl journal_of_past) whole was still = was range.1 (whole state.world.core.answered legal.1 journal_of_past)
  by-found (Waiting entry) is legal range files (inr staged) whole was still =
      let past = state.world.core.answered in
      elim (staged-found setup past entry journal started.bytes started.past started.follower started.found legal staged started.read) [
        | inl found ↦ was range.1 found
        | inr found ↦ (
          back_with (entry ∷ past) (Committed (suc (length past)) entry ∷ []) state,
          more-back entry is range found
              (some-as (HoldsFiles false setup past (Waiting entry)) (CanRedo setup (entry ∷ past)) held.disk.files (λ f holds_f. more-redo setup past entry f holds_f) files) still,
        )
      ]
  by-found (Applied entry) is legal range files holds whole was still = was range (whole (entry ∷ state.world.core.answered) legal holds)
  by-found (Ready entry) is legal range files holds whole was still = was range (whole (entry ∷ state.world.core.answered) legal holds)

  -- by what was in hand as the server went down
  by-hand : (hand : Hand) → state.world.core.hand ≡ hand → IsHistory setup (accepted_by state.world.core.answered hand) → AreInRange (accepted_by state.world.core.answered hand) → IfSome held.disk.files (HoldsFiles false setup state.world.core.answered hand) → HoldsJournal false setup state.world.core.answered hand journal → KeepsStaged (Some journal) left.journal.files → (outcome : Outcome (State Alone)) × BackAt setup state new before after held left outcome
  by-hand hand is legal range files holds keeps =
      let past = state.world.core.answered in
      let still = journal-told setup past hand journal left.journal.files keeps holds in
      let can : IfSome held.disk.files (CanRedo setup (committed_by past hand)) =
      some-as (HoldsFiles false setup past hand) (CanRedo setup (committed_by past hand)) held.disk.files
      (λ f holds_f. was-redo setup past hand f
      (subst (λ (h : Hand). Between service_disk (storage_of setup) (committed_by past h) f) is
      (files-between false setup state.world hand f good.begins good.steady.sound good.range is holds_f))
      holds_f)
      files
      in
      let whole : (history_found : List Entry) → IsHistory setup history_found → JournalOf setup history_found journal → IsHistoryFound setup history_found started.found =
      λ history_found is_history has. whole-found setup history_found journal started.bytes started.past started.follower started.found is_history has started.read
      in
      let was : AreInRange (committed_by past hand) → IsHistoryFound setup (committed_by past hand) started.found → (outcome : Outcome (State Alone)) × BackAt setup state new before after held left outcome =
      λ in_range found. (back_with (committed state.world.core) [] state, was-back hand is in_range found can still)
      in
      by-found hand is legal range files holds whole was still

-- **a server that is down comes back with what was committed, or with the entry that waited too**
pub comes-back : (setup : Setup) (state : State Alone) (old : Cluster Solo) (servers : Lone) (history : Pushed) (before after : List (List ℕ)) (held left : ColdSeen) (journal : Files) → IsGood cold_kit setup state → Shows cold_kit setup state old → state.peers.up ≡ false → cold_kit.Armed state.peers held → TellsBoth setup state held → held.journal.files ≡ Some journal → ComesBack old.servers.lone servers old.history.entries history.entries before after held.journal.files left.journal.files held.disk.files left.disk.files → KeepsStaged held.journal.files left.journal.files → LeavesUnarmed held.disk left.disk → LeavesUnarmed held.journal left.journal
    → (outcome : Outcome (State Alone)) × BackAt setup state (record old { servers = record { lone = servers }; history = history }) before after held left outcome
comes-back setup state old servers history before after held left journal good shows down count tells told comes keeps disk beside =
    let core = state.world.core in
    let fallen : IsFallen state.peers old.servers.lone = subst (λ (b : Bool). OwnBy b setup core.answered core.hand state.peers old.servers.lone) down shows.own in
    let S : Option Files → Type 0 = λ h. HasStarted comes.cold h left.journal.files held.disk.files left.disk.files in
    let K : Option Files → Type 0 = λ h. KeepsStaged h left.journal.files in
    let legal = history-of setup good.begins state.world.now (accepted core) good.steady.sound.facts.legal good.range in
    let files = subst (λ (b : Bool). IfSome held.disk.files (HoldsFiles b setup core.answered core.hand)) down tells.disk in
    let holds = subst (λ (h : Option Files). IfSome h (HoldsJournal false setup core.answered core.hand)) told (subst (λ (b : Bool). IfSome held.journal.files (HoldsJournal b setup core.answered core.hand)) down tells.journal) in
    by-hand setup state old servers history before after held left journal comes.cold good shows fallen told (subst S told comes.started) comes.installs
    (disk (count.disk ∙ fallen.armed)) (beside (count.journal ∙ fallen.beside))
    core.hand refl legal good.range files holds (subst K told keeps)

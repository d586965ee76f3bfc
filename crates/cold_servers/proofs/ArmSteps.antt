-- A server that is crashed, and disks that are armed.
use Rattle.std.proofs.Common.{◌≡◌, inl, ℕ, ◌≤◌, Bool, true, false, ◌||◌, Option, Some, None, List, [], ◌∷◌, ◌++◌, refl, ap, sym, subst, ◌∙◌, append-nil}
use Rattle.std.specs.Prelude.{is_some, IfSome}
use Rattle.disk_model.specs.Disk.{Files}
use Rattle.disk_model.specs.Seen.{DiskSeen}
use Rattle.disk_model.specs.declared.tally.Tally.{Tally}
use Rattle.script_lines.specs.declared.line.Line.TheVariants as line
use Rattle.script_lines.specs.declared.line.Server.TheVariants.{A, B}
use Rattle.plain_service.specs.Setups.{Setup, CanBegin}
use Rattle.service_laws.specs.Disks.{service_disk}
use Rattle.service_laws.specs.PlainOf.{plain_of}
use Rattle.service_laws.specs.StorageOf.{storage_of}
use Rattle.service_laws.proofs.ServiceLaws.{is_plain}
use Rattle.cluster_facts.specs.Facts.{IsSound}
use Rattle.cluster_facts.specs.Types.{Entry}
use Rattle.cluster_facts.specs.History.{Hand, Empty, Waiting, Applied, Ready, accepted, committed_by}
use Rattle.cluster_facts.specs.Ranges.{AreInRange}
use Rattle.cluster_facts.specs.Storage.{Between}
use Rattle.cluster_facts.specs.World.{World}
use Rattle.cluster_events.specs.declared.lines.ServerRole.TheVariants.{Down}
use Rattle.cluster_events.specs.Servers.{State}
use Rattle.event_text.specs.Texts.{server_line}
use Rattle.cluster_clients.specs.Clients.{ShowsAgents}
use Rattle.cluster_clients.specs.Spelled.{AreSpelled}
use Rattle.cluster_rounds.specs.declared.cluster.Cluster.{Cluster}
use Rattle.cluster_rounds.specs.Worlds.{Happened, IsGood, Shows}
use Rattle.cluster_lines.specs.Own.{DoesOn}
use Rattle.cold_cluster.specs.Cold.{Alone}
use Rattle.cold_cluster.specs.Falling.{armed_alone, fallen}
use Rattle.cold_cluster.specs.Lines.{IsLeft}
use Rattle.cold_cluster.proofs.Keeping.{falls}
use Rattle.lone_server.specs.declared.lone.Lone.{Lone}
use Rattle.cold_servers.specs.declared.solo.Solo.{Solo}
use Rattle.cold_servers.specs.ColdKit.{cold_kit, cold_script}
use Rattle.cold_servers.specs.ColdLaws.{cold_laws, files-between, left-told, some-as}
use Rattle.cold_servers.specs.ColdNodes.{IsDown, OwnBy}
use Rattle.cold_servers.specs.ColdSeen.{ColdSeen, FilesHeld, HoldsFiles, HoldsJournal, JournalHeld, LeavesTold, TellsBoth}
use Rattle.lone_server.specs.Falls.{downed, unarmed}
use Rattle.cold_servers.specs.Steps.{AllUp, disarmed_both, disk_armed, fell, journal_armed}
use Rattle.cold_servers.specs.ColdCounts.{Idle, Made}

-- a disk whose files are what they were
pub kept-told : (P : Files → Type 0) (held left : Option Files) → left ≡ held → IfSome held P → LeavesTold P held left
kept-told P held left same tells = subst (λ (l : Option Files). LeavesTold P held l) (sym same) (left-told P held tells)

-- What is held while the server was up is held once it is down.

files-fall : (up : Bool) (setup : Setup) (world : World) (hand : Hand) (files : Files) → CanBegin setup → IsSound (plain_of setup) world → AreInRange (accepted world.core) → world.core.hand ≡ hand → HoldsFiles up setup world.core.answered hand files → HoldsFiles false setup world.core.answered hand files
files-fall false setup world hand files begins sound range is holds = holds
files-fall true setup world Empty files begins sound range is holds = holds
files-fall true setup world (Waiting entry) files begins sound range is holds = holds
files-fall true setup world (Applied entry) files begins sound range is holds =
    subst (λ (hand : Hand). Between service_disk (storage_of setup) (committed_by world.core.answered hand) files) is
    (files-between true setup world (Applied entry) files begins sound range is holds)
files-fall true setup world (Ready entry) files begins sound range is holds =
    subst (λ (hand : Hand). Between service_disk (storage_of setup) (committed_by world.core.answered hand) files) is
    (files-between true setup world (Ready entry) files begins sound range is holds)

journal-falls : (up : Bool) (setup : Setup) (past : List Entry) (hand : Hand) (files : Files) → HoldsJournal up setup past hand files → HoldsJournal false setup past hand files
journal-falls false setup past hand files holds = holds
journal-falls true setup past Empty files holds = holds
journal-falls true setup past (Waiting entry) files holds = inl holds
journal-falls true setup past (Applied entry) files holds = holds
journal-falls true setup past (Ready entry) files holds = holds

-- A cluster of which the servers alone are others.
pub others-show : (setup : Setup) (state new_state : State Alone) (old new : Cluster Solo) (servers : Lone) → new ≡ record old { servers = record { lone = servers } } → new_state.world ≡ state.world → Shows cold_kit setup state old → cold_kit.Own setup new_state.world.core.answered new_state.world.core.hand new_state.peers (record { lone = servers }) → Shows cold_kit setup new_state new
others-show setup state new_state old new servers is same shows own =
    let W : World → Cluster Solo → Type 0 = λ world cluster.
    AreSpelled world.net cluster.net × ShowsAgents world cluster.agents × (cluster.history.entries ≡ committed_by world.core.answered world.core.hand) × (cluster.now ≡ world.now) × (cluster.callbacks ≡ world.places)
    in
    let parts : W new_state.world new = subst (λ cluster. W new_state.world cluster) (sym is) (subst (λ world. W world (record old { servers = record { lone = servers } })) (sym same) (shows.net, shows.agents, shows.history, shows.now, shows.callbacks)) in
    record {
      own = subst (λ (cluster : Cluster Solo). cold_kit.Own setup new_state.world.core.answered new_state.world.core.hand new_state.peers cluster.servers) (sym is) own;
      net = parts.0;
      agents = parts.1;
      history = parts.2;
      now = parts.3;
      callbacks = parts.4;
    }

-- a server that is armed as it was, over disks that are
pub armed-kept : (setup : Setup) (state : State Alone) (old : Cluster Solo) (servers : Solo) (held left : ColdSeen) → Shows cold_kit setup state old → servers.lone.armed ≡ old.servers.lone.armed → is_some left.disk.tally.armed ≡ is_some held.disk.tally.armed → is_some left.journal.tally.armed ≡ is_some held.journal.tally.armed → cold_kit.Armed state.peers held → cold_kit.ArmedAs servers left
armed-kept setup state old servers held left shows same disk journal count =
    same ∙ cold_laws.armed_as setup state.world.core.answered state.world.core.hand state.peers old.servers held shows.own count ∙ (λ i. sym disk i || sym journal i)

-- **a fall**

pub down-of : (servers : Lone) → IsDown (downed servers)
down-of servers = record { node = refl; link = refl; back = refl; armed = refl }

pub fallen-good : (setup : Setup) (state : State Alone) → IsGood cold_kit setup state → IsGood cold_kit setup (fallen state).state
fallen-good setup state good = record {
  begins = good.begins;
  steady = (falls (plain_of setup) (is_plain setup) state good.steady).0;
  range = good.range;
  moment = good.moment;
}

-- a disk that is not armed any more was asked nothing
pub unarmed-made : (held left : DiskSeen) → left ≡ unarmed held → Made 0 held left
unarmed-made held left same = record {
  changing = ap (λ (seen : DiskSeen). seen.tally.changing) same;
  faults = ap (λ (seen : DiskSeen). seen.faults) same;
  stops = ap (λ (seen : DiskSeen). seen.stops) same;
}

pub crashes : (old new : Cluster Solo) (before after : List (List ℕ)) (held left : ColdSeen) → new ≡ record old { servers = record { lone = downed old.servers.lone } } → after ≡ before ++ server_line A Down ∷ [] → left.disk ≡ unarmed held.disk → left.journal ≡ unarmed held.journal → DoesOn cold_kit cold_script (line.Crash A) fell old new before after held left
crashes old new before after held left is lines disk journal setup state good shows count =
    let core = state.world.core in
    let up = state.peers.up in (
      (others-show setup state (fallen state).state old new (downed old.servers.lone) is refl shows (record { down = down-of old.servers.lone; armed = refl; beside = refl }), fallen-good setup state good, lines),
      record {
        disk = ap (λ (seen : DiskSeen). seen.tally.armed) disk;
        journal = ap (λ (seen : DiskSeen). seen.tally.armed) journal;
        left = (tt, tt);
      },
      λ tells. record {
        beside = tells.beside;
        disk = kept-told (FilesHeld setup (fallen state).state) held.disk.files left.disk.files (ap (λ (seen : DiskSeen). seen.files) disk)
            (some-as (FilesHeld setup state) (FilesHeld setup (fallen state).state) held.disk.files
            (λ files holds. files-fall up setup state.world core.hand files good.begins good.steady.sound good.range refl holds) tells.disk);
        journal = kept-told (JournalHeld setup (fallen state).state) held.journal.files left.journal.files (ap (λ (seen : DiskSeen). seen.files) journal)
            (some-as (JournalHeld setup state) (JournalHeld setup (fallen state).state) held.journal.files
            (λ files holds. journal-falls up setup core.answered core.hand files holds) tells.journal);
      },
      record {
        never = λ number. refl;
        counts = λ beside. record {
          unread = record { disk = ap (λ (seen : DiskSeen). seen.tally.reading) disk; journal = ap (λ (seen : DiskSeen). seen.tally.reading) journal };
          disk = unarmed-made held.disk left.disk disk;
          journal = unarmed-made held.journal left.journal journal;
        };
      },
    )

-- Armed counts.

armed-good : (setup : Setup) (state : State Alone) (armed beside : Option ℕ) → IsGood cold_kit setup state → IsGood cold_kit setup (armed_alone armed beside state).state
armed-good setup state armed beside good = record {
  begins = good.begins;
  steady = record { sound = good.steady.sound; good = good.steady.good };
  range = good.range;
  moment = good.moment;
}

armed-own : (up : Bool) (setup : Setup) (past : List Entry) (hand : Hand) (peers : Alone) (armed beside : Option ℕ) (servers : Lone) (some : Bool) → up ≡ true → some ≡ (is_some armed || is_some beside) → OwnBy up setup past hand peers servers → OwnBy up setup past hand (record peers { armed = armed; beside = beside }) (record servers { armed = some })
armed-own true setup past hand peers armed beside servers some up is own = λ i. record (own i) { armed = is i }
armed-own false setup past hand peers armed beside servers some up is own = cc

unarmed-own : (up : Bool) (setup : Setup) (past : List Entry) (hand : Hand) (peers : Alone) (servers : Lone) → OwnBy up setup past hand peers servers → OwnBy up setup past hand (record peers { armed = None; beside = None }) (record servers { armed = false })
unarmed-own true setup past hand peers servers own = λ i. record (own i) { armed = false }
unarmed-own false setup past hand peers servers own =
    record { down = record { node = own.down.node; link = own.down.link; back = own.down.back; armed = refl }; armed = refl; beside = refl }

some-right : (one : Bool) → true ≡ (one || true)
some-right true = refl
some-right false = refl

-- other counts are in force
arms-on : (setup : Setup) (state : State Alone) (armed beside : Option ℕ) (old new : Cluster Solo) (servers : Lone) (lines : List (List ℕ)) (held left : ColdSeen) → new ≡ record old { servers = record { lone = servers } } → IsGood cold_kit setup state → Shows cold_kit setup state old → cold_kit.Own setup state.world.core.answered state.world.core.hand (record state.peers { armed = armed; beside = beside }) (record { lone = servers }) → left.disk.files ≡ held.disk.files → left.journal.files ≡ held.journal.files → left.disk.tally.armed ≡ armed → left.journal.tally.armed ≡ beside → IsLeft armed → IsLeft beside
    → Happened cold_kit setup (armed_alone armed beside state) new lines lines
    × cold_kit.Armed (armed_alone armed beside state).state.peers left × (TellsBoth setup state held → cold_kit.Leaves setup (armed_alone armed beside state).state held left)
arms-on setup state armed beside old new servers lines held left is good shows own disk_files journal_files one other one_left other_left = (
  (others-show setup state (armed_alone armed beside state).state old new servers is refl shows own, armed-good setup state armed beside good, sym (append-nil lines)),
  record { disk = one; journal = other; left = (one_left, other_left) },
  λ tells. record {
    beside = tells.beside;
    disk = kept-told (FilesHeld setup state) held.disk.files left.disk.files disk_files tells.disk;
    journal = kept-told (JournalHeld setup state) held.journal.files left.journal.files journal_files tells.journal;
  },
)

-- What a disk is that was armed or disarmed.
pub record Rearmed (armed : Option ℕ) (held left : DiskSeen) : Type 0 where
  pub files : left.files ≡ held.files
  pub faults : left.faults ≡ held.faults
  pub stops : left.stops ≡ held.stops
  pub tally : left.tally ≡ record held.tally { armed = armed }

rearmed-made : (armed : Option ℕ) (held left : DiskSeen) → Rearmed armed held left → Made 0 held left
rearmed-made armed held left now = record {
  changing = ap (λ (t : Tally). t.changing) now.tally;
  faults = now.faults;
  stops = now.stops;
}

counts-armed : (armed : Option ℕ) (held left : DiskSeen) → Rearmed armed held left → left.tally.armed ≡ armed
counts-armed armed held left now = ap (λ (t : Tally). t.armed) now.tally

-- a disk that was left alone is armed as it was
same-rearmed : (held left : DiskSeen) → left ≡ held → Rearmed held.tally.armed held left
same-rearmed held left same = record {
  files = ap (λ (seen : DiskSeen). seen.files) same;
  faults = ap (λ (seen : DiskSeen). seen.faults) same;
  stops = ap (λ (seen : DiskSeen). seen.stops) same;
  tally = ap (λ (seen : DiskSeen). seen.tally) same;
}

both-idle : (armed beside : Option ℕ) (held left : ColdSeen) → Rearmed armed held.disk left.disk → Rearmed beside held.journal left.journal → Idle held left
both-idle armed beside held left one other = record {
  unread = record { disk = ap (λ (t : Tally). t.reading) one.tally; journal = ap (λ (t : Tally). t.reading) other.tally };
  disk = rearmed-made armed held.disk left.disk one;
  journal = rearmed-made beside held.journal left.journal other;
}

-- **the record disk is armed**
pub arms-disk : (count : ℕ) (old new : Cluster Solo) (lines : List (List ℕ)) (held left : ColdSeen) → AllUp old → 1 ≤ count → new ≡ record old { servers = record { lone = record old.servers.lone { armed = true } } } → Rearmed (Some count) held.disk left.disk → left.journal ≡ held.journal → DoesOn cold_kit cold_script (line.Arm A count) (disk_armed count) old new lines lines held left
arms-disk count old new lines held left up some is now same setup state good shows armed =
    let other = same-rearmed held.journal left.journal same in
    let done = arms-on setup state (Some count) state.peers.beside old new (record old.servers.lone { armed = true }) lines held left is good shows
    (armed-own state.peers.up setup state.world.core.answered state.world.core.hand state.peers (Some count) state.peers.beside old.servers.lone true (up setup state good shows) refl shows.own)
    now.files other.files (counts-armed (Some count) held.disk left.disk now) (counts-armed held.journal.tally.armed held.journal left.journal other ∙ armed.journal) some armed.left.1
    in
    (done.0, done.1, done.2, record { never = λ number. refl; counts = λ beside. both-idle (Some count) held.journal.tally.armed held left now other })

-- **the journal's disk is**
pub arms-journal : (count : ℕ) (old new : Cluster Solo) (lines : List (List ℕ)) (held left : ColdSeen) → AllUp old → 1 ≤ count → new ≡ record old { servers = record { lone = record old.servers.lone { armed = true } } } → Rearmed (Some count) held.journal left.journal → left.disk ≡ held.disk → DoesOn cold_kit cold_script (line.Arm B count) (journal_armed count) old new lines lines held left
arms-journal count old new lines held left up some is now same setup state good shows armed =
    let one = same-rearmed held.disk left.disk same in
    let done = arms-on setup state state.peers.armed (Some count) old new (record old.servers.lone { armed = true }) lines held left is good shows
    (armed-own state.peers.up setup state.world.core.answered state.world.core.hand state.peers state.peers.armed (Some count) old.servers.lone true (up setup state good shows) (some-right (is_some state.peers.armed)) shows.own)
    one.files now.files (counts-armed held.disk.tally.armed held.disk left.disk one ∙ armed.disk) (counts-armed (Some count) held.journal left.journal now) armed.left.0 some
    in
    (done.0, done.1, done.2, record { never = λ number. refl; counts = λ beside. both-idle held.disk.tally.armed (Some count) held left one now })

-- **neither is armed any more**
pub disarms : (old new : Cluster Solo) (lines : List (List ℕ)) (held left : ColdSeen) → new ≡ record old { servers = record { lone = record old.servers.lone { armed = false } } } → Rearmed None held.disk left.disk → Rearmed None held.journal left.journal → DoesOn cold_kit cold_script line.Disarm disarmed_both old new lines lines held left
disarms old new lines held left is one other setup state good shows armed =
    let done = arms-on setup state None None old new (record old.servers.lone { armed = false }) lines held left is good shows
    (unarmed-own state.peers.up setup state.world.core.answered state.world.core.hand state.peers old.servers.lone shows.own)
    one.files other.files (counts-armed None held.disk left.disk one) (counts-armed None held.journal left.journal other) tt tt
    in
    (done.0, done.1, done.2, record { never = λ number. refl; counts = λ beside. both-idle None None held left one other })

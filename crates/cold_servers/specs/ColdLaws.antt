-- One server and its journal are such servers as a cluster may have.
use Rattle.std.specs.Prelude.{◌≡◌, ◌⊎◌, ℕ, ◌≤◌, Bool, true, false, ◌||◌, Option, Some, None, IfSome, List}
use Rattle.std.specs.Option.{is_some}
use Rattle.std.proofs.Common.{refl, ap, sym, subst, inl, inr, le_refl, le_trans, ◌∙◌}
use Rattle.disk_model.specs.Disk.{Files}
use Rattle.disk_model.specs.declared.answers.DiskAnswer.TheVariants.{Failed, Stopped}
use Rattle.plain_service.specs.Legal.{IsHistory}
use Rattle.plain_service.specs.Setups.{Setup, CanBegin}
use Rattle.service_laws.specs.Disks.{service_disk}
use Rattle.service_laws.specs.PlainOf.{plain_of}
use Rattle.service_laws.specs.StorageOf.{storage_of}
use Rattle.service_laws.proofs.HistoryLaws.{history-of}
use Rattle.service_laws.proofs.StorageLaws.{is_storage}
use Rattle.cluster_facts.specs.Types.{Answer, Entry, Message, Request}
use Rattle.cluster_facts.specs.Lists.{Stands}
use Rattle.cluster_facts.specs.Messages.{message_of}
use Rattle.cluster_facts.proofs.Words.{All-map}
use Rattle.cluster_facts.specs.Facts.{IsSound}
use Rattle.cluster_facts.specs.History.{Core, Hand, Empty, Waiting, Applied, Ready, accepted, accepted_by, committed, committed_by}
use Rattle.cluster_facts.specs.Ranges.{AreInRange}
use Rattle.cluster_facts.specs.Storage.{Between}
use Rattle.cluster_facts.specs.World.{World}
use Rattle.cluster_events.specs.Servers.{State}
use Rattle.cluster_events.specs.Devices.{answered_in}
use Rattle.cluster_events.proofs.Devices.{rose-later}
use Rattle.cluster_events.proofs.Filed.{stand-between}
use Rattle.cluster_rounds.specs.Kits.{IsKit, device_by}
use Rattle.cluster_rounds.specs.PartlyDone.{SaysUnasked}
use Rattle.cold_cluster.specs.Cold.{Alone, IsBeside, calm, paired}
use Rattle.cold_cluster.specs.Lines.{alone}
use Rattle.cold_cluster.specs.Standing.{any_armed, standing_cold}
use Rattle.cold_cluster.proofs.Beside.{lasts-beside}
use Rattle.cold_cluster.proofs.Doing.{cold-carries, cold-serves, cold-stepped}
use Rattle.lead_rounds.proofs.GroupSteps.{accept-measured, group-steps-unasked, group-unasked}
use Rattle.mirror.specs.declared.owed.Owed.{Owed}
use Rattle.lone_server.specs.declared.lone.Lone.{Lone}
use Rattle.cold_servers.specs.declared.solo.Solo.{Solo}
use Rattle.cold_servers.specs.ColdKit.{ArmedAs, cold_kit}
use Rattle.cold_servers.specs.ColdNodes.{IsDown, OwnBy}
use Rattle.cold_servers.specs.ColdSeen.{ArmsBoth, ColdSeen, FilesHeld, HoldsFiles, HoldsJournal, JournalBetween, JournalHeld, LeavesTold}
use Rattle.cold_servers.specs.ColdSeen.{Outlives, Rises, TellsBoth}
use Rattle.cold_servers.specs.RestLaws.{hand-accepted, rests-so}
use Rattle.cold_servers.specs.Silent.{AnswersCall, IsUpAt, Owes, OwesBy}
use Rattle.cold_servers.specs.CountLaws.{done-none, ends-behind, lacks-behind, lacks-idle, made-none, uses-both}

-- What disks tell, over events in a row.

pub told-left : (P : Files → Type 0) (held left : Option Files) → LeavesTold P held left → IfSome left P
told-left P None None leaves = tt
told-left P None (Some files) leaves = cc
told-left P (Some held) left leaves = subst (λ (l : Option Files). IfSome l P) (sym leaves.1) leaves.2

pub left-told : (P : Files → Type 0) (held : Option Files) → IfSome held P → LeavesTold P held held
left-told P None tells = refl
left-told P (Some files) tells = (files, refl, tells)

left-after : (P Q : Files → Type 0) (held told left : Option Files) → LeavesTold P held told → LeavesTold Q told left → LeavesTold Q held left
left-after P Q None told left first next = subst (λ (t : Option Files). LeavesTold Q t left) first next
left-after P Q (Some held) told left first next = subst (λ (t : Option Files). LeavesTold Q t left) first.1 next

pub left-as : (P Q : Files → Type 0) (held left : Option Files) → ((files : Files) → P files → Q files) → LeavesTold P held left → LeavesTold Q held left
left-as P Q None left step leaves = leaves
left-as P Q (Some held) left step leaves = (leaves.0, leaves.1, step leaves.0 leaves.2)

-- What they hold of a state.

-- what was answered, and any attempt at the deeds of a committed entry, is between
pub files-between : (up : Bool) (setup : Setup) (world : World) (hand : Hand) (files : Files) → CanBegin setup → IsSound (plain_of setup) world
    → AreInRange (accepted world.core) → world.core.hand ≡ hand → HoldsFiles up setup world.core.answered hand files
    → Between service_disk (storage_of setup) (committed world.core) files
files-between true setup world hand files begins sound range is holds =
    stand-between (plain_of setup) service_disk (storage_of setup) (is_storage setup begins) world files sound range holds
files-between false setup world Empty files begins sound range is holds =
    stand-between (plain_of setup) service_disk (storage_of setup) (is_storage setup begins) world files sound range holds
files-between false setup world (Waiting entry) files begins sound range is holds =
    stand-between (plain_of setup) service_disk (storage_of setup) (is_storage setup begins) world files sound range holds
files-between false setup world (Applied entry) files begins sound range is holds =
    subst (λ (hand : Hand). Between service_disk (storage_of setup) (committed_by world.core.answered hand) files) (sym is) holds
files-between false setup world (Ready entry) files begins sound range is holds =
    subst (λ (hand : Hand). Between service_disk (storage_of setup) (committed_by world.core.answered hand) files) (sym is) holds

journal-between : (up : Bool) (setup : Setup) (past : List Entry) (hand : Hand) (files : Files) → IsHistory setup (accepted_by past hand)
    → HoldsJournal up setup past hand files → JournalBetween setup (committed_by past hand) files
journal-between true setup past hand files legal holds = inl holds
journal-between false setup past Empty files legal holds = inl holds
journal-between false setup past (Waiting entry) files legal (inl whole) = inl whole
journal-between false setup past (Waiting entry) files legal (inr staged) = inr (entry, legal, inl staged)
journal-between false setup past (Applied entry) files legal holds = inl holds
journal-between false setup past (Ready entry) files legal holds = inl holds

-- an entry that is accepted waits for the journal, and the disks hold what they held
files-wait : (up : Bool) (setup : Setup) (past : List Entry) (entry : Entry) (files : Files) → HoldsFiles up setup past Empty files
    → HoldsFiles up setup past (Waiting entry) files
files-wait true setup past entry files holds = holds
files-wait false setup past entry files holds = holds

journal-waits : (up : Bool) (setup : Setup) (past : List Entry) (entry : Entry) (files : Files) → HoldsJournal up setup past Empty files
    → HoldsJournal up setup past (Waiting entry) files
journal-waits true setup past entry files holds = holds
journal-waits false setup past entry files holds = inl holds

pub some-as : (P Q : Files → Type 0) (held : Option Files) → ((files : Files) → P files → Q files) → IfSome held P → IfSome held Q
some-as P Q None step holds = tt
some-as P Q (Some files) step holds = step files holds

accepted-tells : (setup : Setup) (entry : Entry) (state : State Alone) (seen : ColdSeen) → state.world.core.hand ≡ Empty → TellsBoth setup state seen
    → TellsBoth setup ((alone (plain_of setup) (device_by setup (λ number. 0))).accept entry state).state seen
accepted-tells setup entry state seen empty tells =
    let past = state.world.core.answered in
    let up = state.peers.up in
    let waits = hand-accepted state.peers.mirrored entry tells.beside in
    let F : Hand → Type 0 = λ hand. IfSome seen.disk.files (HoldsFiles up setup past hand) in
    let J : Hand → Type 0 = λ hand. IfSome seen.journal.files (HoldsJournal up setup past hand) in
    record {
      beside = (lasts-beside (plain_of setup) (device_by setup (λ number. 0))).accept entry (paired state) tells.beside;
      disk = subst F (sym waits)
          (some-as (HoldsFiles up setup past Empty) (HoldsFiles up setup past (Waiting entry)) seen.disk.files
          (files-wait up setup past entry) (subst F empty tells.disk));
      journal = subst J (sym waits)
          (some-as (HoldsJournal up setup past Empty) (HoldsJournal up setup past (Waiting entry)) seen.journal.files
          (journal-waits up setup past entry) (subst J empty tells.journal));
    }

moved-tells : (setup : Setup) (old new : State Alone) (seen : ColdSeen) → new.world.core ≡ old.world.core → new.peers ≡ old.peers
    → TellsBoth setup old seen → TellsBoth setup new seen
moved-tells setup old new seen core peers tells =
    let F : Core → Alone → Type 0 = λ c p. IfSome seen.disk.files (HoldsFiles p.up setup c.answered c.hand) in
    let J : Core → Alone → Type 0 = λ c p. IfSome seen.journal.files (HoldsJournal p.up setup c.answered c.hand) in
    record {
      beside = subst (λ (p : Alone). IsBeside p.mirrored) (sym peers) tells.beside;
      disk = subst (λ c. F c new.peers) (sym core) (subst (λ p. F old.world.core p) (sym peers) tells.disk);
      journal = subst (λ c. J c new.peers) (sym core) (subst (λ p. J old.world.core p) (sym peers) tells.journal);
    }

-- The server of the code is told to be armed where a disk is.

armed-of : (peers : Alone) (seen : ColdSeen) → ArmsBoth peers seen → (is_some seen.disk.tally.armed || is_some seen.journal.tally.armed) ≡ any_armed peers
armed-of peers seen count = λ i. is_some (count.disk i) || is_some (count.journal i)

armed-as : (up : Bool) (setup : Setup) (past : List Entry) (hand : Hand) (peers : Alone) (servers : Solo) (seen : ColdSeen)
    → OwnBy up setup past hand peers servers.lone → ArmsBoth peers seen → ArmedAs servers seen
armed-as true setup past hand peers servers seen own count = ap (λ (s : Lone). s.armed) own ∙ sym (armed-of peers seen count)
armed-as false setup past hand peers servers seen own count =
    own.down.armed ∙ (λ i. is_some (sym own.armed i) || is_some (sym own.beside i)) ∙ sym (armed-of peers seen count)

-- Counts of faults.

stood : (one two : ℕ) → two ≡ one → one ≤ two
stood one two same = subst (λ (n : ℕ). one ≤ n) (sym same) (le_refl one)

outlives-same : (seen : ColdSeen) → Outlives seen seen
outlives-same seen = record { disk = le_refl seen.disk.faults; journal = le_refl seen.journal.faults }

outlives-both : (one two three : ColdSeen) → Outlives one two → Outlives two three → Outlives one three
outlives-both one two three first second =
    record { disk = le_trans first.disk second.disk; journal = le_trans first.journal second.journal }

rises-behind : (one two three : ColdSeen) → Outlives one two → Rises two three → Rises one three
rises-behind one two three first second = record {
  later = outlives-both one two three first second.later;
  rose = elim second.rose [
    | inl rose ↦ inl (rose-later one.disk.faults two.disk.faults three.disk.faults first.disk rose)
    | inr rose ↦ inr (rose-later one.journal.faults two.journal.faults three.journal.faults first.journal rose)
  ];
}

-- A net with more in it.

abbrev Grown : List Message → List Message → Type 0
Grown old new = (message : Message) → Stands message old → Stands message new

answers-later : (old new : List Message) → Grown old new → (message : Message) → AnswersCall old message → AnswersCall new message
answers-later old new grows (Answer client number reply) answers = (answers.0, grows (Request client number answers.0) answers.1)
answers-later old new grows message answers = elim answers [ ]

owes-later : (old new : List Message) (entry : Entry) (owed : Option Owed) → Grown old new → Owes old entry owed → Owes new entry owed
owes-later old new entry owed grows owes = record {
  asked = grows (message_of entry) owes.asked;
  held = owes.held;
  is = owes.is;
  answers = All-map (AnswersCall old) (AnswersCall new) owes.held.to_net (answers-later old new grows) owes.answers;
}

owing-later : (old new : List Message) (hand : Hand) (owed : Option Owed) → Grown old new → OwesBy old hand owed → OwesBy new hand owed
owing-later old new Empty owed grows owes = owes
owing-later old new (Waiting entry) owed grows owes = owes-later old new entry owed grows owes
owing-later old new (Applied entry) owed grows owes = owes-later old new entry owed grows owes
owing-later old new (Ready entry) owed grows owes = owes-later old new entry owed grows owes

pub up-later : (servers : Lone) (old new : List Message) → Grown old new → IsUpAt old servers → IsUpAt new servers
up-later servers old new grows up = record {
  saved = up.saved;
  owed = up.owed;
  hand = up.hand;
  good = up.good;
  owes = owing-later old new up.hand up.owed grows up.owes;
  node = up.node;
  link = up.link;
  back = up.back;
  joined = up.joined;
  bound = up.bound;
}

stands-later : (servers : Lone) (old new : List Message) → Grown old new → IsUpAt old servers ⊎ IsDown servers → IsUpAt new servers ⊎ IsDown servers
stands-later servers old new grows (inl up) = inl (up-later servers old new grows up)
stands-later servers old new grows (inr down) = inr down

pub cold_laws : IsKit cold_kit
cold_laws = record {
  serves = λ plain device is_plain. cold-serves standing_cold plain is_plain device;
  unasked = λ plain device is_plain.
      cold-carries standing_cold plain is_plain device (SaysUnasked plain) (group-unasked 2 plain (calm device) is_plain);
  steps = λ plain device. refl;
  stepped = λ plain device is_plain.
      cold-stepped standing_cold plain is_plain device (SaysUnasked plain) (group-steps-unasked 2 plain (calm device) is_plain);
  alike = λ plain one other. refl;
  keeps = λ plain device entry state. refl;
  armed = λ plain device entry state seen is. record { disk = is.disk; journal = is.journal; left = is.left };
  armed_as = λ setup past hand peers servers seen own count. armed-as peers.up setup past hand peers servers seen own count;
  accepts = λ setup fails entry state seen empty tells. accepted-tells setup entry state seen empty tells;
  measured = λ plain device entry state empty good. accept-measured entry (paired state) empty;
  moves = moved-tells;
  left_same = λ setup state seen tells. record {
    beside = tells.beside;
    disk = left-told (FilesHeld setup state) seen.disk.files tells.disk;
    journal = left-told (JournalHeld setup state) seen.journal.files tells.journal;
  };
  left_told = λ setup state held left leaves. record {
    beside = leaves.beside;
    disk = told-left (FilesHeld setup state) held.disk.files left.disk.files leaves.disk;
    journal = told-left (JournalHeld setup state) held.journal.files left.journal.files leaves.journal;
  };
  left_both = λ setup middle state held told left first second. record {
    beside = second.beside;
    disk = left-after (FilesHeld setup middle) (FilesHeld setup state) held.disk.files told.disk.files left.disk.files first.disk second.disk;
    journal = left-after (JournalHeld setup middle) (JournalHeld setup state) held.journal.files told.journal.files left.journal.files
        first.journal second.journal;
  };
  left_between = λ setup state held left begins steady range leaves.
      let past = committed state.world.core in
      record {
        disk = left-as (FilesHeld setup state) (Between service_disk (storage_of setup) past) held.disk.files left.disk.files
            (λ files holds. files-between state.peers.up setup state.world state.world.core.hand files begins steady.sound range refl holds) leaves.disk;
        journal = left-as (JournalHeld setup state) (JournalBetween setup past) held.journal.files left.journal.files
            (λ files holds. journal-between state.peers.up setup state.world.core.answered state.world.core.hand files
            (history-of setup begins state.world.now (accepted state.world.core) steady.sound.facts.legal range) holds)
            leaves.journal;
      };
  between_behind = λ setup middle past held told left leaves between. record {
    disk = left-after (FilesHeld setup middle) (Between service_disk (storage_of setup) past) held.disk.files told.disk.files left.disk.files
        leaves.disk between.disk;
    journal = left-after (JournalHeld setup middle) (JournalBetween setup past) held.journal.files told.journal.files left.journal.files
        leaves.journal between.journal;
  };
  shown = λ one beside. refl;
  read_armed = λ peers one two beside read is. record { disk = read.armed ∙ is.disk; journal = is.journal; left = is.left };
  read_left = λ setup state one two beside read tells. record {
    beside = tells.beside;
    disk = subst (λ (left : Option Files). LeavesTold (FilesHeld setup state) one.files left) (sym read.files)
        (left-told (FilesHeld setup state) one.files tells.disk);
    journal = left-told (JournalHeld setup state) beside.files tells.journal;
  };
  read_lacks = λ setup state entries servers one two beside ends read faults.
      lacks-idle setup state entries (record { disk = one; journal = beside }) (record { disk = two; journal = beside }) ends refl
      (record { changing = read.changing; faults = faults; stops = read.stops }) (made-none beside);
  read_outlives = λ one two beside read faults. record { disk = stood one.faults two.faults faults; journal = le_refl beside.faults };
  read_rises = λ one two beside read later rose. record { later = record { disk = later; journal = le_refl beside.faults }; rose = inl rose };
  unused = λ setup state outcome seen rests. record {
    never = λ number. refl;
    done = λ beside.
        let so = rests-so setup rests beside in
        done-none setup state outcome.state seen so.answered so.committed so.up so.beside;
  };
  used_both = λ setup one two state first second held told left before after.
      uses-both setup (answered_in first.state) one two state first.state second.state held told left before after;
  used_printed = λ setup happened state outcome held left uses. uses;
  halts_behind = λ setup one two state first end held told left before after.
      ends-behind Stopped setup (answered_in first.state) one two state first.state end.state held told left before after;
  faults_behind = λ setup one two state first end held told left before after.
      ends-behind Failed setup (answered_in first.state) one two state first.state end.state held told left before after;
  lacks_same = λ crash setup state entries servers seen ends.
      lacks-idle setup state entries seen seen ends refl (made-none seen.disk) (made-none seen.journal);
  lacks_behind = λ setup happened state first entries servers held told left before after.
      lacks-behind setup happened state first.state entries held told left before after;
  stands = outlives-same;
  further = outlives-both;
  rises = rises-behind;
  wild = λ servers old new entries seen grows wild. record {
    untold = wild.untold;
    armed = wild.armed;
    stands = stands-later servers.lone old new grows wild.stands;
  };
  read_wild = λ servers net entries one two beside read wild. record {
    untold = wild.untold;
    armed = wild.armed ∙ ap (λ (armed : Option ℕ). is_some armed || is_some beside.tally.armed) (sym read.armed);
    stands = wild.stands;
  };
}

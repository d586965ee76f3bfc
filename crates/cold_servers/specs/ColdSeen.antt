-- Words of public clauses: what is seen of the record disk and of the journal's, and what they hold of a state.
use Rattle.std.specs.Prelude.{◌≡◌, ◌⊎◌, ◌≤◌, Bool, true, false, Option, Some, None, IfSome, List, ◌∷◌}
use Rattle.ais_values.specs.Causes.{Rose}
use Rattle.disk_model.specs.Disk.{Files}
use Rattle.disk_model.specs.Seen.{DiskSeen}
use Rattle.plain_service.specs.Legal.{IsHistory}
use Rattle.plain_service.specs.Setups.{Setup}
use Rattle.plain_service.specs.Storing.{files_of}
use Rattle.service_laws.specs.Disks.{service_disk}
use Rattle.service_laws.specs.StorageOf.{storage_of}
use Rattle.cluster_facts.specs.Types.{Entry}
use Rattle.cluster_facts.specs.History.{Hand, Waiting, Applied, Ready, committed_by}
use Rattle.cluster_facts.specs.Storage.{Between}
use Rattle.cluster_events.specs.Servers.{State}
use Rattle.journal_found.specs.Found.{JournalOf}
use Rattle.journal_found.specs.Joining.{JournalStaged}
use Rattle.cold_cluster.specs.Cold.{Alone, IsBeside}
use Rattle.cold_cluster.specs.Lines.{AreLeft}

pub record ColdSeen : Type 0 where
  pub disk : DiskSeen
  pub journal : DiskSeen

-- what is kept tells of the armed counts of both, and none of them has come to its end
pub record ArmsBoth (peers : Alone) (seen : ColdSeen) : Type 0 where
  pub disk : seen.disk.tally.armed ≡ peers.armed
  pub journal : seen.journal.tally.armed ≡ peers.beside
  pub left : AreLeft peers

-- What they hold.

-- While the server is up the journal is that of what was committed, and the record files are those of what was answered. While it is down
-- an entry that waits may have been about to join the journal, and of a committed one any attempt at its deeds may have been made.
abbrev pub JournalDown : Setup → List Entry → Hand → Files → Type 0
JournalDown setup past (Waiting entry) files = JournalOf setup past files ⊎ JournalStaged setup past entry files
JournalDown setup past hand files = JournalOf setup (committed_by past hand) files

abbrev pub FilesDown : Setup → List Entry → Hand → Files → Type 0
FilesDown setup past (Applied entry) files = Between service_disk (storage_of setup) (entry ∷ past) files
FilesDown setup past (Ready entry) files = Between service_disk (storage_of setup) (entry ∷ past) files
FilesDown setup past hand files = files ≡ files_of setup past

abbrev pub HoldsJournal : Bool → Setup → List Entry → Hand → Files → Type 0
HoldsJournal true setup past hand files = JournalOf setup (committed_by past hand) files
HoldsJournal false setup past hand files = JournalDown setup past hand files

abbrev pub HoldsFiles : Bool → Setup → List Entry → Hand → Files → Type 0
HoldsFiles true setup past hand files = files ≡ files_of setup past
HoldsFiles false setup past hand files = FilesDown setup past hand files

abbrev pub JournalHeld : Setup → State Alone → Files → Type 0
JournalHeld setup state files = HoldsJournal state.peers.up setup state.world.core.answered state.world.core.hand files

abbrev pub FilesHeld : Setup → State Alone → Files → Type 0
FilesHeld setup state files = HoldsFiles state.peers.up setup state.world.core.answered state.world.core.hand files

-- where they tell their files; of servers whose standby is the journal
pub record TellsBoth (setup : Setup) (state : State Alone) (seen : ColdSeen) : Type 0 where
  pub beside : IsBeside state.peers.mirrored
  pub disk : IfSome seen.disk.files (FilesHeld setup state)
  pub journal : IfSome seen.journal.files (JournalHeld setup state)

-- a disk that told files tells such ones, and one that told nothing tells nothing
abbrev pub LeavesTold : (Files → Type 0) → Option Files → Option Files → Type 0
LeavesTold P None left = left ≡ None
LeavesTold P (Some held) left = (files : Files) × (left ≡ Some files) × P files

pub record LeavesBoth (setup : Setup) (state : State Alone) (held left : ColdSeen) : Type 0 where
  pub beside : IsBeside state.peers.mirrored
  pub disk : LeavesTold (FilesHeld setup state) held.disk.files left.disk.files
  pub journal : LeavesTold (JournalHeld setup state) held.journal.files left.journal.files

-- the journal of a history, or one that an entry was to join, or has joined, that may follow that history
abbrev pub JournalBetween : Setup → List Entry → Files → Type 0
JournalBetween setup past files =
    JournalOf setup past files
    ⊎ ((entry : Entry) × IsHistory setup (entry ∷ past)
    × (JournalStaged setup past entry files ⊎ JournalOf setup (entry ∷ past) files))

pub record BetweenBoth (setup : Setup) (past : List Entry) (held left : ColdSeen) : Type 0 where
  pub disk : LeavesTold (Between service_disk (storage_of setup) past) held.disk.files left.disk.files
  pub journal : LeavesTold (JournalBetween setup past) held.journal.files left.journal.files

-- No count of faults fell, and, where a fault ended an event, one of them rose. Never a sum: a count stops at its type's end.
pub record Outlives (held left : ColdSeen) : Type 0 where
  pub disk : held.disk.faults ≤ left.disk.faults
  pub journal : held.journal.faults ≤ left.journal.faults

pub record Rises (held left : ColdSeen) : Type 0 where
  pub later : Outlives held left
  pub rose : Rose held.disk.faults left.disk.faults ⊎ Rose held.journal.faults left.journal.faults

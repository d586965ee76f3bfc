-- Words of public clauses: what is asked of the files that a service keeps, and what they promise of records that were answered.
use Rattle.std.specs.Prelude.{◌≡◌, ℕ, ℤ, true, ◌⊎◌, Some, None, List, [], ◌∷◌}
use Rattle.cluster_facts.specs.Types.{Call, Reply, Entry, Answer}
use Rattle.cluster_facts.specs.Lists.{Stands}
use Rattle.cluster_facts.specs.Messages.{messages_in}
use Rattle.cluster_facts.specs.Service.{Plain}
use Rattle.cluster_facts.specs.Storage.{Disk, Storage, all_applied, Between, dealt_in}
use Rattle.cluster_facts.specs.History.{IsLegal}
use Rattle.cluster_facts.specs.Ranges.{AreInRange}
use Rattle.cluster_facts.specs.World.{World}

-- a record stands at its place before the newest entry, or at that after it, or has none after it
abbrev pub IsKept : (disk : Disk) (storage : Storage disk) → List Entry → storage.Record → storage.Place → disk.Files → Type 0
IsKept disk storage past stored spot files =
    storage.IsAt stored spot files ⊎ (((after : storage.Place) × (storage.place past stored ≡ Some after) × storage.IsAt stored after files)
    ⊎ (storage.place past stored ≡ None))

pub record IsStorage (plain : Plain) (disk : Disk) (storage : Storage disk) : Type 0 where
  -- the calls of the start make the files of the empty history, and those of an entry the files of the history with it
  pub opens : all_applied disk storage.opening disk.no_files ≡ storage.files []
  pub works : (now : ℤ) (entry : Entry) (past : List Entry) → IsLegal plain now (entry ∷ past) → AreInRange (entry ∷ past)
      → all_applied disk (storage.deeds past entry) (storage.files past) ≡ storage.files (entry ∷ past)
  -- done again from any files between, they make the same
  pub repeats : (now : ℤ) (entry : Entry) (past : List Entry) (files : disk.Files) → IsLegal plain now (entry ∷ past) → AreInRange (entry ∷ past)
      → Between disk storage (entry ∷ past) files → all_applied disk (storage.deeds past entry) files ≡ storage.files (entry ∷ past)
  -- what a reply says is stored is a record, and a record that has a place stands there
  pub stores : (now : ℤ) (past : List Entry) (client number : ℕ) (call : Call) (reply : Reply) → IsLegal plain now past → AreInRange past
      → Stands (number, call, reply) (dealt_in plain client past) → storage.is_stored call reply ≡ true → (stored : storage.Record)
      × (storage.record_of past client number ≡ Some stored)
  pub stays : (now : ℤ) (past : List Entry) (client number : ℕ) (stored : storage.Record) (spot : storage.Place) → IsLegal plain now past
      → AreInRange past → storage.record_of past client number ≡ Some stored → storage.place past stored ≡ Some spot
      → storage.IsAt stored spot (storage.files past)
  -- between, it stands at its place before the last entry, or at that after it, unless that entry leaves it none
  pub keeps : (now : ℤ) (entry : Entry) (past : List Entry) (files : disk.Files) (client number : ℕ) (stored : storage.Record) (spot : storage.Place)
      → IsLegal plain now (entry ∷ past) → AreInRange (entry ∷ past) → Between disk storage (entry ∷ past) files
      → storage.record_of past client number ≡ Some stored → storage.place past stored ≡ Some spot
      → IsKept disk storage (entry ∷ past) stored spot files

-- what is so of a record whose reply stands in the net: if the reply says that it is stored, it stands at its place, while it has one
pub record RecordStays (plain : Plain) (disk : Disk) (storage : Storage disk) (past : List Entry) (files : disk.Files) (client number : ℕ)
    (reply : Reply) : Type 0 where
  pub call : Call
  pub dealt : Stands (number, call, reply) (dealt_in plain client past)
  pub stays : storage.is_stored call reply ≡ true → (stored : storage.Record) × (storage.record_of past client number ≡ Some stored)
      × ((spot : storage.Place) → storage.place past stored ≡ Some spot → storage.IsAt stored spot files)

-- what was answered as stored stands at its place, until the service gives the place away
abbrev pub RecordsStay : (plain : Plain) (disk : Disk) (storage : Storage disk) → World → disk.Files → Type 0
RecordsStay plain disk storage world files =
    (client number : ℕ) (reply : Reply) → Stands (Answer client number reply) (messages_in world.net)
    → RecordStays plain disk storage world.core.answered files client number reply

-- the files are those of the history without the entry in hand
abbrev pub FilesStand : (disk : Disk) (storage : Storage disk) → World → disk.Files → Type 0
FilesStand disk storage world files = files ≡ storage.files world.core.answered

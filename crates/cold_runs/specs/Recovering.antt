-- Words of public clauses: what `recover` tells of a journal that stands.
use Rattle.std.specs.Prelude.{◌≡◌, ◌⊎◌, ℕ, Option, Some, None, IfSome, option_map, List, [], ◌++◌, codes, length}
use Rattle.std.specs.Fmt.{decimal}
use Rattle.std.specs.FinMap as files
use Rattle.disk_model.specs.DeviceCalls.{all_applied}
use Rattle.disk_model.specs.Disk.{Files}
use Rattle.disk_model.specs.Seen.{DiskSeen}
use Rattle.stream_layout.specs.Deeds.{calls_of_all}
use Rattle.mirror.specs.Pairing.{deeds_kept}
use Rattle.cluster_clients.specs.Files.{listed_lines, sizes_of}
use Rattle.cluster_facts.specs.Types.{Entry}
use Rattle.journal_frames.specs.Frames.{AreShort, HasJournal, IsShort}
use Rattle.journal_frames.specs.Staging.{HasStaged, Keeps}
use Rattle.journal_found.specs.Found.{Follower, Found, texts_of}
use Rattle.journal_start.specs.Starts.{HoldsNone, IsRefusedIn, TriesFound, bytes_in}
use Rattle.played_runs.specs.Counts.{HasRisen, HasStood}
use Rattle.played_runs.specs.Edges.{Edge}
use Rattle.played_runs.specs.Ends.{fault_line}
use Rattle.played_runs.specs.Writing.{Reaching, Written, joined_lines}
use Rattle.played_runs.specs.declared.ending.Status8.{Status8}
use Rattle.played_runs.specs.declared.ending.Status8.TheVariants as status
use Rattle.cold_runs.specs.Ends.{refused_line}
use Rattle.cold_runs.specs.Stages.{BothStood, ColdScene, ColdStage, OneRisen}

-- the line on a history of so many entries
abbrev pub history_line : ℕ → List ℕ
history_line count = codes "history " ++ (decimal count ++ codes "\n")

-- the line of each file of these, by its name
abbrev pub file_lines : Files → List ℕ
file_lines held = joined_lines (listed_lines (sizes_of held (files.keys held)))

-- a journal that one more entry was to join is such a journal still
abbrev pub KeepsStaged : Option Files → Option Files → Type 0
KeepsStaged held left =
    (texts : List (List ℕ)) (text : List ℕ) → AreShort texts → IsShort text → Keeps (HasStaged texts text) (HasStaged texts text) held left

-- A server started from the journal: what was found is what the journal's bytes tell, where the disk tells them; the deeds of the last entry
-- that was found were done, and the journal is that of what was found.
pub record Starts (scene : ColdScene) : Type 0 where
  pub bytes : List ℕ
  pub read : IfSome scene.held.journal.files (λ held. Some bytes ≡ bytes_in held)
  pub past : List Entry
  pub follower : Follower
  pub found : Found bytes past follower
  pub deeds : scene.left.disk.files ≡ option_map (all_applied (calls_of_all (deeds_kept follower.kept))) scene.held.disk.files
  pub mended : IfSome scene.held.journal.files (λ held. IfSome scene.left.journal.files (HasJournal (texts_of found.messages)))

-- the number of its entries is told, and the files that the record disk has then
pub record Recovers (scene : ColdScene) (text : List ℕ) : Type 0 where
  pub starts : Starts scene
  pub listed : List ℕ
  pub files : IfSome scene.left.disk.files (λ held. listed ≡ file_lines held)
  pub printed : text ≡ history_line (length starts.past) ++ listed
  pub world : scene.world_after ≡ scene.world

-- there was no journal to start from; or the open gate at a place, the first such, has no whole frame with a further byte behind it. Where the
-- disks tell their files these are as they were
abbrev pub IsRefusedBy : Option Files → Option ℕ → Type 0
IsRefusedBy held None = IfSome held (λ files. HoldsNone (bytes_in files))
IsRefusedBy held (Some place) = IfSome held (λ files. IsRefusedIn (bytes_in files) place)

pub record RecoversNot (scene : ColdScene) (text : List ℕ) : Type 0 where
  pub place : Option ℕ
  pub why : IsRefusedBy scene.held.journal.files place
  pub disk : scene.left.disk.files ≡ scene.held.disk.files
  pub journal : scene.left.journal.files ≡ scene.held.journal.files
  pub printed : text ≡ refused_line place
  pub world : scene.world_after ≡ scene.world

-- It broke off: the deeds of the last entry that was found were done in part, or not at all; or the server started, and that is not told. A
-- journal that one more entry was to join is such a journal still, so that a start can be begun again.
pub record RecoversPartly (scene : ColdScene) : Type 0 where
  pub tries : TriesFound scene.held.journal.files scene.held.disk.files scene.left.disk.files ⊎ Starts scene
  pub kept : KeepsStaged scene.held.journal.files scene.left.journal.files
  pub world : scene.world_after ≡ scene.world

abbrev pub RecoverEnds : ColdScene → Reaching
RecoverEnds scene (Some status.Done) text = Recovers scene text × BothStood scene
RecoverEnds scene (Some status.JournalRefused) text = RecoversNot scene text × BothStood scene
RecoverEnds scene (Some status.DiskFault) text = (text ≡ fault_line) × RecoversPartly scene × OneRisen scene
RecoverEnds scene _ text = ⊥

-- where memory was wanting nothing is written
abbrev pub RecoverLacks : ColdScene → List ℕ → Type 0
RecoverLacks scene text = (text ≡ []) × RecoversPartly scene × BothStood scene

-- how `recover` ends
abbrev pub RecoversBy : {K : Type 0} → ColdStage K → Status8 → Type 0
RecoversBy stage ended = Written (RecoverEnds stage.scene) (RecoverLacks stage.scene) stage.sink ended

-- What is told of a history of so many entries, and of the files of a disk.

abbrev pub ListsEnds : ℕ → DiskSeen → DiskSeen → Reaching
ListsEnds count held left (Some status.Done) text =
    HasStood (held.faults, left.faults)
    × ((listed : List ℕ) × IfSome held.files (λ one. listed ≡ file_lines one) × (text ≡ history_line count ++ listed))
ListsEnds count held left (Some status.DiskFault) text = (text ≡ fault_line) × HasRisen (held.faults, left.faults)
ListsEnds count held left _ text = ⊥

-- its files are as they were
pub record ListsAfter {K : Type 0} (count : ℕ) (held left : DiskSeen) (sink : Edge K (List ℕ)) (ended : Status8) : Type 0 where
  pub files : left.files ≡ held.files
  pub written : Written (ListsEnds count held left) (λ text. (text ≡ []) × HasStood (held.faults, left.faults)) sink ended
